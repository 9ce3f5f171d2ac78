use Rattle.std.proofs.Common.{◌≡◌, ◌≢◌, ◌<◌, ℕ, false, slice_index}
use Rattle.vol_log.specs.Log.{view, device_of, has_failed}
use Rattle.vol_alloc.specs.Alloc.{first_of, end_of, taken_of}
use Rattle.vol_log.specs.Reading.{OnlyReads}
use Rattle.vol_body.specs.Body.{number_in, block_bytes}
use Rattle.vol_body.specs.internal.Truncated.{Frees, IsFreedWithDoubles}
use Rattle.vol_body.proofs.freeing.free_double_indirect_blocks.Given as goal

abbrev pub invariant-loop-m : goal.invariant-loop-m
invariant-loop-m g l = record {
  working : has_failed l.log ≡ false;
  reads : OnlyReads l.fn.log l.log;
  range : (first_of l.sectors ≡ first_of l.fn.sectors) × (end_of l.sectors ≡ end_of l.fn.sectors);
  frees : g.D.Device.honest (device_of l.fn.log) → l.held.top.image ≡ block_bytes (view l.fn.log) l.held.top.number → l.held.above.image ≡ block_bytes (view l.fn.log) l.held.above.number
      → ((m i : ℕ) → m < 128 → i < 128 → number_in (view l.fn.log) (slice_index l.double_indirect_blocks m) i ≢ 0 → number_in (view l.fn.log) (slice_index l.double_indirect_blocks m) i < end_of l.fn.sectors)
      → Frees (taken_of l.fn.sectors) (taken_of l.sectors) (IsFreedWithDoubles (view l.fn.log) (slice_index l.double_indirect_blocks) l.count l.m);
}
