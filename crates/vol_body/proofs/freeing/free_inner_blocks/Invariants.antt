use Rattle.std.proofs.Common.{◌≡◌, false, slice_index}
use Rattle.vol_log.specs.Log.{view, device_of, has_failed}
use Rattle.vol_alloc.specs.Alloc.{first_of, end_of, taken_of}
use Rattle.vol_log.specs.Reading.{OnlyReads}
use Rattle.vol_body.specs.Body.{block_bytes}
use Rattle.vol_body.specs.internal.Truncated.{Frees, IsFreedWithLater}
use Rattle.vol_body.proofs.freeing.free_inner_blocks.Given as goal

abbrev pub invariant-loop-i : goal.invariant-loop-i
invariant-loop-i g l = record {
  working : has_failed l.log ≡ false;
  reads : OnlyReads l.fn.log l.log;
  range : (first_of l.sectors ≡ first_of l.fn.sectors) × (end_of l.sectors ≡ end_of l.fn.sectors);
  frees : g.D.Device.honest (device_of l.fn.log) → l.held.image ≡ block_bytes (view l.fn.log) l.held.number → Frees (taken_of l.fn.sectors) (taken_of l.sectors) (IsFreedWithLater (view l.fn.log) (slice_index l.inner_blocks) l.start l.count l.i);
}
