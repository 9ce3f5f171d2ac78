use Rattle.std.proofs.Common.{◌≡◌, slice_index}
use Rattle.vol_alloc.specs.Alloc.{first_of, end_of, taken_of}
use Rattle.vol_body.specs.internal.Truncated.{Frees, IsAmong}
use Rattle.vol_body.proofs.freeing.free_direct.Given as goal

abbrev pub invariant-loop-j : goal.invariant-loop-j
invariant-loop-j l = record {
  frees : Frees (taken_of l.fn.sectors) (taken_of l.sectors) (IsAmong (slice_index l.entry.pointers) l.from l.j);
  range : (first_of l.sectors ≡ first_of l.fn.sectors) × (end_of l.sectors ≡ end_of l.fn.sectors);
}
