use Rattle.std.proofs.Common.{◌≡◌, ◌*◌, drop}
use Rattle.byteorder.specs.Endian.{little_number}
use Rattle.vol_alloc.specs.Alloc.{first_of, end_of, taken_of}
use Rattle.vol_body.specs.internal.Truncated.{Frees, IsAmong}
use Rattle.vol_body.proofs.freeing.free_listed.Given as goal

abbrev pub invariant-loop-i : goal.invariant-loop-i
invariant-loop-i l = record {
  frees : Frees (taken_of l.fn.sectors) (taken_of l.sectors) (IsAmong (λ i. little_number 4 (drop (4 * i) l.image)) l.from l.i);
  range : (first_of l.sectors ≡ first_of l.fn.sectors) × (end_of l.sectors ≡ end_of l.fn.sectors);
}
