use Rattle.std.proofs.Common.{◌≡◌, ◌<◌, ◌*◌, ℕ, length, drop, slice_index}
use Rattle.byteorder.specs.Endian.{little_number}
use Rattle.vol_body.proofs.surveying.numbers_in.Given as goal

abbrev pub invariant-loop-i : goal.invariant-loop-i
invariant-loop-i l = record {
  long : length l.numbers ≡ 128;
  read : (k : ℕ) → k < l.i → slice_index l.numbers k ≡ little_number 4 (drop (4 * k) l.image);
}
