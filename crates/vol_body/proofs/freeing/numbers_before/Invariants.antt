use Rattle.std.proofs.Common.{◌≡◌, ◌<◌, ◌*◌, ℕ, length, drop, nat_lt, slice_index, if◌then◌else◌}
use Rattle.byteorder.specs.Endian.{little_number}
use Rattle.vol_body.proofs.freeing.numbers_before.Given as goal

abbrev pub invariant-loop-i : goal.invariant-loop-i
invariant-loop-i l = record {
  long : length l.numbers ≡ 128;
  known : (k : ℕ) → k < l.i → slice_index l.numbers k ≡ (if nat_lt (little_number 4 (drop (4 * k) l.image)) l.end then little_number 4 (drop (4 * k) l.image) else 0);
}
