use Rattle.std.proofs.Common.{◌≡◌, ◌+◌, ◌≤◌, ◌<◌, ℕ, not, length, drop, get_or, count_by, vec_len, vec_capacity}
use Rattle.vol_alloc.specs.internal.Numbers.{AreFree}
use Rattle.vol_alloc.proofs.sectors.free_ones.Given as goal

abbrev pub invariant-loop-i : goal.invariant-loop-i
invariant-loop-i l = record {
  end : l.i ≤ length l.taken;
  listed : AreFree l.first l.taken l.free.items;
  above : (k : ℕ) → k < length l.free.items → l.first + l.i ≤ get_or l.free.items k 0;
  counted : vec_len l.free ≡ count_by not (drop l.i l.taken);
  reserved : length l.taken ≤ vec_capacity l.free;
}
