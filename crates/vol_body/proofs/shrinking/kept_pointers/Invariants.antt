use Rattle.std.proofs.Common.{◌≡◌, ◌<◌, ◌≤◌, ℕ, length, nat_lt, slice_index, if◌then◌else◌}
use Rattle.vol_inode.specs.Entry.{first_block_of_pointer}
use Rattle.vol_body.proofs.shrinking.kept_pointers.Given as goal

abbrev pub invariant-loop-j : goal.invariant-loop-j
invariant-loop-j l = record {
  long : length l.kept ≡ 61;
  beyond : (k : ℕ) → l.j ≤ k → slice_index l.kept k ≡ 0;
  kept : (k : ℕ) → k < l.j → slice_index l.kept k ≡ (if nat_lt (first_block_of_pointer k) l.count then slice_index l.pointers k else 0);
}
