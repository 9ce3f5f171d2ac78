use Rattle.std.proofs.Common.{◌≡◌, ◌≤◌, ℕ, List, take, length, vec_capacity}
use Rattle.vol_log.specs.internal.Batch.{numbers}
use Rattle.vol_log.specs.Header.{Places, IsHeader}
use Rattle.vol_log.proofs.header.read_header.Given as goal

abbrev pub invariant-loop-i : goal.invariant-loop-i
invariant-loop-i l = record {
  places : Places l.sectors (numbers l.batch.items);
  count : length l.batch.items ≡ l.i;
  capacity : 120 ≤ vec_capacity l.batch;
  grown : vec_capacity l.fn.batch ≤ vec_capacity l.batch;
  only : (ns : List ℕ) → IsHeader l.sectors l.header ns → numbers l.batch.items ≡ take l.i ns;
}
