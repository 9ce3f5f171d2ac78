use Rattle.std.proofs.Common.{◌≡◌, ◌+◌, ◌-◌, ◌≤◌, ◌<◌, ℕ, not, true, false, length, take, get_or, count_by}
use Rattle.vol_alloc.specs.Numbers.{ListsNumber, ArePlaces}
use Rattle.vol_alloc.proofs.sectors.take_all.Given as goal

abbrev pub invariant-loop-n : goal.invariant-loop-n
invariant-loop-n l = record {
  set : (n : ℕ) → l.first ≤ n → get_or l.taken (n - l.first) false ≡ true → ListsNumber (take l.n-index l.named) n;
  each : (k : ℕ) → k < l.n-index → get_or l.taken (get_or l.named k 0 - l.first) false ≡ true;
  counted : count_by not l.taken + l.n-index ≡ length l.taken;
  right : ArePlaces l.first (l.first + length l.taken) (take l.n-index l.named);
}
