-- A call that answered, whatever it was.
use Rattle.std.proofs.Common.{ℕ, Result, Ok, Err, MatchResult}

pub told : {E : Type 0} (r : Result ℕ E) → MatchResult r (λ n. Unit {0}) (λ e. Unit {0})
told (Ok n) = tt
told (Err e) = tt
