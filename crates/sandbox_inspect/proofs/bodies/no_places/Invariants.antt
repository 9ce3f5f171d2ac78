use Rattle.std.proofs.Common.{◌≡◌, [], ℕ}
use Rattle.std.specs.Prelude.{IfSome, slice_get}
use Rattle.sandbox_inspect.proofs.bodies.no_places.Given as goal

-- each table that is there has nothing
abbrev pub invariant-loop : goal.invariant-loop
invariant-loop l = (own : ℕ) → IfSome (slice_get l.tables.items own) (λ places. places.items ≡ [])
