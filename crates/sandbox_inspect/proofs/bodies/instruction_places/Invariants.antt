use Rattle.std.proofs.Common.{◌≡◌, ◌-◌, ◌++◌, drop, length}
use Rattle.sandbox_inspect.specs.internal.Bodies.{places_from}
use Rattle.sandbox_inspect.specs.internal.Skipping.{after_locals}
use Rattle.sandbox_inspect.proofs.bodies.instruction_places.Given as goal

-- what is there, and what comes from here on, is all
abbrev pub invariant-loop : goal.invariant-loop
invariant-loop l = l.places.items ++ places_from (length l.bytes) (l.count - l.counter) l.rest ≡ places_from (length l.bytes) l.count (after_locals (drop l.start l.bytes))
