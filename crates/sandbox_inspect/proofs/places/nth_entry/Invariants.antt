use Rattle.std.proofs.Common.{◌≡◌, ◌-◌}
use Rattle.sandbox_inspect.specs.Places.{nth_entry}
use Rattle.sandbox_inspect.proofs.places.nth_entry.Given as goal

-- what is found from here on is what is found
abbrev pub invariant-loop : goal.invariant-loop
invariant-loop l = nth_entry (l.before - l.counter) l.rest ≡ nth_entry l.before l.entries
