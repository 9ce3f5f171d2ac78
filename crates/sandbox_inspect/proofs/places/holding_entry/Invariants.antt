use Rattle.std.proofs.Common.{◌≡◌, ◌-◌}
use Rattle.sandbox_inspect.specs.Places.{holding_entry}
use Rattle.sandbox_inspect.proofs.places.holding_entry.Given as goal

-- what is found from here on is what is found
abbrev pub invariant-loop-index : goal.invariant-loop-index
invariant-loop-index l = holding_entry (l.count - l.index) l.index l.left l.rest ≡ holding_entry l.count 0 l.left l.entries
