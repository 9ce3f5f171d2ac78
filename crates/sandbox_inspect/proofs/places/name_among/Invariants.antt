use Rattle.std.proofs.Common.{◌≡◌, ◌-◌}
use Rattle.sandbox_inspect.specs.Places.{name_among}
use Rattle.sandbox_inspect.proofs.places.name_among.Given as goal

-- what is found from here on is what is found
abbrev pub invariant-loop : goal.invariant-loop
invariant-loop l = name_among (l.count - l.counter) l.index l.rest ≡ name_among l.count l.index l.pairs
