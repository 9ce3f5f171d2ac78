use Rattle.std.proofs.Common.{◌≡◌, ◌-◌}
use Rattle.sandbox_inspect.specs.Places.{find_section}
use Rattle.sandbox_inspect.proofs.sections.find.Given as goal

-- what is found from here on is what is found
abbrev pub invariant-loop : goal.invariant-loop
invariant-loop l = find_section l.wanted (l.most - l.counter) l.rest ≡ find_section l.wanted l.most l.bytes
