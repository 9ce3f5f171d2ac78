use Rattle.std.proofs.Common.{◌≡◌, ◌-◌}
use Rattle.sandbox_inspect.specs.Places.{exported_among}
use Rattle.sandbox_inspect.proofs.naming.exported_among.Given as goal

-- what is found from here on is what is found
abbrev pub invariant-loop : goal.invariant-loop
invariant-loop l = exported_among (l.count - l.counter) l.index l.rest ≡ exported_among l.count l.index l.exports
