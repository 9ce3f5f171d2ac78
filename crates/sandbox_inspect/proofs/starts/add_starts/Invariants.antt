use Rattle.std.proofs.Common.{◌≡◌, ◌-◌, ◌++◌}
use Rattle.sandbox_inspect.specs.internal.Starts.{starts_from}
use Rattle.sandbox_inspect.proofs.starts.add_starts.Given as goal

-- what is there, and what comes from here on, is all
abbrev pub invariant-loop : goal.invariant-loop
invariant-loop l = l.starts.items ++ starts_from l.end (l.count - l.counter) l.rest ≡ l.fn.starts.items ++ starts_from l.end l.count l.entries
