use Rattle.std.proofs.Common.{◌≡◌}
use Rattle.std.specs.Prelude.{take}
use Rattle.observed_run.specs.Charging.{functions_of}
use Rattle.observed_run.proofs.slices.read_functions.Given as goal

-- the functions so far
abbrev pub invariant-loop-index : goal.invariant-loop-index
invariant-loop-index g l = l.functions.items ≡ take l.index (functions_of (g.S.Resumable.state l.session))
