use Rattle.std.proofs.Common.{◌≡◌}
use Rattle.sandbox_telling.proofs.profiling.StackNames.of.Given as goal

-- names are kept, and no other is meant
abbrev pub invariant-loop-node : goal.invariant-loop-node
invariant-loop-node l = l.names ≡ record { bytes = l.bytes; imported = l.fuel_use.imported }
