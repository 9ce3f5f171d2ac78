use Rattle.std.proofs.Common.{◌≡◌, ◌++◌, drop}
use Rattle.std.specs.List.{flat_map}
use Rattle.sandbox_telling.specs.Profiling.{stack_byte}
use Rattle.sandbox_telling.proofs.profiling.add_bytes.Given as goal

-- with the text of the rest it is the whole text
abbrev pub invariant-loop-byte : goal.invariant-loop-byte
invariant-loop-byte l = l.line.items ++ flat_map stack_byte (drop l.byte-index l.name) ≡ l.initial.line.items ++ flat_map stack_byte l.name
