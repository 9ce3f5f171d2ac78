use Rattle.std.proofs.Common.{rules}
use Rattle.wasm_syntax.specs.internal.CodeReading.{binary_operator_of}
use Rattle.wasm_module.proofs.code.binary_operator.Goals as goal

pub returns-in-11 : goal.returns-in-11
unfolding binary_operator_of
returns-in-11 c = search rules
