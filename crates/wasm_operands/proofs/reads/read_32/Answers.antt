use Rattle.std.proofs.Common.{rules}
use Rattle.wasm_operands.proofs.reads.read_32.Goals as goal

pub returns-clause-inside : goal.returns-clause-inside
returns-clause-inside c = search rules
