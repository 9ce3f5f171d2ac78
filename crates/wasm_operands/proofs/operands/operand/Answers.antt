use Rattle.std.proofs.Common.{sym, arith}
use Rattle.std.proofs.lemmas.List.{get_or-reverse}
use Rattle.wasm_operands.proofs.operands.operand.Goals as goal

pub overflow_sub-result : goal.overflow_sub-result
overflow_sub-result c = omega (arith, c.requires)

pub overflow_sub-result-2 : goal.overflow_sub-result-2
overflow_sub-result-2 c = omega (arith, c.requires)

pub bounds-values-values : goal.bounds-values-values
bounds-values-values c = omega (arith, c.requires)

pub returns : goal.returns
returns c = sym (get_or-reverse c.args.values.now c.args.depth 0 c.requires)
