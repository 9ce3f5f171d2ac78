use Rattle.std.proofs.Common.{rules}
use Rattle.wasm_syntax.proofs.Exits.{handed_on}
use Rattle.wasm_module.proofs.Operands.{variables_given, variables_none}
use Rattle.wasm_module.proofs.code.variable.Goals as goal

pub returns-in_err-u32-in-32-to-36 : goal.returns-in_err-u32-in-32-to-36
returns-in_err-u32-in-32-to-36 c = handed_on _ _ c.from_residual.result _ c.from_residual.ensures.1 (λ other. variables_none c.args.byte _ (search rules) (c.in_err-u32-in-32-to-36.ensures other))

pub returns-in_ok-u32-in-32-to-36 : goal.returns-in_ok-u32-in-32-to-36
returns-in_ok-u32-in-32-to-36 c = variables_given c.args.byte _ _ _ _ (search rules) c.in_ok-u32-in-32-to-36.ensures c.variable_with.ensures
