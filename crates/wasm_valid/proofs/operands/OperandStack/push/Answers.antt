use Rattle.std.proofs.Common.{List, Option, take, ap, ◌∙◌, arith}
use Rattle.std.proofs.lemmas.Result.{IfOk-from_err}
use Rattle.std.proofs.lemmas.Grind.{common_steps}
use Rattle.wasm_syntax.specs.declared.instruction.ValueType.{ValueType}
use Rattle.wasm_valid.proofs.operands.OperandStack.push.Goals as goal

pub returns-in_err-push : goal.returns-in_err-push
returns-in_err-push c = record {
  below = ap (λ (types : List (Option ValueType)). take c.self.inside.height types) c.in_err-push.ensures.items ∙ ap (λ o. o.below) c.self.view_is;
  stack = IfOk-from_err c.from_residual.result _ c.from_residual.ensures.0;
}

pub returns-clause-below : goal.returns-clause-below
returns-clause-below c = grind (arith, common_steps)

pub returns-clause-stack : goal.returns-clause-stack
returns-clause-stack c = grind (arith, common_steps)
