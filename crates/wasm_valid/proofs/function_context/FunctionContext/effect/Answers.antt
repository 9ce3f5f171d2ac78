use Rattle.std.proofs.Common.{sym, ◌∙◌}
use Rattle.wasm_valid.proofs.Instructed.{access_effect}
use Rattle.wasm_valid.proofs.function_context.FunctionContext.effect.Goals as goal

pub returns-in-Some : goal.returns-in-Some
returns-in-Some c = λ k is.
    c.memory_effect.ensures k is ∙ sym (access_effect k c.args.instruction.now c.in-Some.access c.in-Some.ensures)
