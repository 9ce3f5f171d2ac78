use Rattle.std.proofs.Common.{refl, rules}
use Rattle.wasm_syntax.specs.internal.CodeReading.{bulk_after}
use Rattle.wasm_syntax.proofs.Exits.{handed_on}
use Rattle.wasm_module.proofs.Operands.{saturations_given}
use Rattle.wasm_module.proofs.code.bulk_instruction.Goals as goal

pub returns-in_err-zero-in-10 : goal.returns-in_err-zero-in-10
unfolding bulk_after
returns-in_err-zero-in-10 c = handed_on _ _ c.from_residual.result _ c.from_residual.ensures.1 (λ other. rw (c.in-10.is, c.in_err-zero-in-10.ensures other) refl)

pub returns-in_err-zero-in-10-2 : goal.returns-in_err-zero-in-10-2
unfolding bulk_after
returns-in_err-zero-in-10-2 c = handed_on _ _ c.from_residual-in_err-zero-in-10-2.result _ c.from_residual-in_err-zero-in-10-2.ensures.1 (λ other. rw (c.in-10.is, c.in_ok-zero-in-10.ensures, c.in_err-zero-in-10-2.ensures other) refl)

pub returns-in_ok-zero-in-10-2 : goal.returns-in_ok-zero-in-10-2
unfolding bulk_after
returns-in_ok-zero-in-10-2 c = rw (c.in-10.is, c.in_ok-zero-in-10.ensures, c.in_ok-zero-in-10-2.ensures) refl

pub returns-in_err-zero-in-11 : goal.returns-in_err-zero-in-11
unfolding bulk_after
returns-in_err-zero-in-11 c = handed_on _ _ c.from_residual-in_err-zero-in-11.result _ c.from_residual-in_err-zero-in-11.ensures.1 (λ other. rw (c.in-11.is, c.in_err-zero-in-11.ensures other) refl)

pub returns-in_ok-zero-in-11 : goal.returns-in_ok-zero-in-11
unfolding bulk_after
returns-in_ok-zero-in-11 c = rw (c.in-11.is, c.in_ok-zero-in-11.ensures) refl

pub returns-in_default : goal.returns-in_default
returns-in_default c = saturations_given c.args.profile c.args.number c.args.cursor.now c.saturating.result (search rules) (search rules) c.saturating.ensures
