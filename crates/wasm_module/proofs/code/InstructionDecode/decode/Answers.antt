use Rattle.std.proofs.Common.{refl, rules}
use Rattle.wasm_syntax.specs.internal.CodeReading.{instruction_at, instruction_after}
use Rattle.wasm_syntax.proofs.Exits.{handed_on}
use Rattle.wasm_module.proofs.Opcodes.{control_read, variable_read, load_read, store_read, size_read, operator_read}
use Rattle.wasm_module.proofs.code.InstructionDecode.decode.Goals as goal

pub returns-in_err-byte : goal.returns-in_err-byte
unfolding instruction_at instruction_after
returns-in_err-byte c = handed_on _ _ c.from_residual.result _ c.from_residual.ensures.1 (λ other. rw (c.in_err-byte.ensures other) refl)

pub returns-in_err-s32-in-65 : goal.returns-in_err-s32-in-65
unfolding instruction_at instruction_after
returns-in_err-s32-in-65 c = handed_on _ _ c.from_residual-in_err-s32-in-65.result _ c.from_residual-in_err-s32-in-65.ensures.1 (λ other. rw (c.in_ok-byte.ensures, c.in-65.is, c.in_err-s32-in-65.ensures other) refl)

pub returns-in_ok-s32-in-65 : goal.returns-in_ok-s32-in-65
unfolding instruction_at instruction_after
returns-in_ok-s32-in-65 c = rw (c.in_ok-byte.ensures, c.in-65.is, c.in_ok-s32-in-65.ensures) refl

pub returns-in_err-s64-in-66 : goal.returns-in_err-s64-in-66
unfolding instruction_at instruction_after
returns-in_err-s64-in-66 c = handed_on _ _ c.from_residual-in_err-s64-in-66.result _ c.from_residual-in_err-s64-in-66.ensures.1 (λ other. rw (c.in_ok-byte.ensures, c.in-66.is, c.in_err-s64-in-66.ensures other) refl)

pub returns-in_ok-s64-in-66 : goal.returns-in_ok-s64-in-66
unfolding instruction_at instruction_after
returns-in_ok-s64-in-66 c = rw (c.in_ok-byte.ensures, c.in-66.is, c.in_ok-s64-in-66.ensures) refl

pub returns-in-252 : goal.returns-in-252
unfolding instruction_at instruction_after
returns-in-252 c = rw (c.in_ok-byte.ensures, c.in-252.is) c.bulk.ensures

pub returns-in-0-to-17 : goal.returns-in-0-to-17
unfolding instruction_at
returns-in-0-to-17 c = rw (c.in_ok-byte.ensures, control_read c.args.profile c.in_ok-byte.byte _ (search rules)) c.control.ensures

pub returns-in-18-to-39 : goal.returns-in-18-to-39
unfolding instruction_at
returns-in-18-to-39 c = rw (c.in_ok-byte.ensures, variable_read c.args.profile c.in_ok-byte.byte _ (search rules) (search rules)) c.variable.ensures

pub returns-in-40-to-53 : goal.returns-in-40-to-53
unfolding instruction_at
returns-in-40-to-53 c = rw (c.in_ok-byte.ensures, load_read c.args.profile c.in_ok-byte.byte _ (search rules) (search rules)) c.load.ensures

pub returns-in-54-to-62 : goal.returns-in-54-to-62
unfolding instruction_at
returns-in-54-to-62 c = rw (c.in_ok-byte.ensures, store_read c.args.profile c.in_ok-byte.byte _ (search rules) (search rules)) c.store.ensures

pub returns-in-63-to-64 : goal.returns-in-63-to-64
unfolding instruction_at
returns-in-63-to-64 c = rw (c.in_ok-byte.ensures, size_read c.args.profile c.in_ok-byte.byte _ (search rules) (search rules)) c.memory_size.ensures

pub returns-in_default : goal.returns-in_default
unfolding instruction_at
returns-in_default c = rw (c.in_ok-byte.ensures, operator_read c.args.profile c.in_ok-byte.byte _ (search rules) (search rules) (search rules) (search rules)) c.operator.ensures
