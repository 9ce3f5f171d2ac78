use Rattle.std.proofs.Common.{refl, rules}
use Rattle.wasm_syntax.specs.internal.CodeReading.{control_after}
use Rattle.wasm_syntax.proofs.Exits.{handed_on}
use Rattle.wasm_module.proofs.Operands.{blocks_given, blocks_none, branches_given, branches_none}
use Rattle.wasm_module.proofs.code.control.Goals as goal

pub returns-in-0 : goal.returns-in-0
unfolding control_after
returns-in-0 c = rw c.in-0.is refl

pub returns-in-1 : goal.returns-in-1
unfolding control_after
returns-in-1 c = rw c.in-1.is refl

pub returns-in-5 : goal.returns-in-5
unfolding control_after
returns-in-5 c = rw c.in-5.is refl

pub returns-in-11 : goal.returns-in-11
unfolding control_after
returns-in-11 c = rw c.in-11.is refl

pub returns-in-15 : goal.returns-in-15
unfolding control_after
returns-in-15 c = rw c.in-15.is refl

pub returns-in_err-decode-in-2-to-4 : goal.returns-in_err-decode-in-2-to-4
returns-in_err-decode-in-2-to-4 c = handed_on _ _ c.from_residual-in_err-decode-in-2-to-4.result _ c.from_residual-in_err-decode-in-2-to-4.ensures.1 (λ other. blocks_none c.args.profile c.args.byte _ (search rules) (search rules) (c.in_err-decode-in-2-to-4.ensures other))

pub returns-in_ok-decode-in-2-to-4 : goal.returns-in_ok-decode-in-2-to-4
returns-in_ok-decode-in-2-to-4 c = blocks_given c.args.profile c.args.byte _ _ _ _ (search rules) (search rules) c.in_ok-decode-in-2-to-4.ensures c.block_with.ensures

pub returns-in_err-u32-in-12-to-13 : goal.returns-in_err-u32-in-12-to-13
returns-in_err-u32-in-12-to-13 c = handed_on _ _ c.from_residual-in_err-u32-in-12-to-13.result _ c.from_residual-in_err-u32-in-12-to-13.ensures.1 (λ other. branches_none c.args.profile c.args.byte _ (search rules) (search rules) (c.in_err-u32-in-12-to-13.ensures other))

pub returns-in_ok-u32-in-12-to-13 : goal.returns-in_ok-u32-in-12-to-13
returns-in_ok-u32-in-12-to-13 c = branches_given c.args.profile c.args.byte _ _ _ _ (search rules) (search rules) c.in_ok-u32-in-12-to-13.ensures c.branch_with.ensures

pub returns-in-14 : goal.returns-in-14
unfolding control_after
returns-in-14 c = rw c.in-14.is c.branch_table.ensures

pub returns-in_err-u32-in-16 : goal.returns-in_err-u32-in-16
unfolding control_after
returns-in_err-u32-in-16 c = handed_on _ _ c.from_residual.result _ c.from_residual.ensures.1 (λ other. rw (c.in-16.is, c.in_err-u32-in-16.ensures other) refl)

pub returns-in_ok-u32-in-16 : goal.returns-in_ok-u32-in-16
unfolding control_after
returns-in_ok-u32-in-16 c = rw (c.in-16.is, c.in_ok-u32-in-16.ensures) refl

pub returns-in-17 : goal.returns-in-17
unfolding control_after
returns-in-17 c = rw c.in-17.is c.call_indirect.ensures
