use Rattle.std.proofs.Common.{◌≡◌, get_or, Some, sym, ap, ◌∙◌, rules}
use Rattle.wasm_syntax.specs.declared.instruction.Instruction.TheVariants as op
use Rattle.wasm_store.proofs.Constants.{narrow_first, start_global}
use Rattle.wasm_store.proofs.instantiation.constant.Goals as goal

pub returns-in-Some-I64Const-clause-small : goal.returns-in-Some-I64Const-clause-small
returns-in-Some-I64Const-clause-small c =
    λ h. absurd (narrow_first c.args.code.now (op.I64Const c.in-Some-I64Const.value) (sym c.in-Some-I64Const.ensures.value ∙ ap Some c.in-Some-I64Const.field-0-is) h)

pub returns-in-Some-F64Const-clause-small : goal.returns-in-Some-F64Const-clause-small
returns-in-Some-F64Const-clause-small c =
    λ h. absurd (narrow_first c.args.code.now (op.F64Const c.in-Some-F64Const.bits) (sym c.in-Some-F64Const.ensures.value ∙ ap Some c.in-Some-F64Const.field-0-is) h)

pub returns-in-Some-GlobalGet-clause-value : goal.returns-in-Some-GlobalGet-clause-value
returns-in-Some-GlobalGet-clause-value c =
    let read : c.unwrap_or.result ≡ get_or c.args.globals.now c.in-Some-GlobalGet.index 0 = search rules in
    λ vs n. read ∙ start_global vs c.args.globals.now c.args.code.now c.in-Some-GlobalGet.index (sym c.in-Some-GlobalGet.ensures.value ∙ ap Some c.in-Some-GlobalGet.field-0-is) n

pub returns-in-Some-GlobalGet-clause-small : goal.returns-in-Some-GlobalGet-clause-small
returns-in-Some-GlobalGet-clause-small c =
    λ h. absurd (narrow_first c.args.code.now (op.GlobalGet c.in-Some-GlobalGet.index) (sym c.in-Some-GlobalGet.ensures.value ∙ ap Some c.in-Some-GlobalGet.field-0-is) h)
