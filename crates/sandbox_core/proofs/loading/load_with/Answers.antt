use Rattle.std.proofs.Common.{Result, Ok, Err, IfErr, sym, subst}
use Rattle.std.proofs.lemmas.Result.{err_from_is_err_and}
use Rattle.wasm_valid.specs.Validity.{IsValid}
use Rattle.wasm_valid.specs.Refusal.{IsRefusal}
use Rattle.sandbox_core.proofs.loading.load_with.Goals as goal

if_err : {T E : Type 0} (P Q : E → Type 0) (r : Result T E) → ((e : E) → P e → Q e) → IfErr r P → IfErr r Q
if_err P Q (Ok x) follows p = tt
if_err P Q (Err e) follows p = follows e p

pub returns-in_err-module-clause-refused : goal.returns-in_err-module-clause-refused
returns-in_err-module-clause-refused c =
    let p = err_from_is_err_and c.from_residual.result c.from_residual.ensures.1 in
    rw (p.1, p.2) (λ other. c.in_err-module.ensures.refused (λ e. other (subst IsRefusal (sym e) tt)))

pub returns-in_err-module-clause-no : goal.returns-in_err-module-clause-no
returns-in_err-module-clause-no c =
    let p = err_from_is_err_and c.from_residual.result c.from_residual.ensures.1 in
    rw (p.1, p.2) (λ other m spells valid. c.in_err-module.ensures.refused other m spells)

-- what isn't valid is all that the bytes spell
pub returns-clause-no : goal.returns-clause-no
returns-clause-no c =
    if_err _ _ c.validate.result (λ e no other m spells valid.
    no other (subst IsValid (c.one_module_with.ensures c.args.profile c.args.bytes.now m _ spells c.in_ok-module.ensures.found) valid)) c.validate.ensures.no
