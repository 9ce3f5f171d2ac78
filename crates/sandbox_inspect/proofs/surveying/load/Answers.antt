use Rattle.std.proofs.Common.{Result, Ok, Err, IfErr, subst}
use Rattle.std.proofs.lemmas.Result.{err_from_is_err_and}
use Rattle.wasm_valid.specs.Validity.{IsValid}
use Rattle.sandbox_inspect.proofs.surveying.load.Goals as goal

both_err : {T E : Type 0} (P Q R : E → Type 0) (r : Result T E) → ((e : E) → P e → Q e → R e) → IfErr r P → IfErr r Q → IfErr r R
both_err P Q R (Ok x) follows p q = tt
both_err P Q R (Err e) follows p q = follows e p q

pub returns-in_err-decoded-clause-refused : goal.returns-in_err-decoded-clause-refused
returns-in_err-decoded-clause-refused c =
    let p = err_from_is_err_and c.from_residual.result c.from_residual.ensures.1 in
    let none = c.in_err-decoded.ensures.refused in
    rw (p.1, p.2) (λ other. record { fault_is = other; not_valid = λ m spells valid. none other m spells; spells_none = λ decoding. none other })

-- what isn't valid is all that the bytes spell
pub returns-clause-refused : goal.returns-clause-refused
returns-clause-refused c =
    both_err _ _ _ c.validate.result (λ e no refusal other. record {
      fault_is = other;
      not_valid = λ m spells valid. no other (subst IsValid (c.one_module_with.ensures c.args.profile c.args.bytes.now m _ spells c.in_ok-decoded.ensures.found) valid);
      spells_none = λ decoding. absurd (decoding refusal);
    }) c.validate.ensures.no c.validate.ensures.refused
