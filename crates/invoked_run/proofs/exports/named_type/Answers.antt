use Rattle.std.proofs.Common.{ℕ, subst}
use Rattle.wasm_interp.specs.Invoking.{IsOwnType}
use Rattle.invoked_run.proofs.Finding.{if_none, same_function}
use Rattle.invoked_run.proofs.exports.named_type.Goals as goal

-- the function by that name has no type
pub returns-in-Some-clause-other : goal.returns-in-Some-clause-other
returns-in-Some-clause-other c = if_none c.own_type.result c.own_type.ensures.missing (λ none x f is own.
    none f (subst (λ (n : ℕ). IsOwnType c.args.guest.now n f) (same_function c.args.name.now c.args.export.now x c.in-Some.function is c.in-Some.ensures.found) own))

-- the export is another one
pub returns-in-None-clause-other : goal.returns-in-None-clause-other
returns-in-None-clause-other c = λ x f is own. c.in-None.ensures.other x is
