use Rattle.std.proofs.Common.{◌≡◌, ℕ, Bool, not, eqb, List, [], ◌∷◌, length, refl, ap, ◌∙◌, arith}
use Rattle.std.proofs.lemmas.Bool.{ne_eqb}
use Rattle.wasm_syntax.specs.declared.module.Limits.{Limits}
use Rattle.wasm_valid.specs.Validity.{IsValid, has_any}
use Rattle.wasm_valid.specs.internal.Rules.{TypesFit, LimitsHold, GlobalsHold}
use Rattle.wasm_valid.proofs.Refusals.{refused}
use Rattle.wasm_valid.proofs.Assembled.{types_of, limits_of, globals_hold}
use Rattle.wasm_valid.proofs.validating.check_over.Goals as goal

pub returns-in_err-check_limits : goal.returns-in_err-check_limits
returns-in_err-check_limits c =
    let m = c.args.module.now in
    refused c.from_residual.result c.in_err-check_limits.field-0.0 (LimitsHold m) (IsValid m) c.from_residual.ensures.1 c.in_err-check_limits.ensures (limits_of m)

-- whether a list that was counted has any items
counted : {A : Type 0} (xs : List A) (n : ℕ) (empty : Bool) → empty ≡ eqb n 0 → n ≡ length xs → not empty ≡ has_any xs
counted [] n empty is long = rw (is, long) refl
counted (x ∷ xs) n empty is long =
    let some : n ≡ 0 → ⊥ = (λ none. omega arith) in
    rw (is, ne_eqb n 0 some) refl

pub module_context-requires : goal.module_context-requires
module_context-requires c = record {
  table = counted c.args.tables.now _ c.is_empty.result c.is_empty.ensures refl ∙ ap (λ (ts : List Limits). has_any ts) c.requires.tables;
  memory = counted c.args.memories.now _ c.is_empty-2.result c.is_empty-2.ensures refl ∙ ap (λ (ms : List Limits). has_any ms) c.requires.memories;
}

pub returns-in_err-check_globals : goal.returns-in_err-check_globals
returns-in_err-check_globals c =
    let m = c.args.module.now in
    refused c.from_residual-in_err-check_globals.result c.in_err-check_globals.field-0.0 (GlobalsHold m) (IsValid m) c.from_residual-in_err-check_globals.ensures.1 c.in_err-check_globals.ensures (globals_hold m)

pub returns-in_err-module_context : goal.returns-in_err-module_context
returns-in_err-module_context c =
    let m = c.args.module.now in
    refused c.from_residual-in_err-module_context.result c.in_err-module_context.field-0.0 (TypesFit m) (IsValid m) c.from_residual-in_err-module_context.ensures.1 c.in_err-module_context.ensures.types (types_of m)

pub returns : goal.returns
returns c = c.check_within.ensures
