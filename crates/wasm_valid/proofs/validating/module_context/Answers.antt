use Rattle.std.proofs.Common.{rules, All, IsTrue, List, length, ◌++◌, ◌<◌, ◌≤◌, ℕ, sym, ap, ◌∙◌, subst}
use Rattle.wasm_syntax.specs.declared.module.FuncType.{FuncType}
use Rattle.wasm_syntax.specs.declared.module.Import.{Import}
use Rattle.std.proofs.lemmas.List.Elements.{All-append}
use Rattle.std.proofs.lemmas.Result.{IfOk-from_err}
use Rattle.std.specs.List.{filter_map}
use Rattle.wasm_valid.specs.Spaces.{imported_function, kinds_of}
use Rattle.wasm_valid.specs.internal.Rules.{TypesFit}
use Rattle.wasm_valid.proofs.Refusals.{refused, unsettled}
use Rattle.wasm_valid.proofs.Parts.{All-front, All-back}
use Rattle.wasm_valid.proofs.validating.module_context.Goals as goal

pub returns-in_err-rule-clause-types : goal.returns-in_err-rule-clause-types
returns-in_err-rule-clause-types c =
    refused c.from_residual.result c.in_err-rule.field-0.0 (IsTrue c.have_one_result.result) (TypesFit c.args.module.now) c.from_residual.ensures.1 c.in_err-rule.ensures
    (λ fit. c.have_one_result.ensures.1 (subst (All (λ (f : FuncType). length f.results ≤ 1)) (sym c.as_slice-types.ensures) fit.one_result))

pub returns-in_err-type_indices-clause-types : goal.returns-in_err-type_indices-clause-types
returns-in_err-type_indices-clause-types c = unsettled c.from_residual-in_err-type_indices.result (TypesFit c.args.module.now) c.from_residual-in_err-type_indices.ensures.1

pub returns-in_err-extend_from_slice-clause-types : goal.returns-in_err-extend_from_slice-clause-types
returns-in_err-extend_from_slice-clause-types c = unsettled c.from_residual-in_err-extend_from_slice.result (TypesFit c.args.module.now) c.from_residual-in_err-extend_from_slice.ensures.1

pub returns-in_err-globals-clause-types : goal.returns-in_err-globals-clause-types
returns-in_err-globals-clause-types c = unsettled c.from_residual-in_err-globals.result (TypesFit c.args.module.now) c.from_residual-in_err-globals.ensures.1

pub returns-clause-types : goal.returns-clause-types
returns-clause-types c =
    let m = c.args.module.now in
    let types = c.as_slice-types.result.now in
    let imported = filter_map imported_function (kinds_of m.imports) in
    let first = c.as_slice-2.ensures.value ∙ c.in_ok-type_indices.ensures ∙ ap (λ (is : List Import). filter_map imported_function (kinds_of is)) c.as_slice.ensures in
    let front = subst (All (λ (x : ℕ). x < length types)) first (c.are_below.ensures.0 c.in_ok-rule-2.ensures) in
    let back = subst (All (λ (x : ℕ). x < length types)) c.as_slice-functions.ensures (c.are_below-2.ensures.0 c.in_ok-rule-3.ensures) in
    record {
      one_result = subst (All (λ (f : FuncType). length f.results ≤ 1)) c.as_slice-types.ensures (c.have_one_result.ensures.0 c.in_ok-rule.ensures);
      functions = subst (λ (ts : List FuncType). All (λ (x : ℕ). x < length ts) (imported ++ m.functions)) c.as_slice-types.ensures (All-append (λ (x : ℕ). x < length types) imported m.functions front back);
    }

pub returns-clause-module_context : goal.returns-clause-module_context
returns-clause-module_context c =
    let imported = filter_map imported_function (kinds_of c.args.module.now.imports) in
    let first = c.in_ok-type_indices.ensures ∙ ap (λ (is : List Import). filter_map imported_function (kinds_of is)) c.as_slice.ensures in
    record {
      types = c.as_slice-types.ensures;
      type_indices = c.in_ok-extend_from_slice.ensures.items ∙ ap (λ (xs : List ℕ). xs ++ c.as_slice-functions.result.now) first ∙ ap (λ (fs : List ℕ). imported ++ fs) c.as_slice-functions.ensures;
      globals = c.in_ok-globals.ensures;
      table = c.requires.table;
      memory = c.requires.memory;
    }

pub returns-in_err-rule-clause-module_context : goal.returns-in_err-rule-clause-module_context
returns-in_err-rule-clause-module_context c = IfOk-from_err c.from_residual.result _ c.from_residual.ensures.0

pub returns-in_err-rule-2-clause-module_context : goal.returns-in_err-rule-2-clause-module_context
returns-in_err-rule-2-clause-module_context c = IfOk-from_err c.from_residual-in_err-rule-2.result _ c.from_residual-in_err-rule-2.ensures.0

pub returns-in_err-rule-3-clause-module_context : goal.returns-in_err-rule-3-clause-module_context
returns-in_err-rule-3-clause-module_context c = IfOk-from_err c.from_residual-in_err-rule-3.result _ c.from_residual-in_err-rule-3.ensures.0

pub returns-in_err-type_indices-clause-module_context : goal.returns-in_err-type_indices-clause-module_context
returns-in_err-type_indices-clause-module_context c = IfOk-from_err c.from_residual-in_err-type_indices.result _ c.from_residual-in_err-type_indices.ensures.0

pub returns-in_err-extend_from_slice-clause-module_context : goal.returns-in_err-extend_from_slice-clause-module_context
returns-in_err-extend_from_slice-clause-module_context c = IfOk-from_err c.from_residual-in_err-extend_from_slice.result _ c.from_residual-in_err-extend_from_slice.ensures.0

pub returns-in_err-globals-clause-module_context : goal.returns-in_err-globals-clause-module_context
returns-in_err-globals-clause-module_context c = IfOk-from_err c.from_residual-in_err-globals.result _ c.from_residual-in_err-globals.ensures.0

pub returns-in_err-rule-2-clause-types : goal.returns-in_err-rule-2-clause-types
returns-in_err-rule-2-clause-types c =
    refused c.from_residual-in_err-rule-2.result c.in_err-rule-2.field-0.0 (IsTrue c.are_below.result) (TypesFit c.args.module.now) c.from_residual-in_err-rule-2.ensures.1 c.in_err-rule-2.ensures
    (λ fit. let front = All-front (λ (x : ℕ). x < length c.args.module.now.types) (filter_map imported_function (kinds_of c.args.module.now.imports)) c.args.module.now.functions fit.functions in search rules)

pub returns-in_err-rule-3-clause-types : goal.returns-in_err-rule-3-clause-types
returns-in_err-rule-3-clause-types c =
    refused c.from_residual-in_err-rule-3.result c.in_err-rule-3.field-0.0 (IsTrue c.are_below-2.result) (TypesFit c.args.module.now) c.from_residual-in_err-rule-3.ensures.1 c.in_err-rule-3.ensures
    (λ fit. let back = All-back (λ (x : ℕ). x < length c.args.module.now.types) (filter_map imported_function (kinds_of c.args.module.now.imports)) c.args.module.now.functions fit.functions in search rules)
