use Rattle.std.proofs.Common.{◌≡◌, ℕ, List, Option, None, Some, true, sym, ap, subst, ◌∙◌}
use Rattle.std.specs.Prelude.{slice_get}
use Rattle.std.specs.Bool.{OnFalse, OnTrue}
use Rattle.std.proofs.lemmas.Option.{slice_get_past, slice_get-get_or}
use Rattle.wasm_syntax.specs.declared.module.FuncType.{FuncType}
use Rattle.wasm_syntax.specs.declared.module.Import.{Import}
use Rattle.wasm_store.specs.declared.call.HostCall.{HostCall}
use Rattle.wasm_store.specs.declared.call.HostCall.TheVariants.{FdRead}
use Rattle.wasi_calls.specs.host.Links.{link}
use Rattle.fed_session.proofs.Waiting.{deferred_of, no_import_none, no_type_none}
use Rattle.fed_session.proofs.linking.is_deferred.Goals as goal

-- no function
pub returns-in_default-clause-no : goal.returns-in_default-clause-no
returns-in_default-clause-no c = no_type_none true c.args.guest.now c.args.index (λ f t. c.in_default.ensures.missing f t)

-- no import
pub returns-in_default-get-clause-no : goal.returns-in_default-get-clause-no
returns-in_default-get-clause-no c =
    no_import_none true c.args.guest.now c.args.index
    (ap (λ (xs : List Import). slice_get xs c.args.index) (sym c.as_slice.ensures) ∙ slice_get_past c.as_slice.result.now c.args.index c.in_default-get.ensures.lookup.3)

pub returns-clause-yes : goal.returns-clause-yes
returns-clause-yes c =
    let i = c.in-Some-get.import.now in
    let f = c.in-Some.func_type.now in
    let found = c.in-Some-get.ensures.lookup.3 in
    let here = slice_get-get_or c.as_slice.result.now c.args.index i found.0 ∙ ap Some (sym (found.1 i)) in
    let there = ap (λ (xs : List Import). slice_get xs c.args.index) (sym c.as_slice.ensures) ∙ here in
    let called = c.call_of-call.ensures ∙ ap (λ (n : List ℕ). link n c.as_str-2.result.now f) c.as_str.ensures ∙ ap (λ (n : List ℕ). link i.module_name n f) c.as_str-2.ensures in
    let same = deferred_of true c.args.guest.now c.args.index f c.in-Some.ensures.found i c.waits_at.result c.call_of-call.result there c.waits_at.ensures called in
    subst (λ (o : Option HostCall). OnTrue c.is_waiting.result (o ≡ Some FdRead)) (sym same) c.is_waiting.ensures.yes

pub returns-clause-no : goal.returns-clause-no
returns-clause-no c =
    let i = c.in-Some-get.import.now in
    let f = c.in-Some.func_type.now in
    let found = c.in-Some-get.ensures.lookup.3 in
    let here = slice_get-get_or c.as_slice.result.now c.args.index i found.0 ∙ ap Some (sym (found.1 i)) in
    let there = ap (λ (xs : List Import). slice_get xs c.args.index) (sym c.as_slice.ensures) ∙ here in
    let called = c.call_of-call.ensures ∙ ap (λ (n : List ℕ). link n c.as_str-2.result.now f) c.as_str.ensures ∙ ap (λ (n : List ℕ). link i.module_name n f) c.as_str-2.ensures in
    let same = deferred_of true c.args.guest.now c.args.index f c.in-Some.ensures.found i c.waits_at.result c.call_of-call.result there c.waits_at.ensures called in
    subst (λ (o : Option HostCall). OnFalse c.is_waiting.result (o ≡ None)) (sym same) c.is_waiting.ensures.no
