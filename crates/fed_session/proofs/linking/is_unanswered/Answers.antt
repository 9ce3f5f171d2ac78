use Rattle.std.proofs.Common.{ℕ, List, Some, false, sym, ap, ◌∙◌}
use Rattle.std.specs.Prelude.{slice_get}
use Rattle.std.proofs.lemmas.Option.{slice_get_past, slice_get-get_or}
use Rattle.wasm_syntax.specs.declared.module.Import.{Import}
use Rattle.wasi_calls.specs.host.Links.{link}
use Rattle.wasm_store.specs.Allocation.{may_embed}
use Rattle.fed_session.specs.Waiting.{reserved_at}
use Rattle.fed_session.proofs.Waiting.{answered_if, is_answered, no_import, unanswered_if}
use Rattle.fed_session.proofs.linking.is_unanswered.Goals as goal

-- no function
pub returns-in_default-clause-no : goal.returns-in_default-clause-no
returns-in_default-clause-no c = λ k. c.in_default.ensures.missing k.func_type k.is_type

-- no import
pub returns-in_default-get-clause-no : goal.returns-in_default-get-clause-no
returns-in_default-get-clause-no c =
    no_import c.args.guest.now c.args.index
    (ap (λ (xs : List Import). slice_get xs c.args.index) (sym c.as_slice.ensures) ∙ slice_get_past c.as_slice.result.now c.args.index c.in_default-get.ensures.lookup.3)

-- the host's
pub returns-in-Some-call_of-clause-no : goal.returns-in-Some-call_of-clause-no
returns-in-Some-call_of-clause-no c =
    let i = c.in-Some-get.import.now in
    let f = c.in-Some.func_type.now in
    let found = c.in-Some-get.ensures.lookup.3 in
    let here = slice_get-get_or c.as_slice.result.now c.args.index i found.0 ∙ ap Some (sym (found.1 i)) in
    let there = ap (λ (xs : List Import). slice_get xs c.args.index) (sym c.as_slice.ensures) ∙ here in
    let called = c.call_of.ensures ∙ ap (λ (n : List ℕ). link n c.as_str.result.now f) c.as_str-module_name.ensures ∙ ap (λ (n : List ℕ). link i.module_name n f) c.as_str.ensures in
    is_answered c.args.guest.now c.args.index f c.in-Some.ensures.found i c.in-Some-call_of.field-0 there (sym called ∙ c.in-Some-call_of.is)

pub returns-in-None-clause-yes : goal.returns-in-None-clause-yes
returns-in-None-clause-yes c =
    let i = c.in-Some-get.import.now in
    let f = c.in-Some.func_type.now in
    let found = c.in-Some-get.ensures.lookup.3 in
    let here = slice_get-get_or c.as_slice.result.now c.args.index i found.0 ∙ ap Some (sym (found.1 i)) in
    let there = ap (λ (xs : List Import). slice_get xs c.args.index) (sym c.as_slice.ensures) ∙ here in
    let called = c.call_of.ensures ∙ ap (λ (n : List ℕ). link n c.as_str.result.now f) c.as_str-module_name.ensures ∙ ap (λ (n : List ℕ). link i.module_name n f) c.as_str.ensures in
    let may = c.may_embed.ensures ∙ ap (λ (n : List ℕ). may_embed (reserved_at false) n f) c.as_str-module_name.ensures in
    unanswered_if c.args.guest.now c.args.index f c.in-Some.ensures.found i c.may_embed.result there (sym called ∙ c.in-None.is) may

pub returns-in-None-clause-no : goal.returns-in-None-clause-no
returns-in-None-clause-no c =
    let i = c.in-Some-get.import.now in
    let f = c.in-Some.func_type.now in
    let found = c.in-Some-get.ensures.lookup.3 in
    let here = slice_get-get_or c.as_slice.result.now c.args.index i found.0 ∙ ap Some (sym (found.1 i)) in
    let there = ap (λ (xs : List Import). slice_get xs c.args.index) (sym c.as_slice.ensures) ∙ here in
    let called = c.call_of.ensures ∙ ap (λ (n : List ℕ). link n c.as_str.result.now f) c.as_str-module_name.ensures ∙ ap (λ (n : List ℕ). link i.module_name n f) c.as_str.ensures in
    let may = c.may_embed.ensures ∙ ap (λ (n : List ℕ). may_embed (reserved_at false) n f) c.as_str-module_name.ensures in
    answered_if c.args.guest.now c.args.index f c.in-Some.ensures.found i c.may_embed.result there may
