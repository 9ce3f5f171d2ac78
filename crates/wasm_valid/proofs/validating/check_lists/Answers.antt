use Rattle.std.proofs.Common.{List, map, All, IsTrue, ◌↔◌, ◌∙◌, subst, ◌≡◌, Bool}
use Rattle.wasm_syntax.specs.declared.module.GlobalType.{GlobalType}
use Rattle.wasm_syntax.specs.declared.module.Export.{Export}
use Rattle.wasm_valid.specs.declared.module_rules.Counts.{Counts}
use Rattle.wasm_valid.specs.Spaces.{globals_of}
use Rattle.wasm_valid.specs.Validity.{AreApart}
use Rattle.wasm_valid.specs.internal.Rules.{ListsFit, IsWithin, ElementsHold, DataHolds, counts_of}
use Rattle.wasm_valid.proofs.Refusals.{refused, unsettled}
use Rattle.wasm_valid.proofs.validating.check_lists.Goals as goal

-- a test of the segments of a module
tested : {X : Type 0} (P : List GlobalType → Counts → X → Type 0) (t : Bool) (gs hs : List GlobalType) (n k : Counts) (xs ys : List X) → gs ≡ hs → n ≡ k → xs ≡ ys → IsTrue t ↔ All (P gs n) xs → IsTrue t ↔ All (P hs k) ys
tested {X} P t gs hs n k xs ys is_g is_n is_x h =
    let a = subst (λ (g : List GlobalType). IsTrue t ↔ All (P g n) xs) is_g h in
    let b = subst (λ (c : Counts). IsTrue t ↔ All (P hs c) xs) is_n a in
    subst (λ (l : List X). IsTrue t ↔ All (P hs k) l) is_x b

pub returns-in_err-rule : goal.returns-in_err-rule
returns-in_err-rule c =
    let m = c.args.module.now in
    let globals = c.as_slice-globals.ensures.value ∙ c.requires.module_context.globals in
    let answer = tested (λ gs n (e : Export). IsWithin n e.kind) c.exports_fit.result c.as_slice-globals.result.now (globals_of m) c.args.counts (counts_of m) c.as_slice-exports.result.now m.exports globals c.requires.counts c.as_slice-exports.ensures c.exports_fit.ensures in
    refused c.from_residual.result c.in_err-rule.field-0.0 (IsTrue c.exports_fit.result) (ListsFit m) c.from_residual.ensures.1 c.in_err-rule.ensures (λ fit. answer.1 fit.exports)

pub returns-in_err-names_differ : goal.returns-in_err-names_differ
returns-in_err-names_differ c = unsettled c.from_residual-in_err-names_differ.result (ListsFit c.args.module.now) c.from_residual-in_err-names_differ.ensures.1

pub returns-in_err-rule-2 : goal.returns-in_err-rule-2
returns-in_err-rule-2 c =
    let m = c.args.module.now in
    let answer = subst (λ (es : List Export). IsTrue c.in_ok-names_differ.field-0 ↔ AreApart (map (λ e. e.name) es)) c.as_slice-exports.ensures c.in_ok-names_differ.ensures in
    refused c.from_residual-in_err-rule-2.result c.in_err-rule-2.field-0.0 (IsTrue c.in_ok-names_differ.field-0) (ListsFit m) c.from_residual-in_err-rule-2.ensures.1 c.in_err-rule-2.ensures (λ fit. answer.1 fit.names_apart)

pub returns-in_err-rule-3 : goal.returns-in_err-rule-3
returns-in_err-rule-3 c =
    let m = c.args.module.now in
    let globals = c.as_slice-globals.ensures.value ∙ c.requires.module_context.globals in
    let answer = tested (λ gs n e. ElementsHold gs n e) c.elements_fit.result c.as_slice-globals.result.now (globals_of m) c.args.counts (counts_of m) c.as_slice.result.now m.element_segments globals c.requires.counts c.as_slice.ensures c.elements_fit.ensures in
    refused c.from_residual-in_err-rule-3.result c.in_err-rule-3.field-0.0 (IsTrue c.elements_fit.result) (ListsFit m) c.from_residual-in_err-rule-3.ensures.1 c.in_err-rule-3.ensures (λ fit. answer.1 fit.element_segments)

pub returns-in_err-rule-4 : goal.returns-in_err-rule-4
returns-in_err-rule-4 c =
    let m = c.args.module.now in
    let globals = c.as_slice-globals.ensures.value ∙ c.requires.module_context.globals in
    let answer = tested (λ gs n d. DataHolds gs n d) c.data_fits.result c.as_slice-globals.result.now (globals_of m) c.args.counts (counts_of m) c.as_slice-2.result.now m.data_segments globals c.requires.counts c.as_slice-2.ensures c.data_fits.ensures in
    refused c.from_residual-in_err-rule-4.result c.in_err-rule-4.field-0.0 (IsTrue c.data_fits.result) (ListsFit m) c.from_residual-in_err-rule-4.ensures.1 c.in_err-rule-4.ensures (λ fit. answer.1 fit.data_segments)

pub returns : goal.returns
returns c =
    let m = c.args.module.now in
    let globals = c.as_slice-globals.ensures.value ∙ c.requires.module_context.globals in
    let exports = tested (λ gs n (e : Export). IsWithin n e.kind) c.exports_fit.result c.as_slice-globals.result.now (globals_of m) c.args.counts (counts_of m) c.as_slice-exports.result.now m.exports globals c.requires.counts c.as_slice-exports.ensures c.exports_fit.ensures in
    let names = subst (λ (es : List Export). IsTrue c.in_ok-names_differ.field-0 ↔ AreApart (map (λ e. e.name) es)) c.as_slice-exports.ensures c.in_ok-names_differ.ensures in
    let elements = tested (λ gs n e. ElementsHold gs n e) c.elements_fit.result c.as_slice-globals.result.now (globals_of m) c.args.counts (counts_of m) c.as_slice.result.now m.element_segments globals c.requires.counts c.as_slice.ensures c.elements_fit.ensures in
    let segments = tested (λ gs n d. DataHolds gs n d) c.data_fits.result c.as_slice-globals.result.now (globals_of m) c.args.counts (counts_of m) c.as_slice-2.result.now m.data_segments globals c.requires.counts c.as_slice-2.ensures c.data_fits.ensures in
    record {
      exports = exports.0 c.in_ok-rule.ensures;
      names_apart = names.0 c.in_ok-rule-2.ensures;
      element_segments = elements.0 c.in_ok-rule-3.ensures;
      data_segments = segments.0 c.in_ok-rule-4.ensures;
    }
