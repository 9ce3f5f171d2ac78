use Rattle.std.proofs.Common.{◌≡◌, ◌<◌, Some, length, reverse, refl, sym, ap, ◌∙◌, arith}
use Rattle.std.specs.Prelude.{slice_get, slice_index}
use Rattle.std.proofs.lemmas.Option.{slice_get_read}
use Rattle.wasm_operands.proofs.PlainSteps.Moving.{some_same}
use Rattle.wasm_interp.proofs.state.State.element.Goals as goal

pub index-signature-requires : goal.index-signature-requires
index-signature-requires c = c.requires.functions c.operand-index.result c.in-Some-element.function (sym c.get.ensures ∙ c.in-Some.is ∙ ap Some c.in-Some-element.is)

pub index-requires : goal.index-requires
index-requires c = c.requires.types

pub returns-then-signature-index-clause-missing :
    goal.returns-then-signature-index-clause-missing
returns-then-signature-index-clause-missing c =
    let t = c.args.guest.now.tables in
    let found : slice_get c.args.self.now.table c.operand-index.result ≡ Some (Some c.in-Some-element.function) = sym c.get.ensures ∙ c.in-Some.is ∙ ap Some c.in-Some-element.is in
    let top : c.operand-index.result ≡ slice_index (reverse c.args.self.now.values.items) 0 = c.operand-index.ensures ∙ ap (λ y. slice_index (reverse y) 0) c.deref.ensures.value in
    let there = c.requires.functions c.operand-index.result c.in-Some-element.function found in
    let in_signatures : c.in-Some-element.function < length t.signatures.items = omega (arith, there, t.signatures.ok.0) in
    let in_types : c.args.type_index < length t.least_types.items = omega (arith, c.requires.types, t.least_types.ok.0) in
    let is_signature = slice_get_read t.signatures.items (length t.signatures.items) c.in-Some-element.function c.index-signature.result.now refl in_signatures c.index-signature.ensures in
    let is_least = slice_get_read t.least_types.items (length t.least_types.items) c.args.type_index c.index.result.now refl in_types c.index.ensures in
    (c.in-Some-element.function, ap (slice_get c.args.self.now.table) (sym top) ∙ found, c.index-signature.result.now, is_signature, λ e. c.if-signature-index.true (some_same (sym e ∙ is_least)))

pub returns-clause-found : goal.returns-clause-found
returns-clause-found c =
    let t = c.args.guest.now.tables in
    let found : slice_get c.args.self.now.table c.operand-index.result ≡ Some (Some c.in-Some-element.function) = sym c.get.ensures ∙ c.in-Some.is ∙ ap Some c.in-Some-element.is in
    let top : c.operand-index.result ≡ slice_index (reverse c.args.self.now.values.items) 0 = c.operand-index.ensures ∙ ap (λ y. slice_index (reverse y) 0) c.deref.ensures.value in
    let there = c.requires.functions c.operand-index.result c.in-Some-element.function found in
    let in_signatures : c.in-Some-element.function < length t.signatures.items = omega (arith, there, t.signatures.ok.0) in
    let in_types : c.args.type_index < length t.least_types.items = omega (arith, c.requires.types, t.least_types.ok.0) in
    let is_signature = slice_get_read t.signatures.items (length t.signatures.items) c.in-Some-element.function c.index-signature.result.now refl in_signatures c.index-signature.ensures in
    let is_least = slice_get_read t.least_types.items (length t.least_types.items) c.args.type_index c.index.result.now refl in_types c.index.ensures in
    record {
      element = ap (slice_get c.args.self.now.table) (sym top) ∙ found;
      signature = c.index-signature.result.now;
      is_signature = is_signature;
      same = is_least ∙ ap Some (sym c.if-signature-index.false);
    }
