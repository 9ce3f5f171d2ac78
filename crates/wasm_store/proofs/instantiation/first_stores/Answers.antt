use Rattle.std.proofs.Common.{◌≡◌, ◌*◌, ℕ, None, replicate, sym, ap, subst, ◌∙◌}
use Rattle.wasm_store.specs.NotStarting.{ElementsOutside, DataOutside}
use Rattle.wasm_store.specs.Instantiation.{minimum, ElementsInside, DataInside, with_elements, with_data}
use Rattle.wasm_store.proofs.instantiation.first_stores.Goals as goal

pub first_memory-requires : goal.first_memory-requires
first_memory-requires c =
    record { inside = λ vs n. c.if-not-data_fits.ensures.inside vs (n ∙ c.as_slice-4.ensures ∙ sym c.as_slice-3.ensures) }

pub first_table-requires : goal.first_table-requires
first_table-requires c =
    record { inside = λ vs n. c.if-not-elements_fit.ensures.inside vs (n ∙ c.as_slice-5.ensures ∙ sym c.as_slice-2.ensures) }

pub returns-then-not-elements_fit : goal.returns-then-not-elements_fit
returns-then-not-elements_fit c = record {
  stored = tt;
  refused = let m = c.args.guest.now in
      let first = c.in_ok-globals.ensures in
      let size : c.minimum-table_size.result ≡ minimum m.tables = c.minimum-table_size.ensures ∙ ap minimum c.as_slice.ensures in
      let outside = c.if-not-elements_fit.ensures.outside first.values (first.numbers_are ∙ sym c.as_slice-2.ensures) in
      (first.values, first.are_first, subst (λ (k : ℕ). ElementsOutside first.values k m.element_segments) size outside);
}

pub returns-then-not-data_fits : goal.returns-then-not-data_fits
returns-then-not-data_fits c = record {
  stored = tt;
  refused = let m = c.args.guest.now in
      let first = c.in_ok-globals.ensures in
      let size : c.minimum-table_size.result ≡ minimum m.tables = c.minimum-table_size.ensures ∙ ap minimum c.as_slice.ensures in
      let inside = c.if-not-elements_fit.ensures.inside first.values (first.numbers_are ∙ sym c.as_slice-2.ensures) in
      let outside = c.if-not-data_fits.ensures.outside first.values (first.numbers_are ∙ sym c.as_slice-3.ensures) in (
        first.values,
        first.are_first,
        subst (λ (k : ℕ). ElementsInside first.values k m.element_segments) size inside,
        subst (λ (k : ℕ). DataOutside first.values (k * 65536) m.data_segments) c.requires.initial outside,
      );
}

pub returns : goal.returns
returns c = record {
  stored = let m = c.args.guest.now in
      let size : c.minimum-table_size.result ≡ minimum m.tables = c.minimum-table_size.ensures ∙ ap minimum c.as_slice.ensures in
      record {
        first = c.in_ok-globals.ensures;
        elements_inside = λ vs n. subst (λ (k : ℕ). ElementsInside vs k m.element_segments) size (c.if-not-elements_fit.ensures.inside vs (n ∙ sym c.as_slice-2.ensures));
        data_inside = λ vs n. subst (λ (k : ℕ). DataInside vs (k * 65536) m.data_segments) c.requires.initial (c.if-not-data_fits.ensures.inside vs (n ∙ sym c.as_slice-3.ensures));
        memory_is = λ vs n. subst (λ (k : ℕ). c.in_ok-memory.memory ≡ with_data vs (replicate (k * 65536) 0) m.data_segments) c.requires.initial (c.in_ok-memory.ensures vs (n ∙ sym c.as_slice-4.ensures));
        table_is = λ vs n. subst (λ (k : ℕ). c.in_ok-table.table ≡ with_elements vs (replicate k None) m.element_segments) size (c.in_ok-table.ensures vs (n ∙ sym c.as_slice-5.ensures));
      };
  refused = tt;
}
