use Rattle.std.proofs.Common.{◌≤◌, ℕ, List, IfErr, refl, sym, ap, subst, ◌∙◌}
use Rattle.std.specs.Prelude.{slice_get}
use Rattle.wasm_syntax.specs.declared.module.Module.{Module}
use Rattle.wasm_valid.specs.Validity.{IsValid}
use Rattle.wasm_store.specs.declared.instantiation.Allocated.{Allocated}
use Rattle.wasm_store.specs.Instantiation.{minimum, page_limit}
use Rattle.wasm_store.specs.Allocation.{with_embedder}
use Rattle.wasm_store.specs.Allocating.{IsAllocated, NotAllocated}
use Rattle.wasm_store.proofs.Functions.{imports_functions}
use Rattle.wasm_store.specs.declared.linked.Linked.{Linked}
use Rattle.wasm_store.specs.declared.fault.InstanceFault.TheVariants as faults
use Rattle.wasm_store.proofs.Whole.{allocated, entered_first, enters_embedders, initializer_of, some_unanswered, not_placed, too_many_pages, none_made}
use Rattle.wasm_store.proofs.instantiation.allocate.Goals as goal

pub link-requires : goal.link-requires
link-requires g c = subst IsValid (sym c.module-guest.ensures.value) c.module-guest.ensures.valid

pub first_stores-requires : goal.first_stores-requires
first_stores-requires g c = record {
  valid = subst IsValid (sym c.module-guest.ensures.value) c.module-guest.ensures.valid;
  functions = let f = c.in_ok-calls.ensures.found in
      imports_functions (with_embedder (g.H.Host.links c.args.host.now) c.args.reserved.now) c.module-guest.result.now f.linked f.are_linked;
  initial = c.in_ok-initial_pages.ensures.within.0;
}

pub exported_function-initializer-requires : goal.exported_function-initializer-requires
exported_function-initializer-requires g c = record {
  valid = subst IsValid (sym c.module-guest.ensures.value) c.module-guest.ensures.valid;
  functions = let f = c.in_ok-calls.ensures.found in
      imports_functions (with_embedder (g.H.Host.links c.args.host.now) c.args.reserved.now) c.module-guest.result.now f.linked f.are_linked;
}

pub returns-in_err-calls : goal.returns-in_err-calls
returns-in_err-calls g c =
    let links = with_embedder (g.H.Host.links c.args.host.now) c.args.reserved.now in
    let m = c.module-guest.result.now in
    let r = c.from_residual.result in
    let e = c.in_err-calls.field-0.0 in
    let is = c.from_residual.ensures.1 in
    record {
      allocated = none_made (IsAllocated links c.args.pages c.args.valid.now) r e is;
      refused = subst (λ (y : Module). IfErr r (λ d. NotAllocated links c.args.pages y d)) c.module-guest.ensures.value (some_unanswered links c.args.pages m r e is c.in_err-calls.ensures.missing);
    }

pub returns-then-enters_embedders : goal.returns-then-enters_embedders
returns-then-enters_embedders g c = record {
  allocated = tt;
  refused = let m = c.module-guest.result.now in
      let links = with_embedder (g.H.Host.links c.args.host.now) c.args.reserved.now in
      let y = c.if-enters_embedders.ensures.yes in
      let first = entered_first m m.start c.exported_function-initializer.result y.0 refl c.exported_function-initializer.ensures.found y.2 in
      subst (λ (z : Module). NotAllocated links c.args.pages z faults.Import) c.module-guest.ensures.value
      (enters_embedders links c.args.pages m c.in_ok-calls.calls.items y.0 y.1 c.in_ok-calls.ensures.found first (ap (λ (zs : List Linked). slice_get zs y.0) (sym c.as_slice.ensures.value) ∙ y.3));
}

pub returns-in_err-initial_pages : goal.returns-in_err-initial_pages
returns-in_err-initial_pages g c =
    let links = with_embedder (g.H.Host.links c.args.host.now) c.args.reserved.now in
    let m = c.module-guest.result.now in
    let f = c.in_ok-calls.ensures.found in
    let r = c.from_residual-in_err-initial_pages.result in
    let e = c.in_err-initial_pages.field-0.0 in
    let is = c.from_residual-in_err-initial_pages.ensures.1 in
    let past = c.in_err-initial_pages.ensures.refused in
    record {
      allocated = none_made (IsAllocated links c.args.pages c.args.valid.now) r e is;
      refused = subst (λ (y : Module). IfErr r (λ d. NotAllocated links c.args.pages y d)) c.module-guest.ensures.value (too_many_pages links c.args.pages m r e is (f.linked, f.are_linked) past.0 past.1);
    }

pub returns-in_err-stores : goal.returns-in_err-stores
returns-in_err-stores g c =
    let links = with_embedder (g.H.Host.links c.args.host.now) c.args.reserved.now in
    let m = c.module-guest.result.now in
    let f = c.in_ok-calls.ensures.found in
    let r = c.from_residual-in_err-stores.result in
    let e = c.in_err-stores.field-0.0 in
    let is = c.from_residual-in_err-stores.ensures.1 in
    let within : minimum m.memories ≤ c.args.pages = subst (λ (k : ℕ). k ≤ c.args.pages) c.in_ok-initial_pages.ensures.within.0 c.in_ok-initial_pages.ensures.within.1 in
    let refused = not_placed links c.args.pages m r e is (f.linked, f.are_linked) within c.in_err-stores.ensures.refused in
    record {
      allocated = none_made (IsAllocated links c.args.pages c.args.valid.now) r e is;
      refused = subst (λ (y : Module). IfErr r (λ d. NotAllocated links c.args.pages y d)) c.module-guest.ensures.value refused;
    }

pub returns : goal.returns
returns g c = record {
  allocated = let links = with_embedder (g.H.Host.links c.args.host.now) c.args.reserved.now in
      let same = c.module-guest.ensures.value in
      let m = c.module-guest.result.now in
      let stored = c.in_ok-stores.ensures.stored in
      let within : minimum m.memories ≤ c.args.pages = subst (λ (k : ℕ). k ≤ c.args.pages) c.in_ok-initial_pages.ensures.within.0 c.in_ok-initial_pages.ensures.within.1 in
      let made : Allocated = record {
        calls = c.in_ok-calls.calls;
        memory = c.in_ok-stores.stores.memory;
        page_limit = c.page_limit.result;
        table = c.in_ok-stores.stores.table;
        globals = c.in_ok-stores.stores.globals;
        start = m.start;
        initializer = c.exported_function-initializer.result;
      } in
      subst (λ (y : Module). IsAllocated links c.args.pages y made) same (allocated links c.args.pages m made (subst IsValid (sym same) c.module-guest.ensures.valid) (record {
        found = c.in_ok-calls.ensures.found;
        within_limit = within;
        first = stored.first;
        elements_inside = stored.elements_inside;
        data_inside = stored.data_inside;
        limit = c.page_limit.ensures ∙ ap (page_limit c.args.pages) c.as_slice-2.ensures;
        table = stored.table_is;
        memory = stored.memory_is;
        start = refl;
        initializer = initializer_of m c.exported_function-initializer.result c.exported_function-initializer.ensures.found c.exported_function-initializer.ensures.missing;
        enters = λ x k first e. c.if-enters_embedders.ensures.no x k first (ap (λ (zs : List Linked). slice_get zs x) c.as_slice.ensures.value ∙ e);
      }));
  refused = tt;
}
