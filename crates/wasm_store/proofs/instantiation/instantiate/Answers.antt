use Rattle.std.proofs.Common.{◌≤◌, ℕ, IfErr, refl, sym, ap, subst, ◌∙◌}
use Rattle.wasm_syntax.specs.declared.module.Module.{Module}
use Rattle.wasm_valid.specs.Validity.{IsValid}
use Rattle.wasm_store.specs.declared.instantiation.Instantiated.{Instantiated}
use Rattle.wasm_store.specs.NotStarting.{RefusedFor}
use Rattle.wasm_store.specs.Instantiation.{minimum, page_limit}
use Rattle.wasm_store.specs.Instantiating.{IsInstantiated}
use Rattle.wasm_store.proofs.Functions.{imports_functions}
use Rattle.wasm_store.specs.Allocating.{all_by_host}
use Rattle.wasm_store.proofs.Imports.{by_host_linked}
use Rattle.wasm_store.proofs.Whole.{made, not_linked, not_stored, past_the_limit, none_made}
use Rattle.wasm_store.proofs.instantiation.instantiate.Goals as goal

pub link-requires : goal.link-requires
link-requires g c = subst IsValid (sym c.module-guest.ensures.value) c.module-guest.ensures.valid

pub exported_function-requires : goal.exported_function-requires
exported_function-requires g c = record {
  valid = subst IsValid (sym c.module-guest.ensures.value) c.module-guest.ensures.valid;
  functions = let f = c.in_ok-calls.ensures.found in
      imports_functions (all_by_host (g.H.Host.links c.args.host.now)) c.module-guest.result.now f.linked f.are_linked;
}

pub first_stores-requires : goal.first_stores-requires
first_stores-requires g c = record {
  valid = subst IsValid (sym c.module-guest.ensures.value) c.module-guest.ensures.valid;
  functions = let f = c.in_ok-calls.ensures.found in
      imports_functions (all_by_host (g.H.Host.links c.args.host.now)) c.module-guest.result.now f.linked f.are_linked;
  initial = c.in_ok-initial_pages.ensures.within.0;
}

pub returns-in_err-initial_pages : goal.returns-in_err-initial_pages
returns-in_err-initial_pages g c =
    let links = g.H.Host.links c.args.host.now in
    let m = c.module-guest.result.now in
    let f = c.in_ok-calls.ensures.found in
    let r = c.from_residual-in_err-initial_pages.result in
    let e = c.in_err-initial_pages.field-0.0 in
    let is = c.from_residual-in_err-initial_pages.ensures.1 in
    let past = c.in_err-initial_pages.ensures.refused in
    record {
      instantiated = none_made (IsInstantiated links c.args.pages c.args.valid.now) r e is;
      refused = subst (λ (y : Module). IfErr r (λ d. RefusedFor links c.args.pages y d)) c.module-guest.ensures.value (past_the_limit links c.args.pages m r e is ((f.linked, by_host_linked _ _ _ _ _ f.are_linked), (c.in-Some.main, c.in-Some.ensures.found)) past.0 past.1);
    }

pub returns-in_default : goal.returns-in_default
returns-in_default g c = record {
  instantiated = tt;
  refused = let f = c.in_ok-calls.ensures.found in
      rw (← c.module-guest.ensures.value) ((f.linked, by_host_linked _ _ _ _ _ f.are_linked), c.in_default.ensures.missing);
}

pub returns-in_err-calls : goal.returns-in_err-calls
returns-in_err-calls g c =
    let links = g.H.Host.links c.args.host.now in
    let m = c.module-guest.result.now in
    let r = c.from_residual.result in
    let e = c.in_err-calls.field-0.0 in
    let is = c.from_residual.ensures.1 in
    record {
      instantiated = none_made (IsInstantiated links c.args.pages c.args.valid.now) r e is;
      refused = subst (λ (y : Module). IfErr r (λ d. RefusedFor links c.args.pages y d)) c.module-guest.ensures.value (not_linked links c.args.pages m r e is c.in_err-calls.ensures.missing);
    }

pub returns-in_err-stores : goal.returns-in_err-stores
returns-in_err-stores g c =
    let links = g.H.Host.links c.args.host.now in
    let m = c.module-guest.result.now in
    let f = c.in_ok-calls.ensures.found in
    let r = c.from_residual-in_err-stores.result in
    let e = c.in_err-stores.field-0.0 in
    let is = c.from_residual-in_err-stores.ensures.1 in
    let within : minimum m.memories ≤ c.args.pages = subst (λ (k : ℕ). k ≤ c.args.pages) c.in_ok-initial_pages.ensures.within.0 c.in_ok-initial_pages.ensures.within.1 in
    let refused = not_stored links c.args.pages m r e is ((f.linked, by_host_linked _ _ _ _ _ f.are_linked), (c.in-Some.main, c.in-Some.ensures.found)) within c.in_err-stores.ensures.refused in
    record {
      instantiated = none_made (IsInstantiated links c.args.pages c.args.valid.now) r e is;
      refused = subst (λ (y : Module). IfErr r (λ d. RefusedFor links c.args.pages y d)) c.module-guest.ensures.value refused;
    }

pub returns : goal.returns
returns g c = record {
  instantiated = let links = g.H.Host.links c.args.host.now in
      let same = c.module-guest.ensures.value in
      let m = c.module-guest.result.now in
      let stored = c.in_ok-stores.ensures.stored in
      let within : minimum m.memories ≤ c.args.pages = subst (λ (k : ℕ). k ≤ c.args.pages) c.in_ok-initial_pages.ensures.within.0 c.in_ok-initial_pages.ensures.within.1 in
      let instance : Instantiated = record {
        calls = c.in_ok-calls.calls;
        memory = c.in_ok-stores.stores.memory;
        page_limit = c.page_limit.result;
        table = c.in_ok-stores.stores.table;
        globals = c.in_ok-stores.stores.globals;
        start = m.start;
        main = c.in-Some.main;
      } in
      subst (λ (y : Module). IsInstantiated links c.args.pages y instance) same (made links c.args.pages m instance (subst IsValid (sym same) c.module-guest.ensures.valid) (record {
        found = c.in_ok-calls.ensures.found;
        is_start = c.in-Some.ensures.found;
        within_limit = within;
        first = stored.first;
        elements_inside = stored.elements_inside;
        data_inside = stored.data_inside;
        limit = c.page_limit.ensures ∙ ap (page_limit c.args.pages) c.as_slice.ensures;
        table = stored.table_is;
        memory = stored.memory_is;
        start = refl;
      }));
  refused = tt;
}
