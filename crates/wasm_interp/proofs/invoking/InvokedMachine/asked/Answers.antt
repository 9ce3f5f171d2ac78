use Rattle.std.proofs.Common.{◌∙◌, ℕ, List, length, reverse, take, drop, ap, sym, subst, arith}
use Rattle.std.specs.Arc.{arc_value}
use Rattle.wasm_syntax.specs.declared.module.FuncType.{FuncType}
use Rattle.wasm_syntax.specs.declared.module.Module.{Module}
use Rattle.wasm_places.specs.declared.tables.Prepared.{Prepared}
use Rattle.wasm_interp.specs.Invoking.{IsImportType}
use Rattle.wasm_interp.proofs.PlainSteps.Invoking.{arguments_asked}
use Rattle.wasm_operands.specs.declared.phase.Ask.{Ask}
use Rattle.wasm_interp.proofs.PlainSteps.Refusing.{ask_once}
use Rattle.wasm_interp.proofs.invoking.InvokedMachine.asked.Goals as goal

pub below-requires : goal.below-requires
below-requires c =
    let r : Prepared = arc_value c.self.inside.prepared in
    let f : FuncType = c.in-Some.func_type.now in
    let is_import : IsImportType r.valid c.in-Asking.ask.function f = subst (λ (m : Module). IsImportType m c.in-Asking.ask.function f) (c.module.ensures.value ∙ ap (λ (p : Prepared). p.valid) c.deref-prepared.ensures) c.in-Some.ensures.found in
    omega (
      arith,
      arguments_asked r c.self.inside.state c.in-Asking.ask c.in-Asking.is f is_import c.self.invariant.live,
      ap length c.as_slice-params.ensures,
      c.as_slice-values.ensures.len,
      c.self.inside.state.values.ok.0,
    )

pub returns-clause-asked : goal.returns-clause-asked
returns-clause-asked c =
    let r : Prepared = arc_value c.self.inside.prepared in
    let f : FuncType = c.in-Some.func_type.now in
    let is_import : IsImportType r.valid c.in-Asking.ask.function f = subst (λ (m : Module). IsImportType m c.in-Asking.ask.function f) (c.module.ensures.value ∙ ap (λ (p : Prepared). p.valid) c.deref-prepared.ensures) c.in-Some.ensures.found in
    let above : ℕ = c.in-Asking.ask.above in
    rw (← c.self.view_is) (
      f,
      record {
        above = above;
        asks = c.in-Asking.is;
        is_import = is_import;
        arguments_are = c.below.ensures ∙ ap (λ (xs : List ℕ). take (length c.as_slice-params.result.now) (drop above (reverse xs))) c.as_slice-values.ensures.value ∙ ap (λ (n : ℕ). take n (drop above (reverse c.self.inside.state.values.items))) (ap length c.as_slice-params.ensures);
      },
    )

-- nobody is asked
pub returns-in_default-clause-not : goal.returns-in_default-clause-not
returns-in_default-clause-not c = rw (← c.self.view_is) (λ k. c.in_default.not-Asking _ k.3.asks)

pub returns-in_default-import_type-clause-not : goal.returns-in_default-import_type-clause-not
returns-in_default-import_type-clause-not c =
    let r : Prepared = arc_value c.self.inside.prepared in
    let same = c.module.ensures.value ∙ ap (λ (p : Prepared). p.valid) c.deref-prepared.ensures in
    rw (← c.self.view_is) (λ k.
    let here : IsImportType r.valid c.in-Asking.ask.function k.1 = subst (λ (a : Ask). IsImportType r.valid a.function k.1) (ask_once _ c.in-Asking.ask (sym k.3.asks ∙ c.in-Asking.is)) k.3.is_import in
    c.in_default-import_type.ensures.missing k.1 (subst (λ (m : Module). IsImportType m c.in-Asking.ask.function k.1) (sym same) here))
