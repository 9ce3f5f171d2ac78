use Rattle.std.proofs.Common.{◌≡◌, ◌∙◌, ℕ, suc, ◌+◌, List, length, reverse, take, drop, refl, ap, sym, subst, inr, arith}
use Rattle.std.proofs.lemmas.List.{reverse-reverse}
use Rattle.std.specs.Arc.{arc_value}
use Rattle.wasm_syntax.specs.declared.module.FuncType.{FuncType}
use Rattle.wasm_syntax.specs.declared.module.Module.{Module}
use Rattle.wasm_places.specs.declared.tables.Prepared.{Prepared}
use Rattle.wasm_operands.specs.declared.phase.Ask.{Ask}
use Rattle.wasm_interp.specs.declared.state.State.{State}
use Rattle.wasm_interp.specs.Invoking.{IsImportType}
use Rattle.wasm_interp.proofs.PlainSteps.Invoking.{arguments_asked, is_written, written_invocable}
use Rattle.wasm_interp.proofs.PlainSteps.Refusing.{ask_once}
use Rattle.wasm_interp.proofs.invoking.InvokedMachine.offer.Goals as goal

pub below-arguments-requires : goal.below-arguments-requires
below-arguments-requires g c =
    let r : Prepared = arc_value c.self.inside.prepared in
    let f : FuncType = c.in-Some.func_type.now in
    let is_import : IsImportType r.valid c.in-Asking.ask.function f = subst (λ (m : Module). IsImportType m c.in-Asking.ask.function f) (c.module.ensures.value ∙ ap (λ (p : Prepared). p.valid) c.deref-prepared.ensures) c.in-Some.ensures.found in
    omega (
      arith,
      arguments_asked r c.self.inside.state c.in-Asking.ask c.in-Asking.is f is_import c.self.invariant.live,
      ap length c.as_slice-params.ensures,
      c.as_slice-values.ensures.len,
      c.self.inside.state.values.ok.0,
    )

-- the call has its unit
pub overflow_add-used : goal.overflow_add-used
overflow_add-used g c = omega (arith, (c.self.invariant.answers c.in-Asking.ask c.in-Asking.is).0)

pub invariant_of-self : goal.invariant_of-self
invariant_of-self g c =
    let old : State = c.self.inside.state in
    let new : State = record old { memory = c.call.new.memory } in
    written_invocable (arc_value c.self.inside.prepared) old new c.call.new.memory (inr (c.in-Asking.ask, c.in-Asking.is)) refl refl c.self.invariant

pub returns-clause-offered : goal.returns-clause-offered
returns-clause-offered g c =
    let r : Prepared = arc_value c.self.inside.prepared in
    let f : FuncType = c.in-Some.func_type.now in
    let is_import : IsImportType r.valid c.in-Asking.ask.function f = subst (λ (m : Module). IsImportType m c.in-Asking.ask.function f) (c.module.ensures.value ∙ ap (λ (p : Prepared). p.valid) c.deref-prepared.ensures) c.in-Some.ensures.found in
    let above : ℕ = c.in-Asking.ask.above in
    let old : State = c.self.inside.state in
    let new : State = record old { memory = c.call.new.memory } in
    let one : old.used + 1 ≡ suc old.used = omega arith in
    let told = subst (λ (n : ℕ). g.H.Host.calls c.args.host.now old.memory n c.args.call c.below-arguments.result.now c.call.new.self c.call.new.memory c.call.result) one c.call.ensures in
    rw (← c.self.view_is) (record {
      function = c.in-Asking.ask.function;
      func_type = f;
      arguments = reverse c.below-arguments.result.now;
      asked_for = record {
        above = above;
        asks = c.in-Asking.is;
        is_import = is_import;
        arguments_are = c.below-arguments.ensures ∙ ap (λ (xs : List ℕ). take (length c.as_slice-params.result.now) (drop above (reverse xs))) c.as_slice-values.ensures.value ∙ ap (λ (n : ℕ). take n (drop above (reverse old.values.items))) (ap length c.as_slice-params.ensures);
      };
      memory = c.call.new.memory;
      answered = rw (reverse-reverse c.below-arguments.result.now) told;
      left = is_written r old new c.call.new.memory (inr (c.in-Asking.ask, c.in-Asking.is)) refl refl c.self.invariant;
    })

-- nobody is asked
pub returns-in_default-clause-not : goal.returns-in_default-clause-not
returns-in_default-clause-not g c = rw (← c.self.view_is) (refl, refl, λ k. c.in_default.not-Asking _ k.3.asks)

pub returns-in_default-import_type-clause-not : goal.returns-in_default-import_type-clause-not
returns-in_default-import_type-clause-not g c =
    let r : Prepared = arc_value c.self.inside.prepared in
    let same = c.module.ensures.value ∙ ap (λ (p : Prepared). p.valid) c.deref-prepared.ensures in
    rw (← c.self.view_is) (
      refl,
      refl,
      λ k.
          let here : IsImportType r.valid c.in-Asking.ask.function k.1 = subst (λ (a : Ask). IsImportType r.valid a.function k.1) (ask_once _ c.in-Asking.ask (sym k.3.asks ∙ c.in-Asking.is)) k.3.is_import in
          c.in_default-import_type.ensures.missing k.1 (subst (λ (m : Module). IsImportType m c.in-Asking.ask.function k.1) (sym same) here),
    )
