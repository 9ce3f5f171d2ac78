use Rattle.std.proofs.Common.{◌≤◌, ◌∙◌, List, length, ap, refl, sym, subst, arith}
use Rattle.std.specs.Arc.{arc_value}
use Rattle.wasm_syntax.specs.declared.instruction.ValueType.{ValueType}
use Rattle.wasm_syntax.specs.declared.module.FuncType.{FuncType}
use Rattle.wasm_syntax.specs.declared.module.Module.{Module}
use Rattle.wasm_places.specs.declared.tables.Prepared.{Prepared}
use Rattle.wasm_interp.specs.Invoking.{Fit, IsOwnType}
use Rattle.wasm_interp.proofs.PlainSteps.Invoking.{entered_invocable, invokes}
use Rattle.wasm_interp.proofs.PlainSteps.Refusing.{own_once}
use Rattle.wasm_interp.proofs.invoking.InvokedMachine.invoke.Goals as goal

pub invariant_of-self : goal.invariant_of-self
invariant_of-self c =
    let r : Prepared = arc_value c.self.inside.prepared in
    let f : FuncType = c.in-Some.func_type.now in
    let own : IsOwnType r.valid c.args.function f = subst (λ (m : Module). IsOwnType m c.args.function f) (c.module.ensures.value ∙ ap (λ (p : Prepared). p.valid) c.deref-prepared.ensures) c.in-Some.ensures.found in
    let fits : Fit f.params c.args.arguments.now = subst (λ (ts : List ValueType). Fit ts c.args.arguments.now) c.as_slice-params.ensures c.if-not-fit.ensures.yes in
    let few : length c.args.arguments.now ≤ 16 = omega (arith, fits.count, ap length c.as_slice-params.ensures, c.if-params-gt-MOST_ARGUMENTS.false) in
    entered_invocable r c.self.inside.state c.enter.new.self c.args.function c.args.arguments.now f own fits c.enter.ensures c.self.invariant few

pub returns-clause-invoked : goal.returns-clause-invoked
returns-clause-invoked c =
    let r : Prepared = arc_value c.self.inside.prepared in
    let f : FuncType = c.in-Some.func_type.now in
    let own : IsOwnType r.valid c.args.function f = subst (λ (m : Module). IsOwnType m c.args.function f) (c.module.ensures.value ∙ ap (λ (p : Prepared). p.valid) c.deref-prepared.ensures) c.in-Some.ensures.found in
    let fits : Fit f.params c.args.arguments.now = subst (λ (ts : List ValueType). Fit ts c.args.arguments.now) c.as_slice-params.ensures c.if-not-fit.ensures.yes in
    let few : length c.args.arguments.now ≤ 16 = omega (arith, fits.count, ap length c.as_slice-params.ensures, c.if-params-gt-MOST_ARGUMENTS.false) in
    rw (← c.self.view_is) (invokes r c.self.inside.state c.enter.new.self c.args.function c.args.arguments.now f own fits c.enter.ensures c.self.invariant few)

-- none of the module's own has this number
pub returns-in_default-clause-refused : goal.returns-in_default-clause-refused
returns-in_default-clause-refused c =
    let same = c.module.ensures.value ∙ ap (λ (p : Prepared). p.valid) c.deref-prepared.ensures in
    rw (← c.self.view_is) (refl, λ f k few. c.in_default.ensures.missing f (subst (λ (m : Module). IsOwnType m c.args.function f) (sym same) k))

-- or it takes too many arguments
pub returns-then-params-gt-MOST_ARGUMENTS-clause-refused : goal.returns-then-params-gt-MOST_ARGUMENTS-clause-refused
returns-then-params-gt-MOST_ARGUMENTS-clause-refused c =
    let r : Prepared = arc_value c.self.inside.prepared in
    let f : FuncType = c.in-Some.func_type.now in
    let own : IsOwnType r.valid c.args.function f = subst (λ (m : Module). IsOwnType m c.args.function f) (c.module.ensures.value ∙ ap (λ (p : Prepared). p.valid) c.deref-prepared.ensures) c.in-Some.ensures.found in
    rw (← c.self.view_is) (refl, λ g k few. omega (arith, few, ap length c.as_slice-params.ensures, ap (λ (h : FuncType). length h.params) (own_once r.valid c.args.function f g own k), c.if-params-gt-MOST_ARGUMENTS.true))

pub returns-then-not-fit-clause-refused : goal.returns-then-not-fit-clause-refused
returns-then-not-fit-clause-refused c =
    let r : Prepared = arc_value c.self.inside.prepared in
    let f : FuncType = c.in-Some.func_type.now in
    let own : IsOwnType r.valid c.args.function f = subst (λ (m : Module). IsOwnType m c.args.function f) (c.module.ensures.value ∙ ap (λ (p : Prepared). p.valid) c.deref-prepared.ensures) c.in-Some.ensures.found in
    rw (← c.self.view_is) (refl, (f, own, λ k. c.if-not-fit.ensures.no (subst (λ (ts : List ValueType). Fit ts c.args.arguments.now) (sym c.as_slice-params.ensures) k)))
