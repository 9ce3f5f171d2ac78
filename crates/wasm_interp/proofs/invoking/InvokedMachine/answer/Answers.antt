use Rattle.std.proofs.Common.{◌≡◌, ◌∙◌, ℕ, ◌≤◌, List, [], ◌∷◌, length, take, drop, reverse, Option, None, Some, refl, sym, ap, subst, arith}
use Rattle.std.specs.Prelude.{MatchOption}
use Rattle.std.specs.Arc.{arc_value}
use Rattle.std.specs.Option.{option_to_list}
use Rattle.wasm_syntax.specs.declared.instruction.ValueType.{ValueType}
use Rattle.wasm_syntax.specs.declared.module.FuncType.{FuncType}
use Rattle.wasm_syntax.specs.declared.module.Module.{Module}
use Rattle.wasm_places.specs.declared.tables.Prepared.{Prepared}
use Rattle.wasm_interp.specs.Invoking.{Fit, IsImportType}
use Rattle.wasm_interp.specs.internal.Invoking.{IsAnswered}
use Rattle.wasm_interp.proofs.PlainSteps.Invoking.{answered_invocable, answers_of, arguments_asked}
use Rattle.wasm_interp.proofs.PlainSteps.Refusing.{ask_once}
use Rattle.wasm_operands.specs.declared.phase.Ask.{Ask}
use Rattle.wasm_interp.proofs.invoking.InvokedMachine.answer.Goals as goal

-- a result, if there is one, as a list
listed : (o : Option ℕ) (xs : List ℕ) → MatchOption o (xs ≡ []) (λ x. xs ≡ x ∷ []) → xs ≡ option_to_list o
listed None xs e = e
listed (Some x) xs e = e

at_most_one : (o : Option ℕ) → length (option_to_list o) ≤ 1
at_most_one None = omega arith
at_most_one (Some x) = omega arith

pub answer-requires : goal.answer-requires
answer-requires c =
    let r : Prepared = arc_value c.self.inside.prepared in
    let f : FuncType = c.in-Some.func_type.now in
    let is_import : IsImportType r.valid c.in-Asking.ask.function f = subst (λ (m : Module). IsImportType m c.in-Asking.ask.function f) (c.module.ensures.value ∙ ap (λ (p : Prepared). p.valid) c.deref-prepared.ensures) c.in-Some.ensures.found in
    let can = c.self.invariant.answers c.in-Asking.ask c.in-Asking.is in
    record {
      arguments = omega (arith, arguments_asked r c.self.inside.state c.in-Asking.ask c.in-Asking.is f is_import c.self.invariant.live, ap length c.as_slice-params.ensures);
      room = can.1;
      fits = can.0;
      next_pc = can.2;
    }

pub invariant_of-self : goal.invariant_of-self
invariant_of-self c =
    let r : Prepared = arc_value c.self.inside.prepared in
    let f : FuncType = c.in-Some.func_type.now in
    let ns : List ℕ = option_to_list c.args.value in
    let is_import : IsImportType r.valid c.in-Asking.ask.function f = subst (λ (m : Module). IsImportType m c.in-Asking.ask.function f) (c.module.ensures.value ∙ ap (λ (p : Prepared). p.valid) c.deref-prepared.ensures) c.in-Some.ensures.found in
    let fits : Fit f.results ns = subst (λ (xs : List ℕ). Fit f.results xs) (listed c.args.value _ c.as_slice-given.ensures) (subst (λ (ts : List ValueType). Fit ts c.as_slice-given.result.now) c.as_slice-results.ensures c.if-not-fit.ensures.yes) in
    let count : length c.as_slice-params.result.now ≡ length f.params = ap length c.as_slice-params.ensures in
    let e : IsAnswered c.self.inside.state c.answer.new.self c.in-Asking.ask.above (length f.params) ns = subst (λ (n : ℕ). IsAnswered c.self.inside.state c.answer.new.self c.in-Asking.ask.above n ns) count c.answer.ensures in
    answered_invocable r c.self.inside.state c.answer.new.self c.in-Asking.ask c.in-Asking.is f is_import ns fits e c.self.invariant (at_most_one c.args.value)

pub returns-clause-answered : goal.returns-clause-answered
returns-clause-answered c =
    let r : Prepared = arc_value c.self.inside.prepared in
    let f : FuncType = c.in-Some.func_type.now in
    let ns : List ℕ = option_to_list c.args.value in
    let is_import : IsImportType r.valid c.in-Asking.ask.function f = subst (λ (m : Module). IsImportType m c.in-Asking.ask.function f) (c.module.ensures.value ∙ ap (λ (p : Prepared). p.valid) c.deref-prepared.ensures) c.in-Some.ensures.found in
    let fits : Fit f.results ns = subst (λ (xs : List ℕ). Fit f.results xs) (listed c.args.value _ c.as_slice-given.ensures) (subst (λ (ts : List ValueType). Fit ts c.as_slice-given.result.now) c.as_slice-results.ensures c.if-not-fit.ensures.yes) in
    let count : length c.as_slice-params.result.now ≡ length f.params = ap length c.as_slice-params.ensures in
    let e : IsAnswered c.self.inside.state c.answer.new.self c.in-Asking.ask.above (length f.params) ns = subst (λ (n : ℕ). IsAnswered c.self.inside.state c.answer.new.self c.in-Asking.ask.above n ns) count c.answer.ensures in
    rw (← c.self.view_is) (answers_of r c.self.inside.state c.answer.new.self c.in-Asking.ask c.in-Asking.is f is_import ns fits e c.self.invariant (at_most_one c.args.value))

-- the embedder isn't asked
pub returns-in_default-clause-refused : goal.returns-in_default-clause-refused
returns-in_default-clause-refused c = rw (← c.self.view_is) (refl, λ k. c.in_default.not-Asking _ k.3.asks)

pub returns-in_default-import_type-clause-refused : goal.returns-in_default-import_type-clause-refused
returns-in_default-import_type-clause-refused c =
    let r : Prepared = arc_value c.self.inside.prepared in
    let same = c.module.ensures.value ∙ ap (λ (p : Prepared). p.valid) c.deref-prepared.ensures in
    rw (← c.self.view_is) (
      refl,
      λ k.
          let here : IsImportType r.valid c.in-Asking.ask.function k.1 = subst (λ (a : Ask). IsImportType r.valid a.function k.1) (ask_once _ c.in-Asking.ask (sym k.3.asks ∙ c.in-Asking.is)) k.3.is_import in
          c.in_default-import_type.ensures.missing k.1 (subst (λ (m : Module). IsImportType m c.in-Asking.ask.function k.1) (sym same) here),
    )

pub returns-then-not-fit-clause-refused : goal.returns-then-not-fit-clause-refused
returns-then-not-fit-clause-refused c =
    let r : Prepared = arc_value c.self.inside.prepared in
    let f : FuncType = c.in-Some.func_type.now in
    let ns : List ℕ = option_to_list c.args.value in
    let is_import : IsImportType r.valid c.in-Asking.ask.function f = subst (λ (m : Module). IsImportType m c.in-Asking.ask.function f) (c.module.ensures.value ∙ ap (λ (p : Prepared). p.valid) c.deref-prepared.ensures) c.in-Some.ensures.found in
    let above : ℕ = c.in-Asking.ask.above in
    let arguments : List ℕ = take (length f.params) (drop above (reverse c.self.inside.state.values.items)) in
    rw (← c.self.view_is) (
      refl,
      (
        c.in-Asking.ask.function,
        f,
        arguments,
        record { above = above; asks = c.in-Asking.is; is_import = is_import; arguments_are = refl },
        λ k. c.if-not-fit.ensures.no (subst (λ (xs : List ℕ). Fit c.as_slice-results.result.now xs) (sym (listed c.args.value _ c.as_slice-given.ensures)) (subst (λ (ts : List ValueType). Fit ts ns) (sym c.as_slice-results.ensures) k)),
      ),
    )
