-- What an embedder does while nothing goes on leads from one configuration to one alone.
use Rattle.std.proofs.Common.{◌≡◌, ℕ, List, [], ◌++◌, length, drop, Some, slice_get, refl, sym, ◌∙◌, ap, subst}
use Rattle.std.specs.Prelude.{Contains}
use Rattle.std.proofs.Math.Seq.{drop-append_seam}
use Rattle.std.proofs.lemmas.Option.{same_Some}
use Rattle.wasm_syntax.specs.declared.module.ExportKind.TheVariants as exports
use Rattle.wasm_syntax.specs.declared.module.Export.{Export}
use Rattle.wasm_syntax.specs.declared.module.FuncType.{FuncType}
use Rattle.wasm_syntax.specs.declared.module.Module.{Module}
use Rattle.wasm_valid.specs.Validity.{IsValid}
use Rattle.wasm_store.specs.Instances.{outside, signature_of}
use Rattle.wasm_steps.specs.Configuration.{Val, numbers, Instance, Code, code, Configuration, at, code_of, store_of}
use Rattle.wasm_steps.specs.Steps.{tick}
use Rattle.plugin_steps.specs.Serving.{Exchange, ServeStep}
use Rattle.plugin_steps.specs.Serving as serving
use Rattle.wasm_interp.specs.Invocations.{AnswersAt, invocation_over, values_of}
use Rattle.plugin_core.specs.Handling.{Act, abandoned, answered, invoked, wrote}
use Rattle.same_run.proofs.Branching.{kept_of}
use Rattle.same_run.proofs.Moving.{in_a_label, in_a_frame}
use Rattle.same_run.proofs.OneStart.{one_place}
use Rattle.same_instance.specs.Turns.{Action, go, answer, write, invoke, abandon, ChangesBy}
use Rattle.same_instance.proofs.Halting.{asks_once}

-- ---- exports

pub exported_once : (m : Module) → IsValid m → (name : List ℕ) (x y : ℕ) → Contains m.exports (record { name = name; kind = exports.Function x }) → Contains m.exports (record { name = name; kind = exports.Function y }) → x ≡ y
exported_once m valid name x y s t =
    let same = one_place m.exports valid.names_apart (record { name = name; kind = exports.Function x }) (record { name = name; kind = exports.Function y }) refl
    s.0 t.0 s.1 t.1 s.2 t.2 in
    function_is x y (ap (λ (e : Export). e.kind) same)
  where
    function_is : (x y : ℕ) → exports.Function x ≡ exports.Function y → x ≡ y
    function_is x y is = cc

-- ---- answers

callee_is : (f g : FuncType) (k n : ℕ) → Some (outside f k) ≡ Some (outside g n) → (f ≡ g) × (k ≡ n)
callee_is f g k n same = (cc, cc)

-- what is left of some values past the first
left_of : (n : ℕ) (first rest all : List Val) → all ≡ first ++ rest → length first ≡ n → drop n all ≡ rest
left_of n first rest all is count =
    ap (λ (k : ℕ). drop k all) (sym count) ∙ (ap (λ (vs : List Val). drop (length first) vs) is ∙ drop-append_seam first rest)

module _ (i : Instance) where
  -- the same results and memory lead to the same configuration, from the same arguments
  serves_once : (c d1 d2 : Configuration) (e1 e2 : Exchange) → ServeStep i c e1 d1 → ServeStep i c e2 d2 → e1.results ≡ e2.results → e1.left ≡ e2.left → (e1.arguments ≡ e2.arguments) × (d1 ≡ d2)
  serves_once _ _ _ _ _ (serving.serves {x = x} {k = k} {s = s} {memory = memory} {f = f} {all = all} {sg = sg} {rest = rest} args vs results callee is count typed longer)
      (serving.serves {k = k'} {memory = memory'} {sg = sg'} args' vs' results' callee' is' count' typed' longer') same_results same_memory =
      let type : sg ≡ sg' = (callee_is sg sg' k k' (sym callee ∙ callee')).0 in
      let number : length sg.params ≡ length sg'.params = ap (λ (t : FuncType). length t.params) type in
      let arguments : args ≡ args' = sym (kept_of (length sg.params) args vs all is count) ∙ kept_of (length sg.params) args' vs' all is' (count' ∙ sym number) in
      let below : vs ≡ vs' = sym (left_of (length sg.params) args vs all is count) ∙ left_of (length sg.params) args' vs' all is' (count' ∙ sym number) in
      (arguments, λ j. at (record s { memory = same_memory j }) f (code (same_results j ++ below j) rest))
  serves_once _ _ _ e1 e2 (serving.in_label {m = m} {s = s} {s' = s1} {f = f} {f' = f1} {vs = vs} {k = k} {rest = rest} {c = c} {c' = c1} one) (serving.in_label {s' = s2} {f' = f2} {c' = c2} other) same_results same_memory =
      let inner = serves_once (at s f c) (at s1 f1 c1) (at s2 f2 c2) e1 e2 one other same_results same_memory in
      (inner.0, ap (in_a_label vs m k rest) inner.1)
  serves_once _ _ _ e1 e2 (serving.in_frame {m = m} {s = s} {s' = s1} {f = f} {g = g} {g' = g1} {vs = vs} {rest = rest} {c = c} {c' = c1} one) (serving.in_frame {s' = s2} {g' = g2} {c' = c2} other) same_results same_memory =
      let inner = serves_once (at s g c) (at s1 g1 c1) (at s2 g2 c2) e1 e2 one other same_results same_memory in
      (inner.0, ap (in_a_frame f vs m rest) inner.1)

  record SameAnswer (x1 x2 : ℕ) (arguments1 arguments2 : List ℕ) (d1 d2 : Configuration) : Type 0 where
    pub function : x1 ≡ x2
    pub arguments : arguments1 ≡ arguments2
    pub configuration : d1 ≡ d2

  answers_once : (c d1 d2 : Configuration) (x1 x2 : ℕ) (f1 f2 : FuncType) (arguments1 arguments2 results : List ℕ) → AnswersAt i c d1 x1 f1 arguments1 results → AnswersAt i c d2 x2 f2 arguments2 results
      → SameAnswer x1 x2 arguments1 arguments2 d1 d2
  answers_once c d1 d2 x1 x2 f1 f2 arguments1 arguments2 results a b =
      let first = asks_once i x1 x2 (store_of c) (code_of c) a.asked b.asked a.asks b.asks in
      let type : f1 ≡ f2 = (callee_is f1 f2 a.exchange.function b.exchange.function (sym a.is_callee ∙ (ap (slice_get i.callees) first.0 ∙ b.is_callee))).0 in
      let gives : a.exchange.results ≡ b.exchange.results = a.results_are ∙ (ap (λ (f : FuncType). values_of f.results results) type ∙ sym b.results_are) in
      let serves : ServeStep i (at (tick (store_of c)) [] b.asked) a.exchange d1 = subst (λ (z : Code). ServeStep i (at (tick (store_of c)) [] z) a.exchange d1) first.1 a.serves in
      let last = serves_once (at (tick (store_of c)) [] b.asked) d1 d2 a.exchange b.exchange serves b.serves gives (a.left ∙ sym b.left) in
      record { function = first.0; arguments = sym a.arguments_are ∙ (ap numbers last.0 ∙ b.arguments_are); configuration = last.1 }

  -- ---- all of them

  pub changes_once : (m : Module) → IsValid m → (a : Action) (k1 k2 : Act) (c d1 d2 : Configuration) → ChangesBy m i a k1 c d1 → ChangesBy m i a k2 c d2 → (k1 ≡ k2) × (d1 ≡ d2)
  changes_once m valid (answer results) (answered memory1 x1 arguments1 given1) (answered memory2 x2 arguments2 given2) c d1 d2 (is1, from1, f1, answers1) (is2, from2, f2, answers2) =
      let same = answers_once c d1 d2 x1 x2 f1 f2 arguments1 arguments2 results answers1 answers2 in
      ((λ j. answered ((from1 ∙ sym from2) j) (same.function j) (same.arguments j) ((is1 ∙ sym is2) j)), same.configuration)
  changes_once m valid (write address bytes) (wrote memory1) (wrote memory2) c d1 d2 (is1, to1) (is2, to2) =
      let memory : memory1 ≡ memory2 = is1 ∙ sym is2 in
      ((λ j. wrote (memory j)), to1 ∙ ((λ j. serving.with_memory (memory j) c) ∙ sym to2))
  changes_once m valid (invoke name arguments) (invoked x1 given1) (invoked x2 given2) c d1 d2 (is1, exported1, enters1) (is2, exported2, enters2) =
      let function : x1 ≡ x2 = exported_once m valid name x1 x2 exported1 exported2 in
      let callee : enters1.callee ≡ enters2.callee = same_Some enters1.callee enters2.callee (sym enters1.is_callee ∙ (ap (slice_get i.callees) function ∙ enters2.is_callee)) in
      let type : enters1.func_type ≡ enters2.func_type = sym enters1.type_is ∙ (ap signature_of callee ∙ enters2.type_is) in
      ((λ j. invoked (function j) ((is1 ∙ sym is2) j)), enters1.is ∙ ((λ j. invocation_over c (values_of (type j).params arguments) (function j)) ∙ sym enters2.is))
  changes_once m valid abandon abandoned abandoned c d1 d2 is1 is2 = (refl, is1 ∙ sym is2)
  changes_once m valid (go units) k1 k2 c d1 d2 one other = absurd one
  changes_once m valid (answer results) (answered memory1 x1 arguments1 given1) k2 c d1 d2 one other = absurd other
  changes_once m valid (write address bytes) (wrote memory1) k2 c d1 d2 one other = absurd other
  changes_once m valid (invoke name arguments) (invoked x1 given1) k2 c d1 d2 one other = absurd other
  changes_once m valid abandon abandoned k2 c d1 d2 one other = absurd other
  changes_once m valid a k1 k2 c d1 d2 one other = absurd one
