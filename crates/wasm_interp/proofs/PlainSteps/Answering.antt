-- The embedder answers the call of its function that the machine stands before.
use Rattle.std.proofs.Common.{◌≡◌, ℕ, suc, ◌+◌, ◌<◌, ◌≤◌, List, [], ◌∷◌, ◌++◌, length, take, drop, reverse, Some, refl, sym, ap, ◌∙◌, subst, arith, append_assoc, inl, inr}
use Rattle.std.specs.Prelude.{slice_get, slice_index}
use Rattle.std.specs.List.{AllByRecursion}
use Rattle.std.proofs.Math.Seq.{drop-append_seam, take-append_seam}
use Rattle.wasm_syntax.specs.declared.instruction.ValueType.{ValueType}
use Rattle.wasm_syntax.specs.declared.instruction.ValueType.TheVariants.{I32, I64, F32, F64}
use Rattle.wasm_syntax.specs.declared.instruction.Instruction.TheVariants as op
use Rattle.wasm_syntax.specs.declared.module.FuncType.{FuncType}
use Rattle.wasm_syntax.specs.Nested.{Instructions, invoke}
use Rattle.wasm_store.specs.Values.{IsInType}
use Rattle.wasm_store.specs.Instances.{outside}
use Rattle.wasm_steps.specs.Configuration.{Val, val, numbers, types, signature_of, Instance, Store, Code, code, Configuration, at, store_of, code_of, used_by}
use Rattle.wasm_steps.specs.Steps.{tick}
use Rattle.plugin_steps.specs.Serving.{Exchange, AreOf, ServeStep, serves, in_label as serves_label, in_frame as serves_frame}
use Rattle.plugin_steps.specs.Asking.{Asks, in_label as asks_label, in_frame as asks_frame}
use Rattle.wasm_interp.specs.Invoking.{Fit, values_of}
use Rattle.wasm_operands.specs.internal.Awaited.{Awaited}
use Rattle.wasm_operands.specs.internal.Standing.{Flat, Program, IsProgram, Ring, Caller, inside, labelled, framed, under, TypedWithin, IsInRange, Stands, CallsNext, served}
use Rattle.wasm_operands.proofs.Values.{length-numbers, types-append, numbers-append}
use Rattle.wasm_operands.proofs.PlainSteps.Lists.{all_back, all_both}
use Rattle.wasm_operands.proofs.PlainSteps.Moving.{some_same}
use Rattle.wasm_places.proofs.PlainSteps.Calling.{Calls, args_count, args_stack, args_range, find_call, callee_of, indirect_element}
use Rattle.wasm_places.proofs.PlainSteps.Ready.{has_top, indirect_takes_one}
use Rattle.wasm_interp.proofs.PlainSteps.Frames.{IsCalled, top_there}
use Rattle.wasm_interp.proofs.PlainSteps.Arguments.{types_given, numbers_given, given_in_range}

-- ---- within labels and frames

asks_inside : (i : Instance) (x : ℕ) (s : Store) (rs : List Ring) (c d : Code) → Asks i x s c d → Asks i x s (inside rs c) (inside rs d)
asks_inside i x s [] c d a = a
asks_inside i x s (r ∷ rs) c d a = asks_inside i x s rs _ _ (asks_label a)

asks_framed : (i : Instance) (x : ℕ) (s : Store) (pending : Awaited) (ks : List Caller) (n : ℕ) (g : List Val) (c d : Code) → Asks i x s c d → Asks i x s (framed pending ks n g c) (framed pending ks n g d)
asks_framed i x s pending [] n g c d a = asks_frame a
asks_framed i x s pending (k ∷ ks) n g c d a = asks_framed i x s pending ks k.arity k.locals _ _ (asks_inside i x s k.labels _ _ (asks_frame a))

serves_inside : (i : Instance) (e : Exchange) (rs : List Ring) (s s' : Store) (g g' : List Val) (c d : Code) → ServeStep i (at s g c) e (at s' g' d) → ServeStep i (at s g (inside rs c)) e (at s' g' (inside rs d))
serves_inside i e [] s s' g g' c d a = a
serves_inside i e (r ∷ rs) s s' g g' c d a = serves_inside i e rs s s' g g' _ _ (serves_label a)

serves_framed : (i : Instance) (e : Exchange) (pending : Awaited) (ks : List Caller) (n : ℕ) (s s' : Store) (g g' : List Val) (c d : Code) → ServeStep i (at s g c) e (at s' g' d) → ServeStep i (at s [] (framed pending ks n g c)) e (at s' [] (framed pending ks n g' d))
serves_framed i e pending [] n s s' g g' c d a = serves_frame a
serves_framed i e pending (k ∷ ks) n s s' g g' c d a = serves_framed i e pending ks k.arity s s' k.locals k.locals _ _ (serves_inside i e k.labels s s' k.locals k.locals _ _ (serves_frame a))

-- ---- the result

pub in_types : (vs : List Val) → AllByRecursion IsInRange vs → AllByRecursion IsInType vs
in_types [] a = tt
in_types (val I32 n ∷ vs) a = (a.0, in_types vs a.1)
in_types (val I64 n ∷ vs) a = (a.0, in_types vs a.1)
in_types (val F32 n ∷ vs) a = (a.0, in_types vs a.1)
in_types (val F64 n ∷ vs) a = (a.0, in_types vs a.1)

-- one result at most reads the same either way
turned_once : (ts : List ValueType) → length ts ≤ 1 → reverse ts ≡ ts
turned_once [] l = refl
turned_once (t ∷ []) l = refl
turned_once (t ∷ u ∷ ts) l = absurd (omega arith)

result_is_of : (ts : List ValueType) (ns : List ℕ) → length ts ≤ 1 → Fit ts ns → AreOf (values_of ts ns) ts
result_is_of ts ns one fit = record {
  typed = ap reverse (types_given ts ns fit.count) ∙ turned_once ts one;
  in_range = in_types (values_of ts ns) (given_in_range ts ns fit);
}

-- ---- which function is called

-- function x is called next, and is there
pub called_next : (p : Program) → IsProgram p → (pending : Awaited) (s : Flat) (c : Configuration) (st : Stands p pending s c) (x above : ℕ) → CallsNext p s x above → IsCalled p pending s c st x above
called_next p ok pending s c st x above (inl (none, ts, n)) =
    let f = find_call p pending s c st x ts n in
    let d = callee_of p pending s c st ok x f.0 f.1 in
    subst (λ m. IsCalled p pending s c st x m) (sym none) (record { func_type = f.0; calls = f.2; callee = d.0; is_callee = d.1; has_type = d.2 })
called_next p ok pending s c st x above (inr (y, one, n, found)) =
    let some : 0 < length s.stack = has_top p pending s c st (op.CallIndirect y) n.0 tt (indirect_takes_one y) n.1 in
    let el = indirect_element p pending s c st ok y (slice_index s.stack 0) x n.0 n.1 (top_there s.stack some) found.element in
    let there : el.callee ≡ found.callee = some_same (sym el.is_callee ∙ found.is_callee) in
    let same : signature_of el.callee ≡ el.func_type = ap signature_of there ∙ some_same (sym found.has_type ∙ el.is_type) in
    subst (λ m. IsCalled p pending s c st x m) (sym one) (record { func_type = el.func_type; calls = el.calls same; callee = el.callee; is_callee = el.is_callee; has_type = same })

-- what stands above the arguments is there
pub above_there : (p : Program) (pending : Awaited) (s : Flat) (c : Configuration) (st : Stands p pending s c) (x above : ℕ) → CallsNext p s x above → above ≤ length s.stack
above_there p pending s c st x above (inl (none, ts, n)) = omega (arith, none)
above_there p pending s c st x above (inr (y, one, n, found)) =
    let some : 0 < length s.stack = has_top p pending s c st (op.CallIndirect y) n.0 tt (indirect_takes_one y) n.1 in
    omega (arith, one, some)

module _ (p : Program) (pending : Awaited) (s : Flat) (c : Configuration) (st : Stands p pending s c) (x : ℕ) (f : FuncType) (m : ℕ) (k : Calls p pending s c st x f m) where
  -- where the embedder is asked, one unit later
  abbrev pub asked_code : Code
  asked_code = framed pending st.callers st.arity st.locals (inside st.labels (code (k.args ++ k.below) (invoke x k.rest)))

  -- the machine stands before the call
  pub asks_whole : Asks p.instance x (store_of c) (code_of c) asked_code
  asks_whole = subst (λ (y : Configuration). Asks p.instance x (store_of y) (code_of y) asked_code) (sym st.is)
      (asks_framed p.instance x st.store pending st.callers st.arity st.locals _ _ (asks_inside p.instance x st.store st.labels _ _ k.asks))

  -- what is below the arguments
  left_below : drop (length f.params) (drop m s.stack) ≡ numbers (k.below ++ (labelled st.labels ++ (reverse st.locals ++ under st.callers)))
  left_below =
      let u : List Val = k.below ++ (labelled st.labels ++ (reverse st.locals ++ under st.callers)) in
      let n : length f.params ≡ length (numbers k.args) = sym (args_count p pending s c st x f m k) ∙ sym (length-numbers k.args) in
      ap (drop (length f.params)) (args_stack p pending s c st x f m k ∙ numbers-append k.args u) ∙ ap (λ y. drop y (numbers k.args ++ numbers u)) n ∙ drop-append_seam (numbers k.args) (numbers u)

  -- the arguments themselves
  pub asked_numbers : take (length f.params) (drop m s.stack) ≡ numbers k.args
  asked_numbers =
      let u : List Val = k.below ++ (labelled st.labels ++ (reverse st.locals ++ under st.callers)) in
      let n : length f.params ≡ length (numbers k.args) = sym (args_count p pending s c st x f m k) ∙ sym (length-numbers k.args) in
      ap (take (length f.params)) (args_stack p pending s c st x f m k ∙ numbers-append k.args u) ∙ ap (λ y. take y (numbers k.args ++ numbers u)) n ∙ take-append_seam (numbers k.args) (numbers u)

  module _ (number : ℕ) (has : slice_get p.instance.callees x ≡ Some (outside f number)) (ns : List ℕ) (fit : Fit f.results ns) (one : length f.results ≤ 1) where
    abbrev pub exchange : Exchange
    exchange = record { function = number; arguments = k.args; memory = st.store.memory; results = values_of f.results ns; left = st.store.memory }

    -- the embedder's answer
    pub record IsServed : Type 0 where
      pub next : Configuration
      pub stands : Stands p pending (served s ns (drop (length f.params) (drop m s.stack))) next
      pub asks : Asks p.instance x (store_of c) (code_of c) asked_code
      pub bare : c ≡ at (store_of c) [] (code_of c)
      pub step : ServeStep p.instance (at (tick (store_of c)) [] asked_code) exchange next

    pub is_served : IsServed
    is_served =
        let u : List Val = labelled st.labels ++ (reverse st.locals ++ under st.callers) in
        let given : List Val = values_of f.results ns in
        let ws : List Val = given ++ k.below in
        let d : Configuration = at (tick st.store) [] (framed pending st.callers st.arity st.locals (inside st.labels (code ws k.rest))) in
        let tys : types ws ≡ f.results ++ types k.below = types-append given k.below ∙ ap (λ y. y ++ types k.below) (types_given f.results ns fit.count) in
        let all : given ++ (k.below ++ u) ≡ ws ++ u = sym (append_assoc given k.below u) in
        let range : AllByRecursion IsInRange (k.below ++ u) = all_back IsInRange k.args (k.below ++ u) (args_range p pending s c st x f m k) in
        let step : ServeStep p.instance (at (tick st.store) [] asked_code) exchange d =
        serves_framed p.instance exchange pending st.callers st.arity (tick st.store) (tick st.store) st.locals st.locals _ _
        (serves_inside p.instance exchange st.labels (tick st.store) (tick st.store) st.locals st.locals _ _
        (serves k.args k.below given has refl (args_count p pending s c st x f m k) (result_is_of f.results ns one fit) (omega arith))) in
        record {
          next = d;
          stands = record {
            text = st.text;
            store = tick st.store;
            locals = st.locals;
            arity = st.arity;
            labels = st.labels;
            vs = ws;
            body = k.rest;
            callers = st.callers;
            is = refl;
            active = record { text = st.active.text; locals = st.active.locals; operands = st.active.operands; results = st.active.results; arity = st.active.arity; typed = st.active.typed };
            stack = ap (λ y. ns ++ y) left_below ∙ ap (λ y. y ++ numbers (k.below ++ u)) (sym (numbers_given f.results ns fit.count)) ∙ sym (numbers-append given (k.below ++ u)) ∙ ap numbers all;
            in_range = subst (AllByRecursion IsInRange) all (all_both IsInRange given (k.below ++ u) (given_in_range f.results ns fit) range);
            is_store = record {
              memory = st.is_store.memory;
              table = st.is_store.table;
              functions = st.is_store.functions;
              globals = st.is_store.globals;
              global_types = st.is_store.global_types;
              globals_in_range = st.is_store.globals_in_range;
              used = ap suc st.is_store.used;
            };
            running = subst (TypedWithin st.text st.labels (s.current.pc + 1) k.rest) (sym tys) k.running;
            back = st.back;
          };
          asks = asks_whole;
          bare = subst (λ (y : Configuration). y ≡ at (store_of y) [] (code_of y)) (sym st.is) refl;
          step = subst (λ (y : Configuration). ServeStep p.instance (at (tick (store_of y)) [] asked_code) exchange d) (sym st.is) step;
        }
