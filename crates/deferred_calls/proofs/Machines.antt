-- What a machine that defers calls promises, it promises of the whole instance.
use Rattle.std.proofs.Common.{◌≡◌, ℕ, zero, suc, ◌+◌, ◌-◌, ◌<◌, ◌≤◌, List, [], ◌∷◌, ◌++◌, length, map, reverse, slice_get, Option, Some, None, refl, sym, subst, ap, ◌∙◌, inl, inr, arith}
use Rattle.std.proofs.lemmas.List.{map-append}
use Rattle.wasm_syntax.specs.declared.module.FuncType.{FuncType}
use Rattle.wasm_syntax.specs.declared.module.Import.{Import}
use Rattle.wasm_syntax.specs.declared.module.Module.{Module}
use Rattle.wasm_syntax.specs.declared.module.Body.{Body}
use Rattle.wasm_syntax.specs.declared.instruction.ValueType.{ValueType}
use Rattle.wasm_syntax.specs.Nested.{Instructions}
use Rattle.wasm_store.specs.declared.call.HostCall.{HostCall}
use Rattle.wasm_store.specs.declared.call.Errno.{Errno}
use Rattle.wasm_store.specs.declared.call.Answer.TheVariants.{Value as value}
use Rattle.wasm_store.specs.declared.linked.Linked.{Linked}
use Rattle.wasm_store.specs.declared.linked.Linked.TheVariants.{Host, Embedder}
use Rattle.wasm_store.specs.Allocation.{AllLinks, AreLinkedTo}
use Rattle.wasm_store.specs.Instances.{outside, callee_of}
use Rattle.wasm_store.specs.Instantiation.{AreOwn}
use Rattle.wasm_steps.specs.declared.pause.Pause.{Pause}
use Rattle.wasm_steps.specs.declared.pause.Pause.TheVariants.{Called, Spent, Ended}
use Rattle.wasm_steps.specs.declared.pause.Outcome.{Outcome}
use Rattle.wasm_steps.specs.declared.pause.Outcome.TheVariants.{Exited, Trapped, OutOfFuel, OutOfMemory}
use Rattle.wasm_steps.specs.Configuration.{Val, val, numbers, Callee, own, signature_of, Instance, Store, Code, Configuration, at, code_of, store_of, used_by, NextIsPlain}
use Rattle.wasm_steps.specs.Outcomes.{EndsAs, Paused}
use Rattle.wasm_steps.specs.Steps.{CallsOf, Reach, Step, given, tick, answers, silent, stays, goes}
use Rattle.plugin_steps.specs.Serving.{Exchange, ServeStep, with_memory}
use Rattle.plugin_steps.specs.Asking.{Asks}
use Rattle.plugin_steps.specs.Asking as asking
use Rattle.wasm_operands.specs.Snapshots.{Snapshot, StandsFor}
use Rattle.wasm_operands.proofs.Values.{numbers-reverse}
use Rattle.wasm_operands.proofs.PlainSteps.Moving.{some_same}
use Rattle.wasm_places.specs.FunctionTypes.{IsImportType}
use Rattle.wasm_interp.specs.Invocations.{AnswersAt, AnswersBy, AsksBy, Fit, InvokesBy, LetsGoBy, OpensBy, ReturnsBy, TellsStores, WritesBy, values_of}
use Rattle.wasm_interp.specs.Promises.{PausesBy, ResumedBy}
use Rattle.deferred_calls.specs.Whole.{answered_by, whole_callee, whole}
use Rattle.deferred_calls.specs.Deferring.{Grants}
use Rattle.deferred_calls.specs.Machines.{AreParts, Deferring, GrantsBy, MachinesDefer, StandsForWhole, whole_link}
use Rattle.deferred_calls.proofs.Whole.{callee_at, reach, same_type, step}
use Rattle.deferred_calls.proofs.Granting.{asks_whole, grant_is_the_call, serves_whole}

-- ---- instances

-- functions of the module's own stay
own_stay : (deferred : ℕ → Option HostCall) (types : List FuncType) (xs : List ℕ) (bs : List Body) (cs : List Callee) → AreOwn types xs bs cs → map (whole_callee deferred) cs ≡ cs
own_stay deferred types [] [] [] o = refl
own_stay deferred types [] [] (c ∷ cs) o = absurd o
own_stay deferred types [] (b ∷ bs) cs o = absurd o
own_stay deferred types (x ∷ xs) [] cs o = absurd o
own_stay deferred types (x ∷ xs) (b ∷ bs) [] o = absurd o
own_stay deferred types (x ∷ xs) (b ∷ bs) (c ∷ cs) o =
    ap (λ z. whole_callee deferred z ∷ map (whole_callee deferred) cs) (o.0.callee) ∙ ap (λ z. z ∷ map (whole_callee deferred) cs) (sym o.0.callee) ∙ ap (λ z. c ∷ z) (own_stay deferred types xs bs cs o.1)

number_of_callee : ℕ → Option Callee → ℕ
number_of_callee n None = n
number_of_callee n (Some (outside f k)) = k
number_of_callee n (Some c) = n

is_outside : Option Callee → ℕ
is_outside (Some (outside f k)) = 1
is_outside o = 0

-- ...and none of them is the embedder's
none_own : (types : List FuncType) (xs : List ℕ) (bs : List Body) (cs : List Callee) → AreOwn types xs bs cs → (x number : ℕ) (f : FuncType) → slice_get cs x ≡ Some (outside f number) → ⊥
unfolding is_outside
none_own types [] [] [] o x number f is = absurd (omega (arith, ap is_outside is))
none_own types [] [] (c ∷ cs) o x number f is = absurd o
none_own types [] (b ∷ bs) cs o x number f is = absurd o
none_own types (x' ∷ xs) [] cs o x number f is = absurd o
none_own types (x' ∷ xs) (b ∷ bs) [] o x number f is = absurd o
none_own types (x' ∷ xs) (b ∷ bs) (c ∷ cs) o zero number f is = absurd (omega (arith, ap is_outside (ap (λ z. Some z) (sym o.0.callee) ∙ is)))
none_own types (x' ∷ xs) (b ∷ bs) (c ∷ cs) o (suc x) number f is = none_own types xs bs cs o.1 x number f is

module _ (deferred : Deferring) (m : Module) (links parts : AllLinks) (are : AreParts deferred m links parts) where
  -- the embedder's function of an import, in the whole instance
  linked_callee : (o : Option HostCall) (f : FuncType) (k : ℕ) → answered_by o f k ≡ callee_of f (whole_link o (Embedder k))
  linked_callee None f k = refl
  linked_callee (Some call) f k = refl

  callee_is : (n : ℕ) (f : FuncType) (l : Linked) → ((k : ℕ) → l ≡ Embedder k → k ≡ n) → whole_callee (deferred m) (callee_of f l) ≡ callee_of f (whole_link (deferred m n) l)
  callee_is n f (Host call) same = refl
  callee_is n f (Embedder k) same = ap (λ z. answered_by (deferred m z) f k) (same k refl) ∙ linked_callee (deferred m n) f k

  -- imports from this index on
  Follow : ℕ → List Import → Type 0
  Follow n is = (k : ℕ) (i : Import) → slice_get is k ≡ Some i → slice_get m.imports (n + k) ≡ Some i

  later : (n : ℕ) (i : Import) (is : List Import) → Follow n (i ∷ is) → Follow (suc n) is
  unfolding Follow
  later n i is all k j there = subst (λ z. slice_get m.imports z ≡ Some j) (omega arith) (all (suc k) j there)

  import_here : (n : ℕ) (i : Import) (is : List Import) → Follow n (i ∷ is) → slice_get m.imports n ≡ Some i
  unfolding Follow
  import_here n i is all = subst (λ z. slice_get m.imports z ≡ Some i) (omega arith) (all 0 i refl)

  all_linked : (n : ℕ) (is : List Import) (cs : List Callee) → Follow n is → AreLinkedTo parts m.types n is cs → AreLinkedTo links m.types n is (map (whole_callee (deferred m)) cs)
  all_linked n [] [] all l = tt
  all_linked n [] (c ∷ cs) all l = absurd l
  all_linked n (i ∷ is) [] all l = absurd l
  all_linked n (i ∷ is) (c ∷ cs) all l =
      let one = l.0 in
      let here : IsImportType m n one.func_type = record { import = i; is_import = import_here n i is all; index = one.index; kind = one.kind; type_is = one.type_is } in (
        record {
          index = one.index;
          func_type = one.func_type;
          linked = whole_link (deferred m n) one.linked;
          kind = one.kind;
          type_is = one.type_is;
          links_to = are.whole n one.func_type here one.linked one.links_to;
          callee = ap (λ z. whole_callee (deferred m) z) one.callee ∙ callee_is n one.func_type one.linked
              (λ k is_k. are.numbered n one.func_type here k (one.links_to ∙ ap (λ z. Some z) is_k));
        },
        all_linked (suc n) is cs (later n i is all) l.1,
      )

  -- the number of an embedder's function is its import's index
  number_at : (n : ℕ) (f g : FuncType) (t : IsImportType m n f) (l : Linked) (number : ℕ) → parts n t.import.module_name t.import.name f ≡ Some l → callee_of f l ≡ outside g number → number ≡ n
  unfolding number_of_callee is_outside
  number_at n f g t (Host call) number link is = absurd (omega (arith, ap (λ z. is_outside (Some z)) is))
  number_at n f g t (Embedder k) number link is =
      sym (ap (λ z. number_of_callee n (Some z)) is) ∙ are.numbered n f t k link

  all_numbered : (n : ℕ) (is : List Import) (cs owned : List Callee) → Follow n is → AreLinkedTo parts m.types n is cs
      → ((x number : ℕ) (f : FuncType) → slice_get owned x ≡ Some (outside f number) → ⊥)
      → (x number : ℕ) (f : FuncType) → slice_get (cs ++ owned) x ≡ Some (outside f number) → number ≡ n + x
  all_numbered n [] [] owned all l none x number f is = absurd (none x number f is)
  all_numbered n [] (c ∷ cs) owned all l none x number f is = absurd l
  all_numbered n (i ∷ is) [] owned all l none x number f there = absurd l
  all_numbered n (i ∷ is) (c ∷ cs) owned all l none zero number f there =
      number_at n l.0.func_type f (record { import = i; is_import = import_here n i is all; index = l.0.index; kind = l.0.kind; type_is = l.0.type_is }) l.0.linked number l.0.links_to (sym l.0.callee ∙ some_same there) ∙ omega arith
  all_numbered n (i ∷ is) (c ∷ cs) owned all l none (suc x) number f there =
      all_numbered (suc n) is cs owned (later n i is all) l.1 none x number f there ∙ omega arith

-- ---- where the embedder is asked

asks_plain : (i : Instance) (x : ℕ) (s : Store) (c asked : Code) → Asks i x s c asked → NextIsPlain c
asks_plain i x s _ _ asking.by_call = tt
asks_plain i x s _ _ (asking.by_table element callee type) = tt
asks_plain i x s _ _ (asking.in_label {c = c} {c' = c'} a) = asks_plain i x s c c' a
asks_plain i x s _ _ (asking.in_frame {c = c} {c' = c'} a) = asks_plain i x s c c' a

-- what is asked reads no memory
asks_over : (i : Instance) (x : ℕ) (s : Store) (m : List ℕ) (c asked : Code) → Asks i x (record s { memory = m }) c asked → Asks i x s c asked
asks_over i x s m _ _ asking.by_call = asking.by_call
asks_over i x s m _ _ (asking.by_table element callee type) = asking.by_table element callee type
asks_over i x s m _ _ (asking.in_label {c = c} {c' = c'} a) = asking.in_label (asks_over i x s m c c' a)
asks_over i x s m _ _ (asking.in_frame {c = c} {c' = c'} a) = asking.in_frame (asks_over i x s m c c' a)

-- a number of the host is a value of the one type that there is
values_given : (ts : List ValueType) (e : Errno) → Fit ts (e.0 ∷ []) → values_of ts (e.0 ∷ []) ≡ given ts e
values_given [] e fit = absurd (omega (arith, fit.count))
values_given (t ∷ []) e fit = refl
values_given (t ∷ u ∷ ts) e fit = refl

abbrev locals_in : Configuration → List Val
locals_in (at s f c) = f

module _ (H : Type 0) (Calls : CallsOf H) where
  then_on : (i : Instance) (h h' h'' : H) (c d b : Configuration) (es : List (HostCall × Errno)) → Reach H Calls i h c es h' d → Reach H Calls i h' d [] h'' b → Reach H Calls i h c es h'' b
  then_on i h h' h'' c d b _ stays more = more
  then_on i h h' h'' c d b _ (goes {h' = g} {c' = a} ev es first rest) more = goes ev es first (then_on i g h' h'' a d b es rest more)

  granted : (o : ℕ → Option HostCall) (i : Instance) (d e : Configuration) (x : ℕ) (f : FuncType) (arguments memory : List ℕ) (n : Errno) (call : HostCall) (h h' : H)
      → AnswersAt i (with_memory memory d) e x f arguments (n.0 ∷ []) → Fit f.results (n.0 ∷ []) → ((number : ℕ) → slice_get i.callees x ≡ Some (outside f number) → number ≡ x)
      → o x ≡ Some call → Calls h (store_of d).memory (suc (used_by d)) call (reverse arguments) h' memory (value n)
      → Paused H Calls (whole o i) (Called call n) h d h' e
  granted o i (at s l c) e x f arguments memory n call h h' a fit numbered is calls =
      let bare : l ≡ [] = ap (λ z. locals_in z) a.bare in
      let words : reverse arguments ≡ numbers (reverse a.exchange.arguments) = sym (numbers-reverse a.exchange.arguments ∙ ap (λ z. reverse z) a.arguments_are) in
      let g : Grants H Calls o i h s [] c call n h' e = record {
        function = x;
        func_type = f;
        asked = a.asked;
        asks = asks_over i x s memory c a.asked a.asks;
        exchange = a.exchange;
        is_callee = a.is_callee;
        is_deferred = subst (λ z. o z ≡ Some call) (sym (numbered a.exchange.function a.is_callee)) is;
        answered = subst (λ zs. Calls h s.memory (suc s.used) call zs h' a.exchange.left (value n)) words
            (subst (λ m. Calls h s.memory (suc s.used) call (reverse arguments) h' m (value n)) (sym a.left) calls);
        serves = subst (λ m. ServeStep i (at (record (tick s) { memory = m }) [] a.asked) a.exchange e) (sym a.left) a.serves;
        results_are = a.results_are ∙ values_given f.results n fit;
      } in
      subst (λ z. Paused H Calls (whole o i) (Called call n) h (at s z c) h' e) (sym bare) (grant_is_the_call H Calls o i h h' s [] c call n e g)

by_units : (old asking written new units : ℕ) → new ≡ suc written → written ≡ asking → old ≤ asking → asking < old + units → (old ≤ new) × (new ≤ old + units)
by_units old asking written new units one same rise left = (omega (arith, one, same, rise), omega (arith, one, same, left))

module _ (deferred : Deferring) (Stands : StandsFor) where
  -- the machine goes on in the same instance
  carry : (old new : Snapshot) (i : Instance) (c d : Configuration) → new.valid ≡ old.valid → (w : StandsForWhole deferred Stands old i c) → Stands new w.part d → StandsForWhole deferred Stands new i d
  carry old new i c d same w st = record {
    part = w.part;
    is_whole = w.is_whole ∙ ap (λ (m : Module). whole (deferred m) w.part) (sym same);
    numbered = w.numbered;
    stands = st;
  }

  invokes : (old new : Snapshot) (x : ℕ) (args : List ℕ) → InvokesBy Stands old new x args → InvokesBy (StandsForWhole deferred Stands) old new x args
  invokes old new x args v = record {
    module_is = v.module_is;
    used = v.used;
    most_values = v.most_values;
    func_type = v.func_type;
    is_own = v.is_own;
    fit = v.fit;
    has_type = λ i c w.
        let (d, is, typed) = v.has_type w.part c w.stands in
        let o = deferred old.valid in (
          whole_callee o d,
          subst (λ (z : Instance). slice_get z.callees x ≡ Some (whole_callee o d)) (sym w.is_whole) (callee_at o w.part x d is),
          same_type o w.part d ∙ typed,
        );
    run = λ i c w. carry old new i c _ v.module_is w (v.run w.part c w.stands);
  }

  writes : (old new : Snapshot) (memory : List ℕ) → WritesBy Stands old new memory → WritesBy (StandsForWhole deferred Stands) old new memory
  writes old new memory v = record {
    is = v.is;
    run = λ i c w. carry old new i c (with_memory memory c) (ap (λ (s : Snapshot). s.valid) v.is) w (v.run w.part c w.stands);
  }

  lets_go : (old new : Snapshot) → LetsGoBy Stands old new → LetsGoBy (StandsForWhole deferred Stands) old new
  lets_go old new v = record {
    module_is = v.module_is;
    most_values = v.most_values;
    used = v.used;
    runs = v.runs;
    run = λ i c w. carry old new i c _ v.module_is w (v.run w.part c w.stands);
  }

  tells : TellsStores Stands → TellsStores (StandsForWhole deferred Stands)
  tells t s i c w = t s w.part c w.stands

  opens : (links parts : AllLinks) (pages : ℕ) (m : Module) (new : Snapshot) → AreParts deferred m links parts → OpensBy Stands parts pages m new → OpensBy (StandsForWhole deferred Stands) links pages m new
  unfolding Follow
  opens links parts pages m new are v =
      let a = v.allocates in
      let o = deferred m in
      let owned_stay = own_stay o m.types m.functions m.bodies a.owned a.are_own in
      record {
        instance = whole o v.instance;
        store = v.store;
        initializer = v.initializer;
        allocates = record {
          linked = map (whole_callee o) a.linked;
          owned = a.owned;
          are_linked = all_linked deferred m links parts are 0 m.imports a.linked (λ k i there. subst (λ z. slice_get m.imports z ≡ Some i) (omega arith) there) a.are_linked;
          are_own = a.are_own;
          within_limit = a.within_limit;
          elements_inside = a.elements_inside;
          data_inside = a.data_inside;
          func_types = a.func_types;
          callees = ap (λ z. map (whole_callee o) z) a.callees ∙ map-append (whole_callee o) a.linked a.owned ∙ ap (λ z. map (whole_callee o) a.linked ++ z) owned_stay;
          limit = a.limit;
          globals = a.globals;
          table = a.table;
          memory = a.memory;
          used = a.used;
        };
        has_initializer = v.has_initializer;
        stands = record {
          part = v.instance;
          is_whole = ap (λ (n : Module). whole (deferred n) v.instance) (sym v.module_is);
          numbered = λ x number f is. all_numbered deferred m links parts are 0 m.imports a.linked a.owned (λ k i there. subst (λ z. slice_get m.imports z ≡ Some i) (omega arith) there) a.are_linked
              (none_own m.types m.functions m.bodies a.owned a.are_own) x number f (subst (λ z. slice_get z x ≡ Some (outside f number)) a.callees is) ∙ omega arith;
          stands = v.stands;
        };
        module_is = v.module_is;
        used = v.used;
        runs = v.runs;
        room = v.room;
      }

  module _ (H : Type 0) (Calls : CallsOf H) where
    -- steps of a part are steps of the whole
    over : (old : Snapshot) (i : Instance) (c : Configuration) (w : StandsForWhole deferred Stands old i c) (h h' : H) (d : Configuration) (es : List (HostCall × Errno))
        → Reach H Calls w.part h c es h' d → Reach H Calls i h c es h' d
    over old i c w h h' d es run = subst (λ (z : Instance). Reach H Calls z h c es h' d) (sym w.is_whole) (reach (deferred old.valid) w.part H Calls h h' c d es run)

    returns : (h h' : H) (old new : Snapshot) (units : ℕ) → ReturnsBy Stands H Calls h h' old new units → ReturnsBy (StandsForWhole deferred Stands) H Calls h h' old new units
    returns h h' old new units v = record {
      module_is = v.module_is;
      most_values = v.most_values;
      host = v.host;
      units_rise = v.units_rise;
      runs = v.runs;
      run = λ i c w.
          let (d, st, run, before, after, vs, is, numbers_are) = v.run w.part c w.stands in
          (d, carry old new i c d v.module_is w st, over old i c w h h d [] run, before, after, vs, is, numbers_are);
    }

    asks : (h h' : H) (old new : Snapshot) (units x : ℕ) → AsksBy Stands H Calls h h' old new units x → AsksBy (StandsForWhole deferred Stands) H Calls h h' old new units x
    asks h h' old new units x v = record {
      module_is = v.module_is;
      most_values = v.most_values;
      host = v.host;
      units_rise = v.units_rise;
      left = v.left;
      runs = v.runs;
      run = λ i c w.
          let (d, st, run, before, after, asked, a) = v.run w.part c w.stands in (
            d,
            carry old new i c d v.module_is w st,
            over old i c w h h d [] run,
            before,
            after,
            asked,
            subst (λ (z : Instance). Asks z x (store_of d) (code_of d) asked) (sym w.is_whole) (asks_whole (deferred old.valid) w.part x (store_of d) (code_of d) asked a),
          );
    }

    answers_so : (old new : Snapshot) (results : List ℕ) → (a : AnswersBy Stands old new results) → deferred old.valid a.function ≡ None → AnswersBy (StandsForWhole deferred Stands) old new results
    answers_so old new results a other = record {
      module_is = a.module_is;
      most_values = a.most_values;
      used = a.used;
      function = a.function;
      func_type = a.func_type;
      arguments = a.arguments;
      asked_for = a.asked_for;
      fit = a.fit;
      run = λ i c w.
          let (d, st, so) = a.run w.part c w.stands in
          let o = deferred old.valid in
          let none : o so.exchange.function ≡ None = ap (λ z. o z) (w.numbered a.function so.exchange.function a.func_type so.is_callee) ∙ other in (
            d,
            carry old new i c d a.module_is w st,
            subst (λ (z : Instance). AnswersAt z c d a.function a.func_type a.arguments results) (sym w.is_whole) (record {
              asked = so.asked;
              exchange = so.exchange;
              is_callee = subst (λ z. slice_get (whole o w.part).callees a.function ≡ Some (answered_by z a.func_type so.exchange.function)) none (callee_at o w.part a.function (outside a.func_type so.exchange.function) so.is_callee);
              bare = so.bare;
              asks = asks_whole o w.part a.function (store_of c) (code_of c) so.asked so.asks;
              serves = serves_whole o w.part _ d so.exchange none so.serves;
              arguments_are = so.arguments_are;
              results_are = so.results_are;
              left = so.left;
            }),
          );
    }

    ends : (old : Snapshot) (i : Instance) (c : Configuration) (w : StandsForWhole deferred Stands old i c) (o : Outcome) (h : H) (d : Configuration) → EndsAs H Calls w.part o h d → EndsAs H Calls i o h d
    ends old i c w (Exited n) h (at s f x) e = e
    ends old i c w (Trapped t) h (at s f x) e = e
    ends old i c w OutOfFuel h d e = absurd e
    ends old i c w OutOfMemory h d (b, last, large, needs) =
        (b, subst (λ (z : Instance). Step H Calls z 0 h d silent h b) (sym w.is_whole) (step (deferred old.valid) w.part H Calls 0 h h d b silent last), large, needs)

    pauses : (old : Snapshot) (i : Instance) (c d : Configuration) (w : StandsForWhole deferred Stands old i c) (p : Pause) (h h' : H) → Paused H Calls w.part p h c h' d → Paused H Calls i p h c h' d
    pauses old i c d w (Called call e) h h' (b, run, last) =
        (b, over old i c w h h b [] run, subst (λ (z : Instance). Step H Calls z 0 h b (answers call e) h' d) (sym w.is_whole) (step (deferred old.valid) w.part H Calls 0 h h' b d (answers call e) last))
    pauses old i c d w Spent h h' (run, host, next) = (over old i c w h h' d [] run, host, next)
    pauses old i c d w (Ended o) h h' (run, so) = (over old i c w h h' d [] run, ends old i c w o h' d so)

    resumes : (h h' : H) (old new : Snapshot) (units : ℕ) (p : Pause) → ResumedBy Stands H Calls h h' old new units p → ResumedBy (StandsForWhole deferred Stands) H Calls h h' old new units p
    resumes h h' old new units p v = record {
      module_is = v.module_is;
      most_values = v.most_values;
      units_rise = v.units_rise;
      progress = v.progress;
      run = λ i c w.
          let (d, st, run, before, after, unit) = v.run w.part c w.stands in
          (d, carry old new i c d v.module_is w st, pauses old i c d w p h h' run, before, after, unit);
      end_is = v.end_is;
      again = v.again;
    }

    waits : (h h' : H) (old new : Snapshot) (units x : ℕ) → AsksBy Stands H Calls h h' old new units x → PausesBy (StandsForWhole deferred Stands) H Calls h h' old new (new.used - old.used) Spent
    waits h h' old new units x v = record {
      module_is = v.module_is;
      most_values = v.most_values;
      units_rise = omega (arith, v.units_rise.0);
      run = λ i c w.
          let (d, st, run, before, after, asked, a) = v.run w.part c w.stands in (
            d,
            carry old new i c d v.module_is w st,
            (
              subst (λ (g : H). Reach H Calls i h c [] g d) (sym v.host) (over old i c w h h d [] run),
              v.host,
              asks_plain w.part x (store_of d) (code_of d) asked a,
            ),
          );
    }

    grants : TellsStores Stands → (h h' h'' : H) (old new : Snapshot) (units : ℕ) (call : HostCall) (e : Errno) → GrantsBy deferred Stands H Calls h h' h'' old new units call e
        → PausesBy (StandsForWhole deferred Stands) H Calls h h'' old new units (Called call e)
    grants tell h h' h'' old new units call e v =
        let same = v.answers.module_is ∙ ap (λ (s : Snapshot). s.valid) v.writes.is ∙ v.asks.module_is in
        let o = deferred old.valid in
        record {
          module_is = same;
          most_values = v.answers.most_values ∙ ap (λ (s : Snapshot). s.most_values) v.writes.is ∙ v.asks.most_values;
          units_rise = by_units old.used v.asking.used v.written.used new.used units v.answers.used (ap (λ (s : Snapshot). s.used) v.writes.is) v.asks.units_rise.0 v.unit_left;
          run = λ i c w.
              let (d, st, run, before, after, asked, a) = v.asks.run w.part c w.stands in
              let (b, last, so) = v.answers.run w.part (with_memory v.memory d) (v.writes.run w.part d st) in
              let by_host = subst (λ (g : H). Calls g v.asking.memory (suc v.asking.used) call (reverse v.answers.arguments) h'' v.memory (value e)) v.asks.host v.answered in
              let by_memory = subst (λ (z : List ℕ). Calls h z (suc v.asking.used) call (reverse v.answers.arguments) h'' v.memory (value e)) (sym (tell v.asking w.part d st).0) by_host in
              let calls = subst (λ (n : ℕ). Calls h (store_of d).memory (suc n) call (reverse v.answers.arguments) h'' v.memory (value e)) (sym after) by_memory in
              let (z, more, final) = granted H Calls o w.part d b v.answers.function v.answers.func_type v.answers.arguments v.memory e call h h'' so v.answers.fit
              (λ number. w.numbered v.answers.function number v.answers.func_type) v.is_deferred calls in (
                b,
                carry old new i c b same w last,
                subst (λ (y : Instance). Paused H Calls y (Called call e) h c h'' b) (sym w.is_whole)
                    (z, then_on H Calls (whole o w.part) h h h c d z [] (reach o w.part H Calls h h c d [] run) more, final),
              );
        }

pub machines_defer : (deferred : Deferring) (Stands : StandsFor) (H : Type 0) (Calls : CallsOf H) → MachinesDefer deferred Stands H Calls
machines_defer deferred Stands H Calls = record {
  tells = tells deferred Stands;
  opens = opens deferred Stands;
  invokes = invokes deferred Stands;
  writes = writes deferred Stands;
  lets_go = lets_go deferred Stands;
  returns = returns deferred Stands H Calls;
  resumes = resumes deferred Stands H Calls;
  asks = asks deferred Stands H Calls;
  answers = answers_so deferred Stands H Calls;
  waits = waits deferred Stands H Calls;
  grants = grants deferred Stands H Calls;
}
