-- A function is invoked with arguments, whatever was at work, and returns.
use Rattle.std.proofs.Common.{◌≡◌, ℕ, suc, ◌+◌, ◌<◌, ◌≤◌, List, [], ◌∷◌, ◌++◌, length, take, drop, reverse, Some, refl, sym, ap, ◌∙◌, subst, arith, inl, inr, length-append, length-drop}
use Rattle.std.specs.Prelude.{◌⊎◌, slice_get, vec_len, vec_capacity}
use Rattle.std.specs.List.{AllByRecursion}
use Rattle.std.proofs.lemmas.List.{length-reverse, reverse-reverse}
use Rattle.wasm_syntax.specs.declared.instruction.ValueType.{ValueType}
use Rattle.wasm_syntax.specs.declared.module.FuncType.{FuncType}
use Rattle.wasm_syntax.specs.Nested.{done}
use Rattle.wasm_store.specs.Instances.{outside}
use Rattle.wasm_store.specs.Values.{IsInType}
use Rattle.wasm_steps.specs.Configuration.{Val, numbers, types, signature_of, Instance, code, Configuration, at, store_of, used_by, entered}
use Rattle.wasm_steps.specs.Steps.{CallsOf}
use Rattle.plugin_steps.specs.Serving.{with_memory}
use Rattle.wasm_operands.specs.declared.phase.Phase.{Phase}
use Rattle.wasm_operands.specs.declared.phase.Phase.TheVariants.{Within as within, Between as between, Asking as asking}
use Rattle.wasm_operands.specs.declared.phase.Ask.{Ask}
use Rattle.wasm_places.specs.declared.tables.Prepared.{Prepared}
use Rattle.wasm_interp.specs.declared.state.State.{State}
use Rattle.wasm_interp.specs.Machine.{Represents, Snapshot}
use Rattle.wasm_interp.specs.Invoking.{Answers, AnswersAt, Fit, invocation_over, Invokes, IsAsked, IsImportType, IsLetGo, IsOwnType, IsWritten, Returns, values_of}
use Rattle.wasm_operands.specs.internal.Awaited.{Awaited, nothing_awaited}
use Rattle.wasm_interp.specs.internal.HeldState.{machine_over}
use Rattle.wasm_interp.specs.internal.Programs.{program_of}
use Rattle.wasm_operands.specs.internal.Standing.{CallsNext, Flat, IsInRange, IsStore, Program, served, Stands, StandsBetween}
use Rattle.wasm_operands.specs.internal.Driving.{outcome_at, Machine, MachineStands, StandsAt}
use Rattle.wasm_places.specs.internal.Programmed.{IsProgramOf}
use Rattle.wasm_interp.specs.internal.Running.{AsksWithin, CanBeAnswered, flat_of, machine_of, snapshot_of, HasRoom, IsInvocable, IsLive}
use Rattle.wasm_interp.specs.internal.Invoking.{Entered, HasLetGo, HasStopped, IsAnswered, Waits}
use Rattle.wasm_operands.proofs.Anywhere.{reach_anywhere}
use Rattle.wasm_operands.proofs.Values.{numbers-reverse}
use Rattle.wasm_interp.proofs.PlainSteps.Arguments.{types_given, numbers_given, given_in_range}
use Rattle.wasm_operands.proofs.PlainSteps.Lists.{all_both, reverse_cons, types-reverse}
use Rattle.wasm_operands.proofs.PlainSteps.Moving.{some_same}
use Rattle.wasm_places.proofs.PlainSteps.Driving.{used_at}
use Rattle.wasm_interp.proofs.PlainSteps.Turns.{is_running}
use Rattle.wasm_interp.proofs.PlainSteps.Frames.{args_there, machine_is}
use Rattle.wasm_interp.proofs.PlainSteps.Answering.{above_there, asked_code, asked_numbers, asks_whole, called_next, exchange, in_types, is_served}
use Rattle.wasm_interp.proofs.PlainSteps.Imports.{store_moved}
use Rattle.wasm_interp.proofs.PlainSteps.Snapshots.{store_at, shows_at, over_shown, finds_room}

-- ---- arguments

pub all_turned : (vs : List Val) → AllByRecursion IsInRange vs → AllByRecursion IsInRange (reverse vs)
all_turned [] a = tt
all_turned (v ∷ vs) a = subst (AllByRecursion IsInRange) (sym (reverse_cons v vs)) (all_both IsInRange (reverse vs) (v ∷ []) (all_turned vs a.1) (a.0, tt))

-- ---- the function

module _ (r : Prepared) (old new : State) (x : ℕ) (args : List ℕ) (f : FuncType) (own : IsOwnType r.valid x f) (fit : Fit f.params args) (e : Entered old new x args) where
  abbrev given : List Val
  given = values_of f.params args

  -- of whatever program of the module
  pub entered_stands : (p : Program) → IsProgramOf r p → (c : Configuration) → MachineStands p (machine_of old) c → MachineStands p (machine_of new) (invocation_over c given x)
  entered_stands p k c st =
      let d = k.own_types x f own in
      let stored : IsStore p (flat_of new) (store_of c) =
      store_moved p (flat_of old) (flat_of new) (store_of c) (sym (ap (λ (s : State). s.memory) e.is)) (sym (ap (λ (s : State). s.table) e.is)) (sym (ap (λ (s : State). s.globals) e.is)) (sym (ap (λ (s : State). s.used) e.is))
      (store_at p (flat_of old) old.pending old.phase c st.0) in
      let params : (signature_of d.1).params ≡ reverse (types (reverse given)) =
      ap (λ (z : FuncType). z.params) d.3 ∙ sym (types_given f.params args fit.count) ∙ sym (reverse-reverse (types given)) ∙ ap reverse (sym (types-reverse given)) in
      let stands : StandsBetween p (record { functions = x ∷ []; invoked = Some x }) (flat_of new) (invocation_over c given x) = record {
        suspended = ap reverse e.suspended;
        store = store_of c;
        vs = reverse given;
        is = refl;
        stack = ap reverse e.values ∙ ap reverse (sym (numbers_given f.params args fit.count)) ∙ sym (numbers-reverse given);
        in_range = all_turned given (given_in_range f.params args fit);
        is_store = stored;
        outside = (refl, record { is_own = d.0; callee = d.1; is_callee = d.2; params = params });
      } in
      subst (λ (z : Awaited). MachineStands p (record { flat = flat_of new; pending = z; phase = new.phase }) (invocation_over c given x)) (sym (ap (λ (s : State). s.pending) e.is))
      (subst (λ (z : Phase). MachineStands p (record { flat = flat_of new; pending = record { functions = x ∷ []; invoked = Some x }; phase = z }) (invocation_over c given x)) (sym (ap (λ (s : State). s.phase) e.is)) (stands, tt))

  module _ (m : IsInvocable r old) (few : length args ≤ 16) where
    room : HasRoom new
    room =
        let k = m.live.room in
        let most : new.most_values ≡ old.most_values = ap (λ (s : State). s.most_values) e.is in record {
          values = omega (arith, k.values, e.room);
          spare = omega (arith, k.values, e.room, ap length e.values, new.values.ok.0, few);
          frames = omega (arith, k.frames, e.frames);
          few = omega (arith, ap length e.suspended, new.suspended.ok.0);
          bound = omega (arith, k.bound, e.room, most);
        }

    pub entered_invocable : IsInvocable r new
    entered_invocable =
        let l = m.live in record {
          tables = m.tables;
          live = record {
            program = l.program;
            is_program = l.is_program;
            configuration = invocation_over l.configuration given x;
            stands = entered_stands l.program l.is_program l.configuration l.stands;
            room = room;
          };
          answers = λ b is. let z : between ≡ asking b = sym (ap (λ (s : State). s.phase) e.is) ∙ is in absurd (cc);
        }

    pub invokes : Invokes (snapshot_of r old) (snapshot_of r new) x args
    unfolding Represents
    invokes = record {
      module_is = refl;
      used = ap (λ (s : State). s.used) e.is;
      most_values = ap (λ (s : State). s.most_values) e.is;
      func_type = f;
      is_own = own;
      fit = fit;
      has_type = λ i c is. let k = (m.tables i is.1.valid is.1.instance is.1.limit).own_types x f own in (k.1, k.2, k.3);
      run = λ i c is.
          let held = is.1 in
          let p : Program = program_of r.valid r.tables.calls.items i held.valid held.instance in
          let at_old : MachineStands p (machine_of old) c = subst (λ (z : Machine). MachineStands p z c) (over_shown r old (store_of c) is.0) held.stands in
          let whole = entered_stands p (m.tables i held.valid held.instance held.limit) c at_old in
          let shows = shows_at p r new (invocation_over c given x) whole.0 in (
            shows,
            record { valid = held.valid; instance = held.instance; limit = held.limit; stands = subst (λ (z : Machine). MachineStands p z (invocation_over c given x)) (sym (over_shown r new (store_of c) shows)) whole },
            finds_room r new room,
          );
    }

-- the globals that a machine shows are numbers of their types
pub globals_represented : (s : Snapshot) (i : Instance) (c : Configuration) → Represents s i c → AllByRecursion IsInType (store_of c).globals
unfolding Represents
globals_represented s i c is =
    let held = is.1 in
    let m : Machine = machine_over (store_of c) s.state in
    in_types (store_of c).globals (store_at (program_of s.valid s.state.calls i held.valid held.instance) m.flat m.pending m.phase c held.stands.0).globals_in_range

-- what a return is
pub returned_of : (H : Type 0) (Calls : CallsOf H) (r : Prepared) (h h' : H) (old new : State) (units : ℕ) → IsInvocable r old → HasRoom new → new.most_values ≡ old.most_values → HasStopped H r h h' old new units → new.phase ≡ between → new.pending.functions ≡ []
    → Returns H Calls h h' (snapshot_of r old) (snapshot_of r new) units
unfolding Represents
returned_of H Calls r h h' old new units m room most k idle nothing = record {
  module_is = refl;
  most_values = most;
  host = k.host;
  units_rise = (omega (arith, k.goes.1.units_are), k.units_left);
  runs = ap outcome_at idle;
  run = λ i c st.
      let held = st.1 in
      let p = program_of r.valid r.tables.calls.items i held.valid held.instance in
      let at_old = subst (λ (z : Machine). MachineStands p z c) (over_shown r old (store_of c) st.0) held.stands in
      let n = k.goes.1.run p (m.tables i held.valid held.instance held.limit) c at_old in
      let shows = shows_at p r new n.0 n.1.0 in
      let whole = subst (λ (z : Machine). MachineStands p z n.0) (sym (over_shown r new (store_of n.0) shows)) n.1 in
      let between_now = subst (λ (z : Phase). StandsAt p (flat_of new) new.pending z n.0) idle n.1.0 in
      let used_old : used_by c ≡ old.used = used_at p (flat_of old) old.pending old.phase c at_old.0 in
      let used_new : used_by n.0 ≡ new.used = used_at p (flat_of new) new.pending new.phase n.0 n.1.0 in
      let is : n.0 ≡ at between_now.store [] (code between_now.vs done) = between_now.is ∙ ap (λ xs. at between_now.store [] (code between_now.vs (entered xs))) nothing in (
        n.0,
        (shows, record { valid = held.valid; instance = held.instance; limit = held.limit; stands = whole }, finds_room r new room),
        reach_anywhere H Calls p.instance h n.2,
        used_old,
        used_new,
        between_now.vs,
        is ∙ ap (λ s. at s [] (code between_now.vs done)) (sym (ap store_of is)),
        sym between_now.stack,
      );
}

-- what it is that the embedder is asked
pub asked_of : (H : Type 0) (Calls : CallsOf H) (r : Prepared) (h h' : H) (old new : State) (units : ℕ) (a : Ask) → IsInvocable r old → HasRoom new → new.most_values ≡ old.most_values → HasStopped H r h h' old new units → new.phase ≡ asking a
    → IsAsked H Calls h h' (snapshot_of r old) (snapshot_of r new) units a.function
unfolding Represents
asked_of H Calls r h h' old new units a m room most k asks = record {
  module_is = refl;
  most_values = most;
  host = k.host;
  units_rise = (omega (arith, k.goes.1.units_are), k.units_left);
  left = by_left k.left;
  runs = ap outcome_at asks;
  run = λ i c st.
      let held = st.1 in
      let p = program_of r.valid r.tables.calls.items i held.valid held.instance in
      let ok = m.tables i held.valid held.instance held.limit in
      let at_old = subst (λ (z : Machine). MachineStands p z c) (over_shown r old (store_of c) st.0) held.stands in
      let n = k.goes.1.run p ok c at_old in
      let shows = shows_at p r new n.0 n.1.0 in
      let whole = subst (λ (z : Machine). MachineStands p z n.0) (sym (over_shown r new (store_of n.0) shows)) n.1 in
      let now = subst (λ (z : Phase). StandsAt p (flat_of new) new.pending z n.0) asks n.1.0 in
      let q = called_next p ok.is_program new.pending (flat_of new) n.0 now.stands a.function a.above now.calls in (
        n.0,
        (shows, record { valid = held.valid; instance = held.instance; limit = held.limit; stands = whole }, finds_room r new room),
        reach_anywhere H Calls p.instance h n.2,
        used_at p (flat_of old) old.pending old.phase c at_old.0,
        used_at p (flat_of new) new.pending new.phase n.0 n.1.0,
        asked_code p new.pending (flat_of new) n.0 now.stands a.function q.func_type a.above q.calls,
        asks_whole p new.pending (flat_of new) n.0 now.stands a.function q.func_type a.above q.calls,
      );
} where
  by_left : (new ≡ old) ⊎ AsksWithin (old.used + units) new → (snapshot_of r new ≡ snapshot_of r old) ⊎ (new.used < old.used + units)
  by_left (inl same) = inl (ap (snapshot_of r) same)
  by_left (inr w) = inr (w a asks).0

-- ---- an answer

-- the arguments are there, and what stands above them
pub arguments_asked : (r : Prepared) (s : State) (a : Ask) → s.phase ≡ asking a → (f : FuncType) → IsImportType r.valid a.function f → IsLive r s → length f.params + a.above ≤ vec_len s.values
arguments_asked r s a asks f is_import l =
    let p = l.program in
    let c = l.configuration in
    let now = subst (λ (z : Phase). StandsAt p (flat_of s) s.pending z c) asks l.stands.0 in
    let q = called_next p l.is_program.is_program s.pending (flat_of s) c now.stands a.function a.above now.calls in
    let typed : q.func_type ≡ f = sym q.has_type ∙ l.is_program.import_types a.function f q.callee is_import q.is_callee in
    omega (
      arith,
      args_there p s.pending (flat_of s) c now.stands a.function a.above q,
      ap (λ (g : FuncType). length g.params) typed,
      above_there p s.pending (flat_of s) c now.stands a.function a.above now.calls,
      length-drop a.above (flat_of s).stack,
      length-reverse s.values.items,
      s.values.ok.0,
    )

module _ (r : Prepared) (old new : State) (a : Ask) (asks : old.phase ≡ asking a) (f : FuncType) (is_import : IsImportType r.valid a.function f) (ns : List ℕ) (fit : Fit f.results ns) (e : IsAnswered old new a.above (length f.params) ns) where
  -- of whatever program of the module
  pub answered_at : (p : Program) → IsProgramOf r p → (c : Configuration) → MachineStands p (machine_of old) c → (d : Configuration) × MachineStands p (machine_of new) d × AnswersAt p.instance c d a.function f (take (length f.params) (drop a.above (reverse old.values.items))) ns
  answered_at p ok c st =
      let now = subst (λ (z : Phase). StandsAt p (flat_of old) old.pending z c) asks st.0 in
      let s : Flat = flat_of old in
      let q = called_next p ok.is_program old.pending s c now.stands a.function a.above now.calls in
      let typed : q.func_type ≡ f = sym q.has_type ∙ ok.import_types a.function f q.callee is_import q.is_callee in
      let outside_is : q.callee ≡ outside now.func_type now.number = some_same (sym q.is_callee ∙ now.is_callee) in
      let same : now.func_type ≡ q.func_type = ap signature_of (sym outside_is) ∙ q.has_type in
      let has : slice_get p.instance.callees a.function ≡ Some (outside q.func_type now.number) = now.is_callee ∙ ap (λ (g : FuncType). Some (outside g now.number)) same in
      let fits : Fit q.func_type.results ns = subst (λ (g : FuncType). Fit g.results ns) (sym typed) fit in
      let one : length q.func_type.results ≤ 1 = omega (arith, ok.is_program.one_result a.function q.callee q.is_callee, ap (λ (g : FuncType). length g.results) q.has_type) in
      let v = is_served p old.pending s c now.stands a.function q.func_type a.above q.calls now.number has ns fits one in
      let f_is : flat_of new ≡ served s ns (drop (length q.func_type.params) (drop a.above s.stack)) =
      ap (λ (z : Machine). z.flat) (machine_is new (served s ns (drop (length q.func_type.params) (drop a.above s.stack))) old.pending within
      (ap (λ (z : State). z.current) e.is) (ap (λ (z : State). reverse z.suspended.items) e.is) (e.values ∙ ap (λ (g : FuncType). ns ++ drop (length g.params) (drop a.above s.stack)) (sym typed))
      (ap (λ (z : State). z.memory) e.is) (ap (λ (z : State). z.table) e.is) (ap (λ (z : State). z.globals) e.is) (ap (λ (z : State). z.used) e.is) (ap (λ (z : State). z.pending) e.is) (ap (λ (z : State). z.phase) e.is)) in
      let stands : MachineStands p (machine_of new) v.next =
      subst (λ (z : Machine). MachineStands p z v.next) (sym (is_running new old.pending (ap (λ (z : State). z.phase) e.is) (ap (λ (z : State). z.pending) e.is)))
      (subst (λ (z : Flat). Stands p old.pending z v.next) (sym f_is) v.stands, st.1) in (
        v.next,
        stands,
        record {
          asked = asked_code p old.pending s c now.stands a.function q.func_type a.above q.calls;
          exchange = exchange p old.pending s c now.stands a.function q.func_type a.above q.calls now.number has ns fits one;
          is_callee = has ∙ ap (λ (g : FuncType). Some (outside g now.number)) typed;
          bare = v.bare;
          asks = v.asks;
          serves = v.step;
          arguments_are = sym (asked_numbers p old.pending s c now.stands a.function q.func_type a.above q.calls) ∙ ap (λ (g : FuncType). take (length g.params) (drop a.above s.stack)) typed;
          results_are = ap (λ (g : FuncType). values_of g.results ns) typed;
          left = sym (ap (λ (y : Configuration). (store_of y).memory) now.stands.is);
        },
      )

  module _ (m : IsInvocable r old) (few : length ns ≤ 1) where
    room_answered : HasRoom new
    room_answered =
        let k = m.live.room in
        let can = m.answers a asks in
        let most : new.most_values ≡ old.most_values = ap (λ (z : State). z.most_values) e.is in
        let frames : vec_len new.suspended ≡ vec_len old.suspended = ap (λ (z : State). vec_len z.suspended) e.is in
        let room : vec_capacity new.suspended ≡ vec_capacity old.suspended = ap (λ (z : State). vec_capacity z.suspended) e.is in
        record {
          values = omega (arith, k.values, e.room);
          spare = fewer k can.1;
          frames = omega (arith, k.frames, room);
          few = omega (arith, k.few, frames);
          bound = omega (arith, k.bound, e.room, most);
        } where
          fewer : HasRoom old → vec_len old.values + 1 < vec_capacity old.values + a.above → vec_len new.values < vec_capacity new.values
          fewer k can = omega (
            arith,
            can,
            k.spare,
            e.room,
            few,
            ap length e.values,
            length-append ns (drop (length f.params) (drop a.above (reverse old.values.items))),
            length-drop (length f.params) (drop a.above (reverse old.values.items)),
            length-drop a.above (reverse old.values.items),
            length-reverse old.values.items,
            length-reverse new.values.items,
            old.values.ok.0,
            new.values.ok.0,
          )

    pub answered_invocable : IsInvocable r new
    answered_invocable =
        let l = m.live in
        let n = answered_at l.program l.is_program l.configuration l.stands in
        let phase : new.phase ≡ within = ap (λ (z : State). z.phase) e.is in
        record {
          tables = m.tables;
          live = record { program = l.program; is_program = l.is_program; configuration = n.0; stands = n.1; room = room_answered };
          answers = λ b is. let z : within ≡ asking b = sym phase ∙ is in absurd (cc);
        }

    pub answers_of : Answers (snapshot_of r old) (snapshot_of r new) ns
    unfolding Represents
    answers_of = record {
      module_is = refl;
      most_values = ap (λ (z : State). z.most_values) e.is;
      used = ap (λ (z : State). z.used) e.is;
      function = a.function;
      func_type = f;
      arguments = take (length f.params) (drop a.above (reverse old.values.items));
      asked_for = record { above = a.above; asks = asks; is_import = is_import; arguments_are = refl };
      fit = fit;
      run = λ i c is.
          let held = is.1 in
          let p : Program = program_of r.valid r.tables.calls.items i held.valid held.instance in
          let at_old : MachineStands p (machine_of old) c = subst (λ (z : Machine). MachineStands p z c) (over_shown r old (store_of c) is.0) held.stands in
          let n = answered_at p (m.tables i held.valid held.instance held.limit) c at_old in
          let shows = shows_at p r new n.0 n.1.0 in
          let whole = subst (λ (z : Machine). MachineStands p z n.0) (sym (over_shown r new (store_of n.0) shows)) n.1 in
          (n.0, (shows, record { valid = held.valid; instance = held.instance; limit = held.limit; stands = whole }, finds_room r new room_answered), n.2);
    }

-- ---- all is let go

module _ (r : Prepared) (old new : State) (e : HasLetGo old new) where
  pub let_go_stands : (p : Program) → IsProgramOf r p → (c : Configuration) → MachineStands p (machine_of old) c → MachineStands p (machine_of new) (at (store_of c) [] (code [] done))
  let_go_stands p k c st =
      let stored : IsStore p (flat_of new) (store_of c) =
      store_moved p (flat_of old) (flat_of new) (store_of c) (sym (ap (λ (s : State). s.memory) e.is)) (sym (ap (λ (s : State). s.table) e.is)) (sym (ap (λ (s : State). s.globals) e.is)) (sym (ap (λ (s : State). s.used) e.is))
      (store_at p (flat_of old) old.pending old.phase c st.0) in
      let stands : StandsBetween p nothing_awaited (flat_of new) (at (store_of c) [] (code [] done)) = record {
        suspended = ap reverse e.suspended;
        store = store_of c;
        vs = [];
        is = refl;
        stack = ap reverse e.values;
        in_range = tt;
        is_store = stored;
        outside = refl;
      } in
      subst (λ (z : Awaited). MachineStands p (record { flat = flat_of new; pending = z; phase = new.phase }) (at (store_of c) [] (code [] done))) (sym (ap (λ (s : State). s.pending) e.is))
      (subst (λ (z : Phase). MachineStands p (record { flat = flat_of new; pending = nothing_awaited; phase = z }) (at (store_of c) [] (code [] done))) (sym (ap (λ (s : State). s.phase) e.is)) (stands, tt))

  module _ (m : IsInvocable r old) where
    room_let_go : HasRoom new
    room_let_go =
        let k = m.live.room in
        let most : new.most_values ≡ old.most_values = ap (λ (s : State). s.most_values) e.is in record {
          values = omega (arith, k.values, e.room);
          spare = omega (arith, k.values, e.room, ap length e.values, new.values.ok.0);
          frames = omega (arith, k.frames, e.frames);
          few = omega (arith, ap length e.suspended, new.suspended.ok.0);
          bound = omega (arith, k.bound, e.room, most);
        }

    pub let_go_invocable : IsInvocable r new
    let_go_invocable =
        let l = m.live in record {
          tables = m.tables;
          live = record { program = l.program; is_program = l.is_program; configuration = at (store_of l.configuration) [] (code [] done); stands = let_go_stands l.program l.is_program l.configuration l.stands; room = room_let_go };
          answers = λ b is. let z : between ≡ asking b = sym (ap (λ (s : State). s.phase) e.is) ∙ is in absurd (cc);
        }

    pub lets_go : IsLetGo (snapshot_of r old) (snapshot_of r new)
    unfolding Represents
    lets_go = record {
      module_is = refl;
      most_values = ap (λ (s : State). s.most_values) e.is;
      used = ap (λ (s : State). s.used) e.is;
      runs = ap (λ (s : State). outcome_at s.phase) e.is;
      run = λ i c is.
          let held = is.1 in
          let p : Program = program_of r.valid r.tables.calls.items i held.valid held.instance in
          let at_old : MachineStands p (machine_of old) c = subst (λ (z : Machine). MachineStands p z c) (over_shown r old (store_of c) is.0) held.stands in
          let to : Configuration = at (store_of c) [] (code [] done) in
          let whole = let_go_stands p (m.tables i held.valid held.instance held.limit) c at_old in
          let shows = shows_at p r new to whole.0 in
          (shows, record { valid = held.valid; instance = held.instance; limit = held.limit; stands = subst (λ (z : Machine). MachineStands p z to) (sym (over_shown r new (store_of to) shows)) whole }, finds_room r new room_let_go);
    }

-- ---- the embedder writes

module _ (p : Program) (pending : Awaited) (s : Flat) (memory : List ℕ) where
  -- into the store
  store_written : (c : Configuration) → IsStore p s (store_of c) → IsStore p (record s { memory = memory }) (store_of (with_memory memory c))
  store_written (at store f d) k = record { memory = refl; table = k.table; functions = k.functions; globals = k.globals; global_types = k.global_types; globals_in_range = k.globals_in_range; used = k.used }

  -- inside a function and outside of all
  within_written : (c : Configuration) → Stands p pending s c → Stands p pending (record s { memory = memory }) (with_memory memory c)
  within_written c st = record {
    text = st.text;
    store = record st.store { memory = memory };
    locals = st.locals;
    arity = st.arity;
    labels = st.labels;
    vs = st.vs;
    body = st.body;
    callers = st.callers;
    is = ap (with_memory memory) st.is;
    active = st.active;
    stack = st.stack;
    in_range = st.in_range;
    is_store = record { memory = refl; table = st.is_store.table; functions = st.is_store.functions; globals = st.is_store.globals; global_types = st.is_store.global_types; globals_in_range = st.is_store.globals_in_range; used = st.is_store.used };
    running = st.running;
    back = st.back;
  }

  between_written : (c : Configuration) → StandsBetween p pending s c → StandsBetween p pending (record s { memory = memory }) (with_memory memory c)
  between_written c st = record {
    suspended = st.suspended;
    store = record st.store { memory = memory };
    vs = st.vs;
    is = ap (with_memory memory) st.is;
    stack = st.stack;
    in_range = st.in_range;
    is_store = record { memory = refl; table = st.is_store.table; functions = st.is_store.functions; globals = st.is_store.globals; global_types = st.is_store.global_types; globals_in_range = st.is_store.globals_in_range; used = st.is_store.used };
    outside = st.outside;
  }

  waiting_written : (f : Phase) (c : Configuration) → (f ≡ between) ⊎ ((a : Ask) × (f ≡ asking a)) → StandsAt p s pending f c → StandsAt p (record s { memory = memory }) pending f (with_memory memory c)
  waiting_written f c (inl is) st =
      subst (λ (z : Phase). StandsAt p (record s { memory = memory }) pending z (with_memory memory c)) (sym is) (between_written c (subst (λ (z : Phase). StandsAt p s pending z c) is st))
  waiting_written f c (inr (a, is)) st =
      let k = subst (λ (z : Phase). StandsAt p s pending z c) is st in
      subst (λ (z : Phase). StandsAt p (record s { memory = memory }) pending z (with_memory memory c)) (sym is)
      (record { stands = within_written c k.stands; func_type = k.func_type; number = k.number; is_callee = k.is_callee; calls = by_kind k.calls })
    where
      by_kind : {a : Ask} → CallsNext p s a.function a.above → CallsNext p (record s { memory = memory }) a.function a.above
      by_kind (inl (none, ts, n)) = inl (none, ts, record { text = n.text; is_text = n.is_text; here = n.here })
      by_kind (inr (y, one, (ts, n), g)) = inr (y, one, (ts, record { text = n.text; is_text = n.is_text; here = n.here }), record { element = g.element; callee = g.callee; is_callee = g.is_callee; has_type = g.has_type })

module _ (r : Prepared) (old new : State) (memory : List ℕ) (waits : Waits old) (is : new ≡ record old { memory = new.memory }) (memory_is : new.memory ≡ memory) where
  waiting : (old.phase ≡ between) ⊎ ((a : Ask) × (old.phase ≡ asking a))
  waiting = by_waits waits where
    by_waits : Waits old → (old.phase ≡ between) ⊎ ((a : Ask) × (old.phase ≡ asking a))
    by_waits (inl w) = inl w.0
    by_waits (inr w) = inr w

  machine_written : machine_of new ≡ record { flat = record (flat_of old) { memory = memory }; pending = old.pending; phase = old.phase }
  machine_written = ap machine_of is ∙ ap (λ (z : List ℕ). record { flat = record (flat_of old) { memory = z }; pending = old.pending; phase = old.phase }) memory_is

  pub written_stands : (p : Program) (c : Configuration) → MachineStands p (machine_of old) c → MachineStands p (machine_of new) (with_memory memory c)
  written_stands p c st =
      subst (λ (z : Machine). MachineStands p z (with_memory memory c)) (sym machine_written) (waiting_written p old.pending (flat_of old) memory old.phase c waiting st.0, st.1)

  module _ (m : IsInvocable r old) where
    room_written : HasRoom new
    room_written = let k = m.live.room in subst HasRoom (sym is) (record { values = k.values; spare = k.spare; frames = k.frames; few = k.few; bound = k.bound })

    pub written_invocable : IsInvocable r new
    written_invocable =
        let l = m.live in record {
          tables = m.tables;
          live = record { program = l.program; is_program = l.is_program; configuration = with_memory memory l.configuration; stands = written_stands l.program l.configuration l.stands; room = room_written };
          answers = subst CanBeAnswered (sym is) m.answers;
        }

    pub is_written : IsWritten (snapshot_of r old) (snapshot_of r new) memory
    unfolding Represents
    is_written = record {
      is = ap (snapshot_of r) is ∙ ap (λ (z : List ℕ). record (snapshot_of r old) { memory = z }) memory_is;
      run = λ i c st.
          let held = st.1 in
          let p : Program = program_of r.valid r.tables.calls.items i held.valid held.instance in
          let at_old : MachineStands p (machine_of old) c = subst (λ (z : Machine). MachineStands p z c) (over_shown r old (store_of c) st.0) held.stands in
          let to : Configuration = with_memory memory c in
          let whole = written_stands p c at_old in
          let shows = shows_at p r new to whole.0 in
          (shows, record { valid = held.valid; instance = held.instance; limit = held.limit; stands = subst (λ (z : Machine). MachineStands p z to) (sym (over_shown r new (store_of to) shows)) whole }, finds_room r new room_written);
    }
