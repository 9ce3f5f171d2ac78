-- What is done with an instance, by what its calls promise, is turns of whatever its machine stands for.
use Rattle.std.proofs.Common.{◌≡◌, ℕ, List, [], ◌∷◌, refl, sym, ◌∙◌, ap, subst}
use Rattle.std.specs.Prelude.{Contains}
use Rattle.wasm_syntax.specs.declared.module.ExportKind.TheVariants as exports
use Rattle.wasm_syntax.specs.declared.module.Module.{Module}
use Rattle.wasm_syntax.specs.Nested.{done as finished}
use Rattle.wasm_num.specs.declared.trap.Trap.{Trap}
use Rattle.wasm_store.specs.Bytes.{written}
use Rattle.wasm_steps.specs.declared.pause.Outcome.TheVariants.{Exited, Trapped, OutOfFuel, OutOfMemory}
use Rattle.wasm_steps.specs.declared.pause.Pause.{Pause}
use Rattle.wasm_steps.specs.declared.pause.Pause.TheVariants.{Called, Spent, Ended}
use Rattle.wasm_steps.specs.Configuration.{Instance, code, stopped, trapped, Configuration, at, code_of, store_of, used_by}
use Rattle.wasm_steps.specs.Outcomes.{EndsAs}
use Rattle.wasm_places.specs.declared.invocable.Event.{Event}
use Rattle.wasm_places.specs.declared.invocable.Event.TheVariants as event
use Rattle.wasm_operands.specs.Snapshots.{Snapshot, StandsFor}
use Rattle.plugin_steps.specs.Serving.{with_memory}
use Rattle.wasm_interp.specs.Invocations.{AnswersAt, AnswersBy, AsksBy, InvokesBy, LetsGoBy, ReturnsBy, WritesBy, invocation_over, results_of, values_of}
use Rattle.wasm_interp.specs.Promises.{PausesBy}
use Rattle.wasi_bodies.specs.host.Worlds.{HostState}
use Rattle.sandbox_core.specs.Devices.{Devices, Calls}
use Rattle.plugin_core.specs.declared.stage.Stage.{Stage}
use Rattle.plugin_core.specs.Handling.{Act, Handled, abandoned, act_of, after, answered, asked, invoked, paused, returned, wrote}
use Rattle.plugin_core.specs.Handling as handling
use Rattle.plugin_session.specs.States.{InstanceState}
use Rattle.plugin_session.specs.Headline.{History, acts_of}
use Rattle.same_instance.specs.Turns.{Action, ChangesBy, Turn, Turns, TakesUnits, go, answer, write, invoke, abandon}
use Rattle.same_instance.specs.Turns as turns
use Rattle.same_instance.specs.Doing.{FollowActions, IsClear, IsToldOf}
use Rattle.same_instance.specs.SameInstance.{TellsAll}

-- what is allowed after all that was told
abbrev pub stage_after : Stage → List Act → Stage
stage_after g [] = g
stage_after g (k ∷ ks) = stage_after (after g k) ks

module _ (Stands : StandsFor) (tells : TellsAll Stands) {D R W1 W2 : Type 0} (on : Devices D R W1 W2) where
  abbrev S : Type 0
  S = InstanceState D R W1 W2

  abbrev Host : Type 0
  Host = HostState D R W1 W2

  used_is : (c : Configuration) → used_by c ≡ (store_of c).used
  used_is (at s f c) = refl

  units : (s : Snapshot) (i : Instance) (c : Configuration) → Stands s i c → used_by c ≡ s.used
  units s i c st = used_is c ∙ (tells s i c st).used

  -- a turn to a configuration that the new machine stands for
  abbrev Turned : Module → Instance → S → Configuration → Action → Act → S → Type 0
  Turned m i s c a k t = (d : Configuration) × Stands t.machine i d × Turn Host (Calls on) m i s.host c a k t.host d

  abbrev Did : Module → S → Act → S → Type 0
  Did m s k t = Handled Stands Host (Calls on) m s.host s.machine k t.host t.machine

  -- ---- what each call promises

  module _ (m : Module) where
    abbrev Made : Host → Snapshot → Act → Host → Snapshot → Type 0
    Made h s k h' t = Handled Stands Host (Calls on) m h s k h' t

    pause_of : (h h' : Host) (s t : Snapshot) (p : Pause) → Made h s (paused p) h' t → (n : ℕ) × PausesBy Stands Host (Calls on) h h' s t n p
    pause_of h h' s t p (handling.pauses n _ v) = (n, v)

    return_of : (h h' : Host) (s t : Snapshot) (ns : List ℕ) → Made h s (returned ns) h' t → (n : ℕ) × ReturnsBy Stands Host (Calls on) h h' s t n
    return_of h h' s t _ (handling.has_returned n v) = (n, v)

    ask_of : (h h' : Host) (s t : Snapshot) (x : ℕ) → Made h s (asked x) h' t → (n : ℕ) × AsksBy Stands Host (Calls on) h h' s t n x
    ask_of h h' s t x (handling.asks n _ v) = (n, v)

    enter_of : (h h' : Host) (s t : Snapshot) (x : ℕ) (args : List ℕ) → Made h s (invoked x args) h' t → (h' ≡ h) × InvokesBy Stands s t x args
    enter_of h h' s t x args (handling.invokes _ _ name exported v) = (refl, v)

    write_of : (h h' : Host) (s t : Snapshot) (memory : List ℕ) → Made h s (wrote memory) h' t → (h' ≡ h) × WritesBy Stands s t memory
    write_of h h' s t memory (handling.writes _ long v) = (refl, v)

    let_go_of : (h h' : Host) (s t : Snapshot) → Made h s abandoned h' t → (h' ≡ h) × LetsGoBy Stands s t
    let_go_of h h' s t (handling.lets_go v) = (refl, v)

    -- of an answer: with the function and the arguments that it was for
    record Answered (h h' : Host) (s t : Snapshot) (x : ℕ) (arguments results : List ℕ) : Type 0 where
      pub host : h' ≡ h
      pub by : AnswersBy Stands s t results
      pub function_is : x ≡ by.function
      pub arguments_are : arguments ≡ by.arguments

    answer_of : (h h' : Host) (s t : Snapshot) (memory : List ℕ) (x : ℕ) (arguments results : List ℕ) → Made h s (answered memory x arguments results) h' t → Answered h h' s t x arguments results
    answer_of h h' s t _ _ _ results (handling.answers _ v) = record { host = refl; by = v; function_is = refl; arguments_are = refl }

    module_kept : (h h' : Host) (s t : Snapshot) (k : Act) → Made h s k h' t → t.valid ≡ s.valid
    module_kept h h' s t _ (handling.invokes x args name exported v) = v.module_is
    module_kept h h' s t _ (handling.writes memory long v) = ap (λ (z : Snapshot). z.valid) v.is
    module_kept h h' s t _ (handling.lets_go v) = v.module_is
    module_kept h h' s t _ (handling.pauses n p v) = v.module_is
    module_kept h h' s t _ (handling.has_returned n v) = v.module_is
    module_kept h h' s t _ (handling.asks n x v) = v.module_is
    module_kept h h' s t _ (handling.answers results v) = v.module_is

  -- ---- what the machine stands for

  takes_at : (k : Act) (n : ℕ) (s t : S) (i : Instance) (c d : Configuration) → Stands s.machine i c → Stands t.machine i d → TakesUnits k n s.machine.used t.machine.used → TakesUnits k n (used_by c) (used_by d)
  takes_at k n s t i c d st now takes =
      subst (λ (u : ℕ). TakesUnits k n u (used_by d)) (sym (units s.machine i c st)) (subst (λ (v : ℕ). TakesUnits k n s.machine.used v) (sym (units t.machine i d now)) takes)

  trapped_at : (i : Instance) (t : Trap) (h : Host) (d : Configuration) → EndsAs Host (Calls on) i (Trapped t) h d → code_of d ≡ stopped (trapped t)
  trapped_at i t h (at s f c) is = is

  -- how a pause halts, at a configuration that the new machine stands for
  pause_turn : (m : Module) (i : Instance) (s t : S) (c : Configuration) (n : ℕ) (p : Pause) → Stands s.machine i c → Did m s (paused p) t → TakesUnits (paused p) n s.machine.used t.machine.used → IsClear Stands on (paused p) t
      → Turned m i s c (go n) (paused p) t
  pause_turn m i s t c n (Called call e) st did takes clear =
      let (u, v) = pause_of m s.host t.host s.machine t.machine (Called call e) did in
      let (d, now, (b, run, step)) = v.run i c st in
      (d, now, turns.goes n (paused (Called call e)) run step (takes_at (paused (Called call e)) n s t i c d st now takes))
  pause_turn m i s t c n Spent st did takes clear =
      let (u, v) = pause_of m s.host t.host s.machine t.machine Spent did in
      let (d, now, (run, same, plain)) = v.run i c st in
      (d, now, turns.goes n (paused Spent) run (refl, refl, plain) (takes_at (paused Spent) n s t i c d st now takes))
  pause_turn m i s t c n (Ended (Exited status)) st did takes clear =
      let (u, v) = pause_of m s.host t.host s.machine t.machine (Ended (Exited status)) did in
      let (d, now, (run, end)) = v.run i c st in
      (d, now, turns.goes n (paused (Ended (Exited status))) run (refl, refl, clear i d now) (takes_at (paused (Ended (Exited status))) n s t i c d st now takes))
  pause_turn m i s t c n (Ended (Trapped trap)) st did takes clear =
      let (u, v) = pause_of m s.host t.host s.machine t.machine (Ended (Trapped trap)) did in
      let (d, now, (run, end)) = v.run i c st in
      (d, now, turns.goes n (paused (Ended (Trapped trap))) run (refl, refl, trapped_at i trap t.host d end) (takes_at (paused (Ended (Trapped trap))) n s t i c d st now takes))
  pause_turn m i s t c n (Ended OutOfFuel) st did takes clear =
      let (u, v) = pause_of m s.host t.host s.machine t.machine (Ended OutOfFuel) did in
      let (d, now, (run, end)) = v.run i c st in
      absurd end
  pause_turn m i s t c n (Ended OutOfMemory) st did takes clear =
      let (u, v) = pause_of m s.host t.host s.machine t.machine (Ended OutOfMemory) did in
      let (d, now, (run, end)) = v.run i c st in
      (d, now, turns.goes n (paused (Ended OutOfMemory)) run (refl, refl, tt) (takes_at (paused (Ended OutOfMemory)) n s t i c d st now takes))

  event_turn : (m : Module) (i : Instance) (s t : S) (c : Configuration) (n : ℕ) (e : Event) → Stands s.machine i c → Did m s (act_of e t.machine) t → TakesUnits (act_of e t.machine) n s.machine.used t.machine.used → IsClear Stands on (act_of e t.machine) t
      → Turned m i s c (go n) (act_of e t.machine) t
  event_turn m i s t c n event.Returned st did takes clear =
      let k : Act = returned (results_of t.machine) in
      let (u, v) = return_of m s.host t.host s.machine t.machine (results_of t.machine) did in
      let (d, now, run, before, later, vs, is, told) = v.run i c st in
      (d, now, turns.goes n k run (v.host, refl, (vs, ap code_of is, told)) (takes_at k n s t i c d st now takes))
  event_turn m i s t c n (event.Asked x) st did takes clear =
      let (u, v) = ask_of m s.host t.host s.machine t.machine x did in
      let (d, now, run, before, later, asking, a) = v.run i c st in
      let (number, embeds) = clear i d now in
      (d, now, turns.goes n (asked x) run (v.host, refl, (number, embeds, asking, a)) (takes_at (asked x) n s t i c d st now takes))
  event_turn m i s t c n (event.Paused p) st did takes clear = pause_turn m i s t c n p st did takes clear

  go_turn : (m : Module) (i : Instance) (s t : S) (c : Configuration) (n : ℕ) (k : Act) (e : Event) → Stands s.machine i c → Did m s k t → k ≡ act_of e t.machine → TakesUnits k n s.machine.used t.machine.used → IsClear Stands on k t
      → Turned m i s c (go n) k t
  go_turn m i s t c n k e st did is takes clear = subst (λ (x : Act). Turned m i s c (go n) x t) (sym is)
      (event_turn m i s t c n e st (subst (λ (x : Act). Did m s x t) is did) (subst (λ (x : Act). TakesUnits x n s.machine.used t.machine.used) is takes) (subst (λ (x : Act). IsClear Stands on x t) is clear))

  -- what changes no host
  changed : (m : Module) (i : Instance) (s t : S) (c d : Configuration) (a : Action) (k : Act) → t.host ≡ s.host → Stands t.machine i d → ChangesBy m i a k c d → Turned m i s c a k t
  changed m i s t c d a k same now change = (d, now, subst (λ (h : Host). Turn Host (Calls on) m i s.host c a k h d) (sym same) (turns.changes a k change))

  action_turn : (m : Module) (i : Instance) (s t : S) (c : Configuration) (a : Action) (k : Act) → Stands s.machine i c → s.machine.valid ≡ m → Did s.machine.valid s k t → IsToldOf Stands on a k s t → Turned m i s c a k t
  action_turn m i s t c (go n) k st valid did ((e, is), takes, clear) = go_turn m i s t c n k e st (subst (λ (x : Module). Did x s k t) valid did) is takes clear
  action_turn m i s t c (answer results) k st valid did (x, arguments, is) =
      let memory : List ℕ = s.machine.memory in
      let one = answer_of s.machine.valid s.host t.host s.machine t.machine memory x arguments results (subst (λ (z : Act). Did s.machine.valid s z t) is did) in
      let (d, now, answers) = one.by.run i c st in
      let there : AnswersAt i c d x one.by.func_type arguments results = subst (λ (z : ℕ). AnswersAt i c d z one.by.func_type arguments results) (sym one.function_is)
      (subst (λ (z : List ℕ). AnswersAt i c d one.by.function one.by.func_type z results) (sym one.arguments_are) answers) in
      subst (λ (z : Act). Turned m i s c (answer results) z t) (sym is)
      (changed m i s t c d (answer results) (answered memory x arguments results) one.host now (refl, sym (tells s.machine i c st).memory, one.by.func_type, there))
  action_turn m i s t c (write address bytes) k st valid did is =
      let memory : List ℕ = written s.machine.memory address bytes in
      let (same, one) = write_of s.machine.valid s.host t.host s.machine t.machine memory (subst (λ (z : Act). Did s.machine.valid s z t) is did) in
      subst (λ (z : Act). Turned m i s c (write address bytes) z t) (sym is)
      (changed m i s t c (with_memory memory c) (write address bytes) (wrote memory) same (one.run i c st) (ap (λ (z : List ℕ). written z address bytes) (sym (tells s.machine i c st).memory), refl))
  action_turn m i s t c (invoke name arguments) k st valid did (x, exported, is) =
      let (same, one) = enter_of s.machine.valid s.host t.host s.machine t.machine x arguments (subst (λ (z : Act). Did s.machine.valid s z t) is did) in
      let (callee, is_callee, type_is) = one.has_type i c st in
      let exports_it : Contains m.exports (record { name = name; kind = exports.Function x }) = subst (λ (z : Module). Contains z.exports (record { name = name; kind = exports.Function x })) valid exported in
      let d : Configuration = invocation_over c (values_of one.func_type.params arguments) x in
      subst (λ (z : Act). Turned m i s c (invoke name arguments) z t) (sym is)
      (changed m i s t c d (invoke name arguments) (invoked x arguments) same (one.run i c st)
      (refl, exports_it, record { func_type = one.func_type; callee = callee; is_callee = is_callee; type_is = type_is; is = refl }))
  action_turn m i s t c abandon k st valid did is =
      let (same, one) = let_go_of s.machine.valid s.host t.host s.machine t.machine (subst (λ (z : Act). Did s.machine.valid s z t) is did) in
      subst (λ (z : Act). Turned m i s c abandon z t) (sym is) (changed m i s t c (at (store_of c) [] (code [] finished)) abandon abandoned same (one.run i c st) refl)

  -- ---- one after another

  abbrev pub AllTurned : Module → Instance → S → Configuration → List Action → List Act → S → Type 0
  AllTurned m i s c actions ks t = (d : Configuration) × Stands t.machine i d × Turns Host (Calls on) m i s.host c actions ks t.host d

  pub all_turned : (m : Module) (i : Instance) (actions : List Action) (rs : History S) (s t : S) (c : Configuration) → Stands s.machine i c → s.machine.valid ≡ m → FollowActions Stands on s actions rs t → AllTurned m i s c actions (acts_of rs) t
  all_turned m i [] [] s t c st valid same = subst (λ (x : S). AllTurned m i s c [] [] x) (sym same) (c, st, turns.rests)
  all_turned m i [] (r ∷ rs) s t c st valid follow = absurd follow
  all_turned m i (a ∷ actions) [] s t c st valid follow = absurd follow
  all_turned m i (a ∷ actions) (r ∷ rs) s t c st valid (done, rest) =
      let (b, there, turn) = action_turn m i s r.1 c a r.0 st valid done.does.handled done.told in
      let (d, now, later) = all_turned m i actions rs r.1 t b there (module_kept s.machine.valid s.host r.1.host s.machine r.1.machine r.0 done.does.handled ∙ valid) rest in
      (d, now, turns.takes a r.0 turn later)

  pub stage_is : (actions : List Action) (rs : History S) (s t : S) → FollowActions Stands on s actions rs t → t.stage ≡ stage_after s.stage (acts_of rs)
  stage_is [] [] s t same = ap (λ (x : S). x.stage) same
  stage_is [] (r ∷ rs) s t follow = absurd follow
  stage_is (a ∷ actions) [] s t follow = absurd follow
  stage_is (a ∷ actions) (r ∷ rs) s t (done, rest) = stage_is actions rs r.1 t rest ∙ ap (λ (g : Stage). stage_after g (acts_of rs)) done.does.stage
