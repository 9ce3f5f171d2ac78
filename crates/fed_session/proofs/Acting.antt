-- What is done with the machine is done with a machine of the whole instance.
use Rattle.std.proofs.Common.{◌≡◌, ℕ, suc, ◌+◌, ◌-◌, ◌<◌, List, [], ◌∷◌, length, take, drop, reverse, Option, Some, None, Bool, true, false, refl, sym, ap, subst, ◌∙◌, arith, ◌≤◌, inl, inr}
use Rattle.std.proofs.Math.Nat.{eq-or-lt_of_le}
use Rattle.wasm_syntax.specs.declared.module.FuncType.{FuncType}
use Rattle.wasm_syntax.specs.declared.module.Module.{Module}
use Rattle.wasm_store.specs.declared.call.HostCall.{HostCall}
use Rattle.wasm_store.specs.declared.call.HostCall.TheVariants.{FdRead}
use Rattle.wasm_store.specs.declared.call.Errno.{Errno}
use Rattle.wasm_store.specs.declared.call.Answer.TheVariants.{Value as value}
use Rattle.wasm_steps.specs.declared.pause.Pause.{Pause}
use Rattle.wasm_steps.specs.declared.pause.Pause.TheVariants.{Called, Spent}
use Rattle.wasm_steps.specs.Configuration.{Instance, Configuration, store_of}
use Rattle.wasm_steps.specs.Steps.{CallsOf}
use Rattle.wasm_operands.specs.Snapshots.{Snapshot, StandsFor}
use Rattle.wasm_operands.specs.declared.phase.Ask.{Ask}
use Rattle.wasm_places.specs.declared.invocable.Event.{Event}
use Rattle.wasm_places.specs.declared.invocable.Event.TheVariants.{Asked, Paused, Returned}
use Rattle.wasm_places.specs.FunctionTypes.{IsImportType}
use Rattle.wasm_interp.specs.Invoking.{IsAsking}
use Rattle.wasm_interp.specs.Invocations.{AnswersBy, AsksBy, IsAskedFor, OffersBy, ReturnsBy, TellsStores}
use Rattle.wasm_interp.specs.Promises.{PausesBy, ResumedBy}
use Rattle.wasm_interp.proofs.PlainSteps.Refusing.{ask_once}
use Rattle.wasm_interp.proofs.PlainSteps.Invoking.{globals_represented}
use Rattle.wasm_interp.specs.Machine.{Represents}
use Rattle.wasi_bodies.specs.host.Worlds.{HostState}
use Rattle.sandbox_core.specs.Devices.{Calls}
use Rattle.plugin_core.specs.Handling.{Handled, abandoned, act_of, answered, asked, asked_at, invoked, paused, wrote}
use Rattle.plugin_core.specs.Handling as handling
use Rattle.deferred_calls.specs.Machines.{Deferring, StandsForWhole}
use Rattle.deferred_calls.proofs.Machines.{machines_defer}
use Rattle.fed_input.specs.Feeding.{Fed}
use Rattle.plugin_session.specs.States.{DoesBy, InstanceState}
use Rattle.plugin_session.specs.Deferring.{GivesErrno, GoesTo, Grants}
use Rattle.plugin_session.proofs.Doing.{may_go_on, progresses, rises}
use Rattle.plugin_session.proofs.Granting.{settled}
use Rattle.fed_session.specs.Waiting.{deferred_at}
use Rattle.fed_session.specs.Feeding.{Around, FedState, Goes, RepresentsWhole, Starves, Waits, fed_devices}
use Rattle.fed_session.specs.declared.feeding.FedEvent.{FedEvent}
use Rattle.fed_session.specs.declared.feeding.FedEvent.TheVariants as events
use Rattle.fed_session.proofs.Waiting.{deferred_is, function_types, waits_read}
use Rattle.wasi_calls.specs.host.Links.{link}

-- ---- what is asked for

-- one function is asked for, with its arguments
pub function_once : (s : Snapshot) (x y : ℕ) (f g : FuncType) (xs ys : List ℕ) → IsAskedFor s x f xs → IsAskedFor s y g ys → (x ≡ y) × (f ≡ g)
function_once s x y f g xs ys a b =
    let e : (record { function = x; above = a.above }) ≡ (record { function = y; above = b.above }) = ask_once _ _ (sym a.asks ∙ b.asks) in
    let n : x ≡ y = ap (λ (z : Ask). z.function) e in
    (n, function_types s.valid y f g (subst (λ (z : ℕ). IsImportType s.valid z f) n a.is_import) b.is_import)

pub arguments_once : (s : Snapshot) (x y : ℕ) (f g : FuncType) (xs ys : List ℕ) → IsAskedFor s x f xs → IsAskedFor s y g ys → xs ≡ ys
arguments_once s x y f g xs ys a b =
    let e : (record { function = x; above = a.above }) ≡ (record { function = y; above = b.above }) = ask_once _ _ (sym a.asks ∙ b.asks) in
    let types = (function_once s x y f g xs ys a b).1 in
    a.arguments_are ∙ ap (λ (z : Ask). take (length f.params) (drop z.above s.state.values)) e ∙ ap (λ (z : FuncType). take (length z.params) (drop b.above s.state.values)) types ∙ sym b.arguments_are

module _ (deferred : Deferring) (Stands : StandsFor) (H : Type 0) (Calls : CallsOf H) where
  abbrev Whole : StandsFor
  Whole = StandsForWhole deferred Stands

  -- ---- acts

  pub invoked_whole : (m : Module) (h h' : H) (s t : Snapshot) (x : ℕ) (args : List ℕ) → Handled Stands H Calls m h s (invoked x args) h' t → Handled Whole H Calls m h s (invoked x args) h' t
  invoked_whole m h _ s t x args (handling.invokes _ _ name exported v) = handling.invokes x args name exported ((machines_defer deferred Stands H Calls).invokes s t x args v)

  pub wrote_whole : (m : Module) (h h' : H) (s t : Snapshot) (memory : List ℕ) → Handled Stands H Calls m h s (wrote memory) h' t → Handled Whole H Calls m h s (wrote memory) h' t
  wrote_whole m h _ s t memory (handling.writes _ long v) = handling.writes memory long ((machines_defer deferred Stands H Calls).writes s t memory v)

  pub let_go_whole : (m : Module) (h h' : H) (s t : Snapshot) → Handled Stands H Calls m h s abandoned h' t → Handled Whole H Calls m h s abandoned h' t
  let_go_whole m h _ s t (handling.lets_go v) = handling.lets_go ((machines_defer deferred Stands H Calls).lets_go s t v)

  -- the answer of a function that isn't deferred
  pub answered_whole : (m : Module) (h h' : H) (s t : Snapshot) (memory : List ℕ) (x : ℕ) (arguments results : List ℕ)
      → ((y : ℕ) (f : FuncType) (args : List ℕ) → IsAskedFor s y f args → deferred s.valid y ≡ None)
      → Handled Stands H Calls m h s (answered memory x arguments results) h' t
      → (y : ℕ) × (args : List ℕ) × Handled Whole H Calls m h s (answered memory y args results) h' t
  answered_whole m h _ s t _ _ _ _ not (handling.answers results a) =
      let whole = (machines_defer deferred Stands H Calls).answers s t results a (not a.function a.func_type a.arguments a.asked_for) in
      (whole.function, whole.arguments, handling.answers results whole)

  -- ---- where the machine went on

  -- a resume pauses
  pause_of : (h h' : H) (s t : Snapshot) (units : ℕ) (p : Pause) → ResumedBy Whole H Calls h h' s t units p → PausesBy Whole H Calls h h' s t units p
  pause_of h h' s t units p v = record {
    module_is = v.module_is;
    most_values = v.most_values;
    units_rise = v.units_rise;
    run = λ i c st.
        let (d, now, held, b, e, unit) = v.run i c st in
        (d, now, held);
  }

  -- until an event
  pub went_whole : (m : Module) (h h' : H) (s t : Snapshot) (units : ℕ) (e : Event) → (e ≡ Returned → ReturnsBy Stands H Calls h h' s t units)
      → ((x : ℕ) → e ≡ Asked x → AsksBy Stands H Calls h h' s t units x) → ((p : Pause) → e ≡ Paused p → ResumedBy Stands H Calls h h' s t units p)
      → Handled Whole H Calls m h s (act_of e t) h' t
  went_whole m h h' s t units Returned ret ask pau = handling.has_returned units ((machines_defer deferred Stands H Calls).returns h h' s t units (ret refl))
  went_whole m h h' s t units (Asked x) ret ask pau = handling.asks units x ((machines_defer deferred Stands H Calls).asks h h' s t units x (ask x refl))
  went_whole m h h' s t units (Paused p) ret ask pau = handling.pauses units p (pause_of h h' s t units p ((machines_defer deferred Stands H Calls).resumes h h' s t units p (pau p refl)))

  -- asked for a call that waits, it has merely used its units
  pub waited_whole : (m : Module) (h h' : H) (s t : Snapshot) (units x : ℕ) → AsksBy Stands H Calls h h' s t units x → Handled Whole H Calls m h s (paused Spent) h' t
  waited_whole m h h' s t units x v = handling.pauses (t.used - s.used) Spent ((machines_defer deferred Stands H Calls).waits h h' s t units x v)

  -- ...and once the host has answered, the whole instance has called it
  pub granted_whole : TellsStores Stands → (m : Module) (h h' h'' : H) (s asking offered t : Snapshot) (units x : ℕ) (call : HostCall) (e : Errno) → AsksBy Stands H Calls h h' s asking units x
      → asking.used < s.used + units → ((y : ℕ) (f : FuncType) (args : List ℕ) → IsAskedFor asking y f args → deferred asking.valid y ≡ Some call)
      → OffersBy Stands H Calls h' h'' asking offered call (value e) → AnswersBy Stands offered t (e.0 ∷ [])
      → Handled Whole H Calls m h s (paused (Called call e)) h'' t
  granted_whole tells m h h' h'' s asking offered t units x call e asks left waits offers answers =
      let is = offers.left.is in
      -- what it asked for, it still asks for
      let there : IsAskedFor asking answers.function answers.func_type answers.arguments = subst (λ (z : Snapshot). IsAskedFor z answers.function answers.func_type answers.arguments → IsAskedFor asking answers.function answers.func_type answers.arguments) (sym is) (λ k. record { above = k.above; asks = k.asks; is_import = k.is_import; arguments_are = k.arguments_are }) answers.asked_for in
      let same : offers.arguments ≡ answers.arguments = arguments_once asking _ _ _ _ _ _ offers.asked_for there in
      handling.pauses units (Called call e) ((machines_defer deferred Stands H Calls).grants tells h h' h'' s t units call e record {
        asking = asking;
        function = x;
        asks = asks;
        unit_left = left;
        memory = offers.memory;
        written = offered;
        writes = offers.left;
        answers = answers;
        is_deferred = ap (λ (z : Module). deferred z answers.function) (sym asks.module_is) ∙ waits answers.function answers.func_type answers.arguments there;
        answered = subst (λ (args : List ℕ). Calls h' asking.memory (suc asking.used) call (reverse args) h'' offers.memory (value e)) same offers.answered;
      })

-- ---- the same of an instance

memory_shown : (s : Snapshot) (i : Instance) (c : Configuration) → Represents s i c → (store_of c).memory ≡ s.memory
unfolding Represents
memory_shown s i c r = r.0.memory

-- the machine's own relation tells of stores
pub tells_stores : TellsStores Represents
tells_stores s i c r = (memory_shown s i c r, globals_represented s i c r)

module _ {D W1 W2 : Type 0} (a : Around D W1 W2) (goes_on : Bool) where
  abbrev S : Type 0
  S = InstanceState D Fed W1 W2

  abbrev Host : Type 0
  Host = HostState D Fed W1 W2

  abbrev Over : CallsOf Host
  Over = Calls (fed_devices a)

  pub does_invoke : (old new : S) (x : ℕ) (args : List ℕ) → DoesBy Represents (fed_devices a) old (invoked x args) new → DoesBy (RepresentsWhole goes_on) (fed_devices a) old (invoked x args) new
  does_invoke old new x args d = record {
    may = d.may;
    handled = invoked_whole (deferred_at goes_on) Represents Host Over old.machine.valid old.host new.host old.machine new.machine x args d.handled;
    stage = d.stage;
  }

  pub does_write : (old new : S) (memory : List ℕ) → DoesBy Represents (fed_devices a) old (wrote memory) new → DoesBy (RepresentsWhole goes_on) (fed_devices a) old (wrote memory) new
  does_write old new memory d = record {
    may = d.may;
    handled = wrote_whole (deferred_at goes_on) Represents Host Over old.machine.valid old.host new.host old.machine new.machine memory d.handled;
    stage = d.stage;
  }

  pub does_let_go : (old new : S) → DoesBy Represents (fed_devices a) old abandoned new → DoesBy (RepresentsWhole goes_on) (fed_devices a) old abandoned new
  does_let_go old new d = record {
    may = d.may;
    handled = let_go_whole (deferred_at goes_on) Represents Host Over old.machine.valid old.host new.host old.machine new.machine d.handled;
    stage = d.stage;
  }

  pub does_answer : (old new : S) (memory : List ℕ) (x : ℕ) (arguments results : List ℕ)
      → ((y : ℕ) (f : FuncType) (args : List ℕ) → IsAskedFor old.machine y f args → deferred_at goes_on old.machine.valid y ≡ None)
      → DoesBy Represents (fed_devices a) old (answered memory x arguments results) new
      → (y : ℕ) × (args : List ℕ) × DoesBy (RepresentsWhole goes_on) (fed_devices a) old (answered memory y args results) new
  does_answer old new memory x arguments results not d =
      let (y, args, handled) = answered_whole (deferred_at goes_on) Represents Host Over old.machine.valid old.host new.host old.machine new.machine memory x arguments results not d.handled in
      (y, args, record { may = d.may; handled = handled; stage = d.stage })

  -- it went on until an event that asks for nothing
  pub does_go : (old new : S) (units : ℕ) (e : Event) → ((x : ℕ) → e ≡ Asked x → ⊥) → GoesTo (fed_devices a) old new units e → DoesBy (RepresentsWhole goes_on) (fed_devices a) old (act_of e new.machine) new
  does_go old new units e none k = record {
    may = may_go_on old.stage e new.machine k.may;
    handled = went_whole (deferred_at goes_on) Represents Host Over old.machine.valid old.host new.host old.machine new.machine units e k.returned k.asked k.paused;
    stage = k.stage ∙ sym (settled e old.stage new.machine none);
  }

  -- ...or until the embedder is asked
  pub does_ask : (old new : S) (units x : ℕ) → GoesTo (fed_devices a) old new units (Asked x) → DoesBy (RepresentsWhole goes_on) (fed_devices a) old (asked x) (record new { stage = asked_at new.stage })
  does_ask old new units x k = record {
    may = k.may;
    handled = went_whole (deferred_at goes_on) Represents Host Over old.machine.valid old.host new.host old.machine new.machine units (Asked x) k.returned k.asked k.paused;
    stage = ap asked_at k.stage;
  }

  -- ...or until a read waits
  pub does_wait : (old new : S) (units x : ℕ) → GoesTo (fed_devices a) old new units (Asked x) → DoesBy (RepresentsWhole goes_on) (fed_devices a) old (paused Spent) new
  does_wait old new units x k = record {
    may = k.may;
    handled = waited_whole (deferred_at goes_on) Represents Host Over old.machine.valid old.host new.host old.machine new.machine units x (k.asked x refl);
    stage = k.stage;
  }

  -- ...or until the host has answered it
  pub does_grant : (old asking new : S) (units x : ℕ) (call : HostCall) (e : Errno) → GoesTo (fed_devices a) old asking units (Asked x) → asking.machine.used < old.machine.used + units
      → ((y : ℕ) (f : FuncType) (args : List ℕ) → IsAskedFor asking.machine y f args → deferred_at goes_on asking.machine.valid y ≡ Some call)
      → Grants (fed_devices a) asking new call e → DoesBy (RepresentsWhole goes_on) (fed_devices a) old (paused (Called call e)) new
  does_grant old asking new units x call e k left waits granted = record {
    may = k.may;
    handled = granted_whole (deferred_at goes_on) Represents Host Over tells_stores old.machine.valid old.host asking.host new.host old.machine asking.machine granted.offered new.machine units x call e
        (k.asked x refl) left waits granted.offers granted.answers;
    stage = granted.stage ∙ k.stage;
  }

  -- how the units rise
  pub rises_grant : (old asking new : S) (units x : ℕ) (call : HostCall) (e : Errno) → GoesTo (fed_devices a) old asking units (Asked x) → asking.machine.used < old.machine.used + units
      → Grants (fed_devices a) asking new call e → (old.machine.used ≤ new.machine.used) × (new.machine.used ≤ old.machine.used + units)
  rises_grant old asking new units x call e k left granted =
      let rises = (k.asked x refl).units_rise in
      let one : new.machine.used ≡ suc asking.machine.used = granted.answers.used ∙ ap (λ (z : Snapshot). suc z.used) granted.offers.left.is in
      (omega (arith, rises.0, one), omega (arith, left, one))

  -- ...and that a read takes one
  pub took_grant : (old asking new : S) (units x : ℕ) (call : HostCall) (e : Errno) → GoesTo (fed_devices a) old asking units (Asked x) → Grants (fed_devices a) asking new call e → old.machine.used < new.machine.used
  took_grant old asking new units x call e k granted =
      let one : new.machine.used ≡ suc asking.machine.used = granted.answers.used ∙ ap (λ (z : Snapshot). suc z.used) granted.offers.left.is in
      omega (arith, (k.asked x refl).units_rise.0, one)

-- ---- what waits

-- where a read waits, one i32 is asked for
pub gives_errno : (goes_on : Bool) (s : Snapshot) (x : ℕ) (f : FuncType) (arguments : List ℕ) → IsAskedFor s x f arguments → deferred_at goes_on s.valid x ≡ Some FdRead → GivesErrno s
gives_errno goes_on s x f arguments asks waits y g args k =
    let same = function_once s y x g f args arguments k asks in
    waits_read goes_on g (link k.is_import.import.module_name k.is_import.import.name g) (sym (deferred_is goes_on s.valid y g k.is_import) ∙ ap (deferred_at goes_on s.valid) same.0 ∙ waits)

-- whichever function is asked for, it is that one
pub waits_whichever : (goes_on : Bool) (s : Snapshot) (x : ℕ) (f : FuncType) (arguments : List ℕ) → IsAskedFor s x f arguments → deferred_at goes_on s.valid x ≡ Some FdRead
    → (y : ℕ) (g : FuncType) (args : List ℕ) → IsAskedFor s y g args → deferred_at goes_on s.valid y ≡ Some FdRead
waits_whichever goes_on s x f arguments asks waits y g args k = ap (deferred_at goes_on s.valid) (function_once s y x g f args arguments k asks).0 ∙ waits

pub never_waits : (goes_on : Bool) (s : Snapshot) (x : ℕ) (f : FuncType) (arguments : List ℕ) → IsAskedFor s x f arguments → deferred_at goes_on s.valid x ≡ None
    → (y : ℕ) (g : FuncType) (args : List ℕ) → IsAskedFor s y g args → deferred_at goes_on s.valid y ≡ None
never_waits goes_on s x f arguments asks never y g args k = ap (deferred_at goes_on s.valid) (function_once s y x g f args arguments k asks).0 ∙ never

-- ---- until which event an instance went on

below : {n m : ℕ} → n ≤ m → (n ≡ m → ⊥) → n < m
below {n} {m} most other = elim (eq-or-lt_of_le {n = n} {m = m} most) [
  | inl same ↦ absurd (other same)
  | inr less ↦ less
]

module _ {D W1 W2 : Type 0} (a : Around D W1 W2) (goes_on : Bool) where
  abbrev T : Type 0
  T = InstanceState D Fed W1 W2

  abbrev fed_state : T → FedState D W1 W2
  fed_state s = record { instance = s; goes_on = goes_on }

  pub goes_to_event : (old new : T) (units : ℕ) (e : Event) → ((x : ℕ) → e ≡ Asked x → ⊥) → GoesTo (fed_devices a) old new units e → Goes a (fed_state old) (fed_state new) units (events.Event e)
  goes_to_event old new units e none k = record {
    does = (does_go a goes_on old new units e none k, refl);
    within = rises (HostState D Fed W1 W2) (Calls (fed_devices a)) old.host new.host old.machine new.machine units e k.returned k.asked k.paused;
    progress = inr (progresses (HostState D Fed W1 W2) (Calls (fed_devices a)) old.host new.host old.machine new.machine units e k.paused);
    starves = λ count is. cc;
  }

  went_to_ask : (old asking new : T) (units x : ℕ) → GoesTo (fed_devices a) old asking units (Asked x) → new ≡ record asking { stage = asked_at asking.stage } → Goes a (fed_state old) (fed_state new) units (events.Event (Asked x))
  went_to_ask old asking new units x k is =
      subst (λ (z : T). Goes a (fed_state old) (fed_state z) units (events.Event (Asked x))) (sym is) (record {
        does = (does_ask a goes_on old asking units x k, refl);
        within = (k.asked x refl).units_rise;
        progress = inr tt;
        starves = λ count is. cc;
      })

  pub goes_to_ask : (old asking new : T) (units x : ℕ) (e : Event) → e ≡ Asked x → GoesTo (fed_devices a) old asking units e → new ≡ record asking { stage = asked_at asking.stage } → Goes a (fed_state old) (fed_state new) units (events.Event e)
  goes_to_ask old asking new units x e same k is =
      subst (λ (z : Event). GoesTo (fed_devices a) old asking units z → Goes a (fed_state old) (fed_state new) units (events.Event z)) (sym same) (λ j. went_to_ask old asking new units x j is) k

  -- it asks for this
  pub asked_here : (old new : T) (units x : ℕ) (e : Event) → e ≡ Asked x → GoesTo (fed_devices a) old new units e → GoesTo (fed_devices a) old new units (Asked x)
  asked_here old new units x e same k = subst (λ (z : Event). GoesTo (fed_devices a) old new units z) same k

  pub goes_to_spent : (old new : T) (units x : ℕ) → GoesTo (fed_devices a) old new units (Asked x) → new.machine.used ≡ old.machine.used + units → Goes a (fed_state old) (fed_state new) units (events.Event (Paused Spent))
  goes_to_spent old new units x k all = record {
    does = (does_wait a goes_on old new units x k, refl);
    within = all;
    progress = inr tt;
    starves = λ count is. cc;
  }

  count_of : ℕ → FedEvent → ℕ
  count_of n (events.Event e) = n
  count_of n (events.Starved count) = count

  pub goes_to_wait : (old asking : T) (new : FedState D W1 W2) (units x count : ℕ) → GoesTo (fed_devices a) old asking units (Asked x) → (asking.machine.used ≡ old.machine.used + units → ⊥) → Starves asking count
      → new ≡ fed_state asking → Goes a (fed_state old) new units (events.Starved count)
  unfolding count_of
  goes_to_wait old asking new units x count k left starves is =
      let risen = (k.asked x refl).units_rise in
      subst (λ (z : FedState D W1 W2). Goes a (fed_state old) z units (events.Starved count)) (sym is) (record {
        does = (does_wait a goes_on old asking units x k, refl);
        within = (risen.0, below risen.1 left);
        progress = tt;
        starves = λ other same. subst (λ (n : ℕ). Starves asking n) (ap (count_of count) same) starves;
      })

  went_to_grant : (old asking new : T) (units x : ℕ) (e : Errno) → GoesTo (fed_devices a) old asking units (Asked x) → (asking.machine.used ≡ old.machine.used + units → ⊥)
      → ((y : ℕ) (f : FuncType) (args : List ℕ) → IsAskedFor asking.machine y f args → deferred_at goes_on asking.machine.valid y ≡ Some FdRead)
      → Grants (fed_devices a) asking new FdRead e → Goes a (fed_state old) (fed_state new) units (events.Event (Paused (Called FdRead e)))
  went_to_grant old asking new units x e k left waits granted =
      let less = below (k.asked x refl).units_rise.1 left in
      record {
        does = (does_grant a goes_on old asking new units x FdRead e k less waits granted, refl);
        within = rises_grant a goes_on old asking new units x FdRead e k less granted;
        progress = inl (took_grant a goes_on old asking new units x FdRead e k granted);
        starves = λ count is. cc;
      }

  -- the host answers where it was looked whether the guest waits, which changed nothing
  pub goes_to_grant : (old asking : T) (here there : FedState D W1 W2) (new : T) (units x : ℕ) (e : Errno) → GoesTo (fed_devices a) old asking units (Asked x) → (asking.machine.used ≡ old.machine.used + units → ⊥)
      → ((y : ℕ) (f : FuncType) (args : List ℕ) → IsAskedFor asking.machine y f args → deferred_at goes_on asking.machine.valid y ≡ Some FdRead)
      → here ≡ there → there ≡ fed_state asking → Grants (fed_devices a) here.instance new FdRead e → Goes a (fed_state old) (record here { instance = new }) units (events.Event (Paused (Called FdRead e)))
  goes_to_grant old asking here there new units x e k left waits seen kept =
      subst (λ (z : FedState D W1 W2). Grants (fed_devices a) z.instance new FdRead e → Goes a (fed_state old) (record z { instance = new }) units (events.Event (Paused (Called FdRead e)))) (sym (seen ∙ kept))
      (went_to_grant old asking new units x e k left waits)

-- what was asked is asked for still
module _ {D W1 W2 : Type 0} where
  pub still_asked : (goes_on : Bool) (s : InstanceState D Fed W1 W2) (here there : FedState D W1 W2) → here ≡ there → there ≡ record { instance = s; goes_on = goes_on } → Waits (record { instance = s; goes_on = goes_on }) → IsAsking here.instance.machine
  still_asked goes_on s here there seen kept k = subst (λ (z : FedState D W1 W2). IsAsking z.instance.machine) (sym (seen ∙ kept)) (k.0, k.1, k.2, k.3)

  pub still_typed : (goes_on : Bool) (s : InstanceState D Fed W1 W2) (here there : FedState D W1 W2) → here ≡ there → there ≡ record { instance = s; goes_on = goes_on } → Waits (record { instance = s; goes_on = goes_on }) → GivesErrno here.instance.machine
  still_typed goes_on s here there seen kept k = subst (λ (z : FedState D W1 W2). GivesErrno z.instance.machine) (sym (seen ∙ kept)) (gives_errno goes_on s.machine k.0 k.1 k.2 k.3 k.4)

  -- a guest that doesn't wait didn't before it was looked at
  abbrev Never : FedState D W1 W2 → Type 0
  Never s = (x : ℕ) (f : FuncType) (arguments : List ℕ) → IsAskedFor s.instance.machine x f arguments → deferred_at s.goes_on s.instance.machine.valid x ≡ None

  pub never_before : (s t : FedState D W1 W2) → s ≡ t → Never t → Never s
  never_before s t same never = subst (λ (z : FedState D W1 W2). Never z) (sym same) never
