-- What the machine's calls promise, as acts.
use Rattle.std.proofs.Common.{◌≡◌, ℕ, ◌+◌, ◌≤◌, ◌++◌, List, length, take, drop, refl, arith}
use Rattle.std.proofs.lemmas.List.{length-append, length-drop, length-take}
use Rattle.wasm_store.specs.Bytes.{written}
use Rattle.wasm_syntax.specs.declared.module.Module.{Module}
use Rattle.wasm_steps.specs.declared.pause.Pause.{Pause}
use Rattle.wasm_steps.specs.Steps.{CallsOf}
use Rattle.wasm_places.specs.declared.invocable.Event.{Event}
use Rattle.wasm_places.specs.declared.invocable.Event.TheVariants.{Asked, Paused, Returned}
use Rattle.wasm_interp.specs.Machine.{Snapshot, Represents}
use Rattle.wasm_interp.specs.Promise.{Resumed}
use Rattle.wasm_interp.specs.Promises.{PausesBy}
use Rattle.wasm_interp.specs.Invoking.{IsAsked, Returns}
use Rattle.plugin_core.specs.declared.stage.Stage.{Stage}
use Rattle.plugin_core.specs.Handling.{Goes, Handled, MayDo, act_of, asks, has_returned, pauses}
use Rattle.plugin_session.specs.Instance.{Progresses, RisesBy}

-- a resume pauses
pause_of : (H : Type 0) (Calls : CallsOf H) (h h' : H) (s t : Snapshot) (units : ℕ) (p : Pause) → Resumed H Calls h h' s t units p → PausesBy Represents H Calls h h' s t units p
pause_of H Calls h h' s t units p v = record {
  module_is = v.module_is;
  most_values = v.most_values;
  units_rise = v.units_rise;
  run = λ i c st.
      let (d, now, paused, before, after, unit) = v.run i c st in
      (d, now, paused);
}

-- it went on until this event
pub went : (H : Type 0) (Calls : CallsOf H) (m : Module) (h h' : H) (s t : Snapshot) (units : ℕ) (e : Event) → (e ≡ Returned → Returns H Calls h h' s t units) → ((x : ℕ) → e ≡ Asked x → IsAsked H Calls h h' s t units x)
    → ((p : Pause) → e ≡ Paused p → Resumed H Calls h h' s t units p) → Handled Represents H Calls m h s (act_of e t) h' t
went H Calls m h h' s t units Returned returned asked paused = has_returned units (returned refl)
went H Calls m h h' s t units (Asked x) returned asked paused = asks units x (asked x refl)
went H Calls m h h' s t units (Paused p) returned asked paused = pauses units p (pause_of H Calls h h' s t units p (paused p refl))

-- and took at most the units that it was given
pub rises : (H : Type 0) (Calls : CallsOf H) (h h' : H) (s t : Snapshot) (units : ℕ) (e : Event) → (e ≡ Returned → Returns H Calls h h' s t units) → ((x : ℕ) → e ≡ Asked x → IsAsked H Calls h h' s t units x)
    → ((p : Pause) → e ≡ Paused p → Resumed H Calls h h' s t units p) → RisesBy e units s.used t.used
rises H Calls h h' s t units Returned returned asked paused = (returned refl).units_rise
rises H Calls h h' s t units (Asked x) returned asked paused = (asked x refl).units_rise
rises H Calls h h' s t units (Paused p) returned asked paused = (paused p refl).units_rise

-- and made progress
pub progresses : (H : Type 0) (Calls : CallsOf H) (h h' : H) (s t : Snapshot) (units : ℕ) (e : Event) → ((p : Pause) → e ≡ Paused p → Resumed H Calls h h' s t units p) → Progresses e s t
progresses H Calls h h' s t units Returned paused = tt
progresses H Calls h h' s t units (Asked x) paused = tt
progresses H Calls h h' s t units (Paused p) paused = (paused p refl).progress

-- where a function is at work, it may go on to any event
pub may_go_on : (g : Stage) (e : Event) (s : Snapshot) → Goes g → MayDo g (act_of e s)
may_go_on g Returned s k = k
may_go_on g (Asked x) s k = k
may_go_on g (Paused p) s k = k

-- memory is as long as it was
pub length_written : (memory bytes : List ℕ) (address : ℕ) → address + length bytes ≤ length memory → length (written memory address bytes) ≡ length memory
length_written memory bytes address h =
    let one = length-append (take address memory) (bytes ++ drop (address + length bytes) memory) in
    let two = length-append bytes (drop (address + length bytes) memory) in
    let three = length-take address memory in
    let four = length-drop (address + length bytes) memory in
    omega (arith, one, two, three, four)
