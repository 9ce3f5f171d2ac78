-- The volume's numbers stay over a resume, and its device's size; the device goes on, and the streams are heard.
use Rattle.std.proofs.Common.{◌≡◌, ℕ, List, [], refl, ◌∙◌, ap, inl, inr}
use Rattle.vol_tree.specs.Opened.{GoesOn}
use Rattle.vol_tree.proofs.GoingOn.{goes_same, goes_then}
use Rattle.wasm_store.specs.declared.call.HostCall.{HostCall}
use Rattle.wasm_store.specs.declared.call.Errno.{Errno}
use Rattle.wasm_steps.specs.declared.pause.Pause.{Pause}
use Rattle.wasm_steps.specs.declared.pause.Pause.TheVariants.{Called, Spent, Ended}
use Rattle.wasm_steps.specs.Configuration.{Instance, Configuration}
use Rattle.wasm_interp.specs.Machine.{Snapshot, Represents}
use Rattle.wasm_interp.specs.Promise.{Paused, Resumed}
use Rattle.wasm_steps.specs.Steps.{CallsOf, silent, answers, Reach, stays, goes}
use Rattle.wasi_bodies.specs.host.Worlds.{HearsStreams, HostState}
use Rattle.wasi_calls.proofs.bodies.StreamsHeard.{unheard}
use Rattle.wasi_calls.proofs.runs.Moments.{step_changes}
use Rattle.wasi_calls.proofs.runs.StreamsKeep.{streams_then}
use Rattle.sandbox_core.specs.Devices.{Devices, Calls as CallsOn}

module _ {D R W1 W2 : Type 0} (on : Devices D R W1 W2) where
  abbrev H : Type 0
  H = HostState D R W1 W2

  abbrev Calls : CallsOf H
  Calls = CallsOn on

  abbrev SamePlace : H → H → Type 0
  SamePlace h h' = (h'.volume.numbers ≡ h.volume.numbers) × (on.device.size h'.volume.device ≡ on.device.size h.volume.device)
      × GoesOn on.device.goes_on h.volume h'.volume × HearsStreams on.ear h h'

  same_place : (h h' : H) → h' ≡ h → SamePlace h h'
  same_place h h' same = (
    ap (λ (h : H). h.volume.numbers) same,
    ap (λ (h : H). on.device.size h.volume.device) same,
    goes_same on.device.goes_on h.volume h'.volume (ap (λ (h : H). h.volume.device) same),
    unheard on.ear h h' (ap (λ (h : H). h.input) same) (ap (λ (h : H). h.out) same) (ap (λ (h : H). h.err) same),
  )

  place_then : (h g h' : H) → SamePlace h g → SamePlace g h' → SamePlace h h'
  place_then h g h' first rest = (
    rest.0 ∙ first.0,
    rest.1 ∙ first.1,
    goes_then on.device.goes_on h.volume g.volume h'.volume first.0 first.2 rest.2,
    streams_then on.ear h g h' first.3 rest.3,
  )

  -- steps of the machine, and calls that it answers
  reach_stays : (i : Instance) (h : H) (c : Configuration) (es : List (HostCall × Errno)) (h' : H) (c' : Configuration) → Reach H Calls i h c es h' c' → SamePlace h h'
  reach_stays i h c es h' c' stays = same_place h h refl
  reach_stays i h c es h' c' (goes {h' = g} {c' = d} silent later s r) =
      let rest = reach_stays i g d later h' c' r in
      elim (step_changes Calls i 0 h c silent g d s) [
        | inl same ↦ place_then h g h' (same_place h g same) rest
        | inr (m, m', used, x, args, status, a) ↦ place_then h g h' (same_place h g (a.exits status refl)) rest
      ]
  reach_stays i h c es h' c' (goes {h' = g} {c' = d} (answers x e) later s r) =
      let rest = reach_stays i g d later h' c' r in
      let (m, m', used, args, a) = step_changes Calls i 0 h c (answers x e) g d s in
      place_then h g h' (a.volume.kept.numbers, a.volume.kept.size, a.volume.goes, a.heard) rest

  paused_stays : (p : Pause) (i : Instance) (h h' : H) (c d : Configuration) → Paused H Calls i p h c h' d → SamePlace h h'
  paused_stays (Called x e) i h h' c d (before, run, step) =
      let (m, m', used, args, a) = step_changes Calls i 0 h before (answers x e) h' d step in
      (a.volume.kept.numbers, a.volume.kept.size, a.volume.goes, a.heard)
  paused_stays Spent i h h' c d (run, same, plain) = same_place h h' same
  paused_stays (Ended o) i h h' c d (run, ends) = reach_stays i h c [] h' d run

  pub stays_there : (h h' : H) (old new : Snapshot) (units : ℕ) (p : Pause) (i : Instance) (c : Configuration) → Represents old i c → Resumed H Calls h h' old new units p → SamePlace h h'
  stays_there h h' old new units p i c stands resumed = let run = resumed.run i c stands in paused_stays p i h h' c run.0 run.2
