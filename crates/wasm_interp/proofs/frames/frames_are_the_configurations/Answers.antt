use Rattle.std.proofs.Common.{◌≡◌, [], refl, sym, subst, ap, ◌∙◌, arith, inl, inr}
use Rattle.wasm_steps.specs.declared.pause.Outcome.TheVariants as ends
use Rattle.wasm_steps.specs.Configuration.{Configuration, at, Instance, code_of, store_of, used_by}
use Rattle.wasm_operands.specs.declared.phase.Phase.{Phase}
use Rattle.wasm_operands.specs.declared.phase.Phase.TheVariants.{Within as within, Between as between, Refused as refused, Over as over, Asking as asking}
use Rattle.wasm_interp.specs.Frames.{AreFrames, Tells, WereFrames, frames_at, frames_within}
use Rattle.wasm_interp.specs.Machine.{Represents, Snapshot}
use Rattle.wasm_operands.specs.internal.Standing.{Flat, Program}
use Rattle.wasm_operands.specs.internal.Driving.{outcome_at, StandsAt, Stood}
use Rattle.wasm_interp.specs.internal.HeldState.{IsStateOf, machine_over}
use Rattle.wasm_interp.specs.internal.Programs.{program_of}
use Rattle.wasm_interp.proofs.Framing.{frames_told}
use Rattle.wasm_interp.proofs.frames.frames_are_the_configurations.Goals as goal

used_is : (c : Configuration) → used_by c ≡ (store_of c).used
used_is (at k f d) = refl

module _ (s : Snapshot) (i : Instance) (c : Configuration) (h : IsStateOf s.valid s.state i c) where
  abbrev p : Program
  p = program_of s.valid s.state.calls i h.valid h.instance

  abbrev flat : Flat
  flat = (machine_over (store_of c) s.state).flat

  abbrev were : (x : Stood p s.state.pending flat c) → WereFrames s.valid i c x.used (frames_within s)
  were x = record {
    before = x.before;
    frames = frames_told s.valid s.state.calls i h.valid h.instance s.state.pending (record flat { used = x.used }) x.before x.stands;
    reach = x.reach;
    used_then = ap used_by x.stands.is ∙ x.stands.is_store.used;
  }

  by_phase : (f : Phase) → StandsAt p flat s.state.pending f c → Tells (outcome_at f) s.valid i c (frames_at f s)
  by_phase within st = frames_told s.valid s.state.calls i h.valid h.instance s.state.pending flat c st
  by_phase between st = record { frames = subst (λ (y : Configuration). AreFrames s.valid i (code_of y) [] []) (sym st.is) refl; calls = tt }
  by_phase refused st = inl (refl, record { frames = subst (λ (y : Configuration). AreFrames s.valid i (code_of y) [] []) (sym st.3.is) refl; calls = tt })
  by_phase (asking a) st = frames_told s.valid s.state.calls i h.valid h.instance s.state.pending flat c st.stands
  by_phase (over (ends.Exited n)) st = refl
  by_phase (over (ends.Trapped t)) st = (st.2.0.used, used_is c ∙ st.2.1, were st.2.0, st.2.2)
  by_phase (over ends.OutOfFuel) st = refl
  by_phase (over ends.OutOfMemory) st = inr (st.2.used, omega (arith, st.2.recent, used_is c), were st.2)

pub returns : goal.returns
unfolding Represents
returns c = λ s i d stands. by_phase s i d stands.1 s.state.phase stands.1.stands.0
