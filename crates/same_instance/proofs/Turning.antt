-- Turns from the same configuration, over hosts that are the same, are the same.
use Rattle.std.proofs.Common.{◌≡◌, Bool, false, List, ◌∷◌, refl, sym, subst, inl, inr}
use Rattle.wasm_syntax.specs.declared.module.Module.{Module}
use Rattle.wasm_valid.specs.Validity.{IsValid}
use Rattle.wasm_steps.specs.Configuration.{Instance, Configuration}
use Rattle.wasm_steps.specs.Steps.{CallsOf}
use Rattle.plugin_core.specs.Handling.{Act}
use Rattle.same_run.specs.Failures.{FailuresStay}
use Rattle.same_run.proofs.Moving.{AnswersAlike}
use Rattle.same_run.proofs.Running.{reach_sound}
use Rattle.same_instance.specs.Turns.{Action, Turn, Turns, RefusesMemory, WereRefusedMemory, rests, takes}
use Rattle.same_instance.specs.Turns as turns
use Rattle.same_instance.proofs.Halting.{halts_alike, halts_sound}
use Rattle.same_instance.proofs.Answering.{changes_once}

module _ (H : Type 0) (Calls : CallsOf H) (m : Module) (valid : IsValid m) (i : Instance) (Same : H → H → Type 0) (turned : (g h : H) → Same g h → Same h g)
    (failed : H → Bool) (alike : AnswersAlike H Calls i Same failed) (stay : FailuresStay H Calls failed) where
  -- a turn that was refused no memory
  abbrev Given : H → Configuration → Action → Act → H → Configuration → Type 0
  Given h c a k h' d = (turn : Turn H Calls m i h c a k h' d) × (RefusesMemory turn → ⊥)

  turn_sound : (h h' : H) (c d : Configuration) (a : Action) (k : Act) (turn : Turn H Calls m i h c a k h' d) → (RefusesMemory turn → ⊥) → failed h' ≡ false → failed h ≡ false
  turn_sound h h' c d a k (turns.goes {g = g} {b = b} units _ run halts rise) given sound =
      reach_sound H Calls i failed stay run (halts_sound H Calls i failed stay k g h' b d halts (λ r. given (inr r)) sound)
  turn_sound h h' c d a k (turns.changes _ _ change) given sound = sound

  turns_sound : (h h' : H) (c d : Configuration) (actions : List Action) (ks : List Act) (all : Turns H Calls m i h c actions ks h' d) → (WereRefusedMemory all → ⊥) → failed h' ≡ false → failed h ≡ false
  turns_sound h h' c d _ _ rests given sound = sound
  turns_sound h h' c d _ _ (takes {h' = g} {d = b} {later = later} {ks = ks} a k turn rest) given sound =
      turn_sound h g c b a k turn (λ r. given (inl r)) (turns_sound g h' b d later ks rest (λ r. given (inr r)) sound)

  turn_alike : (h g h1 h2 : H) (c d1 d2 : Configuration) (a : Action) (k1 k2 : Act) → Same h g → (one : Turn H Calls m i h c a k1 h1 d1) → (other : Turn H Calls m i g c a k2 h2 d2)
      → (RefusesMemory one → ⊥) → (RefusesMemory other → ⊥) → failed h1 ≡ false → failed h2 ≡ false → (k1 ≡ k2) × Same h1 h2 × (d1 ≡ d2)
  turn_alike h g h1 h2 c d1 d2 _ k1 k2 same (turns.goes {g = g1} {b = b1} units _ run1 halts1 rise1) (turns.goes {g = g2} {b = b2} _ _ run2 halts2 rise2) given1 given2 sound1 sound2 =
      halts_alike H Calls i Same turned failed alike stay k1 k2 h g g1 g2 h1 h2 c b1 b2 d1 d2 units same run1 run2 (λ r. given1 (inl r)) (λ r. given2 (inl r)) halts1 halts2
      (λ r. given1 (inr r)) (λ r. given2 (inr r)) rise1 rise2 sound1 sound2
  turn_alike h g h1 h2 c d1 d2 _ k1 k2 same (turns.goes units _ run1 halts1 rise1) (turns.changes _ _ change2) given1 given2 sound1 sound2 = absurd change2
  turn_alike h g h1 h2 c d1 d2 _ k1 k2 same (turns.changes _ _ change1) (turns.goes units _ run2 halts2 rise2) given1 given2 sound1 sound2 = absurd change1
  turn_alike h g h1 h2 c d1 d2 a k1 k2 same (turns.changes _ _ change1) (turns.changes _ _ change2) given1 given2 sound1 sound2 =
      let both = changes_once i m valid a k1 k2 c d1 d2 change1 change2 in
      (both.0, same, both.1)

  pub turns_alike : (h g h1 h2 : H) (c c' d1 d2 : Configuration) (actions : List Action) (ks1 ks2 : List Act) → Same h g → c ≡ c'
      → (one : Turns H Calls m i h c actions ks1 h1 d1) → (other : Turns H Calls m i g c' actions ks2 h2 d2)
      → (WereRefusedMemory one → ⊥) → (WereRefusedMemory other → ⊥) → failed h1 ≡ false → failed h2 ≡ false → (ks1 ≡ ks2) × Same h1 h2 × (d1 ≡ d2)
  turns_alike h g h1 h2 c c' d1 d2 _ _ _ same is rests rests given1 given2 sound1 sound2 = (refl, same, is)
  turns_alike h g h1 h2 c c' d1 d2 _ _ _ same is (takes {h' = h'} {d = b1} {later = later} {ks = ks1} a k1 turn1 rest1) (takes {h' = g'} {d = b2} {ks = ks2} _ k2 turn2 rest2) given1 given2 sound1 sound2 =
      let moved : Given g c a k2 g' b2 = subst (λ (z : Configuration). Given g z a k2 g' b2) (sym is) (turn2, λ r. given2 (inl r)) in
      let first = turn_alike h g h' g' c b1 b2 a k1 k2 same turn1 moved.0 (λ r. given1 (inl r)) moved.1
      (turns_sound h' h1 b1 d1 later ks1 rest1 (λ r. given1 (inr r)) sound1) (turns_sound g' h2 b2 d2 later ks2 rest2 (λ r. given2 (inr r)) sound2) in
      let later_same = turns_alike h' g' h1 h2 b1 b2 d1 d2 later ks1 ks2 first.1 first.2 rest1 rest2 (λ r. given1 (inr r)) (λ r. given2 (inr r)) sound1 sound2 in
      ((λ j. first.0 j ∷ later_same.0 j), later_same.1, later_same.2)
