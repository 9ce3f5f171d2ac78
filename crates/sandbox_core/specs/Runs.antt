-- Runs of a machine over a host, which answers the guest's calls: resume by resume, and all resumes as one. A run goes
-- by steps of the reduction rules from one configuration to another (`docs/ARCHITECTURE.md`, "Configurations and the
-- machine").
use Rattle.std.specs.Prelude.{◌≡◌, ℕ, List, [], ◌∷◌}
use Rattle.wasm_steps.specs.declared.pause.Pause.{Pause}
use Rattle.wasm_steps.specs.Configuration.{Instance, Configuration, used_by}
use Rattle.wasm_steps.specs.Steps.{CallsOf, Reach}
use Rattle.wasm_interp.specs.Machine.{Snapshot, Represents, StandsFor}
pub use Rattle.sandbox_core.specs.Pauses.{answered, StopsAt, LastStopsAt}
pub use Rattle.sandbox_core.specs.Within.{StopsAs, RunsWithin, ComesBy, StandsInRun, LeftInRun}
use Rattle.wasm_interp.specs.Promise.{Paused, ResumedBy}

module _ {H : Type 0} (Calls : CallsOf H) where
  -- each pause says what steps lead to it from the one before
  abbrev pub PausesFollow : Instance → List Pause → H → Configuration → H → Configuration → Type 0
  PausesFollow i [] h c h' c' = (h' ≡ h) × (c' ≡ c)
  PausesFollow i (p ∷ ps) h c h' c' =
      (g : H) × (d : Configuration) × Paused H Calls i p h c g d × PausesFollow i ps g d h' c'

  -- pauses that follow one another belong to one run, in which the host answered those calls and no others
  abbrev pub PausesCompose : Type 0
  PausesCompose = (i : Instance) (ps : List Pause) (h h' : H) (c c' : Configuration)
      → PausesFollow i ps h c h' c' → Reach H Calls i h c (answered ps) h' c'

  -- one resume after another, from a host and a machine to others
  abbrev pub ResumesFollowBy : StandsFor → List Pause → H → Snapshot → H → Snapshot → Type 0
  ResumesFollowBy Stands [] h s h' s' = (h' ≡ h) × (s' ≡ s)
  ResumesFollowBy Stands (p ∷ ps) h s h' s' =
      (g : H) × (t : Snapshot) × (units : ℕ) × ResumedBy Stands H Calls h g s t units p × ResumesFollowBy Stands ps g t h' s'

  abbrev pub ResumesFollow : List Pause → H → Snapshot → H → Snapshot → Type 0
  ResumesFollow ps h s h' s' = ResumesFollowBy Represents ps h s h' s'

  -- resumes that follow one another are one run, from whatever configuration the machine stood for, with exactly the
  -- units that the machine tells of, to where the last of them stops
  abbrev pub ResumesCompose : Type 0
  ResumesCompose = (i : Instance) (ps : List Pause) (h h' : H) (s s' : Snapshot) (c : Configuration)
      → Represents s i c → ResumesFollow ps h s h' s' → used_by c ≡ s.used
      → (c' : Configuration) × Represents s' i c' × Reach H Calls i h c (answered ps) h' c' × (used_by c' ≡ s'.used)
      × LastStopsAt Calls i ps h' c'
