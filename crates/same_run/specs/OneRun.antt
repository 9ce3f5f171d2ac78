-- A run is the only one, over any host: two runs from the same beginning part nowhere, and where both are over they have
-- ended alike.
use Rattle.std.specs.Prelude.{◌≡◌, ◌⊎◌, ℕ, ◌≤◌, Bool, false, List, ◌++◌}
use Rattle.wasm_store.specs.declared.call.HostCall.{HostCall}
use Rattle.wasm_store.specs.declared.call.Errno.{Errno}
use Rattle.wasm_steps.specs.declared.pause.Outcome.{Outcome}
use Rattle.wasm_steps.specs.Configuration.{Instance, Configuration}
use Rattle.wasm_steps.specs.Steps.{CallsOf, Reach}
use Rattle.sandbox_core.specs.Within.{RunsWithin}
use Rattle.same_run.specs.Growth.{WasRefusedMemory}
use Rattle.same_run.specs.NextStep.{AnswersOnce}
use Rattle.same_run.specs.Failures.{FailuresStay}
use Rattle.same_run.specs.Served.{IsServed}

-- From where the one ended the other goes on, with further answers of the host.
abbrev pub GoesOnFrom : (H : Type 0) → CallsOf H → Instance → H → Configuration → List (HostCall × Errno)
    → H → Configuration → List (HostCall × Errno) → Type 0
GoesOnFrom H Calls i h1 c1 answers1 h2 c2 answers2 =
    (more : List (HostCall × Errno)) × (answers2 ≡ answers1 ++ more) × Reach H Calls i h1 c1 more h2 c2

-- Two runs from the same configuration and host, of which none was refused memory and after which nothing has failed: one of
-- them goes on from where the other ended.
abbrev pub OneRun : (H : Type 0) → CallsOf H → Type 0
OneRun H Calls = (failed : H → Bool) (i : Instance) (h h1 h2 : H) (c c1 c2 : Configuration)
    (answers1 answers2 : List (HostCall × Errno))
    → AnswersOnce H Calls failed → FailuresStay H Calls failed
    → (one : Reach H Calls i h c answers1 h1 c1) → (other : Reach H Calls i h c answers2 h2 c2)
    → (WasRefusedMemory one → ⊥) → (WasRefusedMemory other → ⊥) → failed h1 ≡ false → failed h2 ≡ false
    → GoesOnFrom H Calls i h1 c1 answers1 h2 c2 answers2 ⊎ GoesOnFrom H Calls i h2 c2 answers2 h1 c1 answers1

module _ {H : Type 0} (Calls : CallsOf H) (failed : H → Bool) {i : Instance} {h : H} {c : Configuration} {fuel : ℕ} where
  -- Both ended at the same configuration and host, so with the same outcome and units, and the host had answered the same
  -- calls with the same numbers.
  pub record EndAlike {h1 h2 : H} {outcome1 outcome2 : Outcome} {used1 used2 : ℕ}
      (one : RunsWithin Calls i h c fuel h1 outcome1 used1) (other : RunsWithin Calls i h c fuel h2 outcome2 used2) : Type 0 where
    pub host : h1 ≡ h2
    pub last : one.last ≡ other.last
    pub answers : one.answers ≡ other.answers
    pub outcome : outcome1 ≡ outcome2
    pub used : used1 ≡ used2

-- Two runs with the same fuel from the same configuration and host, in which the host failed nowhere, end alike.
abbrev pub OneEnd : (H : Type 0) → CallsOf H → Type 0
OneEnd H Calls = (failed : H → Bool) (i : Instance) (h h1 h2 : H) (c : Configuration) (fuel : ℕ)
    (outcome1 outcome2 : Outcome) (used1 used2 : ℕ)
    → AnswersOnce H Calls failed → FailuresStay H Calls failed
    → (one : RunsWithin Calls i h c fuel h1 outcome1 used1)
    → (other : RunsWithin Calls i h c fuel h2 outcome2 used2)
    → used1 ≤ fuel → used2 ≤ fuel → IsServed Calls failed one → IsServed Calls failed other → EndAlike Calls failed one other
