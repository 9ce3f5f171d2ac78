-- Runs in which the host failed nowhere.
use Rattle.std.specs.Prelude.{◌≡◌, ◌≢◌, ℕ, Bool, false}
use Rattle.wasm_steps.specs.declared.pause.Outcome.{Outcome}
use Rattle.wasm_steps.specs.declared.pause.Outcome.TheVariants.{OutOfMemory}
use Rattle.wasm_steps.specs.Configuration.{Instance, Configuration}
use Rattle.wasm_steps.specs.Steps.{CallsOf}
use Rattle.sandbox_core.specs.Within.{RunsWithin}
use Rattle.same_run.specs.Growth.{WasRefusedMemory}

module _ {H : Type 0} (Calls : CallsOf H) (failed : H → Bool) {i : Instance} {h : H} {c : Configuration} {fuel : ℕ} where
  -- The host failed nowhere in the run: each growth within the limit was given, the stacks found memory, and no stream and
  -- no device failed.
  pub record IsServed {h' : H} {outcome : Outcome} {used : ℕ}
      (run : RunsWithin Calls i h c fuel h' outcome used) : Type 0 where
    pub growths : WasRefusedMemory run.reach → ⊥
    pub stacks : outcome ≢ OutOfMemory
    pub nothing_failed : failed h' ≡ false
