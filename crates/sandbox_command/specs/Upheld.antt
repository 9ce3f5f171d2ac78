-- What a run of the program upholds (`README.md`, "What is proved"): where a guest ran (`GuestRan`), the headline of `sandbox_core`
-- holds of its resumes, with a seed and without. It did in every run that `perform_in` speaks of, alone (`RunsWith.runs`) or as a test of
-- a list (`IsTested.runs`): that is the law of `RunsAreGuests`.
use Rattle.std.specs.Prelude.{ℕ, List, [], ◌∷◌, Option}
use Rattle.vol_sector.specs.Disk.{Image, Disk}
use Rattle.vol_tree.specs.Stands.{StandsAs}
use Rattle.wasm_syntax.specs.declared.module.Module.{Module}
use Rattle.wasm_operands.specs.Snapshots.{StandsFor}
use Rattle.wasi_calls.specs.declared.host.wasi_host.HostParts.{HostParts}
use Rattle.wasi_bodies.specs.host.Worlds.{Hearing}
use Rattle.sandbox_core.specs.Headline.{Upholds}
use Rattle.sandbox_args.specs.declared.request.Run.{Run}
use Rattle.sandbox_runs.specs.declared.program.Executed.{Executed}
use Rattle.sandbox_telling.specs.RunHost.{counted_devices}
use Rattle.sandbox_runs.specs.Guest.{GuestRan}

module _ {D R W1 W2 : Type 0} (Stands : StandsFor) (is_honest : D → Type 0) (disk : D → Disk) (sectors_on failures : D → ℕ)
    (goes_on : ℕ → D → D → Type 0) (remaining : R → Option (List ℕ)) (out_contents : W1 → Option (List ℕ))
    (err_contents : W2 → Option (List ℕ)) (ear : Hearing R W1 W2) where
  -- On a device that keeps its model, from a volume of which a crash leaves its tree alone.
  abbrev pub RunUpholds : Type 0
  RunUpholds = (m : Module) (run : Run) (parts : HostParts D R W1 W2) (left : Executed D R W1 W2)
      → (ran : GuestRan Stands is_honest disk sectors_on failures goes_on remaining out_contents err_contents ear m run parts left)
      → is_honest parts.volume.device
      → ((c : Image) → (disk parts.volume.device).may_leave c → StandsAs c parts.volume.numbers parts.volume.tree)
      → Upholds Stands (counted_devices is_honest disk sectors_on failures goes_on remaining out_contents err_contents ear) m parts.settings.pages
      (parts.volume.tree ∷ []) 0 ran.session ran.resumes ran.last
