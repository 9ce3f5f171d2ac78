-- The same of what the program reports: of two runs of it in which a session ran, the reports tell of the same run.
use Rattle.std.specs.Prelude.{◌≡◌, ℕ, List, Option}
use Rattle.vol_sector.specs.Disk.{Disk}
use Rattle.vol_tree.specs.Opened.{geometry}
use Rattle.wasm_syntax.specs.declared.module.Module.{Module}
use Rattle.wasm_valid.specs.Validity.{IsValid}
use Rattle.wasi_calls.specs.declared.host.wasi_host.HostParts.{HostParts}
use Rattle.wasi_bodies.specs.host.Worlds.{Hearing}
use Rattle.sandbox_args.specs.declared.request.Run.{Run}
use Rattle.sandbox_args.specs.Request.{Text}
use Rattle.sandbox_telling.specs.Supplies.{AreSettings}
use Rattle.sandbox_telling.specs.RunHost.{counted_devices}
use Rattle.sandbox_runs.specs.declared.program.Executed.{Executed}
use Rattle.sandbox_runs.specs.Running.{Ran}
use Rattle.same_run.specs.SameRun.{TellTheSame}
use Rattle.same_run.specs.SameProgram.{HandOutTheSame}

module _ {D R W1 W2 D' R' W1' W2' : Type 0}
    (is_honest : D → Type 0) (disk : D → Disk) (sectors_on failures : D → ℕ) (goes_on : ℕ → D → D → Type 0)
    (remaining : R → Option (List ℕ)) (out_contents : W1 → Option (List ℕ)) (err_contents : W2 → Option (List ℕ)) (ear : Hearing R W1 W2)
    (is_honest' : D' → Type 0) (disk' : D' → Disk) (sectors_on' failures' : D' → ℕ) (goes_on' : ℕ → D' → D' → Type 0)
    (remaining' : R' → Option (List ℕ)) (out_contents' : W1' → Option (List ℕ)) (err_contents' : W2' → Option (List ℕ)) (ear' : Hearing R' W1' W2') where
  -- For two runs as `SameProgramRun` has them, by the relation that the machine has.
  abbrev pub SameProgramReport : Type 0
  SameProgramReport = (m : Module) (run run' : Run) (random : Text) (parts : HostParts D R W1 W2) (parts' : HostParts D' R' W1' W2')
      (left : Executed D R W1 W2) (left' : Executed D' R' W1' W2')
      → IsValid m → HandOutTheSame run run' → AreSettings run random parts.settings → AreSettings run' random parts'.settings
      → parts.volume.tree ≡ parts'.volume.tree → geometry parts.volume.numbers ≡ geometry parts'.volume.numbers
      → is_honest parts.volume.device → is_honest' parts'.volume.device
      → (ran : Ran is_honest disk sectors_on failures goes_on remaining out_contents err_contents ear m run parts left)
      → (ran' : Ran is_honest' disk' sectors_on' failures' goes_on' remaining' out_contents' err_contents' ear' m run' parts' left')
      → TellTheSame (counted_devices is_honest disk sectors_on failures goes_on remaining out_contents err_contents ear)
      (counted_devices is_honest' disk' sectors_on' failures' goes_on' remaining' out_contents' err_contents' ear')
      ran.counted.reports ran'.counted.reports
