-- The same for runs of the program: the same module, words, random bytes, input and volume give the same run, unless the
-- host failed.
use Rattle.std.specs.Prelude.{◌≡◌, ℕ, List, Option}
use Rattle.vol_sector.specs.Disk.{Disk}
use Rattle.vol_tree.specs.Opened.{geometry}
use Rattle.wasm_syntax.specs.declared.module.Module.{Module}
use Rattle.wasm_valid.specs.Validity.{IsValid}
use Rattle.wasm_operands.specs.Snapshots.{StandsFor}
use Rattle.wasi_calls.specs.declared.host.wasi_host.HostParts.{HostParts}
use Rattle.wasi_bodies.specs.host.Worlds.{Hearing}
use Rattle.sandbox_core.specs.Devices.{Devices}
use Rattle.sandbox_args.specs.declared.request.Run.{Run}
use Rattle.sandbox_args.specs.Request.{Text, texts, arguments_of}
use Rattle.sandbox_report.specs.declared.counted.Counted.{Counted}
use Rattle.sandbox_runs.specs.declared.program.Executed.{Executed}
use Rattle.sandbox_telling.specs.Supplies.{AreSettings, directories_of, terminals_of}
use Rattle.sandbox_telling.specs.RunHost.{counted_devices}
use Rattle.sandbox_runs.specs.Guest.{GuestRan}
use Rattle.same_run.specs.Alike.{AreServed, RunAlike}

-- What the words of two runs hand out is the same: arguments, environment, directories, moment, seed, pages and fuel; and both are
-- interactive with the same terminals, or neither.
pub record HandOutTheSame (run run' : Run) : Type 0 where
  pub arguments : arguments_of run ≡ arguments_of run'
  pub environment : texts run.env.items ≡ texts run'.env.items
  pub directories : directories_of run ≡ directories_of run'
  pub moment : run.moment ≡ run'.moment
  pub seed : run.seed ≡ run'.seed
  pub terminals : terminals_of run ≡ terminals_of run'
  pub pages : run.limits.pages ≡ run'.limits.pages
  pub fuel : run.limits.fuel ≡ run'.limits.fuel

module _ {D R W1 W2 D' R' W1' W2' : Type 0} (Stands : StandsFor)
    (is_honest : D → Type 0) (disk : D → Disk) (sectors_on failures : D → ℕ) (goes_on : ℕ → D → D → Type 0)
    (remaining : R → Option (List ℕ)) (out_contents : W1 → Option (List ℕ)) (err_contents : W2 → Option (List ℕ)) (ear : Hearing R W1 W2)
    (is_honest' : D' → Type 0) (disk' : D' → Disk) (sectors_on' failures' : D' → ℕ) (goes_on' : ℕ → D' → D' → Type 0)
    (remaining' : R' → Option (List ℕ)) (out_contents' : W1' → Option (List ℕ)) (err_contents' : W2' → Option (List ℕ)) (ear' : Hearing R' W1' W2') where
  abbrev pub on : Devices D (Counted R) (Counted W1) (Counted W2)
  on = counted_devices is_honest disk sectors_on failures goes_on remaining out_contents err_contents ear

  abbrev pub on' : Devices D' (Counted R') (Counted W1') (Counted W2')
  on' = counted_devices is_honest' disk' sectors_on' failures' goes_on' remaining' out_contents' err_contents' ear'

  -- Both guests began at one configuration of one instance, and their runs are alike, unless the host failed in one.
  pub record GuestsRanAlike {m : Module} {run run' : Run} {parts : HostParts D R W1 W2} {parts' : HostParts D' R' W1' W2'}
      {left : Executed D R W1 W2} {left' : Executed D' R' W1' W2'}
      (ran : GuestRan Stands is_honest disk sectors_on failures goes_on remaining out_contents err_contents ear m run parts left)
      (ran' : GuestRan Stands is_honest' disk' sectors_on' failures' goes_on' remaining' out_contents' err_contents' ear' m run' parts' left') : Type 0 where
    pub instance : ran.opens.starts.instance ≡ ran'.opens.starts.instance
    pub store : ran.opens.starts.store ≡ ran'.opens.starts.store
    pub entered : ran.opens.starts.entered ≡ ran'.opens.starts.entered
    pub alike : AreServed on on' ran.run ran'.run → RunAlike on on' ran.run ran'.run

  -- For two runs of a valid module with such words and the same random bytes, on volumes with the same tree and the same
  -- room, whose devices keep their models.
  abbrev pub SameProgramRun : Type 0
  SameProgramRun = (m : Module) (run run' : Run) (random : Text) (parts : HostParts D R W1 W2) (parts' : HostParts D' R' W1' W2')
      (left : Executed D R W1 W2) (left' : Executed D' R' W1' W2')
      → IsValid m → HandOutTheSame run run' → AreSettings run random parts.settings → AreSettings run' random parts'.settings
      → parts.volume.tree ≡ parts'.volume.tree → geometry parts.volume.numbers ≡ geometry parts'.volume.numbers
      → is_honest parts.volume.device → is_honest' parts'.volume.device
      → (ran : GuestRan Stands is_honest disk sectors_on failures goes_on remaining out_contents err_contents ear m run parts left)
      → (ran' : GuestRan Stands is_honest' disk' sectors_on' failures' goes_on' remaining' out_contents' err_contents' ear' m run' parts' left')
      → GuestsRanAlike ran ran'
