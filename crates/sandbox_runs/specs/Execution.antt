-- What is done with a device: how it ends, and of which run, formatting, task, import or export its status tells
-- (`docs/USING.md`, "Commands"). `Runs` says it of a run, alone (`Alone`) or as a test of a list (`ListOfTests`), up to its own
-- lines, which are printed later; `Executes` of what is no run, which `execute` promises.
use Rattle.std.specs.Prelude.{◌≡◌, ◌≢◌, ◌⊎◌, ℕ, true, List, Option, Some, None, Result}
use Rattle.std.specs.Borrow.{Bor}
use Rattle.std.specs.Io.KnownBytes.{Keeps}
use Rattle.vol_sector.specs.Disk.{Disk, Leaves}
use Rattle.vol_sector.specs.declared.fault.Refused.{Refused}
use Rattle.vol_tree.specs.Opened.{Opened}
use Rattle.wasm_syntax.specs.declared.fault.LoadFault.{LoadFault}
use Rattle.wasm_syntax.specs.declared.fault.LoadFault.TheVariants.{Memory}
use Rattle.wasm_syntax.specs.declared.module.Module.{Module}
use Rattle.wasm_syntax.specs.Module.{SpellsWith}
use Rattle.wasm_valid.specs.Validity.{IsValid}
use Rattle.wasm_valid.specs.Refusal.{IsRefusal}
use Rattle.wasi_bodies.specs.declared.settings.Preopen.{Preopen}
use Rattle.wasi_bodies.specs.declared.settings.Settings.{Settings}
use Rattle.stream_answers.specs.Hearing.{Hears, Moves, Refuses}
use Rattle.wasi_bodies.specs.host.Worlds.{Hearing, StreamCalls}
use Rattle.sandbox_core.specs.declared.fault.SessionFault.{SessionFault}
use Rattle.sandbox_core.specs.Session.{given}
use Rattle.sandbox_args.specs.declared.request.Run.{Run}
use Rattle.sandbox_args.specs.Request.{Text}
use Rattle.vol_commands.specs.declared.failure.Failure.{Failure}
use Rattle.vol_commands.specs.declared.importing.ImportFailure.{ImportFailure}
use Rattle.vol_commands.specs.declared.exporting.ExportFailure.{ExportFailure}
use Rattle.vol_commands.specs.Blame.{IsCause, blames_stream}
use Rattle.vol_commands.specs.Importing.{PerformsImport, blames_input}
use Rattle.vol_commands.specs.Exporting.{PerformsExport, blames_output}
use Rattle.sandbox_report.specs.declared.fault.Fault.TheVariants as reason
use Rattle.sandbox_report.specs.declared.summary.VolumeEnd.TheVariants as kept
use Rattle.sandbox_report.specs.declared.summary.Summary.{Summary}
use Rattle.vol_commands.specs.Going.{FormatsWithin, KeepsWithin}
use Rattle.vol_commands.specs.Formatting.{FormatsWhere}
use Rattle.sandbox_telling.specs.Modules.{profile_for}
use Rattle.sandbox_telling.specs.Reporting.{kept_where_refused, not_run, session_reason, volume_of}
use Rattle.vol_commands.specs.Doing.{Performs, prints, reads_input}
use Rattle.sandbox_runs.specs.declared.program.Executed.{Executed}
use Rattle.sandbox_telling.specs.declared.work.VolumeWork.{VolumeWork}
use Rattle.sandbox_telling.specs.declared.work.VolumeWork.TheVariants as work
use Rattle.sandbox_runs.specs.Checking.{TellsChecked, checked_damage}
use Rattle.sandbox_runs.specs.Status.{ended_status, export_status, failure_status, import_status, load_status, session_status, volume_status}
use Rattle.sandbox_telling.specs.Streams.{AppendsSome}
use Rattle.sandbox_runs.specs.Silent.{IsSilent}
use Rattle.sandbox_telling.specs.Supplies.{AreDirectories, AreSettings, IsUncut, directories_of}
use Rattle.vol_commands.specs.Volumes.{IsOpenFor, IsRefusedFor, LeftByOpening}
use Rattle.sandbox_runs.specs.Running.{Launches, LeftByRun}
use Rattle.sandbox_runs.specs.Invoking.{CallsOnVolume}

-- A directory's word has no `=`, or memory was refused.
pub record NotSupplied (run : Run) (status : ℕ) (summary : Option Summary) : Type 0 where
  pub fault : SessionFault
  pub uncut : IsUncut (directories_of run) fault
  pub ends : status ≡ session_status fault
  pub summary_is : summary ≡ Some (not_run run (session_reason fault) kept.None status)

-- The words are taken, each directory's word cut at its `=`, and then the bytes are refused: where it isn't memory that was
-- wanting, they spell no valid module; with a fault of decoding, which isn't that a module is not valid either, they spell none.
pub record NotLoaded (run : Run) (bytes : List ℕ) (status : ℕ) (summary : Option Summary) : Type 0 where
  pub preopens : List Preopen
  pub are_cut : AreDirectories (directories_of run) preopens
  pub fault : LoadFault
  pub refused : fault ≢ Memory → (m : Module) → SpellsWith (profile_for run.floats) bytes m → IsValid m → ⊥
  pub spells_none : ¬ IsRefusal fault → (m : Module) → SpellsWith (profile_for run.floats) bytes m → ⊥
  pub ends : status ≡ load_status fault
  pub summary_is : summary ≡ Some (not_run run (reason.Module fault) kept.None status)

module _ {D R W1 W2 : Type 0} (is_honest : D → Type 0) (disk : D → Disk) (sectors_on failures : D → ℕ) (goes_on : ℕ → D → D → Type 0)
    (remaining : R → Option (List ℕ)) (out_contents : W1 → Option (List ℕ)) (err_contents : W2 → Option (List ℕ)) (ear : Hearing R W1 W2) where
  -- The volume is refused.
  pub record NoVolume (run : Run) (device : D) (input : R) (out : W1) (err : W2) (left : Executed D R W1 W2) : Type 0 where
    pub refused : Refused D
    pub why : IsRefusedFor is_honest disk sectors_on failures (volume_of run) device refused
    pub device_is : left.device ≡ refused.device
    pub ends : left.status ≡ volume_status refused.fault
    pub flushed : left.flushed ≡ true
    pub summary : left.summary ≡ Some (not_run run (reason.Volume refused.fault) (kept_where_refused refused.fault) left.status)
    pub streams : IsSilent out_contents err_contents Keeps input out err left

  -- The volume was opened, and the module launched with it and with the settings that were asked for.
  pub record OnVolume (run : Run) (m : Module) (random : Text) (device : D) (input : R) (out : W1) (err : W2) (left : Executed D R W1 W2) : Type 0 where
    pub volume : Opened D
    pub opened : IsOpenFor is_honest disk sectors_on failures (volume_of run) device volume
    pub settings : Settings
    pub are_settings : AreSettings run random settings
    pub launched : Launches is_honest disk sectors_on failures goes_on remaining out_contents err_contents ear m run (given settings volume input out err) left
    -- At any moment a crash leaves what it could leave before, what opening leaves, or the tree of a host that the run comes by.
    pub crash : is_honest device → Leaves (disk device) (disk left.device)
        (λ c. LeftByOpening is_honest disk sectors_on failures (volume_of run) volume c ⊎ LeftByRun is_honest disk sectors_on failures goes_on remaining out_contents err_contents ear m run (given settings volume input out err) left launched c)
    pub honest : is_honest device → is_honest left.device

  -- the volume is refused, or the module is launched with it
  abbrev pub RunsOn : Run → Module → Text → D → R → W1 → W2 → Executed D R W1 W2 → Type 0
  RunsOn run m random device input out err left = NoVolume run device input out err left ⊎ OnVolume run m random device input out err left

  -- the same of an exported function that is called in the place of `_start`
  abbrev pub InvokesOn : (name : Text) → Run → Module → Text → D → R → W1 → W2 → Executed D R W1 W2 → Type 0
  InvokesOn name run m random device input out err left = NoVolume run device input out err left
      ⊎ CallsOnVolume is_honest disk sectors_on failures goes_on remaining out_contents err_contents ear name run m random device input out err left

  -- a command's run, or one call of the function that is named
  abbrev pub RunsBy : Option (Bor Text) → Run → Module → Text → D → R → W1 → W2 → Executed D R W1 W2 → Type 0
  RunsBy None run m random device input out err left = RunsOn run m random device input out err left
  RunsBy (Some name) run m random device input out err left = InvokesOn name.now run m random device input out err left

  -- Before a volume was opened: the device is as it was, and so are the input and the output.
  pub record IsUntouched (device : D) (input : R) (out : W1) (err : W2) (left : Executed D R W1 W2) : Type 0 where
    pub device_is : left.device ≡ device
    pub flushed : left.flushed ≡ true
    pub streams : IsSilent out_contents err_contents Keeps input out err left

  -- The words are refused, or the bytes; or they spell a valid module, and then the volume is refused, or the module is
  -- launched, or one of its functions called.
  abbrev pub Runs : Run → List ℕ → Text → D → R → W1 → W2 → Executed D R W1 W2 → Type 0
  Runs run bytes random device input out err left =
      (NotSupplied run left.status left.summary × IsUntouched device input out err left)
      ⊎ ((NotLoaded run bytes left.status left.summary × IsUntouched device input out err left)
      ⊎ ((m : Module) × SpellsWith (profile_for run.floats) bytes m × IsValid m × RunsBy run.invoke run m random device input out err left))

module _ {D R W1 W2 : Type 0} (is_honest : D → Type 0) (disk : D → Disk) (sectors_on failures : D → ℕ) (goes_on : ℕ → D → D → Type 0)
    (remaining : R → Option (List ℕ)) (out_contents : W1 → Option (List ℕ)) (err_contents : W2 → Option (List ℕ)) (reads : StreamCalls R) (writes : StreamCalls W1) where
  -- A device is formatted; a task is done with the volume on a device, a tar stream brought into it, or one of its directories
  -- printed as one. Then the output is flushed, which keeps what it has. Where the input is read, or something
  -- is printed, the stream is the cause of a failure that is laid on it.
  abbrev pub Executes : VolumeWork → D → R → W1 → W2 → Executed D R W1 W2 → Type 0
  Executes (work.Format sectors slots version new) device input out err left =
      (done : Result (Unit {0}) Failure) × FormatsWhere new version is_honest disk sectors_on failures device sectors slots left.device done
      × (left.status ≡ ended_status failure_status done left.flushed) × (left.summary ≡ None) × IsSilent out_contents err_contents AppendsSome input out err left
  Executes (work.Task task) device input out err left =
      (done : Result (Unit {0}) Failure)
      × Performs is_honest disk sectors_on failures task device (remaining input) (remaining left.input) (out_contents out) (out_contents left.out) left.device done
      × (left.status ≡ ended_status failure_status done left.flushed) × (left.summary ≡ None)
      × TellsChecked (checked_damage task done) (err_contents err) (err_contents left.err)
      × (reads_input task ≡ true → IsCause (Moves reads.moved) reads.refused done input left.input)
      × (prints task ≡ true → (printed : W1) × Hears (Moves writes.moved) (Refuses writes.moved writes.refused) (blames_stream done) out printed)
  Executes (work.Import path) device input out err left =
      (done : Result ℕ ImportFailure)
      × PerformsImport is_honest disk sectors_on failures path.now device (remaining input) (remaining left.input) left.device done
      × (left.status ≡ ended_status import_status done left.flushed) × (left.summary ≡ None)
      × Keeps (out_contents out) (out_contents left.out) × AppendsSome (err_contents err) (err_contents left.err)
      × Hears (Moves reads.moved) reads.refused (blames_input done) input left.input
  Executes (work.Export path) device input out err left =
      (done : Result (Unit {0}) ExportFailure)
      × PerformsExport is_honest disk sectors_on failures path.now device (out_contents out) (out_contents left.out) left.device done
      × (left.status ≡ ended_status export_status done left.flushed) × (left.summary ≡ None)
      × (left.input ≡ input) × AppendsSome (err_contents err) (err_contents left.err)
      × ((printed : W1) × Hears (Moves writes.moved) (Refuses writes.moved writes.refused) (blames_output done) out printed)

-- No sector of the device past its volume was written: past the one that it was made, or that stood on it.
abbrev pub StaysWithin : {D : Type 0} → (D → Type 0) → (D → Disk) → (D → ℕ) → (ℕ → D → D → Type 0) → VolumeWork → D → D → Type 0
StaysWithin is_honest disk sectors_on goes_on (work.Format sectors slots version new) device left = FormatsWithin is_honest sectors_on goes_on sectors device left
StaysWithin is_honest disk sectors_on goes_on (work.Task task) device left = KeepsWithin is_honest disk sectors_on goes_on device left
StaysWithin is_honest disk sectors_on goes_on (work.Import path) device left = KeepsWithin is_honest disk sectors_on goes_on device left
StaysWithin is_honest disk sectors_on goes_on (work.Export path) device left = KeepsWithin is_honest disk sectors_on goes_on device left
