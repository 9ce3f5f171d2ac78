-- What is done on the files that a command line names (`docs/USING.md`, "Commands"), over any `Places` and, in `IsAnswered`,
-- over the files of the system. No contract says which bytes a named file has; of a volume's file it is said what a crash
-- leaves, by the premise `KeepsItsModel`. All that is asked for is said, and that nothing follows on what a command had.
use Rattle.std.specs.Prelude.{◌≡◌, ◌⊎◌, ℕ, Bool, List, Option, Some, None, IsSomeAnd, length}
use Rattle.std.specs.Borrow.{Bor}
use Rattle.std.specs.declared.fs.File.{File}
use Rattle.std.specs.declared.io.ErrorKind.{ErrorKind as InputKind}
use Rattle.std.specs.declared.io.Read.{Ghosts as Reader}
use Rattle.std.specs.declared.io.Write.{Ghosts as Writer}
use Rattle.clap.specs.declared.error.kind.ErrorKind.{ErrorKind as LineKind}
use Rattle.clap.specs.Words.{subcommand_of}
use Rattle.vol_sector.specs.Past.{LeavesPast}
use Rattle.vol_inode.specs.declared.version.Version.{Version}
use Rattle.sandbox_device.specs.declared.opening.FileOutput.{FileOutput}
use Rattle.sandbox_device.specs.File.{KeepsItsModel}
use Rattle.sandbox_device.specs.Named.{WasOpened}
use Rattle.sandbox_device.specs.Ram.{joined_sectors}
use Rattle.sandbox_args.specs.declared.request.Run.{Run}
use Rattle.sandbox_args.specs.declared.request.Invocation.{Invocation}
use Rattle.sandbox_args.specs.declared.request.Invocation.TheVariants as asked
use Rattle.sandbox_args.specs.Request.{Text}
use Rattle.sandbox_args.specs.CommandLine.{AsksFor, program}
use Rattle.stream_answers.specs.Hearing.{Hears, Moves, Refuses}
use Rattle.sandbox_runs.specs.declared.program.Executed.{Executed}
use Rattle.sandbox_telling.specs.declared.work.VolumeWork.{VolumeWork}
use Rattle.sandbox_telling.specs.declared.work.VolumeWork.TheVariants as work
use Rattle.sandbox_places.specs.declared.host_places.HostPlaces.{HostPlaces}
use Rattle.sandbox_places.specs.declared.host_volume.HostVolume.{HostVolume}
use Rattle.sandbox_telling.specs.declared.streams.Streams.{Streams}
use Rattle.sandbox_command.specs.Alone.{RunsAlone}
use Rattle.sandbox_command.specs.Around.{Around, Calling, EndsGiven, Flushes}
use Rattle.sandbox_runs.specs.Execution.{StaysWithin, Executes}
use Rattle.sandbox_runs.specs.Flushing.{Answered}
use Rattle.sandbox_telling.specs.Formatting.{room_for, version_for}
use Rattle.sandbox_telling.specs.Modules.{profile_for}
use Rattle.sandbox_runs.specs.Inspecting.{Inspects}
use Rattle.sandbox_places.specs.Places.{Access, HasRoom, Locks, Reads, WasEnded, WasRefused, lengthens}
use Rattle.sandbox_runs.specs.Status.{command_line_status, file_status, words_status}
use Rattle.sandbox_telling.specs.Streams.{AppendsSome}
use Rattle.sandbox_places.specs.System.{IsImageOfName, IsOutput, IsRead, IsVolume, WasGiven, WasPrinted}
use Rattle.sandbox_command.specs.ListOfTests.{RunsList}
pub use Rattle.sandbox_command.specs.Beginning.{IsImage, memory_disk}
pub use Rattle.sandbox_places.specs.Clashing.{IsForOneRun, HasWrongSteps, HasTwoVolumes, IsMisgiven, IsForCommand, Clashes}
pub use Rattle.sandbox_places.specs.FileDisks.{file_disk}

-- ---- over any places

module _ {P I O V R W1 W2 : Type 0} (on : Around P I O V R W1 W2) where
  -- What is no run was executed on a device with the streams that were given, and this is its status; and all that it left was
  -- given up as it was.
  pub record HasExecuted (does : VolumeWork) (device : V) (given : Streams R W1 W2) (p q : P) (status : ℕ) : Type 0 where
    pub left : Executed V R W1 W2
    pub executes : Executes on.volume.honest on.volume.disk on.volume.size on.volume.failures on.volume.goes_on on.input.remaining on.out.contents on.err.contents on.calls.given.input on.calls.given.out
        does device given.input given.out given.err left
    pub answered : Answered on.flushes.out_flushed on.flushes.out_refuses left.flushed left.out
    pub stays_within : StaysWithin on.volume.honest on.volume.disk on.volume.size on.volume.goes_on does device left.device
    pub ends : status ≡ left.status
    pub ended : on.places.ended left p q

  -- the device of the file of this name, on which no operation failed yet, and which has what is wanted
  pub record IsNewDevice (name : Text) (HasIts : V → Type 0) (device : V) : Type 0 where
    pub is_its_volume : on.places.is_volume name device
    pub unused : on.volume.failures device ≡ 0
    pub enough : HasIts device

  -- One file is asked for. It is refused, and nothing else is done; or what is asked for was executed on it.
  abbrev pub DoesOn : Access → (name : Text) → (HasIts : V → Type 0) → VolumeWork → Streams R W1 W2 → (p q : P) → (status : ℕ) → Type 0
  DoesOn access name HasIts does given p q status = (m : P) × on.places.asked access p m
      × (((kind : InputKind) × on.places.refused access kind p m × (status ≡ file_status kind) × EndsGiven on given m q)
      ⊎ ((device : V) × IsNewDevice name HasIts device × HasExecuted does device given m q status))

  -- What these bytes are as a module was printed, nothing was read, and all was given up as it was then.
  pub record HasInspected (floats : Bool) (bytes : Text) (given : Streams R W1 W2) (p q : P) (status : ℕ) : Type 0 where
    pub left : Executed (Unit {0}) R W1 W2
    -- the output as it was before it was flushed, and whether it failed
    pub printed : W1
    pub failed : Bool
    pub heard : Hears (Moves on.calls.given.out.moved) (Refuses on.calls.given.out.moved on.calls.given.out.refused) failed given.out printed
    pub inspects : Inspects (profile_for floats) bytes (on.out.contents given.out) (on.out.contents left.out) failed left.flushed status
    pub answered : Answered on.flushes.out_flushed on.flushes.out_refuses left.flushed left.out
    pub input_is : left.input ≡ given.input
    pub lines : AppendsSome (on.err.contents given.err) (on.err.contents left.err)
    pub ended : on.places.ended left p q

  -- The file of a module is read. It is refused, and nothing else is done; or its bytes were inspected.
  abbrev pub DoesInspect : (floats : Bool) → (name : Text) → Streams R W1 W2 → (p q : P) → (status : ℕ) → Type 0
  DoesInspect floats name given p q status = (m : P) × on.places.asked (Reads name) p m
      × (((kind : InputKind) × on.places.refused (Reads name) kind p m × (status ≡ file_status kind) × EndsGiven on given m q)
      ⊎ ((bytes : Text) × on.places.is_beginning name 67108865 bytes × HasInspected floats bytes given m q status))

  -- a list of tests where one is named, else one run
  abbrev pub RunsNamed : Option (Bor Text) → Run → Streams R W1 W2 → (p q : P) → (status : ℕ) → Type 0
  RunsNamed None run given p q status = RunsAlone on run given p q status
  RunsNamed (Some list) run given p q status = RunsList on run list.now given p q status

  -- the file of a volume is made or lengthened, and formatted
  abbrev pub DoesFormat : (name : Text) → Version → (sectors slots : ℕ) → (new : Bool) → Streams R W1 W2 → (p q : P) → (status : ℕ) → Type 0
  DoesFormat name version sectors slots new given p q status =
      DoesOn (lengthens new name (room_for version sectors)) name (λ d. HasRoom on.volume.size on.volume.disk new (room_for version sectors) d) (work.Format sectors slots version new) given p q status

  -- Options that don't go together are refused, and no file is asked for. Else a run is done, alone or on the tests of a list; or
  -- what is no run, on the one file that it names.
  abbrev pub IsPerformed : Invocation → Streams R W1 W2 → (p q : P) → (status : ℕ) → Type 0
  IsPerformed (asked.Run run) given p q status =
      (Clashes (asked.Run run) × (status ≡ 124) × EndsGiven on given p q) ⊎ ((Clashes (asked.Run run) → ⊥) × RunsNamed run.tests run given p q status)
  IsPerformed (asked.Format file sectors slots large huge new) given p q status =
      (Clashes (asked.Format file sectors slots large huge new) × (status ≡ 124) × EndsGiven on given p q)
      ⊎ ((Clashes (asked.Format file sectors slots large huge new) → ⊥) × DoesFormat file.now (version_for large huge) sectors slots new given p q status)
  IsPerformed (asked.Volume file task) given p q status = DoesOn (Locks file.now) file.now (λ d. Unit {0}) (work.Task task) given p q status
  IsPerformed (asked.Import file path) given p q status = DoesOn (Locks file.now) file.now (λ d. Unit {0}) (work.Import path) given p q status
  IsPerformed (asked.Export file path) given p q status = DoesOn (Locks file.now) file.now (λ d. Unit {0}) (work.Export path) given p q status
  IsPerformed (asked.Inspect «module» floats) given p q status = DoesInspect floats «module».now given p q status

-- ---- the files of the system

-- What a file of a name is, by the evidence of who opened, read, printed and gave it (`System`). What was asked for is known to the code alone that
-- asked for it.
abbrev pub system : {R W1 W2 : Type 0} → Reader R → Writer W1 → Writer W2 → Flushes FileOutput W1 W2 → Calling File FileOutput R W1 W2 → Around HostPlaces File FileOutput HostVolume R W1 W2
system input out err flushes calls = record {
  places = record {
    asked = λ access before after. Unit {0};
    refused = λ access kind before after. WasRefused access kind;
    is_input = WasOpened;
    is_output = IsOutput;
    is_volume = IsVolume;
    is_image = IsImageOfName;
    is_text = λ name text. IsRead name 67108865 text;
    is_beginning = IsRead;
    printed = λ name text before after. WasPrinted name text;
    handed_out = λ name device before after. WasGiven name (joined_sectors device.sectors);
    handed_over = λ name bytes before after. WasGiven name bytes;
    ended = λ {X} it before after. WasEnded it;
  };
  read = record { remaining = λ file. None };
  written = record { contents = λ file. None };
  volume = record { honest = λ d. KeepsItsModel d.device.file; disk = file_disk; size = λ d. length d.device.sectors; failures = λ d. d.device.failures; goes_on = λ end first later. LeavesPast end (file_disk first) (file_disk later) };
  input = input;
  out = out;
  err = err;
  flushes = flushes;
  calls = calls;
}

module _ {R W1 W2 : Type 0} (input : Reader R) (out : Writer W1) (err : Writer W2) (flushes : Flushes FileOutput W1 W2)
    (calls : Calling File FileOutput R W1 W2) where
  -- on the files that the system has under their names
  abbrev pub IsPerformedOnSystem : Invocation → Streams R W1 W2 → (status : ℕ) → Type 0
  IsPerformedOnSystem invocation given status = (p : HostPlaces) × (q : HostPlaces) × IsPerformed (system input out err flushes calls) invocation given p q status

  -- The words can't be read, or the command line is refused. Or what some words ask for is performed.
  abbrev pub IsAnswered : Streams R W1 W2 → (status : ℕ) → Type 0
  IsAnswered given status =
      ((kind : InputKind) × (status ≡ words_status kind))
      ⊎ (((kind : LineKind) × (status ≡ command_line_status kind))
      ⊎ ((words : List Text) × (invocation : Invocation) × IsSomeAnd (subcommand_of program words) (λ entered. AsksFor entered.0 entered.1 invocation)
      × IsPerformedOnSystem invocation given status))
