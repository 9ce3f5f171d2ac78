-- A run alone, on the files that its words name (`docs/USING.md`, "Options of `run`"), over any `Places`: what is asked for in
-- turn, what the run begins with, how it ends, and that nothing follows on what it had.
use Rattle.std.specs.Prelude.{◌≡◌, ◌⊎◌, ◌++◌, ℕ, List, [], Option, Some, None, Result, Ok, Err, IsSome, false, option_map, codes}
use Rattle.std.specs.Borrow.{Bor}
use Rattle.std.specs.Io.KnownBytes.{Appends}
use Rattle.std.specs.declared.io.ErrorKind.{ErrorKind}
use Rattle.std.specs.declared.io.ErrorKind.TheVariants.{OutOfMemory}
use Rattle.std.specs.declared.io.Write.{Ghosts as Writer}
use Rattle.vol_sector.specs.declared.device.Device.{Ghosts as Known}
use Rattle.wasm_steps.specs.declared.pause.Outcome.{Outcome}
use Rattle.sandbox_report.specs.declared.end.End.TheVariants.{Ran}
use Rattle.sandbox_report.specs.declared.summary.VolumeEnd.{VolumeEnd}
use Rattle.sandbox_report.specs.declared.summary.VolumeEnd.TheVariants as became
use Rattle.sandbox_report.specs.declared.summary.Summary.{Summary}
use Rattle.sandbox_report.specs.Reporting.{report_text}
use Rattle.sandbox_device.specs.declared.ram_device.RamDevice.{RamDevice}
use Rattle.vol_tar.specs.declared.reasons.TarReason.TheVariants as why
use Rattle.vol_commands.specs.declared.importing.ImportFailure.{ImportFailure}
use Rattle.vol_commands.specs.declared.exporting.ExportFailure.{ExportFailure}
use Rattle.vol_commands.specs.declared.exporting.ExportFailure.TheVariants as exporting
use Rattle.vol_commands.specs.Exporting.{PerformsExport}
use Rattle.sandbox_args.specs.declared.request.Run.{Run}
use Rattle.sandbox_args.specs.Request.{Text}
use Rattle.sandbox_runs.specs.declared.program.Executed.{Executed}
use Rattle.sandbox_telling.specs.declared.streams.InputSource.{InputSource}
use Rattle.sandbox_telling.specs.declared.streams.Sink.{Sink}
use Rattle.sandbox_telling.specs.declared.streams.SpareStreams.{SpareStreams}
use Rattle.sandbox_telling.specs.declared.streams.Streams.{Streams}
use Rattle.sandbox_places.specs.declared.places.Places.{Ghosts}
use Rattle.sandbox_command.specs.declared.opening.Ledger.{Ledger}
use Rattle.sandbox_command.specs.declared.opening.RunFiles.{RunFiles}
use Rattle.sandbox_command.specs.declared.opening.Medium.{Medium}
use Rattle.sandbox_command.specs.declared.opening.Medium.TheVariants as medium
use Rattle.sandbox_command.specs.declared.closing.RunLeft.{RunLeft}
use Rattle.sandbox_command.specs.Around.{Around, EndsGiven, in_memory}
use Rattle.sandbox_command.specs.Archive.{Fills, unfilled}
use Rattle.sandbox_command.specs.Beginning.{IsImage, unread}
use Rattle.sandbox_runs.specs.Execution.{Runs}
use Rattle.sandbox_places.specs.Places.{Chain, HandsOut, HandsOver, IsOfImage, IsOfName, IsOfRandom, IsRefusedAmong, IsRefusedOfAll, Prints, report_accesses, run_accesses}
use Rattle.observed_run.specs.Stacks.{Stacks}
use Rattle.sandbox_telling.specs.declared.profiling.FuelUse.{FuelUse}
use Rattle.sandbox_telling.specs.declared.stopping.Stopped.{Stopped}
use Rattle.sandbox_telling.specs.Profiling.{IsProfileOf, no_stacks}
use Rattle.sandbox_runs.specs.Flushing.{RunAnswered}
use Rattle.sandbox_telling.specs.Sources.{calls_of_run, guest_of, own_of, sink_answered, sink_contents, sink_of, source_of, source_remaining, spare_of}
use Rattle.sandbox_runs.specs.Status.{export_status, file_status, import_status}
use Rattle.sandbox_telling.specs.Modules.{profile_for}
use Rattle.sandbox_telling.specs.Stopping.{AreLinesOfNone, TellsLines}
use Rattle.sandbox_telling.specs.Streams.{AppendsSome}

-- It begins with an empty volume in memory.
abbrev pub IsFresh : Run → Type 0
IsFresh run = (run.volume ≡ None) × (run.image_from ≡ None) × (run.image ≡ None)

-- the report of a run whose volume couldn't be handed out
abbrev pub lost : Summary → Summary
lost summary = record summary { status = 124; volume = became.Failed }

-- A buffer refuses bytes for want of memory alone.
abbrev pub of_buffer : ExportFailure → ExportFailure
of_buffer (exporting.Volume f) = exporting.Volume f
of_buffer (exporting.Path e) = exporting.Path e
of_buffer (exporting.Stopped why.Stream) = exporting.Stopped why.Memory
of_buffer (exporting.Stopped w) = exporting.Stopped w

-- what became of a tree that couldn't be printed: the guest is to blame for a name that no tar stream can have
abbrev pub kept_of : ExportFailure → VolumeEnd
kept_of (exporting.Volume f) = became.Failed
kept_of (exporting.Path e) = became.Failed
kept_of (exporting.Stopped (why.Tar fault)) = became.None
kept_of (exporting.Stopped w) = became.Failed

-- and the report of its run
abbrev pub ungiven : ExportFailure → Summary → Summary
ungiven refusal summary = record summary { status = export_status refusal; volume = kept_of refusal }

-- the report of a run whose profile couldn't be printed
abbrev pub unprofiled : Summary → Summary
unprofiled summary = record summary { status = 124; flushed = false }

-- the file of a profile, where one is named, and its stacks, which are none yet
abbrev pub IsLedger : {O : Type 0} → (Text → O → Type 0) → Option (Bor Text) → Option (Ledger O) → Type 0
IsLedger is_output None None = Unit {0}
IsLedger is_output None (Some ledger) = ⊥
IsLedger is_output (Some file) None = ⊥
IsLedger is_output (Some file) (Some ledger) = is_output file.now ledger.file × (ledger.stacks ≡ no_stacks)

abbrev pub stacks_of : {O : Type 0} → Option (Ledger O) → Option Stacks
stacks_of ledger = option_map (λ l. l.stacks) ledger

abbrev pub file_of : {O : Type 0} → Option (Ledger O) → Option O
file_of ledger = option_map (λ l. l.file) ledger

module _ {P I O V : Type 0} (places : Ghosts P I O V) where
  -- ---- the files of a run

  -- its volume is that of its file; or it is made of the tar stream of one; or it is in memory, with the sectors of its image, or zeros
  abbrev pub IsMedium : Known V → (volume archive image : Option (Bor Text)) → Medium V → Type 0
  IsMedium known (Some file) archive image (medium.File device) = places.is_volume file.now device × (known.failures device ≡ 0)
  IsMedium known (Some file) archive image (medium.Memory device) = ⊥
  IsMedium known (Some file) archive image (medium.Archive bytes) = ⊥
  IsMedium known None (Some file) image (medium.File device) = ⊥
  IsMedium known None (Some file) image (medium.Memory device) = ⊥
  IsMedium known None (Some file) image (medium.Archive bytes) = places.is_beginning file.now 8589934592 bytes.items
  IsMedium known None None image (medium.File device) = ⊥
  IsMedium known None None image (medium.Memory device) = IsImage image device.sectors × IsOfImage places.is_image image device
  IsMedium known None None image (medium.Archive bytes) = ⊥

  -- what the files of these names gave
  pub record AreOpened (known : Known V) (run : Run) (opened : RunFiles I O V) : Type 0 where
    pub its_module : places.is_beginning run.module.now 67108865 opened.module.items
    pub its_random : IsOfRandom (λ name. places.is_beginning name 67108864) run.random opened.random.items
    pub its_medium : IsMedium known run.volume run.image_from run.image opened.medium
    pub its_input : IsOfName places.is_input run.stdin opened.stdin
    pub its_out : IsOfName places.is_output run.stdout opened.stdout
    pub its_err : IsOfName places.is_output run.stderr opened.stderr
    pub its_profile : IsLedger places.is_output run.profile opened.profile

  -- All were asked for, and one was refused; or memory was wanting for the sectors of a run that names none, or for its stacks.
  abbrev pub Lacks : Run → ErrorKind → P → P → Type 0
  Lacks run kind p q = IsRefusedOfAll places.asked places.refused (run_accesses run) kind p q
      ⊎ ((IsFresh run ⊎ IsSome run.profile) × (kind ≡ OutOfMemory) × Chain places.asked (run_accesses run) p q)

  -- ---- its report

  -- The file of its report was made and cut, where one is named.
  abbrev pub HasReport : Option (Bor Text) → P → P → Option O → Type 0
  HasReport name p q report = Chain places.asked (report_accesses name) p q × IsOfName places.is_output name report

  -- ---- its volume

  -- nothing is handed out
  abbrev pub HandsNothing : (before : ℕ) → Option Summary → P → P → (status : ℕ) → Option Summary → Type 0
  HandsNothing before said p q status summary = (q ≡ p) × (status ≡ before) × (summary ≡ said)

  -- The volume of a guest that ran is handed out where that is asked for; where it couldn't be, the status is 124.
  abbrev pub Hands : Option (Bor Text) → RamDevice → (before : ℕ) → Option Summary → P → P → (status : ℕ) → Option Summary → Type 0
  Hands None device before said p q status summary = HandsNothing before said p q status summary
  Hands (Some name) device before said p q status summary =
      (((outcome : Outcome) (s : Summary) → said ≡ Some s → s.end ≡ Ran outcome → ⊥) × HandsNothing before said p q status summary)
      ⊎ (places.asked (HandsOut name.now) p q
      × ((places.handed_out name.now device p q × (status ≡ before) × (summary ≡ said))
      ⊎ ((kind : ErrorKind) × places.refused (HandsOut name.now) kind p q × (status ≡ 124) × (summary ≡ option_map lost said))))

  -- ---- its tree

  -- What `export` prints was handed over, where it was printed whole; where it couldn't be, the status is 124. Else nothing was handed
  -- over, and the status is that of the export.
  abbrev pub IsHandedOver : (name stream : Text) → Result (Unit {0}) ExportFailure → (before : ℕ) → Option Summary → P → P → (status : ℕ) → Option Summary → Type 0
  IsHandedOver name stream (Ok x) before said p q status summary = places.asked (HandsOver name) p q
      × ((places.handed_over name stream p q × (status ≡ before) × (summary ≡ said))
      ⊎ ((kind : ErrorKind) × places.refused (HandsOver name) kind p q × (status ≡ 124) × (summary ≡ option_map lost said)))
  IsHandedOver name stream (Err refusal) before said p q status summary = (q ≡ p) × (status ≡ export_status (of_buffer refusal))
      × (summary ≡ option_map (ungiven (of_buffer refusal)) said)

  -- The root of the volume on the device was exported into a buffer, and that was handed over.
  pub record GivesRoot (name : Text) (device : RamDevice) (before : ℕ) (said : Option Summary) (p q : P) (status : ℕ) (summary : Option Summary) (after : RamDevice) : Type 0 where
    pub stream : Text
    pub done : Result (Unit {0}) ExportFailure
    pub exports : PerformsExport in_memory.honest in_memory.disk in_memory.size in_memory.failures (codes "/") device (Some []) (Some stream) after done
    pub handed : IsHandedOver name stream done before said p q status summary

  -- the same of a guest that ran, where that is asked for
  abbrev pub Gives : Option (Bor Text) → RamDevice → (before : ℕ) → Option Summary → P → P → (status : ℕ) → Option Summary → RamDevice → Type 0
  Gives None device before said p q status summary after = HandsNothing before said p q status summary × (after ≡ device)
  Gives (Some name) device before said p q status summary after =
      (((outcome : Outcome) (s : Summary) → said ≡ Some s → s.end ≡ Ran outcome → ⊥) × HandsNothing before said p q status summary × (after ≡ device))
      ⊎ GivesRoot name.now device before said p q status summary after

  -- nothing is handed out, and the device is as it was
  abbrev pub KeepsIt : {D : Type 0} → D → (before : ℕ) → Option Summary → P → P → (status : ℕ) → Option Summary → D → Type 0
  KeepsIt device before said p q status summary after = HandsNothing before said p q status summary × (after ≡ device)

  -- the volume in memory is handed out, and then its tree is given, as the words of a run say
  pub record HandsAll (run : Run) (device : RamDevice) (before : ℕ) (said : Option Summary) (p q : P) (status : ℕ) (summary : Option Summary) (after : RamDevice) : Type 0 where
    pub handing : ℕ
    pub told : Option Summary
    pub handed : P
    pub hands : Hands run.volume_out device before said p handed handing told
    pub gives : Gives run.out_to device handing told handed q status summary after

module _ {P I O V : Type 0} (places : Ghosts P I O V) (written : Writer O) where
  -- It was printed with these further lines into its file, which is at its end then; or that was refused, and the status is 124.
  pub record IsPrinted (name : Text) (report : O) (summary : Summary) (lines : Text) (before : ℕ) (p q : P) (status : ℕ) : Type 0 where
    pub printed : P
    pub asked_for : places.asked (Prints name) p printed
    pub left : O
    pub why : (places.printed name (report_text summary ++ lines) p printed × Appends (written.contents report) (written.contents left) (report_text summary ++ lines) × (status ≡ before))
        ⊎ ((kind : ErrorKind) × places.refused (Prints name) kind p printed × (status ≡ 124))
    pub ended : places.ended left printed q

  -- the same, where there is one
  abbrev pub IsTold : Option (Bor Text) → Option O → Option Summary → (lines : Text) → (before : ℕ) → P → P → (status : ℕ) → Type 0
  IsTold None report summary lines before p q status = (q ≡ p) × (status ≡ before)
  IsTold (Some name) None summary lines before p q status = ⊥
  IsTold (Some name) (Some report) None lines before p q status = (q ≡ p) × (status ≡ before)
  IsTold (Some name) (Some report) (Some summary) lines before p q status = IsPrinted name.now report summary lines before p q status

  -- ---- its profile

  -- It was printed into its file, which is at its end then; or that was refused, and the status is 124.
  pub record PrintsProfile (bytes : List ℕ) (usage : FuelUse) (name : Text) (file : O) (before : ℕ) (said : Option Summary) (p q : P) (status : ℕ) (summary : Option Summary) : Type 0 where
    pub printed : P
    pub asked_for : places.asked (Prints name) p printed
    pub left : O
    pub why : ((text : Text) × IsProfileOf bytes usage text × places.printed name text p printed × Appends (written.contents file) (written.contents left) text
        × (status ≡ before) × (summary ≡ said))
        ⊎ ((kind : ErrorKind) × places.refused (Prints name) kind p printed × (status ≡ 124) × (summary ≡ option_map unprofiled said))
    pub ended : places.ended left printed q

  -- where there is one: a guest that ran tells where its fuel went
  abbrev pub PrintsUse : (bytes : List ℕ) → Option FuelUse → (name : Text) → O → (before : ℕ) → Option Summary → P → P → (status : ℕ) → Option Summary → Type 0
  PrintsUse bytes None name file before said p q status summary = ⊥
  PrintsUse bytes (Some usage) name file before said p q status summary = PrintsProfile bytes usage name file before said p q status summary

  -- the same, where one is asked for; the file of a run that didn't begin is given up as it is
  abbrev pub IsProfiled : List ℕ → Option Stopped → Option (Bor Text) → Option O → (before : ℕ) → Option Summary → P → P → (status : ℕ) → Option Summary → Type 0
  IsProfiled bytes stopped None file before said p q status summary = HandsNothing places before said p q status summary
  IsProfiled bytes stopped (Some name) None before said p q status summary = ⊥
  IsProfiled bytes None (Some name) (Some file) before said p q status summary = places.ended file p q × (status ≡ before) × (summary ≡ said)
  IsProfiled bytes (Some stopped) (Some name) (Some file) before said p q status summary = PrintsUse bytes stopped.fuel_use name.now file before said p q status summary

-- ---- its end

-- what a run had when it ended, with lines of the program's own behind the errors
abbrev pub left_of : {D I O R W1 W2 : Type 0} → Executed D (InputSource I R) (Sink O W1) (Sink O W2) → SpareStreams R W1 W2 → Sink O W2 → RunLeft D I O R W1 W2
left_of ended spare own = record {
  device = ended.device;
  input = ended.input;
  out = ended.out;
  guest = guest_of ended.err spare.err;
  own = own;
  spare_input = spare.input;
  spare_out = spare.out;
}

-- and when no guest ran
abbrev pub unbegun_of : {I O R W1 W2 : Type 0} → Streams (InputSource I R) (Sink O W1) (Sink O W2) → SpareStreams R W1 W2 → Sink O W2 → RunLeft (Unit {0}) I O R W1 W2
unbegun_of streams spare own = record {
  device = tt;
  input = streams.input;
  out = streams.out;
  guest = guest_of streams.err spare.err;
  own = own;
  spare_input = spare.input;
  spare_out = spare.out;
}

module _ {P I O V R W1 W2 : Type 0} (on : Around P I O V R W1 W2) where
  -- A module was run on a device with these files and streams, and so it ended. Its volume was handed out where that is said, its
  -- profile and its report were printed, and all that it had was given up as it was then, but for lines of the program's own.
  pub record RunsWith {D : Type 0} (known : Known D) (HandsIt : D → (before : ℕ) → Option Summary → P → P → (status : ℕ) → Option Summary → D → Type 0)
      (run : Run) (bytes : List ℕ) (random : Text) (device : D) (streams : Streams (InputSource I R) (Sink O W1) (Sink O W2)) (spare : SpareStreams R W1 W2)
      (profile report : Option O) (p q : P) (status : ℕ) : Type 0 where
    pub left : Executed D (InputSource I R) (Sink O W1) (Sink O W2)
    pub runs : Runs known.honest known.disk known.size known.failures known.goes_on (source_remaining on.read.remaining on.input.remaining)
        (sink_contents on.written.contents on.out.contents) (sink_contents on.written.contents on.err.contents)
        (calls_of_run on.calls.reads on.calls.writes on.calls.given)
        run bytes random device streams.input streams.out streams.err left
    pub answered : RunAnswered (sink_answered on.flushes.file_flushed on.flushes.out_flushed) (sink_answered on.flushes.file_refuses on.flushes.out_refuses)
        (sink_answered on.flushes.file_flushed on.flushes.err_flushed) (sink_answered on.flushes.file_refuses on.flushes.err_refuses) left
    pub handing : ℕ
    pub said : Option Summary
    pub handed : P
    pub settled : D
    pub hands : HandsIt left.device left.status left.summary p handed handing said settled
    pub before : ℕ
    pub summary : Option Summary
    pub profiled : P
    pub profiles : IsProfiled on.places on.written bytes left.stopped run.profile profile handing said handed profiled before summary
    -- its report tells where it stopped
    pub lines_of_frames : Text
    pub are_lines : TellsLines (profile_for run.floats) bytes run.frames left.stopped lines_of_frames
    pub told : P
    pub tells : IsTold on.places on.written run.report report summary lines_of_frames before profiled told status
    pub own : Sink O W2
    pub lines : AppendsSome (sink_contents on.written.contents on.err.contents (own_of left.err spare.err))
        (sink_contents on.written.contents on.err.contents own)
    pub ended : on.places.ended (left_of (record left { device = settled }) spare own) told q

  -- The tar stream of its volume is refused as `import` refuses one, and no guest ran. Its report says so.
  pub record IsUnfilled (run : Run) (archive bytes : List ℕ) (streams : Streams (InputSource I R) (Sink O W1) (Sink O W2)) (spare : SpareStreams R W1 W2)
      (profile report : Option O) (p q : P) (status : ℕ) : Type 0 where
    pub refusal : ImportFailure
    pub why : Fills archive (Err refusal)
    pub before : ℕ
    pub summary : Option Summary
    pub profiled : P
    pub profiles : IsProfiled on.places on.written bytes None run.profile profile (import_status refusal) (Some (unfilled run refusal)) p profiled before summary
    pub lines_of_none : Text
    pub are_lines : AreLinesOfNone lines_of_none
    pub told : P
    pub tells : IsTold on.places on.written run.report report summary lines_of_none before profiled told status
    pub own : Sink O W2
    pub lines : AppendsSome (sink_contents on.written.contents on.err.contents (own_of streams.err spare.err))
        (sink_contents on.written.contents on.err.contents own)
    pub ended : on.places.ended (unbegun_of streams spare own) told q

  -- in memory
  abbrev pub RunsInMemory : Run → (bytes : List ℕ) → (random : Text) → RamDevice → Streams (InputSource I R) (Sink O W1) (Sink O W2) → SpareStreams R W1 W2
      → (profile report : Option O) → P → P → (status : ℕ) → Type 0
  RunsInMemory run bytes random device streams spare profile report p q status =
      RunsWith in_memory (λ left before said p q status summary after. HandsAll on.places run left before said p q status summary after)
      run bytes random device streams spare profile report p q status

  -- A volume was made of the tar stream, and the module was run on it; or it was refused.
  abbrev pub RunsFilled : Run → (archive bytes : List ℕ) → (random : Text) → Streams (InputSource I R) (Sink O W1) (Sink O W2) → SpareStreams R W1 W2
      → (profile report : Option O) → P → P → (status : ℕ) → Type 0
  RunsFilled run archive bytes random streams spare profile report p q status =
      ((device : RamDevice) × Fills archive (Ok device) × RunsInMemory run bytes random device streams spare profile report p q status)
      ⊎ IsUnfilled run archive bytes streams spare profile report p q status

  -- its streams are those that were given, but where it names files for them
  abbrev pub streams_of : RunFiles I O V → Streams R W1 W2 → Streams (InputSource I R) (Sink O W1) (Sink O W2)
  streams_of opened given = record { input = source_of opened.stdin given.input; out = sink_of opened.stdout given.out; err = sink_of opened.stderr given.err }

  abbrev pub spare_streams : RunFiles I O V → Streams R W1 W2 → SpareStreams R W1 W2
  spare_streams opened given = record { input = spare_of opened.stdin given.input; out = spare_of opened.stdout given.out; err = spare_of opened.stderr given.err }

  -- on the file of its volume, or in memory
  abbrev pub RunsOnMedium : Medium V → Run → RunFiles I O V → Streams R W1 W2 → Option O → P → P → (status : ℕ) → Type 0
  RunsOnMedium (medium.File device) run opened given report p q status = RunsWith on.volume (λ left before said p q status summary after. KeepsIt on.places left before said p q status summary after)
      run opened.module.items opened.random.items device (streams_of opened given) (spare_streams opened given) (file_of opened.profile) report p q status
  RunsOnMedium (medium.Memory device) run opened given report p q status =
      RunsInMemory run opened.module.items opened.random.items device (streams_of opened given) (spare_streams opened given) (file_of opened.profile) report p q status
  RunsOnMedium (medium.Archive bytes) run opened given report p q status =
      RunsFilled run bytes.items opened.module.items opened.random.items (streams_of opened given) (spare_streams opened given) (file_of opened.profile) report p q status

  -- ---- a run alone

  -- All its files could be opened, and it was run on them.
  pub record RunsOpened (run : Run) (given : Streams R W1 W2) (p q : P) (status : ℕ) : Type 0 where
    pub opened : RunFiles I O V
    pub between : P
    pub asked_for : Chain on.places.asked (run_accesses run) p between
    pub are_opened : AreOpened on.places on.volume run opened
    pub report : Option O
    pub begun : P
    pub has_report : HasReport on.places run.report between begun report
    pub runs : RunsOnMedium opened.medium run opened given report begun q status

  -- One of its files is refused, and its report says so.
  pub record IsLacking (run : Run) (given : Streams R W1 W2) (p q : P) (status : ℕ) : Type 0 where
    pub kind : ErrorKind
    pub between : P
    pub lacks : Lacks on.places run kind p between
    pub report : Option O
    pub begun : P
    pub has_report : HasReport on.places run.report between begun report
    pub lines : Text
    pub are_lines : AreLinesOfNone lines
    pub told : P
    pub tells : IsTold on.places on.written run.report report (Some (unread run kind)) lines (file_status kind) begun told status
    pub ends : EndsGiven on given told q

  -- Its report can't be made. The status is that of this, or of one of its files that is refused before.
  pub record IsUntold (run : Run) (given : Streams R W1 W2) (p q : P) (status : ℕ) : Type 0 where
    pub kind : ErrorKind
    pub between : P
    pub begun : P
    pub refused : IsRefusedAmong on.places.asked on.places.refused (report_accesses run.report) kind between begun
    pub why : (Chain on.places.asked (run_accesses run) p between × (status ≡ file_status kind))
        ⊎ ((first : ErrorKind) × Lacks on.places run first p between × (status ≡ file_status first))
    pub ends : EndsGiven on given begun q

  abbrev pub RunsAlone : Run → Streams R W1 W2 → P → P → (status : ℕ) → Type 0
  RunsAlone run given p q status = IsUntold run given p q status ⊎ (IsLacking run given p q status ⊎ RunsOpened run given p q status)
