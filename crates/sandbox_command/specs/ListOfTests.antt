-- Many runs of one module, each with files of its own (`docs/USING.md`, "Many runs of one module"), over any `Places`,
-- to the end of what it was given. That a file of any `Places` is the one of a name, or that something was asked for, can be
-- shown only by the code that made that call on it.
use Rattle.std.specs.Prelude.{◌≡◌, ◌⊎◌, ◌≢◌, ◌<◌, ◌++◌, ℕ, List, ◌∷◌, Option, Some, None, length, map, slice_index, EachIndex}
use Rattle.std.specs.List.{All}
use Rattle.std.specs.Str.Lines.{lines}
use Rattle.std.specs.declared.io.ErrorKind.{ErrorKind}
use Rattle.std.specs.declared.io.ErrorKind.TheVariants.{OutOfMemory}
use Rattle.std.specs.Io.KnownBytes.{Appends}
use Rattle.std.specs.declared.io.Read.{Ghosts as Reader}
use Rattle.std.specs.declared.io.Write.{Ghosts as Writer}
use Rattle.wasm_syntax.specs.declared.module.Module.{Module}
use Rattle.wasm_syntax.specs.Module.{SpellsWith}
use Rattle.wasm_valid.specs.Validity.{IsValid}
use Rattle.wasm_steps.specs.declared.pause.Outcome.{Outcome}
use Rattle.sandbox_report.specs.declared.end.End.TheVariants.{Ran, Refused}
use Rattle.sandbox_report.specs.declared.fault.Fault.{Fault}
use Rattle.sandbox_report.specs.declared.summary.Summary.{Summary}
use Rattle.sandbox_report.specs.Reporting.{report_text}
use Rattle.sandbox_device.specs.declared.ram_device.RamDevice.{RamDevice}
use Rattle.wasi_bodies.specs.host.Worlds.{StreamCalls}
use Rattle.sandbox_args.specs.declared.request.Run.{Run}
use Rattle.sandbox_args.specs.Request.{Text}
use Rattle.sandbox_runs.specs.declared.program.Executed.{Executed}
use Rattle.sandbox_places.specs.declared.places.Places.{Ghosts}
use Rattle.sandbox_telling.specs.declared.streams.Streams.{Streams}
use Rattle.sandbox_command.specs.declared.list_of_tests.TestFiles.{TestFiles}
use Rattle.sandbox_command.specs.Around.{Around, EndsGiven, in_memory}
use Rattle.sandbox_command.specs.Beginning.{IsImage, unread}
use Rattle.sandbox_runs.specs.Execution.{NotLoaded, NotSupplied, RunsOn}
use Rattle.sandbox_runs.specs.Flushing.{RunAnswered}
use Rattle.sandbox_places.specs.Places.{Access, Opens, Makes, Reads, Prints, Chain, ChainWithFailure, IsOfImage, IsOfRandom, IsRefusedAmong, file_accesses, reads_of}
use Rattle.sandbox_runs.specs.Status.{file_status}
use Rattle.sandbox_telling.specs.Modules.{profile_for}
use Rattle.sandbox_telling.specs.Stopping.{AreLinesBy, AreLinesOfNone}

-- ---- the list

-- a word of it isn't empty, and has no blank
abbrev pub IsWord : Text → Type 0
IsWord w = (0 < length w) × EachIndex w (λ k. slice_index w k ≢ 32)

-- the line of a test: four words with one blank between them
abbrev pub line_of : TestFiles → Text
line_of t = t.input.now ++ (32 ∷ (t.output.now ++ (32 ∷ (t.errors.now ++ (32 ∷ t.report.now)))))

abbrev pub IsTest : TestFiles → Type 0
IsTest t = IsWord t.input.now × IsWord t.output.now × IsWord t.errors.now × IsWord t.report.now

-- a line that is that of no test
abbrev pub IsNoTest : Text → Type 0
IsNoTest line = (t : TestFiles) → line_of t ≡ line → IsTest t → ⊥

-- the lines of the text are those of these tests, one after the other
abbrev pub Lists : Text → List TestFiles → Type 0
Lists text tests = (map line_of tests ≡ lines text) × All IsTest tests

-- they are those of no list of tests: one of them is no test
abbrev pub HasNoTest : Text → Type 0
HasNoTest text = (tests : List TestFiles) → Lists text tests → ⊥

-- ---- what is asked for

-- the list is read, then the module, then the random bytes where a file of them is named
abbrev pub list_accesses : Run → Text → List Access
list_accesses run list = Reads list ∷ file_accesses run

-- The input is opened, the outputs are made, and the image is read where there is one. Before these the report is made, and
-- after them it is printed.
abbrev pub stream_accesses : Run → TestFiles → List Access
stream_accesses run t = Opens t.input.now ∷ (Makes t.output.now ∷ (Makes t.errors.now ∷ reads_of run.image))

-- The list, the module and the random bytes were read.
pub record AreRead {P I O V : Type 0} (places : Ghosts P I O V) (run : Run) (list : Text) (p q : P) (text bytes random : Text) : Type 0 where
  pub asked_for : Chain places.asked (list_accesses run list) p q
  pub is_its_text : places.is_text list text
  pub is_its_module : places.is_beginning run.module.now 67108865 bytes
  pub is_its_random : IsOfRandom (λ name. places.is_beginning name 67108864) run.random random

-- ---- a test

-- One of its files couldn't be opened, made or read; or all could, and where there is no image memory was wanting for sectors.
abbrev pub LacksFiles : {P I O V : Type 0} → Ghosts P I O V → Run → TestFiles → ErrorKind → P → P → Type 0
LacksFiles places run t kind p q = IsRefusedAmong places.asked places.refused (stream_accesses run t) kind p q
    ⊎ ((run.image ≡ None) × (kind ≡ OutOfMemory) × Chain places.asked (stream_accesses run t) p q)

module _ {P I O V : Type 0} (places : Ghosts P I O V) (read : Reader I) (written : Writer O) (flushed refuses : O → O → Type 0)
    (reads : StreamCalls I) (writes : StreamCalls O) where
  -- A run of the module as the words say, with all their fuel, on sectors of its own, those of the image or empty ones, and
  -- with the files of the test for its streams; and what its report says. All that it left was given up as it was.
  pub record IsTested (run : Run) (bytes : List ℕ) (m : Module) (random : Text) (t : TestFiles) (p q : P) (summary : Option Summary) (frames : Text) : Type 0 where
    pub prepared : P
    pub asked_for : Chain places.asked (stream_accesses run t) p prepared
    pub input : I
    pub is_its_input : places.is_input t.input.now input
    pub out : O
    pub is_its_output : places.is_output t.output.now out
    pub err : O
    pub are_its_errors : places.is_output t.errors.now err
    pub device : RamDevice
    pub new : IsImage run.image device.sectors
    pub of_image : IsOfImage places.is_image run.image device
    pub left : Executed RamDevice I O O
    pub runs : RunsOn in_memory.honest in_memory.disk in_memory.size in_memory.failures in_memory.goes_on read.remaining written.contents written.contents
        (record { input = reads; out = writes; err = writes }) run m random device input out err left
    pub answered : RunAnswered flushed refuses flushed refuses left
    pub summary_is : summary ≡ left.summary
    -- its report tells where it stopped
    pub are_lines : AreLinesBy bytes m run.frames left.stopped frames
    pub ended : places.ended left prepared q

  -- A test was run so, or its files aren't there, and its report says why.
  abbrev pub IsTestedOrUnread : Run → List ℕ → Module → Text → TestFiles → (p q : P) → Option Summary → (frames : Text) → Type 0
  IsTestedOrUnread run bytes m random t p q summary frames =
      ((kind : ErrorKind) × LacksFiles places run t kind p q × (summary ≡ Some (unread run kind)) × AreLinesOfNone frames) ⊎ IsTested run bytes m random t p q summary frames

  -- A guest ran in it, however it ended, and its report was printed into the file of that name, which was made before, and
  -- given up as it was then.
  pub record HasRun (run : Run) (bytes : List ℕ) (m : Module) (random : Text) (t : TestFiles) (p q : P) : Type 0 where
    pub report : O
    pub is_its_report : places.is_output t.report.now report
    pub made : P
    pub is_made : places.asked (Makes t.report.now) p made
    pub summary : Summary
    pub tested : P
    pub frames : Text
    pub ran_so : IsTested run bytes m random t made tested (Some summary) frames
    pub outcome : Outcome
    pub ran : summary.end ≡ Ran outcome
    pub printed : P
    pub asked_for : places.asked (Prints t.report.now) tested printed
    pub is_printed : places.printed t.report.now (report_text summary ++ frames) tested printed
    pub left : O
    pub tells : Appends (written.contents report) (written.contents left) (report_text summary ++ frames)
    pub ended : places.ended left printed q

  -- Its report was made, and then it was tested; but the report couldn't be printed, or it says that no guest ran, and why.
  pub record HasNotRun (run : Run) (bytes : List ℕ) (m : Module) (random : Text) (t : TestFiles) (p q : P) : Type 0 where
    pub report : O
    pub is_its_report : places.is_output t.report.now report
    pub made : P
    pub is_made : places.asked (Makes t.report.now) p made
    pub summary : Summary
    pub tested : P
    pub frames : Text
    pub ran_so : IsTestedOrUnread run bytes m random t made tested (Some summary) frames
    pub printed : P
    pub asked_for : places.asked (Prints t.report.now) tested printed
    pub why : ((kind : ErrorKind) × places.refused (Prints t.report.now) kind tested printed)
        ⊎ ((fault : Fault) × (summary.end ≡ Refused fault) × places.printed t.report.now (report_text summary ++ frames) tested printed)
    pub left : O
    pub ended : places.ended left printed q

  -- Its report couldn't be made, and nothing more was asked for; or it was, and no guest ran, or it couldn't be printed.
  abbrev pub HasFailed : Run → List ℕ → Module → Text → TestFiles → (p q : P) → Type 0
  HasFailed run bytes m random t p q =
      ((kind : ErrorKind) × places.asked (Makes t.report.now) p q × places.refused (Makes t.report.now) kind p q) ⊎ HasNotRun run bytes m random t p q

  -- The words are refused, or the bytes; or they spell a valid module, and each test is tried in turn. The status is 0 where
  -- each has run, and 124 where one at least failed.
  abbrev pub RunsTests : Run → List ℕ → Text → List TestFiles → (p q : P) → (status : ℕ) → Type 0
  RunsTests run bytes random tests p q status =
      ((summary : Option Summary) × NotSupplied run status summary × (q ≡ p))
      ⊎ (((summary : Option Summary) × NotLoaded run bytes status summary × (q ≡ p))
      ⊎ ((m : Module) × SpellsWith (profile_for run.floats) bytes m × IsValid m
      × (((status ≡ 0) × Chain (HasRun run bytes m random) tests p q)
      ⊎ ((status ≡ 124) × ChainWithFailure (HasRun run bytes m random) (HasFailed run bytes m random) tests p q))))

  -- A line of the list is no test, or memory is wanting, and nothing more is asked for; or its lines are those of these tests.
  abbrev pub RunsText : Run → (text bytes random : Text) → (p q : P) → (status : ℕ) → Type 0
  RunsText run text bytes random p q status =
      ((status ≡ 124) × HasNoTest text × (q ≡ p))
      ⊎ (((status ≡ 122) × (q ≡ p))
      ⊎ ((tests : List TestFiles) × Lists text tests × RunsTests run bytes random tests p q status))

  -- The list and the files of the run were read.
  pub record RunsRead (run : Run) (list : Text) (p q : P) (status : ℕ) : Type 0 where
    pub text : Text
    pub bytes : List ℕ
    pub random : Text
    pub between : P
    pub are_read : AreRead places run list p between text bytes random
    pub runs : RunsText run text bytes random between q status

  -- That was done, or a file is refused, and nothing more is asked for. So the status is 0 where a guest ran in each test and
  -- its report was printed, and nowhere else.
  abbrev pub RunsLines : Run → Text → (p q : P) → (status : ℕ) → Type 0
  RunsLines run list p q status = ((kind : ErrorKind) × (status ≡ file_status kind) × IsRefusedAmong places.asked places.refused (list_accesses run list) kind p q)
      ⊎ RunsRead run list p q status

-- the same, and then the streams that were given are given up
abbrev pub RunsList : {P I O V R W1 W2 : Type 0} → Around P I O V R W1 W2 → Run → Text → Streams R W1 W2 → (p q : P) → (status : ℕ) → Type 0
RunsList on run list given p q status = (done : _) × RunsLines on.places on.read on.written on.flushes.file_flushed on.flushes.file_refuses on.calls.reads on.calls.writes run list p done status × EndsGiven on given done q
