-- A run alone that has ended: what it had is given up, and its status is none above 124.
use Rattle.std.proofs.Common.{◌≡◌, ◌≤◌, ℕ, List, Option, Some, None, Result, Ok, Err, inl, inr, refl, sym, subst, arith}
use Rattle.std.specs.Borrow.{Bor}
use Rattle.std.specs.declared.io.ErrorKind.{ErrorKind}
use Rattle.std.specs.declared.io.ErrorKind.TheVariants.{OutOfMemory}
use Rattle.std.specs.declared.io.Read.{Ghosts as Reader}
use Rattle.std.specs.declared.io.Write.{Ghosts as Writer}
use Rattle.vol_sector.specs.declared.device.Device.{Ghosts as Known}
use Rattle.sandbox_report.specs.declared.summary.Summary.{Summary}
use Rattle.sandbox_device.specs.declared.ram_device.RamDevice.{RamDevice}
use Rattle.vol_commands.specs.declared.exporting.ExportFailure.{ExportFailure}
use Rattle.sandbox_args.specs.declared.request.Run.{Run}
use Rattle.sandbox_args.specs.declared.request.Invocation.{Invocation}
use Rattle.sandbox_args.specs.declared.request.Invocation.TheVariants as asked
use Rattle.sandbox_args.specs.Request.{Text}
use Rattle.wasi_bodies.specs.host.Worlds.{StreamCalls}
use Rattle.sandbox_places.specs.declared.places.Places.{Ghosts}
use Rattle.sandbox_runs.specs.declared.program.Executed.{Executed}
use Rattle.sandbox_command.specs.declared.closing.RunLeft.{RunLeft}
use Rattle.sandbox_command.specs.declared.opening.RunFiles.{RunFiles}
use Rattle.sandbox_command.specs.declared.opening.Medium.{Medium}
use Rattle.sandbox_command.specs.declared.opening.Medium.TheVariants as medium
use Rattle.sandbox_telling.specs.declared.streams.InputSource.{InputSource}
use Rattle.sandbox_telling.specs.declared.streams.Sink.{Sink}
use Rattle.sandbox_telling.specs.declared.streams.SpareStreams.{SpareStreams}
use Rattle.sandbox_telling.specs.declared.streams.Streams.{Streams}
use Rattle.sandbox_telling.specs.declared.profiling.FuelUse.{FuelUse}
use Rattle.sandbox_telling.specs.declared.stopping.Stopped.{Stopped}
use Rattle.sandbox_command.specs.Alone.{Gives, Hands, HandsAll, IsHandedOver, IsProfiled, IsTold, KeepsIt, PrintsUse, RunsAlone, RunsInMemory, RunsOnMedium, RunsWith, left_of, of_buffer}
use Rattle.sandbox_command.specs.Around.{Around, in_memory}
use Rattle.sandbox_runs.specs.Execution.{Runs}
use Rattle.sandbox_places.specs.Clashing.{Clashes}
use Rattle.sandbox_command.specs.Files.{IsPerformed, RunsNamed}
use Rattle.sandbox_runs.specs.Flushing.{RunAnswered}
use Rattle.sandbox_telling.specs.Sources.{calls_of_run, own_of, sink_answered, sink_contents, source_remaining}
use Rattle.sandbox_runs.specs.Status.{export_status, file_status, import_status}
use Rattle.sandbox_telling.specs.Modules.{profile_for}
use Rattle.sandbox_telling.specs.Stopping.{TellsLines}
use Rattle.sandbox_telling.specs.Streams.{AppendsSome}
use Rattle.sandbox_command.specs.ListOfTests.{RunsLines}
use Rattle.sandbox_command.proofs.Bounds.{export_within, import_within, of_load, of_session, runs_within}
use Rattle.sandbox_telling.proofs.Lines.{lines_then}

-- ---- what it had

module _ {P I O V R W1 W2 : Type 0} (on : Around P I O V R W1 W2) {D : Type 0} (known : Known D)
    (HandsIt : D → (before : ℕ) → Option Summary → P → P → (status : ℕ) → Option Summary → D → Type 0)
    (run : Run) (device : D) (streams : Streams (InputSource I R) (Sink O W1) (Sink O W2)) (spare : SpareStreams R W1 W2) (profile report : Option O) where
  abbrev Ended : (bytes random : List ℕ) → Executed D (InputSource I R) (Sink O W1) (Sink O W2) → Type 0
  Ended bytes random left = Runs known.honest known.disk known.size known.failures known.goes_on (source_remaining on.read.remaining on.input.remaining)
      (sink_contents on.written.contents on.out.contents) (sink_contents on.written.contents on.err.contents)
      (calls_of_run on.calls.reads on.calls.writes on.calls.given)
      run bytes random device streams.input streams.out streams.err left

  abbrev told_in : Sink O W2 → Option (List ℕ)
  told_in own = sink_contents on.written.contents on.err.contents own

  abbrev Answered : Executed D (InputSource I R) (Sink O W1) (Sink O W2) → Type 0
  Answered left = RunAnswered (sink_answered on.flushes.file_flushed on.flushes.out_flushed) (sink_answered on.flushes.file_refuses on.flushes.out_refuses)
      (sink_answered on.flushes.file_flushed on.flushes.err_flushed) (sink_answered on.flushes.file_refuses on.flushes.err_refuses) left

  pub runs_with : (bytes items random rest : List ℕ) → bytes ≡ items → random ≡ rest → (left : Executed D (InputSource I R) (Sink O W1) (Sink O W2)) → Ended bytes random left → Answered left
      → (own : Sink O W2) → AppendsSome (told_in (own_of left.err spare.err)) (told_in own) → (all : RunLeft D I O R W1 W2) → all ≡ left_of left spare own
      → (last : Sink O W2) → AppendsSome (told_in all.own) (told_in last)
      → (frames : Text) → TellsLines (profile_for run.floats) bytes run.frames left.stopped frames
      → (settled : D) (handing : ℕ) (said : Option Summary) (before : ℕ) (summary : Option Summary) (p handed profiled told q : P) (status : ℕ) → HandsIt left.device left.status left.summary p handed handing said settled
      → IsProfiled on.places on.written bytes left.stopped run.profile profile handing said handed profiled before summary
      → IsTold on.places on.written run.report report summary frames before profiled told status → on.places.ended (record all { device = settled; own = last }) told q
      → RunsWith on known HandsIt run items rest device streams spare profile report p q status
  runs_with bytes items random rest first second left runs answered own lines all same last more frames are_lines settled handing said before summary p handed profiled told q status hands profiles tells ended = record {
    left = left;
    runs = subst (λ (b : List ℕ). Ended b rest left) first (subst (λ (b : List ℕ). Ended bytes b left) second runs);
    answered = answered;
    handing = handing;
    said = said;
    handed = handed;
    settled = settled;
    hands = hands;
    before = before;
    summary = summary;
    profiled = profiled;
    profiles = subst (λ (b : List ℕ). IsProfiled on.places on.written b left.stopped run.profile profile handing said handed profiled before summary) first profiles;
    lines_of_frames = frames;
    are_lines = subst (λ (b : List ℕ). TellsLines (profile_for run.floats) b run.frames left.stopped frames) first are_lines;
    told = told;
    tells = tells;
    own = last;
    lines = lines_then (told_in (own_of left.err spare.err)) (told_in own) (told_in last) lines (subst (λ (l : RunLeft D I O R W1 W2). AppendsSome (told_in l.own) (told_in last)) same more);
    ended = subst (λ (l : RunLeft D I O R W1 W2). on.places.ended (record l { device = settled; own = last }) told q) same ended;
  }

-- its streams
pub rewired : {A B C R W1 W2 : Type 0} (X : Streams A B C → SpareStreams R W1 W2 → Type 0) (a x : A) → a ≡ x → (b y : B) → b ≡ y → (c z : C) → c ≡ z
    → (i j : Option R) → i ≡ j → (k l : Option W1) → k ≡ l → (m n : Option W2) → m ≡ n
    → X (record { input = a; out = b; err = c }) (record { input = i; out = k; err = m }) → X (record { input = x; out = y; err = z }) (record { input = j; out = l; err = n })
rewired {A = A} {B = B} {C = C} {R = R} {W1 = W1} {W2 = W2} X a x ax b y by c z cz i j ij k l kl m n mn holds =
    subst (λ (s : A). X (record { input = s; out = y; err = z }) (record { input = j; out = l; err = n })) ax
    (subst (λ (s : B). X (record { input = a; out = s; err = z }) (record { input = j; out = l; err = n })) by
    (subst (λ (s : C). X (record { input = a; out = b; err = s }) (record { input = j; out = l; err = n })) cz
    (subst (λ (s : Option R). X (record { input = a; out = b; err = c }) (record { input = s; out = l; err = n })) ij
    (subst (λ (s : Option W1). X (record { input = a; out = b; err = c }) (record { input = i; out = s; err = n })) kl
    (subst (λ (s : Option W2). X (record { input = a; out = b; err = c }) (record { input = i; out = k; err = s })) mn holds)))))

-- ---- its status

within : (n m : ℕ) → n ≡ m → m ≤ 124 → n ≤ 124
within n m is most = omega (arith, is, most)

pub file_within : (kind : ErrorKind) (n : ℕ) → n ≡ file_status kind → n ≤ 124
file_within OutOfMemory n is = omega (arith, is)
file_within kind n is = omega (arith, is)

module _ {P I O V : Type 0} (places : Ghosts P I O V) where
  told_within : (written : Writer O) (name : Option (Bor Text)) (report : Option O) (summary : Option Summary) (lines : Text) (before : ℕ) (p q : P) (status : ℕ) → IsTold places written name report summary lines before p q status → before ≤ 124 → status ≤ 124
  told_within written None report summary lines before p q status is most = within status before is.1 most
  told_within written (Some name) None summary lines before p q status is most = absurd is
  told_within written (Some name) (Some report) None lines before p q status is most = within status before is.1 most
  told_within written (Some name) (Some report) (Some summary) lines before p q status is most = elim is.why [
    | inl printed ↦ within status before printed.2 most
    | inr (kind, refused, fault) ↦ omega (arith, fault)
  ]

  profiled_within : (written : Writer O) (bytes : List ℕ) (stopped : Option Stopped) (name : Option (Bor Text)) (file : Option O) (before : ℕ) (said : Option Summary) (p q : P) (status : ℕ) (summary : Option Summary)
      → IsProfiled places written bytes stopped name file before said p q status summary → before ≤ 124 → status ≤ 124
  profiled_within written bytes stopped None file before said p q status summary is most = within status before is.1 most
  profiled_within written bytes stopped (Some name) None before said p q status summary is most = absurd is
  profiled_within written bytes None (Some name) (Some file) before said p q status summary is most = within status before is.1 most
  profiled_within written bytes (Some stopped) (Some name) (Some file) before said p q status summary is most = by stopped.fuel_use is
    where
      by : (usage : Option FuelUse) → PrintsUse places written bytes usage name.now file before said p q status summary → status ≤ 124
      by None none = absurd none
      by (Some usage) prints = elim prints.why [
        | inl done ↦ within status before done.4 most
        | inr (kind, refused, fault, same) ↦ omega (arith, fault)
      ]

  hands_within : (name : Option (Bor Text)) (device : RamDevice) (before : ℕ) (said : Option Summary) (p q : P) (status : ℕ) (summary : Option Summary) → Hands places name device before said p q status summary → before ≤ 124 → status ≤ 124
  hands_within None device before said p q status summary is most = within status before is.1 most
  hands_within (Some name) device before said p q status summary (inl (none, is)) most = within status before is.1 most
  hands_within (Some name) device before said p q status summary (inr (asked, inl (handed, is, same))) most = within status before is most
  hands_within (Some name) device before said p q status summary (inr (asked, inr (kind, refused, fault, same))) most = omega (arith, fault)

  gives_within : (name : Option (Bor Text)) (device : RamDevice) (before : ℕ) (said : Option Summary) (p q : P) (status : ℕ) (summary : Option Summary) (after : RamDevice) → Gives places name device before said p q status summary after → before ≤ 124 → status ≤ 124
  gives_within None device before said p q status summary after is most = within status before is.0.1 most
  gives_within (Some name) device before said p q status summary after (inl (none, is, same)) most = within status before is.1 most
  gives_within (Some name) device before said p q status summary after (inr it) most = over it.done it.handed
    where
      over : (done : Result (Unit {0}) ExportFailure) → IsHandedOver places name.now it.stream done before said p q status summary → status ≤ 124
      over (Ok x) (asked, inl (handed, is, same)) = within status before is most
      over (Ok x) (asked, inr (kind, refused, fault, same)) = omega (arith, fault)
      over (Err refusal) (nothing, is, same) = within status (export_status (of_buffer refusal)) is (export_within (of_buffer refusal))

  all_within : (run : Run) (device : RamDevice) (before : ℕ) (said : Option Summary) (p q : P) (status : ℕ) (summary : Option Summary) (after : RamDevice) → HandsAll places run device before said p q status summary after → before ≤ 124 → status ≤ 124
  all_within run device before said p q status summary after it most =
      gives_within run.out_to device it.handing it.told it.handed q status summary after it.gives (hands_within run.volume_out device before said p it.handed it.handing it.told it.hands most)

module _ {P I O V R W1 W2 : Type 0} (on : Around P I O V R W1 W2) where
  with_within : {D : Type 0} (known : Known D) (HandsIt : D → (before : ℕ) → Option Summary → P → P → (status : ℕ) → Option Summary → D → Type 0)
      → ((device : D) (before : ℕ) (said : Option Summary) (p q : P) (status : ℕ) (summary : Option Summary) (after : D) → HandsIt device before said p q status summary after → before ≤ 124 → status ≤ 124)
      → (run : Run) (bytes : List ℕ) (random : Text) (device : D) (streams : Streams (InputSource I R) (Sink O W1) (Sink O W2)) (spare : SpareStreams R W1 W2) (profile report : Option O) (p q : P) (status : ℕ)
      → RunsWith on known HandsIt run bytes random device streams spare profile report p q status → status ≤ 124
  with_within known HandsIt keeps run bytes random device streams spare profile report p q status it =
      told_within on.places on.written run.report report it.summary it.lines_of_frames it.before it.profiled it.told status it.tells
      (profiled_within on.places on.written bytes it.left.stopped run.profile profile it.handing it.said it.handed it.profiled it.before it.summary it.profiles
      (keeps it.left.device it.left.status it.left.summary p it.handed it.handing it.said it.settled it.hands
      (runs_within known.honest known.disk known.size known.failures known.goes_on (source_remaining on.read.remaining on.input.remaining)
      (sink_contents on.written.contents on.out.contents) (sink_contents on.written.contents on.err.contents)
      (calls_of_run on.calls.reads on.calls.writes on.calls.given) run bytes random device streams.input streams.out streams.err it.left it.runs)))

  memory_within : (run : Run) (bytes : List ℕ) (random : Text) (device : RamDevice) (streams : Streams (InputSource I R) (Sink O W1) (Sink O W2)) (spare : SpareStreams R W1 W2) (profile report : Option O) (p q : P) (status : ℕ)
      → RunsInMemory on run bytes random device streams spare profile report p q status → status ≤ 124
  memory_within run bytes random device streams spare profile report p q status it =
      with_within in_memory (λ left before said p q status summary after. HandsAll on.places run left before said p q status summary after)
      (λ left before said p q status summary after is most. all_within on.places run left before said p q status summary after is most)
      run bytes random device streams spare profile report p q status it

  medium_within : (m : Medium V) (run : Run) (opened : RunFiles I O V) (given : Streams R W1 W2) (report : Option O) (p q : P) (status : ℕ) → RunsOnMedium on m run opened given report p q status → status ≤ 124
  medium_within (medium.File device) run opened given report p q status it =
      with_within on.volume (λ left before said p q status summary after. KeepsIt on.places left before said p q status summary after) (λ left before said p q status summary after is most. within status before is.0.1 most)
      run _ _ device _ _ _ report p q status it
  medium_within (medium.Memory device) run opened given report p q status it = memory_within run _ _ device _ _ _ report p q status it
  medium_within (medium.Archive bytes) run opened given report p q status (inl (device, fills, it)) = memory_within run _ _ device _ _ _ report p q status it
  medium_within (medium.Archive bytes) run opened given report p q status (inr it) =
      told_within on.places on.written run.report report it.summary it.lines_of_none it.before it.profiled it.told status it.tells
      (profiled_within on.places on.written opened.«module».items None run.profile _ (import_status it.refusal) _ p it.profiled it.before it.summary it.profiles (import_within it.refusal))

  pub alone_within : (run : Run) (given : Streams R W1 W2) (p q : P) (status : ℕ) → RunsAlone on run given p q status → status ≤ 124
  alone_within run given p q status (inl untold) = elim untold.why [
    | inl (asked, is) ↦ file_within untold.kind status is
    | inr (first, lacks, is) ↦ file_within first status is
  ]
  alone_within run given p q status (inr (inl it)) =
      told_within on.places on.written run.report it.report _ it.lines (file_status it.kind) it.begun it.told status it.tells (file_within it.kind (file_status it.kind) refl)
  alone_within run given p q status (inr (inr it)) = medium_within it.opened.medium run it.opened given it.report it.begun q status it.runs

  -- ---- what was performed

  pub run_performed : (i : Invocation) (run : Run) (given : Streams R W1 W2) (p q : P) (status : ℕ) → i ≡ asked.Run run → (Clashes i → ⊥) → RunsNamed on run.tests run given p q status → IsPerformed on i given p q status
  run_performed i run given p q status is never runs =
      subst (λ (j : Invocation). IsPerformed on j given p q status) (sym is) (inr (subst (λ (j : Invocation). Clashes j → ⊥) is never, runs))

module _ {P I O V : Type 0} (places : Ghosts P I O V) where
  pub lines_within : (read : Reader I) (written : Writer O) (flushed refuses : O → O → Type 0) (reads : StreamCalls I) (writes : StreamCalls O) (run : Run) (list : Text) (p q : P) (status : ℕ) → RunsLines places read written flushed refuses reads writes run list p q status → status ≤ 124
  lines_within read written flushed refuses reads writes run list p q status (inl (kind, ends, refused)) = file_within kind status ends
  lines_within read written flushed refuses reads writes run list p q status (inr it) = elim it.runs [
    | inl none ↦ (let is = none.0 in omega (arith, is))
    | inr (inl memory) ↦ (let is = memory.0 in omega (arith, is))
    | inr (inr (tests, lists, inl (summary, refused, same))) ↦ of_session refused.fault status refused.ends
    | inr (inr (tests, lists, inr (inl (summary, refused, same)))) ↦ of_load refused.fault status refused.ends
    | inr (inr (tests, lists, inr (inr (m, spells, valid, inl (zero, ran))))) ↦ omega (arith, zero)
    | inr (inr (tests, lists, inr (inr (m, spells, valid, inr (fault, failed))))) ↦ omega (arith, fault)
  ]
