-- The parts of a list and of a test: a word, the files of a test, its report, its end. They are in the contracts of
-- private functions in `crates/sandbox_command/src/list_of_tests.rt`; what `run_list` promises stands in `ListOfTests`.
use Rattle.std.specs.Prelude.{◌≡◌, ◌⊎◌, ◌++◌, ℕ, List, ◌∷◌, Bool, true, false, Option}
use Rattle.std.specs.Io.KnownBytes.{Appends}
use Rattle.std.specs.declared.io.ErrorKind.{ErrorKind}
use Rattle.std.specs.declared.io.Write.{Ghosts as Writer}
use Rattle.wasm_steps.specs.declared.pause.Outcome.{Outcome}
use Rattle.sandbox_report.specs.declared.end.End.TheVariants.{Ran, Refused}
use Rattle.sandbox_report.specs.declared.fault.Fault.{Fault}
use Rattle.sandbox_report.specs.declared.summary.Summary.{Summary}
use Rattle.sandbox_report.specs.Reporting.{report_text}
use Rattle.sandbox_args.specs.declared.request.Run.{Run}
use Rattle.sandbox_args.specs.Request.{Text}
use Rattle.sandbox_places.specs.declared.places.Places.{Ghosts}
use Rattle.sandbox_command.specs.declared.list_of_tests.PreparedTest.{PreparedTest}
use Rattle.sandbox_command.specs.declared.list_of_tests.TestFiles.{TestFiles}
use Rattle.sandbox_command.specs.Beginning.{IsImage}
use Rattle.sandbox_places.specs.Places.{Access, Chain, ChainWithFailure, IsOfImage, Prints}
use Rattle.sandbox_command.specs.ListOfTests.{IsWord, stream_accesses}

-- no word stands at its beginning, with a blank behind it
abbrev pub BeginsWithNoWord : Text → Type 0
BeginsWithNoWord text = (word rest : Text) → text ≡ word ++ (32 ∷ rest) → IsWord word → ⊥

-- the files of a test, which were asked for in turn
pub record IsPrepared {P I O V : Type 0} (places : Ghosts P I O V) (run : Run) (t : TestFiles) (p q : P) (prepared : PreparedTest I O) : Type 0 where
  pub asked_for : Chain places.asked (stream_accesses run t) p q
  pub input : places.is_input t.input.now prepared.streams.input
  pub out : places.is_output t.output.now prepared.streams.out
  pub err : places.is_output t.errors.now prepared.streams.err
  pub new : IsImage run.image prepared.device.sectors
  pub of_image : IsOfImage places.is_image run.image prepared.device

-- A report was printed, and tells of a guest that ran; or it couldn't be printed, or tells of none.
abbrev pub IsToldAs : {P : Type 0} → (refuses : Access → ErrorKind → P → P → Type 0) → (prints : Text → Text → P → P → Type 0) → Bool → Text → Summary → (frames : Text) → (p q : P) → (before after : Option (List ℕ)) → Type 0
IsToldAs refuses prints true name summary frames p q before after =
    ((outcome : Outcome) × (summary.end ≡ Ran outcome)) × prints name (report_text summary ++ frames) p q × Appends before after (report_text summary ++ frames)
IsToldAs refuses prints false name summary frames p q before after = ((kind : ErrorKind) × refuses (Prints name) kind p q)
    ⊎ ((fault : Fault) × (summary.end ≡ Refused fault) × prints name (report_text summary ++ frames) p q)

-- It was printed so, and then its file was given up.
pub record IsTold {P I O V : Type 0} (places : Ghosts P I O V) (written : Writer O) (is_told : Bool) (name : Text) (report : O) (summary : Summary) (frames : Text) (p q : P) : Type 0 where
  pub printed : P
  pub asked_for : places.asked (Prints name) p printed
  pub left : O
  pub told : IsToldAs places.refused places.printed is_told name summary frames p printed (written.contents report) (written.contents left)
  pub ended : places.ended left printed q

-- this one went well, or failed
abbrev pub OneEndsAs : {A P : Type 0} → (went failed : A → P → P → Type 0) → Bool → A → P → P → Type 0
OneEndsAs went failed true a p q = went a p q
OneEndsAs went failed false a p q = failed a p q

-- and all of these did, or one at least failed
abbrev pub AllEndAs : {A P : Type 0} → (went failed : A → P → P → Type 0) → Bool → List A → P → P → Type 0
AllEndAs went failed true all p q = Chain went all p q
AllEndAs went failed false all p q = ChainWithFailure went failed all p q
