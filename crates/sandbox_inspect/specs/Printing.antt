-- What `survey` leaves on its writer: the whole text (`Tells`), or nothing or a beginning of it where it fails
-- (`PrintsBeginning`). A writer's contents are known bytes or unknown ones, hence `Option (List ℕ)`.
use Rattle.std.specs.Prelude.{◌≡◌, ◌≢◌, ℕ, ◌⊎◌, Bool, true, false, List, Option, Result, OnOk, IfErr}
use Rattle.std.specs.declared.io.ErrorKind.{ErrorKind}
use Rattle.std.specs.declared.io.ErrorKind.TheVariants.{OutOfMemory}
use Rattle.std.specs.Io.KnownBytes.{Appends, Keeps}
use Rattle.wasm_syntax.specs.declared.fault.LoadFault.{LoadFault}
use Rattle.wasm_syntax.specs.declared.profile.Profile.{Profile}
use Rattle.wasm_store.specs.Instantiation.{LinksOf}
use Rattle.stream_answers.specs.Hearing.{Hears}
use Rattle.stream_answers.specs.Printing.{AppendsPart}
use Rattle.sandbox_inspect.specs.Refusal.{IsSurvey}

-- all that is told of the bytes was printed
abbrev pub Tells : LinksOf → Profile → List ℕ → Option (List ℕ) → Option (List ℕ) → Result (Unit {0}) LoadFault → Type 0
Tells links p bytes before after outcome = (text : List ℕ) × IsSurvey links p bytes outcome text × Appends before after text

-- memory was refused, and nothing was printed; or a beginning of what is told was
abbrev pub PrintsBeginning : LinksOf → Profile → List ℕ → Option (List ℕ) → Option (List ℕ) → ErrorKind → Type 0
PrintsBeginning links p bytes before after kind = ((kind ≡ OutOfMemory) × Keeps before after)
    ⊎ ((outcome : Result (Unit {0}) LoadFault) × (text : List ℕ) × IsSurvey links p bytes outcome text × AppendsPart before after text)

-- What is heard of the writer: where all was printed it refused nothing, and where that failed for another reason than memory it did.
pub record HearsPrinting {S E : Type 0} (kind_of : E → ErrorKind) (went refused : S → S → Type 0) (result : Result (Result (Unit {0}) LoadFault) E) (before after : S) : Type 0 where
  pub failed : Bool
  pub heard : Hears went refused failed before after
  pub worked : OnOk result (failed ≡ false)
  pub blamed : IfErr result (λ e. kind_of e ≢ OutOfMemory → failed ≡ true)
