-- Why a stream isn't read whole.
use Rattle.std.specs.Prelude.{◌≡◌, ◌⊎◌, ℕ, List}
use Rattle.std.specs.IoError.{error_kind}
use Rattle.std.specs.declared.io.Error.{Error}
use Rattle.std.specs.declared.io.ErrorKind.TheVariants.{OutOfMemory}
use Rattle.stream_answers.specs.Hearing.{Goes}
use Rattle.stream_answers.specs.Pieces.{AtLast, Gives}

-- it was refused, maybe after it was interrupted and asked again
abbrev pub IsStopped : {S : Type 0} → (refused : S → S → Type 0) → S → S → Type 0
IsStopped refused before after = (asked : _) × Goes refused before asked × refused asked after

-- memory was refused; or it gave some bytes, and then it was refused
abbrev pub IsUnread : {S : Type 0} → (gave : S → List ℕ → S → Type 0) → (refused : S → S → Type 0) → S → S → Error → Type 0
IsUnread gave refused before after error =
    (error_kind error ≡ OutOfMemory) ⊎ ((bytes : List ℕ) × (given : _) × Gives (AtLast gave refused) before bytes given × IsStopped refused given after)
