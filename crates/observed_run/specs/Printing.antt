-- Why a profile isn't printed: memory was refused, or what it is printed to took what came before, and then it refused.
use Rattle.std.specs.Prelude.{◌≡◌, ◌⊎◌, ℕ, List, true}
use Rattle.std.specs.IoError.{error_kind}
use Rattle.std.specs.declared.io.Error.{Error}
use Rattle.std.specs.declared.io.ErrorKind.TheVariants.{OutOfMemory}
use Rattle.stream_answers.specs.Hearing.{Hears, Moves, Refuses}

abbrev pub IsUnprinted : {S : Type 0} → (took : S → List ℕ → S → Type 0) → (refused : S → S → Type 0) → S → S → Error → Type 0
IsUnprinted took refused before after error = (error_kind error ≡ OutOfMemory) ⊎ Hears (Moves took) (Refuses took refused) true before after
