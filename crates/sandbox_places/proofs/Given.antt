-- What the system took, or refused: nothing is known of it (`specs/Places.antt`).
use Rattle.std.proofs.Common.{Result, Ok, Err, None, IfErr, OnOk}
use Rattle.std.specs.Io.KnownBytes.{Appends}
use Rattle.std.specs.IoError.{error_kind}
use Rattle.std.specs.declared.io.Error.{Error}
use Rattle.sandbox_args.specs.Request.{Text}
use Rattle.sandbox_places.specs.Places.{Access, WasRefused, was_refused}

-- of a file that doesn't tell its bytes nothing is known
pub nothing_told : {X : Type 0} (text : Text) (r : Result X Error) → OnOk r (Appends None None text)
nothing_told text (Ok x) = tt
nothing_told text (Err e) = tt

pub refused : {X : Type 0} (access : Access) (r : Result X Error) → IfErr r (λ e. WasRefused access (error_kind e))
refused access (Ok x) = tt
refused access (Err e) = was_refused access (error_kind e)
