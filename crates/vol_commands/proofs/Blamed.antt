-- What is heard of a stream, where a refusal of a task may blame it.
use Rattle.std.proofs.Common.{◌≡◌, ℕ, true, false, Result, Ok, Err, IsErrAnd, refl, ap}
use Rattle.std.proofs.lemmas.Bool.{false≢true}
use Rattle.stream_answers.specs.Hearing.{Goes, Hears}
use Rattle.vol_tar.proofs.Blamed.{hears_none}
use Rattle.vol_commands.specs.Blame.{IsCause, blames_stream, is_stream}
use Rattle.vol_commands.specs.Exporting.{blames_output}
use Rattle.vol_commands.specs.Importing.{blames_input}
use Rattle.vol_commands.specs.declared.failure.Failure.{Failure}
use Rattle.vol_commands.specs.declared.exporting.ExportFailure.{ExportFailure}
use Rattle.vol_commands.specs.declared.importing.ImportFailure.{ImportFailure}

-- a refusal that is handed on blames what it blamed
pub blame : (r : Result (Unit {0}) Failure) (reason : Failure) → IsErrAnd r (λ f. f ≡ reason) → blames_stream r ≡ is_stream reason
blame (Ok x) reason is = absurd is
blame (Err f) reason is = ap is_stream is

pub blame_import : (r : Result ℕ ImportFailure) (reason : ImportFailure) → IsErrAnd r (λ f. f ≡ reason) → blames_input r ≡ blames_input (Err reason)
blame_import (Ok x) reason is = absurd is
blame_import (Err f) reason is = ap (λ (g : ImportFailure). blames_input (Err g)) is

pub blame_export : (r : Result (Unit {0}) ExportFailure) (reason : ExportFailure) → IsErrAnd r (λ f. f ≡ reason) → blames_output r ≡ blames_output (Err reason)
blame_export (Ok x) reason is = absurd is
blame_export (Err f) reason is = ap (λ (g : ExportFailure). blames_output (Err g)) is

module _ {S : Type 0} (went refused : S → S → Type 0) where
  -- the refusal that blames the stream is the cause
  pub exactly : (r : Result (Unit {0}) Failure) (a b : S) → Hears went refused (blames_stream r) a b → IsCause went refused r a b
  exactly (Ok x) a b heard = record { failed = false; heard = heard; blamed = λ is. absurd (false≢true is); worked = refl }
  exactly (Err f) a b heard = record { failed = is_stream f; heard = heard; blamed = λ is. is; worked = tt }

  -- what is refused for another reason is no failure of the stream
  pub unblamed : (r : Result (Unit {0}) Failure) → blames_stream r ≡ false → (a b : S) → Goes went a b → IsCause went refused r a b
  unblamed r none a b heard = exactly r a b (hears_none went refused (blames_stream r) none a b heard)

  -- and one that comes behind it
  pub behind : (first then : Failure) → (is_stream then ≡ true → is_stream first ≡ true) → (a b : S) → Hears went refused (is_stream first) a b → IsCause went refused (Err then) a b
  behind first then still a b heard = record { failed = is_stream first; heard = heard; blamed = still; worked = tt }
