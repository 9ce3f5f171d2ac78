-- What was printed before something was refused.
use Rattle.std.proofs.Common.{◌≡◌, inl, inr, ℕ, List, Option, Result, Ok, Err, MatchResult, OnOk, IsErrAnd, is_err, sym, subst}
use Rattle.std.specs.declared.io.Error.{Error}
use Rattle.std.specs.Io.KnownBytes.{Appends}
use Rattle.stream_answers.specs.Hearing.{Goes, stays, goes, Hears, Moves, Refuses}
use Rattle.stream_answers.specs.Pieces.{Gives, nothing, gives}
use Rattle.stream_answers.specs.Printing.{IsPrinted}
use Rattle.stream_answers.proofs.Hearing.{then}
use Rattle.observed_run.specs.Printing.{IsUnprinted}

-- bytes that were taken piece by piece are calls that went well
went : {S : Type 0} (took : S → List ℕ → S → Type 0) (a b : S) (bytes : List ℕ) → Gives took a bytes b → Goes (Moves took) a b
went took a b bytes nothing = stays
went took a b bytes (gives before more first last is) = goes (went took a _ before first) (more, last)

module _ {S : Type 0} (took : S → List ℕ → S → Type 0) (refused : S → S → Type 0) (contents : S → Option (List ℕ)) where
  -- after what was printed it is as it would have been before it
  pub refused_then : (a b c : S) (text : List ℕ) (e : Error) → IsPrinted took contents a text b → IsUnprinted took refused b c e → IsUnprinted took refused a c e
  refused_then a b c text e printed (inl memory) = inl memory
  refused_then a b c text e printed (inr heard) = inr (heard.0, then (went took a b text printed.1) heard.1, heard.2)

  -- an error that is passed on
  pub passed : {X : Type 0} (Y : X → Type 0) (r : Result X Error) (e : Error) (a b : S) → IsErrAnd r (λ f. f ≡ e) → IsUnprinted took refused a b e
      → MatchResult r Y (IsUnprinted took refused a b)
  passed Y (Ok x) e a b is holds = absurd is
  passed Y (Err f) e a b is holds = subst (IsUnprinted took refused a b) (sym is) holds

  -- a text that is printed whole or not
  pub told : {X : Type 0} (Y : X → Type 0) (a b : S) (text : List ℕ) (r : Result X Error) → OnOk r (Appends (contents a) (contents b) text) → OnOk r (Gives took a text b)
      → Hears (Moves took) (Refuses took refused) (is_err r) a b → ((x : X) → IsPrinted took contents a text b → Y x) → MatchResult r Y (IsUnprinted took refused a b)
  told Y a b text (Ok x) appended pieces heard next = next x (appended, pieces)
  told Y a b text (Err e) appended pieces heard next = inr heard

  -- ...after another one
  pub told_then : {X : Type 0} (Y : X → Type 0) (a b c : S) (first text : List ℕ) (r : Result X Error) → IsPrinted took contents a first b
      → OnOk r (Appends (contents b) (contents c) text) → OnOk r (Gives took b text c) → Hears (Moves took) (Refuses took refused) (is_err r) b c
      → ((x : X) → IsPrinted took contents b text c → Y x) → MatchResult r Y (IsUnprinted took refused a c)
  told_then Y a b c first text (Ok x) printed appended pieces heard next = next x (appended, pieces)
  told_then Y a b c first text (Err e) printed appended pieces heard next = refused_then a b c first e printed (inr heard)
