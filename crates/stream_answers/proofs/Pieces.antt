-- Pieces that a stream gave or took.
use Rattle.std.proofs.Common.{◌≡◌, ℕ, List, [], ◌++◌, ◌∙◌, Option, Result, Ok, Err, OnOk, ap, sym, subst, append_assoc, append-nil}
use Rattle.std.specs.Io.KnownBytes.{Appends}
use Rattle.std.proofs.KnownBytes.{Appends-nil, Appends-trans}
use Rattle.stream_answers.specs.Pieces.{Gives, nothing, gives}
use Rattle.stream_answers.specs.Printing.{IsPrinted}

-- first these bytes, then those
pub gives_then : {S : Type 0} (gave : S → List ℕ → S → Type 0) (a b c : S) (xs ys : List ℕ) → Gives gave a xs b → Gives gave b ys c → Gives gave a (xs ++ ys) c
gives_then gave a b c xs ys first nothing = subst (λ (all : List ℕ). Gives gave a all b) (sym (append-nil xs)) first
gives_then gave a b c xs ys first (gives before more was last is) =
    gives (xs ++ before) more (gives_then gave a b _ xs before first was) last (ap (λ (all : List ℕ). xs ++ all) is ∙ sym (append_assoc xs before more))

-- nothing is printed yet
pub none_printed : {S : Type 0} (took : S → List ℕ → S → Type 0) (contents : S → Option (List ℕ)) (a : S) → IsPrinted took contents a [] a
none_printed took contents a = (Appends-nil (contents a), nothing)

-- first this text, then that
pub printed_then : {S : Type 0} (took : S → List ℕ → S → Type 0) (contents : S → Option (List ℕ)) (a b c : S) (xs ys : List ℕ)
    → IsPrinted took contents a xs b → IsPrinted took contents b ys c → IsPrinted took contents a (xs ++ ys) c
printed_then took contents a b c xs ys first more =
    (Appends-trans (contents a) (contents b) (contents c) xs ys first.0 more.0, gives_then took a b c xs ys first.1 more.1)

-- what `print_all` says where it went well
pub all_printed : {S A E : Type 0} (took : S → List ℕ → S → Type 0) (contents : S → Option (List ℕ)) (a : S) (text : List ℕ) (b : S) (r : Result A E)
    → OnOk r (Appends (contents a) (contents b) text) → OnOk r (Gives took a text b) → OnOk r (IsPrinted took contents a text b)
all_printed took contents a text b (Ok done) appended pieces = (appended, pieces)
all_printed took contents a text b (Err e) appended pieces = tt
