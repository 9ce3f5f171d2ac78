-- What is heard of a stream between two states, by calls that are known to have been made: that all of them went well, or that the
-- last one was refused. A contract says by `Hears` which of the two it was: where it answers that the stream failed, that is so, and
-- where it doesn't, no refusal was passed over.
use Rattle.std.specs.Prelude.{ℕ, ◌⊎◌, Bool, true, false, List, []}

-- calls that went well lead from one state to another
pub data Goes {S : Type 0} (went : S → S → Type 0) : S → S → Type 0 where
  stays : {s : S} → Goes went s s
  goes : {a b c : S} → Goes went a b → went b c → Goes went a c

-- ...and then one was refused, where the stream failed
abbrev pub Hears : {S : Type 0} → (went refused : S → S → Type 0) → (failed : Bool) → S → S → Type 0
Hears went refused false a b = Goes went a b
Hears went refused true a b = (m : _) × Goes went a m × refused m b

-- what a stream gave, or took, whatever the bytes are
abbrev pub Moves : {S : Type 0} → (moved : S → List ℕ → S → Type 0) → S → S → Type 0
Moves moved a b = (bytes : List ℕ) × moved a bytes b

-- a writer refused, or took none of the bytes that it was offered
abbrev pub Refuses : {S : Type 0} → (took : S → List ℕ → S → Type 0) → (refused : S → S → Type 0) → S → S → Type 0
Refuses took refused a b = refused a b ⊎ took a [] b
