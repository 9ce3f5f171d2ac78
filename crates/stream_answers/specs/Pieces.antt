-- Bytes that a stream gave or took piece by piece, by the evidence of each read or write.
use Rattle.std.specs.Prelude.{◌≡◌, ◌⊎◌, ◌++◌, ℕ, List, [], length}
use Rattle.stream_answers.specs.Hearing.{Goes}

-- it gave, or took, these bytes, maybe after it was interrupted and asked again
abbrev pub AtLast : {S : Type 0} → (gave : S → List ℕ → S → Type 0) → (refused : S → S → Type 0) → S → List ℕ → S → Type 0
AtLast gave refused before bytes after = (asked : _) × Goes refused before asked × gave asked bytes after

-- pieces, one after another
pub data Gives {S : Type 0} (gave : S → List ℕ → S → Type 0) : S → List ℕ → S → Type 0 where
  nothing : {s : S} → Gives gave s [] s
  gives : {a b c : S} {all : List ℕ} (before more : List ℕ) → Gives gave a before b → gave b more c → all ≡ before ++ more → Gives gave a all c

-- as many bytes as are wanted, or all to its end, at which it gave none
abbrev pub IsWhole : {S : Type 0} → (gave : S → List ℕ → S → Type 0) → (most : ℕ) → S → List ℕ → S → Type 0
IsWhole gave most first bytes last =
    (Gives gave first bytes last × (length bytes ≡ most)) ⊎ ((before : _) × Gives gave first bytes before × gave before [] last)
