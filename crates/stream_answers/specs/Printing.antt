-- What a stream took of bytes that are printed whole.
use Rattle.std.specs.Prelude.{◌≡◌, ◌++◌, List, ℕ, Option}
use Rattle.std.specs.Io.KnownBytes.{Appends}
use Rattle.stream_answers.specs.Pieces.{Gives}

-- the bytes of a writer, where they are known, grow by a beginning of the text
pub record AppendsPart (before after : Option (List ℕ)) (text : List ℕ) : Type 0 where
  pub part : List ℕ
  pub rest : List ℕ
  pub parts : text ≡ part ++ rest
  pub appended : Appends before after part

-- the bytes of a writer, where they are known, grow by the text, which it took piece by piece
abbrev pub IsPrinted : {S : Type 0} → (took : S → List ℕ → S → Type 0) → (contents : S → Option (List ℕ)) → S → List ℕ → S → Type 0
IsPrinted took contents before text after = Appends (contents before) (contents after) text × Gives took before text after
