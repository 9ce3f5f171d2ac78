-- What a writer took before it failed: a beginning of the bytes. `write_stream` cites it, and the case `OutputFails` of
-- a call is proved from it.
use Rattle.std.specs.Prelude.{◌≡◌, ℕ, List, ◌++◌, Option}
use Rattle.std.specs.Io.KnownBytes.{Appends}

-- a beginning of the bytes
pub record AppendsSome (old new : Option (List ℕ)) (bytes : List ℕ) : Type 0 where
  pub taken : List ℕ
  pub missing : List ℕ
  pub parts : bytes ≡ taken ++ missing
  pub appended : Appends old new taken
