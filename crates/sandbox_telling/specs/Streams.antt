-- What an execution does with its streams (`docs/USING.md`, "How a run ends"). `AppendsSome` leaves open which lines of its own the
-- program prints.
use Rattle.std.specs.Prelude.{ℕ, List, Option}
use Rattle.std.specs.Io.KnownBytes.{Appends}

-- Known bytes stay, and some may follow. (What follows are lines of the program's own, which is only tested.)
abbrev pub AppendsSome : Option (List ℕ) → Option (List ℕ) → Type 0
AppendsSome before after = (more : List ℕ) × Appends before after more
