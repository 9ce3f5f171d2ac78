-- The number of a version: 1,000,000 times its first number, 1,000 times the second, and the third, which points part.
use Rattle.std.specs.Prelude.{◌==◌, ◌+◌, ◌-◌, ◌*◌, ℕ, List, [], ◌∷◌, if◌then◌else◌}

-- of the rest of its text, behind these numbers and these digits of the next one; 46 is a point, and 48 the digit 0
abbrev pub number_onto : ℕ → ℕ → List ℕ → ℕ
number_onto before digits [] = 1000 * before + digits
number_onto before digits (byte ∷ rest) =
    if byte == 46 then number_onto (1000 * before + digits) 0 rest else number_onto before (10 * digits + (byte - 48)) rest

abbrev pub version_number : List ℕ → ℕ
version_number text = number_onto 0 0 text
