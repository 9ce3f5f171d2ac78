-- How names and numbers are printed, as bytes of ASCII. In a name a backslash, and each byte that is no visible
-- character of ASCII, becomes a backslash and two hexadecimal digits, so that no blank and no line break stands in it.
use Rattle.std.specs.Prelude.{ℕ, ◌+◌, ◌/◌, ◌%◌, ◌==◌, ◌&&◌, nat_lt, not, Bool, List, [], ◌∷◌, ◌++◌, Option, Some, None, if◌then◌else◌, codes, decimal}
use Rattle.std.specs.List.{flat_map}

abbrev pub SurveyText : Type 0
SurveyText = List ℕ

-- a digit to the base 16
abbrev pub hex_digit : ℕ → ℕ
hex_digit n = if nat_lt n 10 then 48 + n else 87 + n

-- a visible character of ASCII, but no backslash
abbrev pub is_plain : ℕ → Bool
is_plain b = nat_lt 32 b && (nat_lt b 127 && not (b == 92))

-- A byte of a name: itself, or a backslash and its two hexadecimal digits, where it is a backslash or no visible character
-- of ASCII. So a name has neither blanks nor line breaks, and different names are printed differently.
abbrev pub byte_text : ℕ → SurveyText
byte_text b = if is_plain b then b ∷ [] else 92 ∷ hex_digit (b / 16) ∷ hex_digit (b % 16) ∷ []

abbrev pub name_text : List ℕ → SurveyText
name_text name = flat_map byte_text name

-- a number, or nothing
abbrev pub number_text : Option ℕ → SurveyText
number_text None = []
number_text (Some n) = decimal n

-- a number, or that there is none
abbrev pub number_or_none : Option ℕ → SurveyText
number_or_none None = codes "none"
number_or_none (Some n) = decimal n

-- what a function is called, by its name or by its index where it has none
abbrev pub called_text : ℕ → Option (List ℕ) → SurveyText
called_text index (Some name) = name_text name
called_text index None = codes "function[" ++ (decimal index ++ codes "]")
