-- Which numbers of WebAssembly's types the words of a command line write, and the text of such a number.
use Rattle.std.specs.Prelude.{◌≡◌, ◌≢◌, ◌⊎◌, ◌+◌, ◌-◌, ◌<◌, ◌≤◌, ◌^◌, ℕ, List, ◌++◌, ◌%◌, Some, codes, decimal, if◌then◌else◌, length, map, nat_lt, slice_get, false}
use Rattle.std.specs.Borrow.{Bor}
use Rattle.std.specs.Fmt.{digits}
use Rattle.std.specs.Str.Parse.{IsNumeral, digits_value, without_leading_plus}
use Rattle.wasm_syntax.specs.declared.instruction.ValueType.{ValueType}
use Rattle.wasm_syntax.specs.declared.instruction.ValueType.TheVariants.{I32, I64, F32, F64}
use Rattle.value_words.specs.declared.reading.NoNumbers.{NoNumbers}
use Rattle.value_words.specs.declared.reading.NoNumbers.TheVariants.{Count, Word, Memory}

-- a word of a command line
abbrev pub Text : Type 0
Text = List ℕ

abbrev pub texts : List (Bor Text) → List Text
texts = map (λ t. t.now)

-- ---- a word

-- digits of this radix write a number of 64 bits; a plus may stand before them
abbrev pub Writes : (radix : ℕ) → Text → ℕ → Type 0
Writes radix word n = IsNumeral radix (without_leading_plus word) × (n ≡ digits_value radix (without_leading_plus word)) × (n < 2 ^ 64)

-- the word begins with this
abbrev pub BeginsWith : Text → Text → Type 0
BeginsWith prefix word = (rest : Text) × (word ≡ prefix ++ rest)

-- behind 0x hexadecimal digits, else decimal ones
abbrev pub IsMagnitude : Text → ℕ → Type 0
IsMagnitude word n = ((rest : Text) × (word ≡ codes "0x" ++ rest) × Writes 16 rest n) ⊎ ((BeginsWith (codes "0x") word → ⊥) × Writes 10 word n)

-- the number that stands for the negative of m, where there are twice this many: two's complement
abbrev pub IsNegative : (half m : ℕ) → ℕ → Type 0
IsNegative half m n = ((m ≡ 0) × (n ≡ 0)) ⊎ ((0 < m) × (n + m ≡ half + half))

-- An integer, as one of twice this many numbers: behind - the negative of one of at most the half of them.
abbrev pub IsInteger : (half : ℕ) → Text → ℕ → Type 0
IsInteger half word n =
    ((rest : Text) × (m : ℕ) × (word ≡ codes "-" ++ rest) × IsMagnitude rest m × (m ≤ half) × IsNegative half m n)
    ⊎ ((BeginsWith (codes "-") word → ⊥) × IsMagnitude word n × (n < half + half))

-- of a float its bits, without a sign
abbrev pub IsNumberOf : ValueType → Text → ℕ → Type 0
IsNumberOf I32 word n = IsInteger 2147483648 word n
IsNumberOf I64 word n = IsInteger 9223372036854775808 word n
IsNumberOf F32 word n = IsMagnitude word n × (n < 4294967296)
IsNumberOf F64 word n = IsMagnitude word n

-- ---- words

-- as many numbers as types and words, each written by its word
pub record AreNumbersOf (types : List ValueType) (words : List Text) (numbers : List ℕ) : Type 0 where
  pub words_are : length words ≡ length types
  pub count : length numbers ≡ length types
  pub each : (k : ℕ) (t : ValueType) (w : Text) (n : ℕ) → slice_get types k ≡ Some t → slice_get words k ≡ Some w → slice_get numbers k ≡ Some n → IsNumberOf t w n

-- they are more or fewer than the types, or this one writes none, or memory was refused
abbrev pub HasNone : List ValueType → List Text → NoNumbers → Type 0
HasNone types words Count = length words ≢ length types
HasNone types words (Word k) = (t : ValueType) × (w : Text) × (slice_get types k ≡ Some t) × (slice_get words k ≡ Some w) × ((n : ℕ) → IsNumberOf t w n → ⊥)
HasNone types words Memory = Unit {0}

-- ---- the text of a number

-- as one of twice this many, the upper half of which are negative
abbrev pub signed_text : (half n : ℕ) → Text
signed_text half n = if nat_lt n half then decimal n else codes "-" ++ decimal (half + half - n)

-- an integer with its sign, in decimal; of a float its bits, in hexadecimal
abbrev pub value_text : ValueType → ℕ → Text
value_text I32 n = signed_text 2147483648 (n % 4294967296)
value_text I64 n = signed_text 9223372036854775808 n
value_text F32 n = codes "0x" ++ digits 16 false n
value_text F64 n = codes "0x" ++ digits 16 false n
