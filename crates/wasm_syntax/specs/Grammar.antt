-- The ways in which the binary format puts spellings together (section 5.1). A spelling relates bytes to what they spell.
use Rattle.std.specs.Prelude.{◌≡◌, ℕ, ◌+◌, ◌*◌, List, [], ◌∷◌, ◌++◌, length, IsUtf8}
use Rattle.wasm_syntax.specs.Number.{SpellsNumber}
use Rattle.wasm_syntax.specs.declared.number.Sign.TheVariants.{Unsigned}

-- this one byte
abbrev pub Byte : ℕ → List ℕ → Unit {0} → Type 0
Byte b text x = text ≡ b ∷ []

-- the bytes of one thing, and then those of another
abbrev pub Then : {X Y : Type 0} → (List ℕ → X → Type 0) → (List ℕ → Y → Type 0) → List ℕ → X × Y → Type 0
Then A B text p = (front : List ℕ) × (back : List ℕ) × A front p.0 × B back p.1 × (text ≡ front ++ back)

-- the bytes of each, one after the other
abbrev pub Each : {X : Type 0} → (List ℕ → X → Type 0) → List ℕ → List X → Type 0
Each A text [] = text ≡ []
Each A text (x ∷ xs) = (front : List ℕ) × (back : List ℕ) × A front x × Each A back xs × (text ≡ front ++ back)

abbrev pub U32 : List ℕ → ℕ → Type 0
U32 = SpellsNumber Unsigned 32

-- a vector (section 5.1.3): a count, and this many
abbrev pub Vector : {X : Type 0} → (List ℕ → X → Type 0) → List ℕ → List X → Type 0
Vector A text xs = Then U32 (Each A) text (length xs, xs)

-- a size, and this many bytes, which spell the thing
abbrev pub Sized : {X : Type 0} → (List ℕ → X → Type 0) → List ℕ → X → Type 0
Sized A text x = (size : List ℕ) × (content : List ℕ) × U32 size (length content) × A content x × (text ≡ size ++ content)

-- bytes as a number, the lowest first (section 4.3.1)
abbrev pub little_endian : List ℕ → ℕ
little_endian [] = 0
little_endian (b ∷ bs) = b + 256 * little_endian bs

-- the bits of a float (section 5.2.3): this many bytes, the lowest first
abbrev pub FloatBits : ℕ → List ℕ → ℕ → Type 0
FloatBits count text n = (length text ≡ count) × (little_endian text ≡ n)

-- any bytes, by themselves
abbrev pub Raw : List ℕ → List ℕ → Type 0
Raw text bytes = text ≡ bytes

abbrev pub Utf8Text : List ℕ → List ℕ → Type 0
Utf8Text text name = (text ≡ name) × IsUtf8 name

-- a name (section 5.2.4)
abbrev pub SpellsName : List ℕ → List ℕ → Type 0
SpellsName = Sized Utf8Text
