-- Reading from the front: a `Reader` gives the value and the bytes after it, a `WholeReader` the value of all bytes,
-- and each gives nothing where the bytes don't fit. `Gives` says that a function of the decoder returned what a reader
-- reads; where memory was refused it says nothing.
use Rattle.std.specs.Prelude.{Bool, true, false, ◌≡◌, ℕ, zero, suc, ◌+◌, ◌-◌, ◌*◌, ◌^◌, List, [], ◌∷◌, length, take, drop, Option, Some, None, Result, Ok, Err, nat_lt, nat_le, ◌==◌, if◌then◌else◌}
use Rattle.std.specs.Str.{is_utf8}
use Rattle.wasm_syntax.specs.declared.fault.LoadFault.{LoadFault}
use Rattle.wasm_syntax.specs.declared.fault.LoadFault.TheVariants as faults
use Rattle.wasm_syntax.specs.declared.number.Sign.{Sign}
use Rattle.wasm_syntax.specs.declared.number.Sign.TheVariants.{Unsigned, Signed}

infixl 10 ◌>>=◌
abbrev pub ◌>>=◌ : {A B : Type 0} → Option A → (A → Option B) → Option B
(Some x) >>= f = f x
None >>= f = None

-- What a function returned, seen by view, and the rest that it left are what reading gives, unless memory ran out.
abbrev pub Gives : {X Y : Type 0} → (X → Y) → Result X LoadFault → Option Y → Type 0
Gives view (Ok x) read = read ≡ Some (view x)
Gives view (Err e) read = (e ≡ faults.Memory → ⊥) → read ≡ None

-- What a test returned says whether it holds, unless memory ran out.
abbrev pub Allows : {X : Type 0} → Result X LoadFault → Bool → Type 0
Allows (Ok x) holds = holds ≡ true
Allows (Err e) holds = (e ≡ faults.Memory → ⊥) → holds ≡ false

abbrev pub last_at : Sign → ℕ → ℕ → Option ℕ
last_at Unsigned bits b = if nat_lt b (2 ^ bits) then Some b else None
last_at Signed bits b =
    if nat_lt b 64 then (if nat_lt b (2 ^ (bits - 1)) then Some b else None)
    else (if nat_le 128 (b + 2 ^ (bits - 1)) then Some (b + 2 ^ bits - 128) else None)

abbrev pub number_at : Sign → ℕ → List ℕ → Option (ℕ × List ℕ)
number_at sign bits [] = None
number_at sign bits (b ∷ rest) =
    if nat_lt b 128 then (last_at sign bits b >>= λ n. Some (n, rest))
    else (if nat_lt 7 bits then (number_at sign (bits - 7) rest >>= λ x. Some (b + 128 * x.0 - 128, x.1)) else None)

-- what a reader answers: the value, and the bytes after it
abbrev pub Reader : Type 0 → Type 0
Reader X = List ℕ → Option (X × List ℕ)

abbrev pub byte_at : ℕ → Reader (Unit {0})
byte_at b [] = None
byte_at b (c ∷ rest) = if c == b then Some (tt, rest) else None

-- one byte, whichever it is
abbrev pub next_at : Reader ℕ
next_at [] = None
next_at (b ∷ rest) = Some (b, rest)

abbrev pub then_at : {X Y : Type 0} → Reader X → Reader Y → Reader (X × Y)
then_at a b bytes = a bytes >>= λ x. b x.1 >>= λ y. Some ((x.0, y.0), y.1)

abbrev pub map_at : {X Y : Type 0} → (X → Y) → Reader X → Reader Y
map_at f a bytes = a bytes >>= λ x. Some (f x.0, x.1)

unfoldable pub many_at : {X : Type 0} → Reader X → ℕ → Reader (List X)
many_at a zero bytes = Some ([], bytes)
many_at a (suc n) bytes = a bytes >>= λ x. many_at a n x.1 >>= λ xs. Some (x.0 ∷ xs.0, xs.1)

unfoldable pub u32_at : Reader ℕ
u32_at = number_at Unsigned 32

unfoldable pub vector_at : {X : Type 0} → Reader X → Reader (List X)
vector_at a bytes = u32_at bytes >>= λ n. many_at a n.0 n.1

-- the first n bytes, and those after them
abbrev pub piece_at : ℕ → Reader (List ℕ)
piece_at n bytes = if nat_le n (length bytes) then Some (take n bytes, drop n bytes) else None

-- what reads all of the bytes
abbrev pub WholeReader : Type 0 → Type 0
WholeReader X = List ℕ → Option X

abbrev pub whole : {X : Type 0} → Reader X → WholeReader X
whole a bytes = a bytes >>= λ x. if length x.1 == 0 then Some x.0 else None

-- a size, and this many bytes, all of which are read
unfoldable pub sized_at : {X : Type 0} → WholeReader X → Reader X
sized_at w bytes = u32_at bytes >>= λ n. piece_at n.0 n.1 >>= λ p. w p.0 >>= λ x. Some (x, p.1)

unfoldable pub raw_of : WholeReader (List ℕ)
raw_of bytes = Some bytes

unfoldable pub utf8_text_of : WholeReader (List ℕ)
utf8_text_of bytes = if is_utf8 bytes then Some bytes else None

unfoldable pub name_at : Reader (List ℕ)
name_at = sized_at utf8_text_of

-- a custom section: its name is read, and nothing else
unfoldable pub custom_of : WholeReader (Unit {0})
custom_of bytes = name_at bytes >>= λ x. Some tt

-- whether the bytes begin with this one
abbrev pub begins : ℕ → List ℕ → Bool
begins id [] = false
begins id (b ∷ rest) = b == id

-- the custom sections at the front, at most n
unfoldable pub customs_from : ℕ → Reader (Unit {0})
customs_from zero bytes = Some (tt, bytes)
customs_from (suc n) bytes =
    if begins 0 bytes then (next_at bytes >>= λ b. sized_at custom_of b.1 >>= λ x. customs_from n x.1) else Some (tt, bytes)

unfoldable pub customs_at : Reader (Unit {0})
customs_at bytes = customs_from (length bytes) bytes

-- a section that may be absent, and the custom sections after it
unfoldable pub section_at : {X : Type 0} → ℕ → WholeReader X → Reader (Option X)
section_at id w bytes =
    if begins id bytes then (next_at bytes >>= λ b. sized_at w b.1 >>= λ x. customs_at x.1 >>= λ y. Some (Some x.0, y.1))
    else Some (None, bytes)
