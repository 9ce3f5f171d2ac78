-- How the reader of numbers goes by its first byte, and by its last.
use Rattle.std.proofs.Common.{◌≡◌, ℕ, ◌+◌, ◌-◌, ◌*◌, ◌/◌, ◌%◌, ◌^◌, ◌<◌, ◌≤◌, List, ◌∷◌, Some, None, refl, arith}
use Rattle.std.proofs.lemmas.Bool.{lt-ltb, le-ltb, le-leb, lt-leb}
use Rattle.wasm_syntax.specs.declared.number.Sign.{Sign}
use Rattle.wasm_syntax.specs.declared.number.Sign.TheVariants.{Unsigned, Signed}
use Rattle.wasm_syntax.specs.Reading.{last_at, number_at}
use Rattle.wasm_syntax.proofs.Powers.{double, half_is}

-- the first byte is the last
pub ends_here : (sign : Sign) (bits b n : ℕ) (bytes rest : List ℕ) → bytes ≡ b ∷ rest → b < 128 → last_at sign bits b ≡ Some n → number_at sign bits bytes ≡ Some (n, rest)
ends_here sign bits b n bytes rest is lt last = rw (is, lt-ltb b 128 lt, last) refl

-- the first byte is the last, and no number of this width ends in it
pub ends_wrong : (sign : Sign) (bits b : ℕ) (bytes rest : List ℕ) → bytes ≡ b ∷ rest → b < 128 → last_at sign bits b ≡ None → number_at sign bits bytes ≡ None
ends_wrong sign bits b bytes rest is lt none = rw (is, lt-ltb b 128 lt, none) refl

-- the number goes on, and its high bits are read
pub goes_on : (sign : Sign) (bits b low high n : ℕ) (bytes rest after : List ℕ) → bytes ≡ b ∷ rest → 128 ≤ b → 7 < bits → low ≡ b → n ≡ low - 128 + 128 * high → number_at sign (bits - 7) rest ≡ Some (high, after) → number_at sign bits bytes ≡ Some (n, after)
goes_on sign bits b low high n bytes rest after is le wide low-is n-is more =
    let value : b + 128 * high - 128 ≡ n = omega arith in
    rw (is, le-ltb b 128 le, lt-ltb 7 bits wide, more, value) refl

-- the number goes on, and has no high bits
pub goes_wrong : (sign : Sign) (bits b : ℕ) (bytes rest : List ℕ) → bytes ≡ b ∷ rest → 128 ≤ b → 7 < bits → number_at sign (bits - 7) rest ≡ None → number_at sign bits bytes ≡ None
goes_wrong sign bits b bytes rest is le wide none = rw (is, le-ltb b 128 le, lt-ltb 7 bits wide, none) refl

-- the number goes on past its width
pub too_long : (sign : Sign) (bits b : ℕ) (bytes rest : List ℕ) → bytes ≡ b ∷ rest → 128 ≤ b → bits ≤ 7 → number_at sign bits bytes ≡ None
too_long sign bits b bytes rest is le narrow = rw (is, le-ltb b 128 le, le-ltb 7 bits narrow) refl

-- ---- the last byte

-- half of what fits in this many bits, as the code computes it
abbrev pub half_of : ℕ → ℕ
half_of bits = (1 * 2 ^ (bits - 1)) % 2 ^ 64

-- what is taken without a sign fits
pub unsigned_within : (bits v : ℕ) → 0 < bits → bits ≤ 64 → v / 2 < half_of bits → v < 2 ^ bits
unsigned_within bits v some fits small = omega (arith, half_is bits some fits, double bits some)

-- what does not fit is not taken without a sign
pub unsigned_refuses : (sign : Sign) (bits b v : ℕ) → sign ≡ Unsigned → 0 < bits → bits ≤ 64 → v ≡ b → half_of bits ≤ v / 2 → last_at sign bits b ≡ None
unsigned_refuses sign bits b v is some fits same large =
    let past : 2 ^ bits ≤ b = omega (arith, half_is bits some fits, double bits some) in
    rw (is, le-ltb b (2 ^ bits) past) refl

-- what is taken with the sign 0 fits
pub low_within : (bits v : ℕ) → 0 < bits → bits ≤ 64 → v < half_of bits → v < 2 ^ bits
low_within bits v some fits small = omega (arith, half_is bits some fits, double bits some)

-- a byte with the sign 0 is taken where it is less than half
pub low_takes : (sign : Sign) (bits b v : ℕ) → sign ≡ Signed → 0 < bits → bits ≤ 64 → v ≡ b → v < 64 → v < half_of bits → last_at sign bits b ≡ Some v
low_takes sign bits b v is some fits same low small =
    let before : b < 64 = omega arith in
    let within : b < 2 ^ (bits - 1) = omega (arith, half_is bits some fits) in
    rw (is, lt-ltb b 64 before, lt-ltb b (2 ^ (bits - 1)) within, same) refl

-- what is taken with the sign 1 fits
pub high_within : (bits v : ℕ) → 0 < bits → bits ≤ 64 → v < 128 → 128 - v ≤ half_of bits → half_of bits - (128 - v) + half_of bits < 2 ^ bits
high_within bits v some fits below small = omega (arith, half_is bits some fits, double bits some)

-- a byte with the sign 1 is taken where it lacks half at most, and stands for a number modulo the power
pub high_takes : (sign : Sign) (bits b v : ℕ) → sign ≡ Signed → 0 < bits → bits ≤ 64 → v ≡ b → 64 ≤ v → v < 128 → 128 - v ≤ half_of bits → last_at sign bits b ≡ Some (half_of bits - (128 - v) + half_of bits)
high_takes sign bits b v is some fits same high below small =
    let past : 64 ≤ b = omega arith in
    let whole : 128 ≤ b + 2 ^ (bits - 1) = omega (arith, half_is bits some fits) in
    let value : b + 2 ^ bits - 128 ≡ half_of bits - (128 - v) + half_of bits = omega (arith, half_is bits some fits, double bits some) in
    rw (is, le-ltb b 64 past, le-leb 128 (b + 2 ^ (bits - 1)) whole, value) refl

-- a byte with the sign 1 that lacks more than half is not taken
pub high_refuses : (sign : Sign) (bits b v : ℕ) → sign ≡ Signed → 0 < bits → bits ≤ 64 → v ≡ b → 64 ≤ v → half_of bits < 128 - v → last_at sign bits b ≡ None
high_refuses sign bits b v is some fits same high large =
    let past : 64 ≤ b = omega arith in
    let part : b + 2 ^ (bits - 1) < 128 = omega (arith, half_is bits some fits) in
    rw (is, le-ltb b 64 past, lt-leb 128 (b + 2 ^ (bits - 1)) part) refl
