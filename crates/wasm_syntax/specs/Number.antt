-- Integers of the binary format (section 5.2.2): LEB128, of any width, unsigned or signed. One number may have several
-- spellings, since bytes that add nothing are allowed up to the width; for one sign and width, bytes spell one number
-- at most.
use Rattle.std.specs.Prelude.{◌≡◌, ℕ, ◌+◌, ◌-◌, ◌*◌, ◌^◌, ◌<◌, ◌≤◌, ◌⊎◌, List, [], ◌∷◌}
use Rattle.wasm_syntax.specs.declared.number.Sign.{Sign}
use Rattle.wasm_syntax.specs.declared.number.Sign.TheVariants.{Unsigned, Signed}

-- A number of this many bits ends in the byte b. A signed one is given modulo 2 ^ bits. The bits that the last byte has
-- too many are 0, or repeat the sign.
abbrev pub IsLast : Sign → ℕ → ℕ → ℕ → Type 0
IsLast Unsigned bits b n = (b < 2 ^ bits) × (n ≡ b)
IsLast Signed bits b n =
    ((b < 64) × (b < 2 ^ (bits - 1)) × (n ≡ b)) ⊎ ((64 ≤ b) × (128 ≤ b + 2 ^ (bits - 1)) × (n + 128 ≡ b + 2 ^ bits))

-- The bytes spell the number n of this many bits: seven bits a byte, the lowest first. A byte below 128 is the last.
abbrev pub SpellsNumber : Sign → ℕ → List ℕ → ℕ → Type 0
SpellsNumber sign bits [] n = ⊥
SpellsNumber sign bits (b ∷ []) n = (b < 128) × IsLast sign bits b n
SpellsNumber sign bits (b ∷ c ∷ bs) n =
    (128 ≤ b) × (7 < bits) × (high : ℕ) × (n + 128 ≡ b + 128 * high) × SpellsNumber sign (bits - 7) (c ∷ bs) high
