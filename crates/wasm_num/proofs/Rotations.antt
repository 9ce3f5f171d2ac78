-- The two parts of a rotated number share no digit, so that their "or" is their sum.
use Rattle.std.proofs.Common.{◌≡◌, ℕ, zero, suc, ◌+◌, ◌-◌, ◌*◌, ◌/◌, ◌%◌, ◌^◌, ◌<◌, ◌≤◌, ◌⊎◌, inl, inr, refl, sym, ap, ◌∙◌, subst, arith}
use Rattle.std.specs.Prelude.{bit_or}
use Rattle.std.proofs.lemmas.Nat.{mod-pow-add, or_shifted, pow_pos}
use Rattle.std.specs.Int.Bits.{or_shifted_r, or_self}
use Rattle.std.proofs.Math.Nat.{mul-div_cancel, mul-mod_left, mod-eq_of_lt, div-eq_of_lt, mod_self}
use Rattle.std.proofs.Math.Pow.{shr_lt}
use Rattle.wasm_num.specs.Numbers.{rotated_by}

-- what is moved up by k of n = m + k digits
moved_up : (x m k : ℕ) → (x * 2 ^ k) % 2 ^ (m + k) ≡ (x % 2 ^ m) * 2 ^ k
moved_up x m k =
    let pos : 0 < 2 ^ k = pow_pos k in
    mod-pow-add (x * 2 ^ k) m k ∙ rw (mul-div_cancel x {n = 2 ^ k} pos, mul-mod_left x (2 ^ k)) (omega arith)

-- the part moved up and the part moved down
parts : (x m k : ℕ) → x < 2 ^ (m + k) → bit_or ((x * 2 ^ k) % 2 ^ (m + k)) (x / 2 ^ m) ≡ (x * 2 ^ k) % 2 ^ (m + k) + x / 2 ^ m
parts x m k h =
    let swapped : m + k ≡ k + m = omega arith in
    let low : x / 2 ^ m < 2 ^ k = shr_lt k m (subst (λ (n : ℕ). x < 2 ^ n) swapped h) in
    rw (moved_up x m k) (or_shifted (x % 2 ^ m) k (x / 2 ^ m) low)

parts_turned : (x m k : ℕ) → x < 2 ^ (m + k) → bit_or (x / 2 ^ m) ((x * 2 ^ k) % 2 ^ (m + k)) ≡ (x * 2 ^ k) % 2 ^ (m + k) + x / 2 ^ m
parts_turned x m k h =
    let swapped : m + k ≡ k + m = omega arith in
    let low : x / 2 ^ m < 2 ^ k = shr_lt k m (subst (λ (n : ℕ). x < 2 ^ n) swapped h) in
    rw (moved_up x m k) (or_shifted_r (x % 2 ^ m) k (x / 2 ^ m) low)

-- of n digits none is after them
no_more : (n x : ℕ) → x < 2 ^ n → x ≡ x + x / 2 ^ (n - 0)
no_more n x h =
    let whole : n - 0 ≡ n = omega arith in
    let none : x / 2 ^ n ≡ 0 = div-eq_of_lt h in
    rw (whole, none) (omega arith)

self_mod : (n : ℕ) → 0 < n → (n - 0) % n ≡ 0
self_mod n lt = let whole : n - 0 ≡ n = omega arith in rw whole (mod_self n)

-- by k of n digits, upwards
pub rotates_up : (n x k : ℕ) → x < 2 ^ n → k < n → bit_or ((x * 2 ^ k) % 2 ^ n) (x / 2 ^ ((n - k) % n)) ≡ rotated_by n x k
rotates_up n x zero h lt =
    let pos : 0 < n = omega arith in
    let one : x * 1 ≡ x = omega arith in
    let by_one : x / 1 ≡ x = omega arith in
    let same : x % 2 ^ n ≡ x = mod-eq_of_lt h in
    rw (self_mod n pos, one, same, by_one, or_self x) (no_more n x h)
rotates_up n x (suc k) h lt =
    let m : ℕ = n - suc k in
    let all : n ≡ m + suc k = omega arith in
    let left : (n - suc k) % n ≡ m = mod-eq_of_lt (omega arith) in
    rw left (subst (λ (w : ℕ). bit_or ((x * 2 ^ suc k) % 2 ^ w) (x / 2 ^ m) ≡ (x * 2 ^ suc k) % 2 ^ w + x / 2 ^ m) (sym all) (parts x m (suc k) (subst (λ (w : ℕ). x < 2 ^ w) all h)))

-- by k of n digits, downwards: by all others upwards
pub rotates_down : (n x k : ℕ) → x < 2 ^ n → k < n → bit_or (x / 2 ^ k) ((x * 2 ^ ((n - k) % n)) % 2 ^ n) ≡ rotated_by n x ((n - k) % n)
rotates_down n x zero h lt =
    let pos : 0 < n = omega arith in
    let one : x * 1 ≡ x = omega arith in
    let by_one : x / 1 ≡ x = omega arith in
    let same : x % 2 ^ n ≡ x = mod-eq_of_lt h in
    rw (self_mod n pos, one, same, by_one, or_self x) (no_more n x h)
rotates_down n x (suc k) h lt =
    let m : ℕ = n - suc k in
    let all : n ≡ suc k + m = omega arith in
    let left : (n - suc k) % n ≡ m = mod-eq_of_lt (omega arith) in
    let low : n - m ≡ suc k = omega arith in
    rw (left, low) (subst (λ (w : ℕ). bit_or (x / 2 ^ suc k) ((x * 2 ^ m) % 2 ^ w) ≡ (x * 2 ^ m) % 2 ^ w + x / 2 ^ suc k) (sym all) (parts_turned x (suc k) m (subst (λ (w : ℕ). x < 2 ^ w) all h)))
