-- The counts of leading and trailing zeros are those of std.
use Rattle.std.proofs.Common.{◌≡◌, ℕ, zero, suc, ◌+◌, ◌*◌, ◌/◌, ◌%◌, ◌^◌, ◌<◌, ◌≤◌, Bool, true, false, refl, sym, ap, ◌∙◌, subst, arith}
use Rattle.std.specs.Prelude.{if◌then◌else◌, nat_lt, nat_eq}
use Rattle.std.specs.Int.Count.{count_leading_zeros, count_trailing_zeros, leading_unique}
use Rattle.std.proofs.lemmas.Bool.Decides.{nat_tests}
use lib.Count.{under}
use Rattle.wasm_num.specs.Numbers.{clz, ctz}

-- where a number's top digit stands
record Top (k a r : ℕ) : Type 0 where
  m : ℕ
  all : r + m ≡ k
  below : a < 2 ^ m
  top : 2 ^ m ≤ 2 * a + 1

twice : (k : ℕ) → 2 ^ suc k ≡ 2 * 2 ^ k
twice k = grind arith

step : (k a : ℕ) (b : Bool) → nat_lt a (2 ^ k) ≡ b → a < 2 ^ suc k → (a < 2 ^ k → Top k a (clz k a)) → Top (suc k) a (if b then suc (clz k a) else 0)
step k a true e lt ih =
    let below : a < 2 ^ k = grind (arith, nat_tests) in
    let t = ih below in
    record { m = t.m; all = (let h = t.all in omega arith); below = t.below; top = t.top }
step k a false e lt ih =
    let above : 2 ^ k ≤ a = grind (arith, nat_tests) in
    record { m = suc k; all = omega arith; below = lt; top = omega (arith, twice k) }

zeros_top : (k a : ℕ) → a < 2 ^ k → Top k a (clz k a)
unfolding clz
zeros_top zero a lt = record { m = 0; all = refl; below = lt; top = omega arith }
zeros_top (suc k) a lt = step k a (nat_lt a (2 ^ k)) refl lt (λ h. zeros_top k a h)

pub leading_is_clz : (k a : ℕ) → a < 2 ^ k → count_leading_zeros k a ≡ clz k a
leading_is_clz k a lt = let t = zeros_top k a lt in sym (leading_unique k a (clz k a) t.m t.all t.below t.top)

pub trailing_is_ctz : (k a : ℕ) → count_trailing_zeros k a ≡ ctz k a
unfolding ctz count_trailing_zeros
trailing_is_ctz zero a = refl
trailing_is_ctz (suc k) a = digit (a % 2) (trailing_is_ctz k (a / 2)) where
  digit : {t u : ℕ} (d : ℕ) → t ≡ u → under d t ≡ (if nat_eq d 0 then suc u else 0)
  digit zero e = ap suc e
  digit (suc d) e = let off : nat_eq (suc d) 0 ≡ false = grind (arith, nat_tests) in rw off refl
