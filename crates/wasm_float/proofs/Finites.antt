-- Sums and products of finite numbers are numbers, and which bits are those of a finite one.
use Rattle.std.proofs.Common.{◌≡◌, ℕ, suc, ◌+◌, ◌-◌, ◌*◌, ◌/◌, ◌%◌, ◌^◌, ◌<◌, Bool, true, false, not, cond, ◌&&◌, eqb, refl, sym, ◌∙◌, T, true≢false, arith, lt-ltb, le-ltb, ltb-true, ltb-false}
use Rattle.std.specs.Prelude.{from_bits, nat_lt}
use Rattle.std.specs.Float.{NotNan, float_is_finite}
use lib.Ieee.{Float, Format, binary32, binary64, nan, inf, fin, is_nan, nan_bits, prec, emax, low, hid, ones, top, odd, units, round, sum, neg, add, sub, mul, unlike, of_fields, of_bits}
use lib.Ieee.Bits.{nan_bits_above}
use lib.Dec.{leb, ltb, eqb→eq}
use mathlib.Core.Bool.{beq}
use Rattle.std.proofs.lemmas.Float.{T_from_true}

odd_number : (d : ℕ) (s : Bool) (q k l : ℕ) → NotNan (odd d s q k l)
unfolding odd is_nan
odd_number d s ℕ.zero k l = tt
odd_number d s (suc q) k l = tt

units_number : (f : Format) (s : Bool) (q k : ℕ) → NotNan (units f s q k)
unfolding units is_nan
units_number f s q k = go (ltb (q * 2 ^ k) (2 ^ (low f + suc (emax f))))
  where
    go : (b : Bool) → NotNan (cond b (odd (suc (prec f)) s q k (low f)) (inf s))
    go true = odd_number (suc (prec f)) s q k (low f)
    go false = tt

round_number : (f : Format) (s : Bool) (n d : ℕ) → NotNan (round f s n d)
unfolding round
round_number f s n d = units_number f s _ _

sum_number : (f : Format) (s : Bool) (a : ℕ) (t : Bool) (b c : ℕ) → NotNan (sum f s a t b c)
unfolding sum
sum_number f s a t b c = go (beq s t) (ltb a b)
  where
    go : (p q : Bool) → NotNan (cond p (round f s (a + b) c) (cond q (round f t (b - a) c) (round f (s && ltb b a) (a - b) c)))
    go true q = round_number f s (a + b) c
    go false true = round_number f t (b - a) c
    go false false = round_number f (s && ltb b a) (a - b) c

-- ---- an operator on two finite numbers

pub add_number : (f : Format) (x y : Float) → float_is_finite x ≡ true → float_is_finite y ≡ true → NotNan (add f x y)
unfolding add float_is_finite
add_number f nan y p q = absurd (true≢false (sym p))
add_number f (inf s) y p q = absurd (true≢false (sym p))
add_number f (fin s m e) nan p q = absurd (true≢false (sym q))
add_number f (fin s m e) (inf t) p q = absurd (true≢false (sym q))
add_number f (fin s m e) (fin t n d) p q = sum_number f s _ t _ _

pub sub_number : (f : Format) (x y : Float) → float_is_finite x ≡ true → float_is_finite y ≡ true → NotNan (sub f x y)
unfolding sub add neg float_is_finite
sub_number f nan y p q = absurd (true≢false (sym p))
sub_number f (inf s) y p q = absurd (true≢false (sym p))
sub_number f (fin s m e) nan p q = absurd (true≢false (sym q))
sub_number f (fin s m e) (inf t) p q = absurd (true≢false (sym q))
sub_number f (fin s m e) (fin t n d) p q = sum_number f s _ (not t) _ _

pub mul_number : (f : Format) (x y : Float) → float_is_finite x ≡ true → float_is_finite y ≡ true → NotNan (mul f x y)
unfolding mul float_is_finite
mul_number f nan y p q = absurd (true≢false (sym p))
mul_number f (inf s) y p q = absurd (true≢false (sym p))
mul_number f (fin s m e) nan p q = absurd (true≢false (sym q))
mul_number f (fin s m e) (inf t) p q = absurd (true≢false (sym q))
mul_number f (fin s m e) (fin t n d) p q = round_number f (unlike s t) _ _

-- ---- by bits

odd_finite : (d : ℕ) (s : Bool) (q k l : ℕ) → float_is_finite (odd d s q k l) ≡ true
unfolding odd float_is_finite
odd_finite d s ℕ.zero k l = refl
odd_finite d s (suc q) k l = refl

fields_finite : (f : Format) (s : Bool) (x t : ℕ) → x < ones f → float_is_finite (of_fields f s x t) ≡ true
unfolding of_fields float_is_finite
fields_finite f s ℕ.zero t h = odd_finite (prec f) s t 0 (low f)
fields_finite f s (suc x) t h = go (eqb (suc x) (ones f)) refl
  where
    go : (b : Bool) → eqb (suc x) (ones f) ≡ b → float_is_finite (cond b (cond (eqb t 0) (inf s) nan) (odd (prec f) s (hid f + t) x (low f))) ≡ true
    go true e = absurd (omega (arith, h, eqb→eq (suc x) (ones f) (T_from_true _ e)))
    go false e = odd_finite (prec f) s (hid f + t) x (low f)

-- the bits of infinity, and 2 ^ the bits of the type
abbrev infinity : Format → ℕ
infinity f = ones f * hid f

pub finite : (f : Format) (a : ℕ) → nat_lt (a % top f) (infinity f) ≡ true → float_is_finite (from_bits f a) ≡ true
unfolding of_bits
finite binary32 a h = fields_finite binary32 (leb (top binary32) a) (a % top binary32 / hid binary32) (a % hid binary32) (omega (arith, ltb-true _ _ h))
finite binary64 a h = fields_finite binary64 (leb (top binary64) a) (a % top binary64 / hid binary64) (a % hid binary64) (omega (arith, ltb-true _ _ h))

pub both : (f : Format) (a b : ℕ) → nat_lt (a % top f) (infinity f) && nat_lt (b % top f) (infinity f) ≡ true
    → (float_is_finite (from_bits f a) ≡ true) × (float_is_finite (from_bits f b) ≡ true)
both f a b h = go (nat_lt (a % top f) (infinity f)) (nat_lt (b % top f) (infinity f)) refl refl h
  where
    go : (m n : Bool) → nat_lt (a % top f) (infinity f) ≡ m → nat_lt (b % top f) (infinity f) ≡ n → m && n ≡ true
        → (float_is_finite (from_bits f a) ≡ true) × (float_is_finite (from_bits f b) ≡ true)
    go true true p q e = (finite f a p, finite f b q)
    go true false p q e = absurd (true≢false (sym e))
    go false n p q e = absurd (true≢false (sym e))

-- the bits of a finite number aren't a NaN's
no_nan : (f : Format) (a : ℕ) → nat_lt (a % top f) (infinity f) ≡ true → T (not (nan_bits f a))
no_nan binary32 a h = rw (nan_bits_above binary32 a, le-ltb (infinity binary32) (a % top binary32) (omega (arith, ltb-true _ _ h))) tt
no_nan binary64 a h = rw (nan_bits_above binary64 a, le-ltb (infinity binary64) (a % top binary64) (omega (arith, ltb-true _ _ h))) tt

pub no_nans : (f : Format) (a b : ℕ) → nat_lt (a % top f) (infinity f) && nat_lt (b % top f) (infinity f) ≡ true
    → T (not (nan_bits f a)) × T (not (nan_bits f b))
no_nans f a b h = go (nat_lt (a % top f) (infinity f)) (nat_lt (b % top f) (infinity f)) refl refl h
  where
    go : (m n : Bool) → nat_lt (a % top f) (infinity f) ≡ m → nat_lt (b % top f) (infinity f) ≡ n → m && n ≡ true
        → T (not (nan_bits f a)) × T (not (nan_bits f b))
    go true true p q e = (no_nan f a p, no_nan f b q)
    go true false p q e = absurd (true≢false (sym e))
    go false n p q e = absurd (true≢false (sym e))

-- ---- by the doubled bits

pub doubled_below_32 : (a : ℕ) → a < 2 ^ 32 → nat_lt ((a + a) % 2 ^ 32) 0xff00_0000 ≡ nat_lt (a % top binary32) (infinity binary32)
doubled_below_32 a h = go (nat_lt (a % top binary32) (infinity binary32)) refl
  where
    go : (b : Bool) → nat_lt (a % top binary32) (infinity binary32) ≡ b → nat_lt ((a + a) % 2 ^ 32) 0xff00_0000 ≡ b
    go true e = lt-ltb _ _ (omega (arith, h, ltb-true _ _ e))
    go false e = le-ltb _ _ (omega (arith, h, ltb-false _ _ e))

pub doubled_below_64 : (a : ℕ) → a < 2 ^ 64 → nat_lt ((a + a) % 2 ^ 64) 0xffe0_0000_0000_0000 ≡ nat_lt (a % top binary64) (infinity binary64)
doubled_below_64 a h = go (nat_lt (a % top binary64) (infinity binary64)) refl
  where
    go : (b : Bool) → nat_lt (a % top binary64) (infinity binary64) ≡ b → nat_lt ((a + a) % 2 ^ 64) 0xffe0_0000_0000_0000 ≡ b
    go true e = lt-ltb _ _ (omega (arith, h, ltb-true _ _ e))
    go false e = le-ltb _ _ (omega (arith, h, ltb-false _ _ e))

pub doubled_above_32 : (a : ℕ) → a < 2 ^ 32 → nat_lt 0xff00_0000 ((a + a) % 2 ^ 32) ≡ nan_bits binary32 a
doubled_above_32 a h = go (ltb (infinity binary32) (a % top binary32)) refl ∙ sym (nan_bits_above binary32 a)
  where
    go : (b : Bool) → ltb (infinity binary32) (a % top binary32) ≡ b → nat_lt 0xff00_0000 ((a + a) % 2 ^ 32) ≡ ltb (infinity binary32) (a % top binary32)
    go true e = lt-ltb _ _ (omega (arith, h, ltb-true _ _ e)) ∙ sym e
    go false e = le-ltb _ _ (omega (arith, h, ltb-false _ _ e)) ∙ sym e

pub doubled_above_64 : (a : ℕ) → a < 2 ^ 64 → nat_lt 0xffe0_0000_0000_0000 ((a + a) % 2 ^ 64) ≡ nan_bits binary64 a
doubled_above_64 a h = go (ltb (infinity binary64) (a % top binary64)) refl ∙ sym (nan_bits_above binary64 a)
  where
    go : (b : Bool) → ltb (infinity binary64) (a % top binary64) ≡ b → nat_lt 0xffe0_0000_0000_0000 ((a + a) % 2 ^ 64) ≡ ltb (infinity binary64) (a % top binary64)
    go true e = lt-ltb _ _ (omega (arith, h, ltb-true _ _ e)) ∙ sym e
    go false e = le-ltb _ _ (omega (arith, h, ltb-false _ _ e)) ∙ sym e
