-- An operator gives a NaN where an operand is one, and which bits a machine keeps of it.
use Rattle.std.proofs.Common.{◌≡◌, ℕ, Bool, true, false, not, ◌||◌, [], ◌∷◌, refl, sym, ap, ◌∙◌, subst, true≢false}
use Rattle.std.specs.Prelude.{from_bits, to_bits}
use Rattle.std.specs.Float as Float
use lib.Ieee.{Float, Format, binary32, binary64, nan, inf, fin, is_nan, nan_bits, add, sub, mul, div, sqrt, neg, eq, ne, lt, le}
use lib.Ieee.Bits.{nan_bits_is}
use Rattle.wasm_float.specs.Floats.{least, greatest, on_bits, on_two, test}
use Rattle.wasm_float.specs.Allowed.{IsAllowed, IsAllowedOfOne, IsAllowedOfTwo}

the_nan : (x : Float) → is_nan x ≡ true → x ≡ nan
unfolding is_nan
the_nan nan h = refl
the_nan (inf s) h = absurd (true≢false (sym h))
the_nan (fin s m e) h = absurd (true≢false (sym h))

pub nan_of_bits : (f : Format) (a : ℕ) → nan_bits f a ≡ true → from_bits f a ≡ nan
nan_of_bits f a h = the_nan _ (sym (nan_bits_is f a) ∙ h)

-- the NaN of Rust's constant
pub constant32 : from_bits binary32 0x7fc0_0000 ≡ nan
unfolding lib.Ieee.of_bits
constant32 = refl

pub constant64 : from_bits binary64 0x7ff8_0000_0000_0000 ≡ nan
unfolding lib.Ieee.of_bits
constant64 = refl

abbrev pub Absorbs : (Float → Float → Float) → Type 0
Absorbs op = ((y : Float) → op nan y ≡ nan) × ((x : Float) → op x nan ≡ nan)

-- an operator on two, of which one is a NaN
module _ (op : Float → Float → Float) (law : Absorbs op) (f : Format) (a b : ℕ) (n : Float) (e : n ≡ nan) (h : nan_bits f a || nan_bits f b ≡ true) where
  two : n ≡ op (from_bits f a) (from_bits f b)
  two = e ∙ go (nan_bits f a) (nan_bits f b) refl refl h
    where
      go : (m k : Bool) → nan_bits f a ≡ m → nan_bits f b ≡ k → m || k ≡ true → nan ≡ op (from_bits f a) (from_bits f b)
      go true k p q g = sym (ap (λ x. op x (from_bits f b)) (nan_of_bits f a p) ∙ law.0 _)
      go false true p q g = sym (ap (op (from_bits f a)) (nan_of_bits f b q) ∙ law.1 _)
      go false false p q g = absurd (true≢false (sym g))

  pub two_value : to_bits f n ≡ on_two f op a b
  two_value = ap (to_bits f) two

  pub two_allowed : (r : ℕ) → IsAllowed f ((f, a) ∷ (f, b) ∷ []) n r → IsAllowedOfTwo f op a b r
  two_allowed r p = subst (λ (x : Float). IsAllowed f ((f, a) ∷ (f, b) ∷ []) x r) two p

-- an operator on one, which is a NaN
module _ (op : Float → Float) (law : op nan ≡ nan) (f : Format) (a : ℕ) (n : Float) (e : n ≡ nan) (h : nan_bits f a ≡ true) where
  one : n ≡ op (from_bits f a)
  one = e ∙ sym (ap op (nan_of_bits f a h) ∙ law)

  pub one_value : to_bits f n ≡ on_bits f op a
  one_value = ap (to_bits f) one

  pub one_allowed : (r : ℕ) → IsAllowed f ((f, a) ∷ []) n r → IsAllowedOfOne f op a r
  one_allowed r p = subst (λ (x : Float). IsAllowed f ((f, a) ∷ []) x r) one p

-- a test of two, of which one is a NaN, answers t
abbrev pub Answers : (Float → Float → Bool) → Bool → Type 0
Answers op t = ((y : Float) → op nan y ≡ t) × ((x : Float) → op x nan ≡ t)

tested : (op : Float → Float → Bool) (t : Bool) → Answers op t → (f : Format) (a b : ℕ) → nan_bits f a || nan_bits f b ≡ true → t ≡ test f op a b
tested op t law f a b h = go (nan_bits f a) (nan_bits f b) refl refl h
  where
    go : (m k : Bool) → nan_bits f a ≡ m → nan_bits f b ≡ k → m || k ≡ true → t ≡ op (from_bits f a) (from_bits f b)
    go true k p q g = sym (ap (λ x. op x (from_bits f b)) (nan_of_bits f a p) ∙ law.0 _)
    go false true p q g = sym (ap (op (from_bits f a)) (nan_of_bits f b q) ∙ law.1 _)
    go false false p q g = absurd (true≢false (sym g))

-- the same where the code asked r, whether one is a NaN
pub no_number : (op : Float → Float → Bool) → Answers op false → (f : Format) (a b : ℕ) (r : Bool) → r ≡ (nan_bits f a || nan_bits f b) → r ≡ true → not r ≡ test f op a b
no_number op law f a b r e h = ap not h ∙ tested op false law f a b (sym e ∙ h)

pub some_nan : (op : Float → Float → Bool) → Answers op true → (f : Format) (a b : ℕ) (r : Bool) → r ≡ (nan_bits f a || nan_bits f b) → r ≡ true → r ≡ test f op a b
some_nan op law f a b r e h = h ∙ tested op true law f a b (sym e ∙ h)

pub least_nan : Absorbs least
unfolding is_nan
least_nan = (λ y. refl, second)
  where
    second : (x : Float) → least x nan ≡ nan
    second nan = refl
    second (inf s) = refl
    second (fin s m e) = refl

pub greatest_nan : Absorbs greatest
unfolding is_nan
greatest_nan = (λ y. refl, second)
  where
    second : (x : Float) → greatest x nan ≡ nan
    second nan = refl
    second (inf s) = refl
    second (fin s m e) = refl

pub eq_nan : Answers eq false
unfolding eq
eq_nan = (λ y. refl, second)
  where
    second : (x : Float) → eq x nan ≡ false
    second nan = refl
    second (inf s) = refl
    second (fin s m e) = refl

pub ne_nan : Answers ne true
unfolding ne eq
ne_nan = (λ y. refl, second)
  where
    second : (x : Float) → ne x nan ≡ true
    second nan = refl
    second (inf s) = refl
    second (fin s m e) = refl

pub lt_nan : Answers lt false
unfolding lt
lt_nan = (λ y. refl, second)
  where
    second : (x : Float) → lt x nan ≡ false
    second nan = refl
    second (inf s) = refl
    second (fin s m e) = refl

pub le_nan : Answers le false
unfolding le lt eq
le_nan = (λ y. refl, second)
  where
    second : (x : Float) → le x nan ≡ false
    second nan = refl
    second (inf s) = refl
    second (fin s m e) = refl

pub sqrt_nan : (f : Format) → sqrt f nan ≡ nan
unfolding sqrt
sqrt_nan f = refl

pub ceil_nan : (f : Format) → Float.ceil f nan ≡ nan
unfolding Float.round_with
ceil_nan f = refl

pub floor_nan : (f : Format) → Float.floor f nan ≡ nan
unfolding Float.round_with
floor_nan f = refl

pub trunc_nan : (f : Format) → Float.trunc f nan ≡ nan
unfolding Float.round_with
trunc_nan f = refl

pub round_ties_even_nan : (f : Format) → Float.round_ties_even f nan ≡ nan
unfolding Float.round_with
round_ties_even_nan f = refl
