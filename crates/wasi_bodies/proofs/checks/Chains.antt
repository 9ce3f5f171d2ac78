-- What holds of each answer of a row.
use Rattle.std.proofs.Common.{◌≡◌, ℕ, Bool, true, false, cond, Result, Ok, Err, refl, subst, sym, ap}
use Rattle.std.proofs.lemmas.Bool.{false≢true}
use Rattle.vol_tree.specs.declared.errno.Errno.{Errno}
use Rattle.wasi_bodies.specs.Checks.{Checked, ◌>>=◌, and_then, guard, numbered}

unfoldable pub Yields : {X : Type 0} → (X → Type 0) → Checked X → Type 0
Yields P (Ok x) = P x
Yields P (Err e) = Unit {0}

module _ {B : Type 0} (P : B → Type 0) where
  pub after : {A : Type 0} (r : Checked A) (f : A → Checked B) → ((a : A) → r ≡ Ok a → Yields P (f a)) → Yields P (r >>= f)
  unfolding Yields and_then
  after (Ok a) f h = h a refl
  after (Err e) f h = tt

  pub guarded : (b : Bool) (e : ℕ) (f : Unit {0} → Checked B) → (b ≡ true → Yields P (f tt)) → Yields P (guard b e >>= f)
  unfolding Yields and_then guard
  guarded true e f h = h refl
  guarded false e f h = tt

  pub yields : (x : B) → P x → Yields P (Ok x)
  unfolding Yields
  yields x p = p

-- the parts of an answer
pub bound : {A B : Type 0} (r : Checked A) (f : A → Checked B) (b : B) → (r >>= f) ≡ Ok b → (a : A) × (r ≡ Ok a) × (f a ≡ Ok b)
unfolding and_then
bound (Ok a) f b h = (a, refl, h)
bound (Err e) f b h = cc

pub passed : {B : Type 0} (c : Bool) (e : ℕ) (f : Unit {0} → Checked B) (b : B) → (guard c e >>= f) ≡ Ok b → (c ≡ true) × (f tt ≡ Ok b)
unfolding and_then guard
passed true e f b h = (refl, h)
passed false e f b h = cc

same_answer : {B : Type 0} (y x : B) → ◌≡◌ {A = Checked B} (Ok y) (Ok x) → y ≡ x
same_answer y x is = cc

-- what holds of each answer holds of this one
pub known : {B : Type 0} (P : B → Type 0) (r : Checked B) (x : B) → Yields P r → r ≡ Ok x → P x
unfolding Yields
known P (Ok y) x h is = subst P (same_answer y x is) h
known P (Err e) x h is = cc

-- either way
pub chosen : {B : Type 0} (P : B → Type 0) (b : Bool) (x y : Checked B) → (b ≡ true → Yields P x) → (b ≡ false → Yields P y) → Yields P (cond b x y)
chosen P true x y f g = f refl
chosen P false x y f g = g refl

-- what the tree answers
pub answered : {B : Type 0} (P : B → Type 0) (r : Result B Errno) → ((x : B) → r ≡ Ok x → P x) → Yields P (numbered r)
unfolding Yields
answered P (Ok x) f = f x refl
answered P (Err e) f = tt

-- ---- for bodies: what a check that passed, or failed, makes of a row

pub guard_passes : (b : Bool) (errno : ℕ) → b ≡ true → guard b errno ≡ Ok tt
unfolding guard
guard_passes true errno h = refl
guard_passes false errno h = absurd (false≢true h)

pub guard_fails : (b : Bool) (errno : ℕ) → b ≡ false → guard b errno ≡ Err errno
unfolding guard
guard_fails true errno h = absurd (false≢true (sym h))
guard_fails false errno h = refl

pub goes_on : {A B : Type 0} (r : Checked A) (f : A → Checked B) (a : A) → r ≡ Ok a → and_then r f ≡ f a
unfolding and_then
goes_on {A = A} r f a h = ap (λ (r : Checked A). and_then r f) h

pub stops : {A B : Type 0} (r : Checked A) (f : A → Checked B) (e : ℕ) → r ≡ Err e → and_then r f ≡ Err e
unfolding and_then
stops {A = A} r f e h = ap (λ (r : Checked A). and_then r f) h

-- two checks as one part
pub paired : {A X : Type 0} (r : Checked A) (g : Checked (Unit {0})) (k : A → Checked X) → and_then r (λ a. and_then g (λ _. k a)) ≡ and_then (and_then r (λ a. and_then g (λ _. Ok a))) k
unfolding and_then
paired (Ok a) (Ok u) k = refl
paired (Ok a) (Err e) k = refl
paired (Err e) g k = refl
