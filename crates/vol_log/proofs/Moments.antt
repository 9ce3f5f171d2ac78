-- How what a crash may leave goes on from call to call.
use Rattle.std.proofs.Common.{◌≡◌, ◌⊎◌, ◌↔◌, inl, inr, ⊎_elim, ℕ, Bool, true, sym, ◌∙◌, ap, subst, arith, Result, Ok, Err, OnOk, OnErr, IfOk, is_err}
use Rattle.std.proofs.lemmas.Result.{IfOk-from_err}
use Rattle.vol_sector.specs.Disk.{Image, Disk, After, Leaves, Only, counted}

-- before the first call
pub leaves_same : (d : Disk) (P : Image → Type 0) → Leaves d d P
leaves_same d P = record { later = omega arith; since = λ t c le left. inl left; now = λ c may. inl may }

-- one call after another
pub leaves_then : (a b c : Disk) (P Q R : Image → Type 0) → Leaves a b P → Leaves b c Q → ((m : Image) → P m → R m) → ((m : Image) → Q m → R m) → Leaves a c R
leaves_then a b c P Q R first second p q = record {
  later = omega (arith, first.later, second.later);
  since = λ t m le left. ⊎_elim (λ was. ⊎_elim (λ w. inl w) (λ x. inr (p m x)) (first.since t m le was)) (λ x. inr (q m x)) (second.since t m (omega (arith, le, first.later)) left);
  now = λ m may. ⊎_elim (λ was. ⊎_elim (λ w. inl w) (λ x. inr (p m x)) (first.now m was)) (λ x. inr (q m x)) (second.now m may);
}

-- a call whose steps belong to those of the calls so far
pub leaves_step : (a b c : Disk) (step one : Image → Image → Type 0) → ((x y : Image) → one x y → step x y) → ((x y z : Image) → step x y → step y z → step x z) → Leaves a b (After step a.may_leave) → Leaves b c (After one b.may_leave) → Leaves a c (After step a.may_leave)
leaves_step a b c step one within joins first second =
    leaves_then a b c (After step a.may_leave) (After one b.may_leave) (After step a.may_leave) first second (λ m so_far. so_far) (λ m after. on m after.0 (first.now after.0 after.1) (within after.0 m after.2))
  where
    on : (m d : Image) → a.may_leave d ⊎ After step a.may_leave d → step d m → After step a.may_leave m
    on m d (inl was) s = (d, was, s)
    on m d (inr after) s = (after.0, after.1, joins after.0 d m after.2 s)

-- from a disk with everything on it
pub leaves_from : (a b : Disk) (step : Image → Image → Type 0) (P : Image → Type 0) → Only a.seen a.may_leave → Leaves a b (After step a.may_leave) → ((m : Image) → step a.seen m → P m) → Leaves a b P
leaves_from a b step P only leaves here =
    leaves_then a a b P (After step a.may_leave) P (leaves_same a P) leaves (λ m p. p) (λ m after. here m (along m after.0 (only after.0 after.1) after.2))
  where
    along : (m d : Image) → d ≡ a.seen → step d m → step a.seen m
    along m d is s = subst (λ (x : Image). step x m) is s

-- a call after which a crash leaves nothing new
pub leaves_quiet : (a b c : Disk) (P : Image → Type 0) → Leaves a b P → Leaves b c (λ m. ⊥) → Leaves a c P
leaves_quiet a b c P first second = leaves_then a b c P (λ m. ⊥) P first second (λ m p. p) (λ m none. absurd none)

-- a call that steps from a disk with everything on it
pub leaves_on : (a b c : Disk) (step : Image → Image → Type 0) (P : Image → Type 0) → Leaves a b P → Only b.seen b.may_leave → Leaves b c (After step b.may_leave) → ((m : Image) → step b.seen m → P m) → Leaves a c P
leaves_on a b c step P first only second here = leaves_then a b c P P P first (leaves_from b c step P only second here) (λ m p. p) (λ m p. p)

pub only_along : (x y : Image) (may_leave : Image → Type 0) → y ≡ x → Only x may_leave → Only y may_leave
only_along x y may_leave same only c may = only c may ∙ sym same

-- what follows at Ok from what holds at Ok
pub on_ok : {T E : Type 0} (r : Result T E) (P Q : Type 0) → (P → Q) → OnOk r P → OnOk r Q
on_ok (Ok x) P Q f p = f p
on_ok (Err e) P Q f p = p

-- what holds anyway holds at a refusal
pub at_err : {T E : Type 0} (r : Result T E) (P : Type 0) → P → OnErr r P
at_err (Ok x) P p = tt
at_err (Err e) P p = p

-- one step after another
pub both_then : {A B C : Type 0} → (A ↔ B) → (B ↔ C) → A ↔ C
both_then one other = (λ a. other.0 (one.0 a), λ c. one.1 (other.1 c))

-- nothing is said of Ok where the operation failed
pub at_ok : {T E : Type 0} (r : Result T E) (P : T → Type 0) → is_err r ≡ true → IfOk r P
at_ok r P failed = IfOk-from_err r P failed

-- a failed operation more, after operations that succeeded
pub counts_one : {T E : Type 0} (r : Result T E) (before between after : ℕ) → is_err r ≡ true → between ≡ before → after ≡ counted true between → after ≡ counted (is_err r) before
counts_one r before between after failed same one = one ∙ ap (λ (n : ℕ). counted true n) same ∙ ap (λ (b : Bool). counted b before) (sym failed)

-- a call after which a crash leaves nothing new, where something new may be left
pub leaves_any : (a b : Disk) (P : Image → Type 0) → Leaves a b (λ m. ⊥) → Leaves a b P
leaves_any a b P quiet = leaves_quiet a a b P (leaves_same a P) quiet
