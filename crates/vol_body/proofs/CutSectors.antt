-- The sectors that are cut.
use Rattle.std.proofs.Common.{◌≡◌, ◌≢◌, inl, inr, ◌≤◌, ◌<◌, ◌-◌, ◌==◌, ℕ, Bool, true, false, nat_lt, if◌then◌else◌, List, get_or, refl, sym, ◌∙◌, ap, arith}
use Rattle.std.proofs.lemmas.Bool.{cases_lt, cases_eq}
use Rattle.std.proofs.lemmas.Bool.Decides.{nat_tests}
use Rattle.std.proofs.lemmas.List.{get_or_past}
use Rattle.vol_sector.specs.Disk.{Image, put}
use Rattle.vol_alloc.specs.declared.sectors.Alloc.{Alloc}
use Rattle.vol_alloc.specs.Alloc.{first_of, end_of, taken_of}
use Rattle.vol_body.specs.declared.truncation.CutSector.{CutSector}
use Rattle.vol_body.specs.internal.Truncated.{IsCut, zeroed_from, with_cut}

-- a taken sector is one of the range
pub in_range : (a : Alloc) (n : ℕ) → taken_of a n ≡ true → (first_of a ≤ n) × (n < end_of a)
in_range a n is = elim (cases_lt n a.first) [
  | inl before ↦ absurd (never (nat_lt n a.first) (get_or a.taken.items (n - a.first) false) (test n a.first before) is)
  | inr from ↦ elim (cases_lt n a.end) [
    | inl below ↦ (from, below)
    | inr past ↦ absurd (unset (nat_lt n a.first) (get_or a.taken.items (n - a.first) false) (get_or_past a.taken.items (n - a.first) false (omega (arith, a.size))) is)
  ]
]
  where
    test : (x y : ℕ) → x < y → nat_lt x y ≡ true
    test x y lt = grind (arith, nat_tests)

    never : (b f : Bool) → b ≡ true → (if b then false else f) ≡ true → ⊥
    never true f is set = cc
    never false f is set = cc

    unset : (b f : Bool) → f ≡ false → (if b then false else f) ≡ true → ⊥
    unset true f none set = cc
    unset false f none set = cc

put_one : (n k : ℕ) (x y : List ℕ) → k ≡ n → (if k == n then x else y) ≡ x
put_one n k x y is = grind (arith, nat_tests)

put_other : (n k : ℕ) (x y : List ℕ) → k ≢ n → (if k == n then x else y) ≡ y
put_other n k x y other = grind (arith, nat_tests)

pub put_there : (n : ℕ) (bytes : List ℕ) (image : Image) → put n bytes image n ≡ bytes
put_there n bytes image = put_one n n bytes (image n) refl

pub put_past : (n k : ℕ) (bytes : List ℕ) (image : Image) → k ≢ n → put n bytes image k ≡ image k
put_past n k bytes image other = put_other n k bytes (image k) other

-- sector 0 stands for nothing
with_none : (n : ℕ) (bytes : List ℕ) (image : Image) (k : ℕ) → n ≡ 0 → (if n == 0 then image else put n bytes image) k ≡ image k
with_none n bytes image k none = ap (λ (m : ℕ). (if m == 0 then image else put m bytes image) k) none

with_some : (n : ℕ) (bytes : List ℕ) (image : Image) (k : ℕ) → n ≢ 0 → (if n == 0 then image else put n bytes image) k ≡ put n bytes image k
with_some n bytes image k some = pick (n == 0) image (put n bytes image) (test n some)
  where
    test : (n : ℕ) → n ≢ 0 → (n == 0) ≡ false
    test n some = grind (arith, nat_tests)

    pick : (b : Bool) (x y : Image) → b ≡ false → (if b then x else y) k ≡ y k
    pick true x y is = cc
    pick false x y is = refl

-- what isn't the sector stays
pub cut_elsewhere : (c : CutSector) (image : Image) (k : ℕ) → (c.sector ≢ 0 → c.sector ≢ k) → with_cut c image k ≡ image k
cut_elsewhere c image k other = elim (cases_eq c.sector 0) [
  | inl none ↦ with_none c.sector c.image image k none
  | inr some ↦ with_some c.sector c.image image k some ∙ put_past c.sector k c.image image (λ is. other some (sym is))
]

-- the sector is cut
pub cut_there : (content : Image) (n kept : ℕ) (c : CutSector) (image : Image) → IsCut content n kept c → n ≢ 0 → 0 < kept → kept < 512 → image n ≡ content n
    → with_cut c image n ≡ zeroed_from kept (content n)
cut_there content n kept c image is there some short same = elim (cases_eq c.sector 0) [
  | inl none ↦ with_none c.sector c.image image n none ∙ same ∙ is.same none there some short
  | inr set ↦ with_some c.sector c.image image n set ∙ put_one c.sector n c.image (image n) (sym (is.sector set)) ∙ is.image set
]
