-- One slice more is charged, and charges stay as stacks grow.
use Rattle.std.proofs.Common.{◌≡◌, ◌≤◌, ◌<◌, ◌+◌, ◌-◌, ◌^◌, ◌==◌, ℕ, zero, suc, Bool, true, false, if◌then◌else◌, List, [], ◌∷◌, ◌++◌, length, slice_index, drop, replicate, fold, sum, refl, sym, ap, subst, ◌∙◌, inl, inr, arith}
use Rattle.std.proofs.lemmas.Bool.Decides.{eqb_tells}
use Rattle.std.proofs.lemmas.List.Sums.{fold-append}
use Rattle.observed_run.specs.declared.stacks.Call.{Call}
use Rattle.observed_run.specs.Stacks.{Stacks, AddsUnits, Grows, IsNodeOf, IsStack}
use Rattle.observed_run.proofs.Trees.{at_bottom, cut_node, still_stack}
use Rattle.observed_run.specs.Charging.{Slice, Charges, charged, functions_of}

-- ---- units of nodes that were added

no_units : (n k : ℕ) → slice_index (replicate n 0) k ≡ 0
no_units zero k = refl
no_units (suc n) zero = refl
no_units (suc n) (suc k) = no_units n k

pub same_units : (xs : List ℕ) (n k : ℕ) → slice_index (xs ++ replicate n 0) k ≡ slice_index xs k
same_units [] n k = no_units n k
same_units (x ∷ xs) n zero = refl
same_units (x ∷ xs) n (suc k) = same_units xs n k

no_sum : (n so_far : ℕ) → fold ◌+◌ so_far (replicate n 0) ≡ so_far
no_sum zero so_far = refl
no_sum (suc n) so_far = let same : so_far + 0 ≡ so_far = omega arith in no_sum n (so_far + 0) ∙ same

pub same_sum : (xs : List ℕ) (n : ℕ) → sum (xs ++ replicate n 0) ≡ sum xs
same_sum xs n = fold-append ◌+◌ 0 xs (replicate n 0) ∙ no_sum n (sum xs)

-- units that were added to a node
pub adds_there : (a b : Stacks) (node units : ℕ) → AddsUnits a b node units → (k : ℕ) → slice_index b.units k ≡ charged (slice_index a.units) node units k
adds_there a b node units adds k = elim (eqb_tells k node) [
  | inl (is, same) ↦ subst (λ (n : ℕ). slice_index b.units n ≡ slice_index a.units n + units) (sym same) adds.there ∙ ap (λ (test : Bool). if test then slice_index a.units k + units else slice_index a.units k) (sym is)
  | inr (is, other) ↦ adds.elsewhere k other ∙ ap (λ (test : Bool). if test then slice_index a.units k + units else slice_index a.units k) (sym is)
]

-- units of a slice fit
pub units_fit : (old grown : Stacks) (began until used : ℕ) → Grows old grown → sum old.units + (until - began) < 2 ^ 64 → used ≤ until → sum grown.units + (used - began) < 2 ^ 64
units_fit old grown began until used grows few within =
    let same : sum grown.units ≡ sum old.units = ap sum grows.units ∙ same_sum old.units (length grows.added) in
    omega (arith, same, few, within)

-- ---- nodes

-- where functions can't be read, all of them are left out
pub cut_off : (before cut : Stacks) (functions : List ℕ) (node : ℕ) → cut ≡ record before { is_cut = true } → node ≡ 0 → IsNodeOf cut functions node
cut_off before cut functions node is bottom = cut_node before cut functions node (length functions - 0) is (at_bottom before functions node bottom)

-- ---- charges

-- a node stands for its functions while stacks are added
pub node_kept : (a b : Stacks) (added : List Call) → b.calls ≡ a.calls ++ added → (b.is_cut ≡ false → a.is_cut ≡ false) → (functions : List ℕ) (node : ℕ) → IsNodeOf a functions node → IsNodeOf b functions node
node_kept a b added calls whole functions node is = record {
  left_out = is.left_out;
  stack = subst (λ (all : List Call). IsStack all node (drop is.left_out functions)) (sym calls) (still_stack added is.stack);
  whole = λ uncut. is.whole (whole uncut);
}

module _ {D R W1 W2 : Type 0} where
  pub charges_kept : (a b : Stacks) (added : List Call) → b.calls ≡ a.calls ++ added → (b.is_cut ≡ false → a.is_cut ≡ false) → (slices : List (Slice D R W1 W2)) (before now : ℕ → ℕ)
      → Charges a slices before now → Charges b slices before now
  charges_kept a b added calls whole [] before now same = same
  charges_kept a b added calls whole (s ∷ rest) before now (node, is, more) =
      (node, λ some. node_kept a b added calls whole (functions_of s.start) node (is some), charges_kept a b added calls whole rest (charged before node s.units) now more)

  pub charges_to : (a : Stacks) (slices : List (Slice D R W1 W2)) (before now later : ℕ → ℕ) → ((k : ℕ) → later k ≡ now k) → Charges a slices before now → Charges a slices before later
  charges_to a [] before now later same was = λ k. same k ∙ was k
  charges_to a (s ∷ rest) before now later same (node, is, more) = (node, is, charges_to a rest (charged before node s.units) now later same more)

  pub charges_more : (a : Stacks) (slices : List (Slice D R W1 W2)) (s : Slice D R W1 W2) (node : ℕ) (before now later : ℕ → ℕ) → Charges a slices before now → (0 < s.units → IsNodeOf a (functions_of s.start) node)
      → ((k : ℕ) → later k ≡ charged now node s.units k) → Charges a (slices ++ s ∷ []) before later
  charges_more a [] s node before now later was is adds =
      (node, is, λ k. adds k ∙ ap (λ (n : ℕ). if k == node then n + s.units else n) (was k))
  charges_more a (t ∷ rest) s node before now later (other, here, more) is adds =
      (other, here, charges_more a rest s node (charged before other t.units) now later more is adds)
