-- One operation more on a disk that counts each.
use Rattle.std.proofs.Common.{◌≡◌, ◌≤◌, inl, ⊎_elim, ◌+◌, ◌-◌, ℕ, suc, List, ◌∷◌, Bool, true, false, length, take, sym, ◌∙◌, ap, subst, arith}
use Rattle.std.specs.Prelude.{count_by, cond}
use Rattle.std.proofs.lemmas.List.Sums.{sum_by-cons}
use Rattle.vol_sector.specs.Disk.{Image, Disk, Leaves, Keeps, OneMore}
use Rattle.vol_sector.specs.Counting.{passed_since, counting}

count : List Bool → ℕ
count operations = count_by (λ (passed : Bool). passed) operations

-- one more of those since an earlier moment
passed_more : (operations : List Bool) (t : ℕ) → t ≤ length operations → passed_since (true ∷ operations) t ≡ passed_since operations t + 1
unfolding count
passed_more operations t le =
    let longer : length (true ∷ operations) - t ≡ suc (length operations - t) = omega arith in
    let since : List Bool = take (length operations - t) operations in
    let one : count (true ∷ since) ≡ count since + 1 = omega (arith, sum_by-cons (λ (passed : Bool). cond passed 1 0) true since) in
    ap (λ (k : ℕ). count (take k (true ∷ operations))) longer ∙ one

passed_same : (operations : List Bool) (t : ℕ) → t ≤ length operations → passed_since (false ∷ operations) t ≡ passed_since operations t
unfolding count
passed_same operations t le =
    let longer : length (false ∷ operations) - t ≡ suc (length operations - t) = omega arith in
    let since : List Bool = take (length operations - t) operations in
    let none : count (false ∷ since) ≡ count since = omega (arith, sum_by-cons (λ (passed : Bool). cond passed 1 0) false since) in
    ap (λ (k : ℕ). count (take k (false ∷ operations))) longer ∙ none

-- the moment of the disk below where the count was t
since_passed : (operations : List Bool) (a b : Disk) (t : ℕ) → OneMore a b → t ≤ length operations → b.operation_count - passed_since (true ∷ operations) t ≡ a.operation_count - passed_since operations t
since_passed operations a b t more le = omega (arith, more, passed_more operations t le)

since_kept : (operations : List Bool) (a : Disk) (t : ℕ) → t ≤ length operations → a.operation_count - passed_since (false ∷ operations) t ≡ a.operation_count - passed_since operations t
since_kept operations a t le = ap (λ (k : ℕ). a.operation_count - k) (passed_same operations t le)

-- an operation that passed to the disk below
pub leaves_passed : (old new : List Bool) (a b : Disk) (P : Image → Type 0) → new ≡ true ∷ old → OneMore a b → Leaves a b P → Leaves (counting old a) (counting new b) P
leaves_passed old new a b P is more leaves =
    subst (λ (operations : List Bool). Leaves (counting old a) (counting operations b) P) (sym is) (record {
      later = omega arith;
      since = λ t c le left. leaves.since (a.operation_count - passed_since old t) c (omega arith) (subst (λ (k : ℕ). b.left_since k c) (since_passed old a b t more le) left);
      now = leaves.now;
    })

pub keeps_passed : (old new : List Bool) (a b : Disk) → new ≡ true ∷ old → OneMore a b → Keeps a b → Keeps (counting old a) (counting new b)
keeps_passed old new a b is more keeps =
    subst (λ (operations : List Bool). Keeps (counting old a) (counting operations b)) (sym is)
    (λ t c le left. subst (λ (k : ℕ). b.left_since k c) (sym (since_passed old a b t more le)) (keeps (a.operation_count - passed_since old t) c (omega arith) left))

-- an operation that left the disk below as it was
pub leaves_kept : (old new : List Bool) (a : Disk) (P : Image → Type 0) → new ≡ false ∷ old → Leaves (counting old a) (counting new a) P
leaves_kept old new a P is =
    subst (λ (operations : List Bool). Leaves (counting old a) (counting operations a) P) (sym is) (record {
      later = omega arith;
      since = λ t c le left. inl (subst (λ (k : ℕ). a.left_since k c) (since_kept old a t le) left);
      now = λ c may. inl may;
    })

pub keeps_kept : (old new : List Bool) (a : Disk) → new ≡ false ∷ old → Keeps (counting old a) (counting new a)
keeps_kept old new a is =
    subst (λ (operations : List Bool). Keeps (counting old a) (counting operations a)) (sym is)
    (λ t c le left. subst (λ (k : ℕ). a.left_since k c) (sym (since_kept old a t le)) left)

-- what leaves nothing new leaves nothing but what has P
pub leaves_any : (a b : Disk) (P : Image → Type 0) → Leaves a b (λ c. ⊥) → Leaves a b P
leaves_any a b P leaves = record {
  later = leaves.later;
  since = λ t c le left. ⊎_elim (λ was. inl was) (λ none. absurd none) (leaves.since t c le left);
  now = λ c may. ⊎_elim (λ was. inl was) (λ none. absurd none) (leaves.now c may);
}

-- one operation more
pub counts_one : (old new : List Bool) (passed : Bool) → new ≡ passed ∷ old → length new ≡ length old + 1
counts_one old new passed is = omega (arith, ap length is)
