-- What a file names at a position.
use Rattle.std.proofs.Common.{◌≡◌, ◌≢◌, inl, inr, ◌≤◌, ◌<◌, ◌+◌, ◌-◌, ◌*◌, ◌/◌, ◌%◌, ◌==◌, ℕ, zero, suc, Bool, true, false, if◌then◌else◌, nat_lt, List, drop, replicate, get_or, refl, sym, ◌∙◌, ap, arith}
use Rattle.std.proofs.lemmas.Bool.{cases_eq, cond-true}
use Rattle.std.proofs.lemmas.Bool.Decides.{nat_tests}
use Rattle.byteorder.specs.Endian.{little_number}
use Rattle.vol_sector.specs.Disk.{Image}
use Rattle.vol_inode.specs.declared.entry.Entry.{Entry}
use Rattle.vol_body.specs.Body.{BlockPosition, data_block, indirect_block, inner_block, double_indirect_block, triple_indirect_block, IsPosition, named, number_in, block_bytes, NamesTaken}

pub number_there : (content : Image) (n i : ℕ) → n ≢ 0 → number_in content n i ≡ little_number 4 (drop (4 * i) (content n))
number_there content n i there = pick n (little_number 4 (drop (4 * i) (content n))) there
  where
    pick : (n x : ℕ) → n ≢ 0 → (if n == 0 then 0 else x) ≡ x
    pick n x there = grind (arith, nat_tests)

pub bytes_there : (content : Image) (n : ℕ) → n ≢ 0 → block_bytes content n ≡ content n
bytes_there content n there = pick n (replicate 512 0) (content n) there
  where
    pick : (n : ℕ) (z x : List ℕ) → n ≢ 0 → (if n == 0 then z else x) ≡ x
    pick n z x there = grind (arith, nat_tests)

pub part_direct : (content : Image) (e : Entry) (j : ℕ) → j < 58 → named content e (data_block j) ≡ get_or e.pointers j 0
part_direct content e j lt = pick j (get_or e.pointers j 0) _ lt
  where
    pick : (j x y : ℕ) → j < 58 → (if nat_lt j 58 then x else y) ≡ x
    pick j x y lt = grind (arith, nat_tests)

pub part_listed : (content : Image) (e : Entry) (j : ℕ) → 58 ≤ j → j < 186 → named content e (data_block j) ≡ number_in content (named content e indirect_block) (j - 58)
part_listed content e j le lt = pick j (get_or e.pointers j 0) (number_in content (named content e indirect_block) (j - 58)) _ le lt
  where
    pick : (j x y z : ℕ) → 58 ≤ j → j < 186 → (if nat_lt j 58 then x else (if nat_lt j 186 then y else z)) ≡ y
    pick j x y z le lt = grind (arith, nat_tests)

pub part_later : (content : Image) (e : Entry) (j : ℕ) → 186 ≤ j → named content e (data_block j) ≡ number_in content (named content e (inner_block ((j - 186) / 128))) ((j - 186) % 128)
part_later content e j le = pick j (get_or e.pointers j 0) (number_in content (named content e indirect_block) (j - 58)) (number_in content (named content e (inner_block ((j - 186) / 128))) ((j - 186) % 128)) le
  where
    pick : (j x y z : ℕ) → 186 ≤ j → (if nat_lt j 58 then x else (if nat_lt j 186 then y else z)) ≡ z
    pick j x y z le = grind (arith, nat_tests)

-- the number of an inner block that a double-indirect block has
pub inner_in : (content : Image) (e : Entry) (d r : ℕ) → r < 128 → named content e (inner_block (128 * d + r)) ≡ number_in content (named content e (double_indirect_block d)) r
inner_in content e d r lt =
    let which : (128 * d + r) / 128 ≡ d = omega (arith, lt) in
    let place : (128 * d + r) % 128 ≡ r = omega (arith, lt) in
    ap (λ (k : ℕ). number_in content (named content e (double_indirect_block k)) ((128 * d + r) % 128)) which ∙ ap (number_in content (named content e (double_indirect_block d))) place

-- the first double-indirect block names the first inner blocks
pub inner_of_first : (content : Image) (e : Entry) (i : ℕ) → i < 128 → named content e (inner_block i) ≡ number_in content (named content e (double_indirect_block 0)) i
inner_of_first content e i lt =
    let which : i / 128 ≡ 0 = omega (arith, lt) in
    let place : i % 128 ≡ i = omega (arith, lt) in
    ap (λ (k : ℕ). number_in content (named content e (double_indirect_block k)) (i % 128)) which ∙ ap (number_in content (named content e (double_indirect_block 0))) place

-- the triple-indirect block names the other double-indirect blocks
pub double_later : (content : Image) (e : Entry) (d : ℕ) → 1 ≤ d → named content e (double_indirect_block d) ≡ number_in content (named content e triple_indirect_block) (d - 1)
double_later content e zero le = absurd (omega (arith, le))
double_later content e (suc m) le = let is : m ≡ suc m - 1 = omega arith in ap (number_in content (named content e triple_indirect_block)) is

same_either : (b : Bool) (n : ℕ) → n ≡ 0 → (if b then n else 0) ≡ n
same_either true n none = refl
same_either false n none = sym none

-- a number that the file names is known
pub known_at : (taken : ℕ → Bool) (content : Image) (e : Entry) → NamesTaken taken content e → (p : BlockPosition) → IsPosition p → (n : ℕ) → n ≡ named content e p → (if taken n then n else 0) ≡ named content e p
known_at taken content e names p there n is = ap (λ (x : ℕ). if taken x then x else 0) is ∙ elim (cases_eq (named content e p) 0) [
  | inl none ↦ same_either (taken (named content e p)) (named content e p) none
  | inr some ↦ cond-true _ _ _ (names p there some)
]
