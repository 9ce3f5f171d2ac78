-- The bytes and the numbers of a sector that is cut.
use Rattle.std.proofs.Common.{◌≡◌, inl, inr, ◌≤◌, ◌<◌, ◌+◌, ◌-◌, ◌*◌, ℕ, zero, suc, List, [], length, take, drop, replicate, get_or, refl, sym, ◌∙◌, arith}
use Rattle.std.proofs.lemmas.Bool.{cases_lt}
use Rattle.std.proofs.lemmas.List.{length-replicate, get_or_append_left, get_or-append_right, get_or-take, get_or-drop, get_or-replicate, get_or_past, length-take}
use Rattle.byteorder.specs.Endian.{little_from, little_number}
use Rattle.vol_body.specs.internal.Truncated.{zeroed_from}

pub get_or-zeros : (n i : ℕ) → get_or {A = ℕ} (replicate n 0) i 0 ≡ 0
get_or-zeros n i = elim (cases_lt i n) [
  | inl lt ↦ get_or-replicate n i 0 0 lt
  | inr past ↦ get_or_past {X = ℕ} (replicate n 0) i 0 (omega (arith, length-replicate {A = ℕ} n 0))
]

pub get_or-cut : (kept : ℕ) (bytes : List ℕ) (i : ℕ) → i < kept → get_or (zeroed_from kept bytes) i 0 ≡ get_or bytes i 0
get_or-cut kept bytes i lt =
    let front = take kept bytes in
    let more : List ℕ = replicate (512 - kept) 0 in
    elim (cases_lt i (length front)) [
      | inl there ↦ get_or_append_left front more 0 i there ∙ get_or-take kept bytes i 0 lt
      | inr past ↦ get_or-append_right front more (length front) i 0 refl past ∙ get_or-zeros (512 - kept) (i - length front) ∙ sym (get_or_past bytes i 0 (omega (arith, length-take kept bytes)))
    ]

pub get_or-cut_past : (kept : ℕ) (bytes : List ℕ) (i : ℕ) → kept ≤ i → get_or (zeroed_from kept bytes) i 0 ≡ 0
get_or-cut_past kept bytes i le =
    let front = take kept bytes in
    get_or-append_right front (replicate (512 - kept) 0) (length front) i 0 refl (omega (arith, length-take kept bytes)) ∙ get_or-zeros (512 - kept) (i - length front)

-- a number goes by its bytes
same_little : (n i : ℕ) (xs ys : List ℕ) → ((k : ℕ) → i ≤ k → k < i + n → get_or xs k 0 ≡ get_or ys k 0) → little_from i n xs ≡ little_from i n ys
same_little zero i xs ys same = refl
same_little (suc n) i xs ys same =
    let first : get_or xs i 0 ≡ get_or ys i 0 = same i (omega arith) (omega arith) in
    let rest : little_from (suc i) n xs ≡ little_from (suc i) n ys = same_little n (suc i) xs ys (λ k le lt. same k (omega arith) (omega arith)) in
    λ z. first z + 256 * rest z

none_little : (n i : ℕ) → little_from i n [] ≡ 0
none_little zero i = refl
none_little (suc n) i = let rest : little_from (suc i) n [] ≡ 0 = none_little n (suc i) in omega (arith, rest)

pub number-cut : (kept : ℕ) (bytes : List ℕ) (i : ℕ) → 4 * i + 4 ≤ kept → little_number 4 (drop (4 * i) (zeroed_from kept bytes)) ≡ little_number 4 (drop (4 * i) bytes)
number-cut kept bytes i le = same_little 4 0 (drop (4 * i) (zeroed_from kept bytes)) (drop (4 * i) bytes) (λ k from lt.
    get_or-drop (4 * i) (zeroed_from kept bytes) k 0 ∙ get_or-cut kept bytes (4 * i + k) (omega arith) ∙ sym (get_or-drop (4 * i) bytes k 0))

pub number-cut_past : (kept : ℕ) (bytes : List ℕ) (i : ℕ) → kept ≤ 4 * i → little_number 4 (drop (4 * i) (zeroed_from kept bytes)) ≡ 0
number-cut_past kept bytes i le = same_little 4 0 (drop (4 * i) (zeroed_from kept bytes)) [] (λ k from lt.
    get_or-drop (4 * i) (zeroed_from kept bytes) k 0 ∙ get_or-cut_past kept bytes (4 * i + k) (omega arith)) ∙ none_little 4 0
