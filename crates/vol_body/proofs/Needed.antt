-- The positions of a file are as many as it needs sectors.
use Rattle.std.proofs.Common.{◌≡◌, ◌≢◌, inl, inr, ◌≤◌, ◌<◌, ◌+◌, ◌-◌, ℕ, List, [], ◌∷◌, ◌++◌, length, map, get_or, nat_lt, nat_le, if◌then◌else◌, refl, sym, ◌∙◌, ap, subst, arith}
use Rattle.std.proofs.lemmas.Bool.{cases_lt}
use Rattle.std.proofs.lemmas.Bool.Decides.{nat_tests}
use Rattle.std.proofs.lemmas.List.{length-append}
use Rattle.std.proofs.lemmas.List.Elements.{Contains-append_left, Contains-append_right}
use Rattle.std.proofs.lemmas.List.FromFn.{length-map-range_with_len, get_or-map-range_with_len}
use Rattle.std.specs.List.{range_with_len, Contains}
use Rattle.vol_sector.specs.Disk.{Image}
use Rattle.vol_inode.specs.declared.entry.Entry.{Entry}
use Rattle.vol_inode.specs.Space.{blocks_for_size, inner_blocks_for, double_blocks_for, need_of}
use Rattle.vol_body.specs.Body.{BlockPosition, data_block, indirect_block, inner_block, double_indirect_block, triple_indirect_block, IsPosition, first_served, named, IsBody, positions_of}

-- ---- the list, in its parts

abbrev pub parts_to : ℕ → List BlockPosition
parts_to count = map data_block (range_with_len 0 count)

abbrev pub indirect_to : ℕ → List BlockPosition
indirect_to count = if nat_lt 58 count then indirect_block ∷ [] else []

abbrev pub inner_to : ℕ → List BlockPosition
inner_to count = map inner_block (range_with_len 0 (inner_blocks_for (count - 186)))

abbrev pub double_to : ℕ → List BlockPosition
double_to count = map double_indirect_block (range_with_len 0 (double_blocks_for (count - 186)))

abbrev pub triple_to : ℕ → List BlockPosition
triple_to count = if nat_lt 16570 count then triple_indirect_block ∷ [] else []

take_it : (a b : ℕ) (x y : List BlockPosition) → a < b → (if nat_lt a b then x else y) ≡ x
take_it a b x y lt = grind (arith, nat_tests)

leave_it : (a b : ℕ) (x y : List BlockPosition) → b ≤ a → (if nat_lt a b then x else y) ≡ y
leave_it a b x y le = grind (arith, nat_tests)

pub long_parts : (count : ℕ) → length (parts_to count) ≡ count
long_parts count = length-map-range_with_len data_block 0 count

-- so many of one kind
all_of_it : (count : ℕ) → length ((((parts_to count ++ indirect_to count) ++ inner_to count) ++ double_to count) ++ triple_to count)
    ≡ count + length (indirect_to count) + inner_blocks_for (count - 186) + double_blocks_for (count - 186) + length (triple_to count)
all_of_it count = omega (
  arith,
  length-append (parts_to count) (indirect_to count),
  length-append (parts_to count ++ indirect_to count) (inner_to count),
  length-append ((parts_to count ++ indirect_to count) ++ inner_to count) (double_to count),
  length-append (((parts_to count ++ indirect_to count) ++ inner_to count) ++ double_to count) (triple_to count),
  long_parts count,
  length-map-range_with_len inner_block 0 (inner_blocks_for (count - 186)),
  length-map-range_with_len double_indirect_block 0 (double_blocks_for (count - 186)),
)

pub length-positions_of : (size : ℕ) → length (positions_of size) ≡ need_of size
length-positions_of size = by_count (blocks_for_size size)
  where
    by_count : (count : ℕ) → length ((((parts_to count ++ indirect_to count) ++ inner_to count) ++ double_to count) ++ triple_to count)
        ≡ (if nat_le count 58 then count else (if nat_le count 186 then count + 1 else (if nat_le count 16570 then count + 2 + inner_blocks_for (count - 186) else count + 2 + inner_blocks_for (count - 186) + double_blocks_for (count - 186))))
    by_count count = all_of_it count ∙ elim (cases_lt 58 count) [
      | inr le ↦
          let none : length (indirect_to count) ≡ 0 = ap length (leave_it 58 count (indirect_block ∷ []) [] le) in
          let nor : length (triple_to count) ≡ 0 = ap length (leave_it 16570 count (triple_indirect_block ∷ []) [] (omega arith)) in
          (omega (arith, none, nor, le)) ∙ sym (first count _ le)
      | inl lt ↦
          let one : length (indirect_to count) ≡ 1 = ap length (take_it 58 count (indirect_block ∷ []) [] lt) in
          elim (cases_lt 186 count) [
            | inr le ↦
                let nor : length (triple_to count) ≡ 0 = ap length (leave_it 16570 count (triple_indirect_block ∷ []) [] (omega arith)) in
                (omega (arith, one, nor, le)) ∙ sym (second count _ _ lt le)
            | inl more ↦ elim (cases_lt 16570 count) [
              | inr le ↦
                  let nor : length (triple_to count) ≡ 0 = ap length (leave_it 16570 count (triple_indirect_block ∷ []) [] le) in
                  (omega (arith, one, nor, more, le)) ∙ sym (third count _ _ _ more le)
              | inl most ↦
                  let two : length (triple_to count) ≡ 1 = ap length (take_it 16570 count (triple_indirect_block ∷ []) [] most) in
                  (omega (arith, one, two)) ∙ sym (fourth count _ _ _ most)
            ]
          ]
    ]
      where
        first : (count y : ℕ) → count ≤ 58 → (if nat_le count 58 then count else y) ≡ count
        first count y le = grind (arith, nat_tests)

        second : (count y z : ℕ) → 58 < count → count ≤ 186 → (if nat_le count 58 then y else (if nat_le count 186 then count + 1 else z)) ≡ count + 1
        second count y z lt le = grind (arith, nat_tests)

        third : (count x z w : ℕ) → 186 < count → count ≤ 16570 → (if nat_le count 58 then count else (if nat_le count 186 then x else (if nat_le count 16570 then z else w))) ≡ z
        third count x z w lt le = grind (arith, nat_tests)

        fourth : (count x z w : ℕ) → 16570 < count → (if nat_le count 58 then count else (if nat_le count 186 then x else (if nat_le count 16570 then z else w))) ≡ w
        fourth count x z w lt = grind (arith, nat_tests)

-- ---- each position that serves a data block of the file is among them

-- a position that serves a data block of the file
serves : (content : Image) (e : Entry) (p : BlockPosition) → IsBody content e → IsPosition p → named content e p ≢ 0 → first_served p < blocks_for_size e.size
serves content e p body there names = elim (cases_lt (first_served p) (blocks_for_size e.size)) [
  | inl lt ↦ lt
  | inr past ↦ absurd (names (body.past p there past))
]

made_there : (make : ℕ → BlockPosition) (n i : ℕ) → i < n → Contains (map make (range_with_len 0 n)) (make i)
made_there make n i lt = (i, omega (arith, lt, length-map-range_with_len make 0 n), get_or-map-range_with_len make 0 n i i (make i) lt (omega arith))

one_there : (p : BlockPosition) → Contains (p ∷ []) p
one_there p = (0, omega arith, refl)

-- a position that serves a data block of a file is among those of a file of the size
pub place_there : (size : ℕ) (p : BlockPosition) → first_served p < blocks_for_size size → Contains (positions_of size) p
place_there size p lt = by_count (blocks_for_size size) p lt
  where
    by_count : (count : ℕ) (p : BlockPosition) → first_served p < count → Contains ((((parts_to count ++ indirect_to count) ++ inner_to count) ++ double_to count) ++ triple_to count) p
    by_count count (data_block j) lt =
        Contains-append_left (((parts_to count ++ indirect_to count) ++ inner_to count) ++ double_to count) (triple_to count) (data_block j)
        (Contains-append_left ((parts_to count ++ indirect_to count) ++ inner_to count) (double_to count) (data_block j)
        (Contains-append_left (parts_to count ++ indirect_to count) (inner_to count) (data_block j)
        (Contains-append_left (parts_to count) (indirect_to count) (data_block j) (made_there data_block count j lt))))
    by_count count indirect_block lt =
        let here : Contains (indirect_to count) indirect_block = subst (λ (l : List BlockPosition). Contains l indirect_block) (sym (take_it 58 count (indirect_block ∷ []) [] lt)) (one_there indirect_block) in
        Contains-append_left (((parts_to count ++ indirect_to count) ++ inner_to count) ++ double_to count) (triple_to count) indirect_block
        (Contains-append_left ((parts_to count ++ indirect_to count) ++ inner_to count) (double_to count) indirect_block
        (Contains-append_left (parts_to count ++ indirect_to count) (inner_to count) indirect_block
        (Contains-append_right (parts_to count) (indirect_to count) indirect_block here)))
    by_count count (inner_block i) lt =
        Contains-append_left (((parts_to count ++ indirect_to count) ++ inner_to count) ++ double_to count) (triple_to count) (inner_block i)
        (Contains-append_left ((parts_to count ++ indirect_to count) ++ inner_to count) (double_to count) (inner_block i)
        (Contains-append_right (parts_to count ++ indirect_to count) (inner_to count) (inner_block i) (made_there inner_block (inner_blocks_for (count - 186)) i (omega (arith, lt)))))
    by_count count (double_indirect_block d) lt =
        Contains-append_left (((parts_to count ++ indirect_to count) ++ inner_to count) ++ double_to count) (triple_to count) (double_indirect_block d)
        (Contains-append_right ((parts_to count ++ indirect_to count) ++ inner_to count) (double_to count) (double_indirect_block d) (made_there double_indirect_block (double_blocks_for (count - 186)) d (omega (arith, lt))))
    by_count count triple_indirect_block lt =
        let here : Contains (triple_to count) triple_indirect_block = subst (λ (l : List BlockPosition). Contains l triple_indirect_block) (sym (take_it 16570 count (triple_indirect_block ∷ []) [] lt)) (one_there triple_indirect_block) in
        Contains-append_right (((parts_to count ++ indirect_to count) ++ inner_to count) ++ double_to count) (triple_to count) triple_indirect_block here

pub place_is_there : (content : Image) (e : Entry) (p : BlockPosition) → IsBody content e → IsPosition p → named content e p ≢ 0 → Contains (positions_of e.size) p
place_is_there content e p body there names = place_there e.size p (serves content e p body there names)
