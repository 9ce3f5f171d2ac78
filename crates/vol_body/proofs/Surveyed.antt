-- The positions of a file in the order of a survey, and what its steps say of them.
use Rattle.std.proofs.Common.{◌≡◌, ◌≢◌, inl, inr, ◌≤◌, ◌<◌, ◌+◌, ◌-◌, ◌*◌, ◌/◌, ◌%◌, ℕ, zero, suc, List, [], ◌∷◌, ◌++◌, length, take, drop, map, get_or, nat_lt, if◌then◌else◌, refl, sym, ◌∙◌, ap, subst, arith}
use Rattle.std.proofs.lemmas.Bool.{cases_eq, cases_lt}
use Rattle.std.proofs.lemmas.Bool.Decides.{nat_tests}
use Rattle.std.proofs.lemmas.List.{length-append, length-drop, take-append-drop, get_or_append_left, get_or-append_right, get_or_default, get_or-drop, ext_get_or, length-map, get_or-map, map-append, length-take-le, get_or-take, get_or-replicate}
use Rattle.std.proofs.lemmas.List.Elements.{Contains-append_left, Contains-append_right, Contains-append_cases, Contains-get_or}
use Rattle.std.proofs.lemmas.List.FromFn.{length-map-range_with_len, get_or-map-range_with_len}
use Rattle.std.specs.List.{range_with_len, flat_map, Contains}
use Rattle.vol_sector.specs.Disk.{Image}
use Rattle.vol_alloc.specs.Numbers.{AreDistinct}
use Rattle.vol_inode.specs.declared.entry.Entry.{Entry}
use Rattle.vol_inode.specs.Entry.{UnusedPointersAreZero}
use Rattle.vol_inode.specs.Space.{blocks_for_size}
use Rattle.vol_body.specs.Body.{BlockPosition, data_block, indirect_block, inner_block, double_indirect_block, triple_indirect_block, IsPosition, named, number_in, block_bytes, byte_at, IsBody}
use Rattle.vol_body.specs.Change.{NamesSector}
use Rattle.vol_body.specs.Survey.{data_blocks_from, inner_positions, double_positions, later_double_positions, every_position, nonzero, sectors_named, AreInside, IsTrimmed}
use Rattle.vol_body.specs.internal.Surveying.{listed, with_listed, all_listed, with_all_listed, all_with_all_listed, ListsNoneFrom, LaterNone, TripleNone, NamesNonePast, NamesBelow, EndsInZeros}
use Rattle.vol_body.proofs.Places.{part_direct, part_listed, part_later, inner_in}
use Rattle.vol_body.proofs.SurveyExits.{nonzero-append, one_number, number_listed, length-listed}
use Rattle.vol_inode.specs.declared.version.TheConstants.{LARGEST_SIZE}

-- ---- every position stands in the list

in_parts : (first count j : ℕ) → first ≤ j → j < first + count → Contains (data_blocks_from first count) (data_block j)
unfolding data_blocks_from
in_parts first count j le lt = (
  j - first,
  omega (arith, le, lt, length-map-range_with_len data_block first count),
  get_or-map-range_with_len data_block first count (j - first) j (data_block j) (omega (arith, le, lt)) (omega (arith, le)),
)

in_flat : (f : ℕ → List BlockPosition) (a n i : ℕ) (p : BlockPosition) → a ≤ i → i < a + n → Contains (f i) p → Contains (flat_map f (range_with_len a n)) p
in_flat f a zero i p le lt has = absurd (omega (arith, le, lt))
in_flat f a (suc n) i p le lt has = elim (cases_eq a i) [
  | inl same ↦ Contains-append_left (f a) (flat_map f (range_with_len (a + 1) n)) p (subst (λ (k : ℕ). Contains (f k) p) (sym same) has)
  | inr other ↦ Contains-append_right (f a) (flat_map f (range_with_len (a + 1) n)) p (in_flat f (a + 1) n i p (omega (arith, le, other)) (omega (arith, lt)) has)
]

in_double : (d i : ℕ) (p : BlockPosition) → 128 * d ≤ i → i < 128 * d + 128 → Contains (inner_positions i) p → Contains (double_positions d) p
unfolding double_positions
in_double d i p le lt has = Contains-append_right (double_indirect_block d ∷ []) (flat_map inner_positions (range_with_len (128 * d) 128)) p (in_flat inner_positions (128 * d) 128 i p le lt has)

double_there : (d : ℕ) → Contains (double_positions d) (double_indirect_block d)
unfolding double_positions
double_there d = (0, omega arith, refl)

first_two : List BlockPosition
first_two = data_blocks_from 0 58 ++ (indirect_block ∷ data_blocks_from 58 128)

in_first_two : (p : BlockPosition) → Contains first_two p → Contains every_position p
unfolding first_two
in_first_two p has = Contains-append_left (first_two ++ double_positions 0) (triple_indirect_block ∷ later_double_positions) p (Contains-append_left first_two (double_positions 0) p has)

in_doubles : (d : ℕ) (p : BlockPosition) → d < 129 → Contains (double_positions d) p → Contains every_position p
unfolding first_two later_double_positions
in_doubles d p lt has = elim (cases_eq d 0) [
  | inl none ↦ Contains-append_left (first_two ++ double_positions 0) (triple_indirect_block ∷ later_double_positions) p (Contains-append_right first_two (double_positions 0) p (subst (λ (k : ℕ). Contains (double_positions k) p) none has))
  | inr some ↦ Contains-append_right (first_two ++ double_positions 0) (triple_indirect_block ∷ later_double_positions) p
      (Contains-append_right (triple_indirect_block ∷ []) later_double_positions p (in_flat double_positions 1 128 d p (omega (arith, some)) (omega (arith, lt)) has))
]

in_inner : (i : ℕ) (p : BlockPosition) → i < 16512 → Contains (inner_positions i) p → Contains every_position p
in_inner i p lt has = in_doubles (i / 128) p (omega (arith, lt)) (in_double (i / 128) i p (omega arith) (omega arith) has)

pub in_every : (p : BlockPosition) → IsPosition p → Contains every_position p
unfolding first_two
in_every (data_block j) there = elim (cases_lt j 58) [
  | inl lt ↦ in_first_two (data_block j) (Contains-append_left (data_blocks_from 0 58) (indirect_block ∷ data_blocks_from 58 128) (data_block j) (in_parts 0 58 j (omega arith) lt))
  | inr le ↦ elim (cases_lt j 186) [
    | inl below ↦ in_first_two (data_block j) (Contains-append_right (data_blocks_from 0 58) (indirect_block ∷ data_blocks_from 58 128) (data_block j) (Contains-append_right (indirect_block ∷ []) (data_blocks_from 58 128) (data_block j) (in_parts 58 128 j le (omega (arith, below)))))
    | inr past ↦
        let i = (j - 186) / 128 in
        in_inner i (data_block j) (omega (arith, there)) (Contains-append_right (inner_block i ∷ []) (data_blocks_from (186 + 128 * i) 128) (data_block j) (in_parts (186 + 128 * i) 128 j (omega (arith, past)) (omega (arith, past))))
  ]
]
in_every indirect_block there = in_first_two indirect_block (Contains-append_right (data_blocks_from 0 58) (indirect_block ∷ data_blocks_from 58 128) indirect_block (0, omega arith, refl))
in_every (inner_block i) there = in_inner i (inner_block i) there (0, omega arith, refl)
in_every (double_indirect_block d) there = in_doubles d (double_indirect_block d) there (double_there d)
in_every triple_indirect_block there = Contains-append_right (first_two ++ double_positions 0) (triple_indirect_block ∷ later_double_positions) triple_indirect_block (0, omega arith, refl)

pub in_map : (g : BlockPosition → ℕ) (xs : List BlockPosition) (p : BlockPosition) → Contains xs p → Contains (map g xs) (g p)
in_map g xs p has = (has.0, omega (arith, has.1, length-map xs g), get_or-map g xs has.0 p (g p) has.1 ∙ ap g has.2)

only : (x n k : ℕ) → k < 1 → get_or (x ∷ []) k n ≡ n → x ≡ n
only x n zero lt is = is
only x n (suc k) lt is = absurd (omega (arith, lt))

pub in_nonzero : (xs : List ℕ) (n : ℕ) → n ≢ 0 → Contains xs n → Contains (nonzero xs) n
in_nonzero [] n some has = absurd (omega (arith, has.1))
in_nonzero (x ∷ xs) n some has = subst (λ (l : List ℕ). Contains l n) (sym (nonzero-append (x ∷ []) xs)) (elim (Contains-append_cases (x ∷ []) xs n has) [
  | inl one ↦
      let same : x ≡ n = only x n one.0 one.1 one.2 in
      Contains-append_left (nonzero (x ∷ [])) (nonzero xs) n (subst (λ (l : List ℕ). Contains l n) (sym (one_number x (λ none. some (sym same ∙ none)))) (0, omega arith, same))
  | inr rest ↦ Contains-append_right (nonzero (x ∷ [])) (nonzero xs) n (in_nonzero xs n some rest)
])

pub named_stands : (content : Image) (e : Entry) (p : BlockPosition) → IsPosition p → named content e p ≢ 0 → Contains (sectors_named content e) (named content e p)
named_stands content e p there some = in_nonzero (map (named content e) every_position) (named content e p) some (in_map (named content e) every_position p (in_every p there))

pub names_below : (content : Image) (e : Entry) (first end : ℕ) (a : List ℕ) → AreInside first end (a ++ sectors_named content e) → NamesBelow content e end
names_below content e first end a all p there some =
    let both = all.inside (named content e p) (Contains-append_right a (sectors_named content e) (named content e p) (named_stands content e p there some)) in
    both.1

-- ---- the numbers at these positions are those that the steps push

at_parts : (g : BlockPosition → ℕ) (first count : ℕ) (numbers : List ℕ) → length numbers ≡ count → ((i : ℕ) → i < count → get_or numbers i 0 ≡ g (data_block (first + i))) → map g (data_blocks_from first count) ≡ numbers
unfolding data_blocks_from
at_parts g first count numbers long same =
    let parts = map data_block (range_with_len first count) in
    let many : length parts ≡ count = length-map-range_with_len data_block first count in
    ext_get_or 0 (map g parts) numbers (length-map parts g ∙ many ∙ sym long) (λ i lt.
    let within : i < count = omega (arith, lt, length-map parts g, many) in
    get_or-map g parts i indirect_block 0 (omega (arith, within, many)) ∙ ap g (get_or-map-range_with_len data_block first count i (first + i) indirect_block within (omega arith)) ∙ sym (same i within))

at_flat : (g : BlockPosition → ℕ) (f : ℕ → List BlockPosition) (h : ℕ → List ℕ) (k : ℕ → ℕ) (a n : ℕ) → ((i : ℕ) → a ≤ i → i < a + n → map g (f i) ≡ h (k i)) → map g (flat_map f (range_with_len a n)) ≡ flat_map h (map k (range_with_len a n))
at_flat g f h k a zero same = refl
at_flat g f h k a (suc n) same =
    let one = same a (omega arith) (omega arith) in
    let rest = at_flat g f h k (a + 1) n (λ i le lt. same i (omega (arith, le)) (omega (arith, lt))) in
    map-append g (f a) (flat_map f (range_with_len (a + 1) n)) ∙ (λ i. one i ++ rest i)

at_list : (content : Image) (e : Entry) → map (named content e) (data_blocks_from 58 128) ≡ listed content (named content e indirect_block)
at_list content e = at_parts (named content e) 58 128 (listed content (named content e indirect_block)) (length-listed content (named content e indirect_block)) (λ i lt.
    let same : 58 + i - 58 ≡ i = omega arith in
    number_listed content (named content e indirect_block) i lt ∙ sym (part_listed content e (58 + i) (omega arith) (omega (arith, lt)) ∙ ap (number_in content (named content e indirect_block)) same))

-- the number of a data block that an inner block has
pub later_part : (content : Image) (e : Entry) (q i : ℕ) → i < 128 → named content e (data_block (186 + 128 * q + i)) ≡ number_in content (named content e (inner_block q)) i
later_part content e q i lt =
    let j = 186 + 128 * q + i in
    let which : (j - 186) / 128 ≡ q = omega (arith, lt) in
    let place : (j - 186) % 128 ≡ i = omega (arith, lt) in
    part_later content e j (omega arith) ∙ ap (λ (k : ℕ). number_in content (named content e (inner_block k)) ((j - 186) % 128)) which ∙ ap (number_in content (named content e (inner_block q))) place

at_later : (content : Image) (e : Entry) (q : ℕ) → map (named content e) (inner_positions q) ≡ with_listed content (named content e (inner_block q))
at_later content e q =
    let n = named content e (inner_block q) in
    ap (λ (l : List ℕ). n ∷ l) (at_parts (named content e) (186 + 128 * q) 128 (listed content n) (length-listed content n) (λ i lt. number_listed content n i lt ∙ sym (later_part content e q i lt)))

inner_listed : (content : Image) (e : Entry) (d : ℕ) → map (λ (i : ℕ). named content e (inner_block i)) (range_with_len (128 * d) 128) ≡ listed content (named content e (double_indirect_block d))
inner_listed content e d =
    let g = λ (i : ℕ). named content e (inner_block i) in
    let n = named content e (double_indirect_block d) in
    let long = length-map-range_with_len g (128 * d) 128 in
    ext_get_or 0 (map g (range_with_len (128 * d) 128)) (listed content n) (long ∙ sym (length-listed content n)) (λ r lt.
    let within : r < 128 = omega (arith, lt, long) in
    get_or-map-range_with_len g (128 * d) 128 r (128 * d + r) 0 within (omega arith) ∙ inner_in content e d r within ∙ sym (number_listed content n r within))

at_double : (content : Image) (e : Entry) (d : ℕ) → map (named content e) (double_positions d) ≡ with_all_listed content (named content e (double_indirect_block d))
unfolding double_positions
at_double content e d =
    let n = named content e (double_indirect_block d) in
    ap (λ (l : List ℕ). n ∷ l) (at_flat (named content e) inner_positions (with_listed content) (λ (i : ℕ). named content e (inner_block i)) (128 * d) 128 (λ i le lt. at_later content e i) ∙ ap (all_listed content) (inner_listed content e d))

-- the number of a double-indirect block that the triple-indirect block has
double_in : (content : Image) (e : Entry) (m : ℕ) → named content e (double_indirect_block (1 + m)) ≡ number_in content (named content e triple_indirect_block) m
double_in content e m = let is : 1 + m ≡ suc m = omega arith in ap (λ (k : ℕ). named content e (double_indirect_block k)) is

double_listed : (content : Image) (e : Entry) → map (λ (d : ℕ). named content e (double_indirect_block d)) (range_with_len 1 128) ≡ listed content (named content e triple_indirect_block)
double_listed content e =
    let g = λ (d : ℕ). named content e (double_indirect_block d) in
    let n = named content e triple_indirect_block in
    let long = length-map-range_with_len g 1 128 in
    ext_get_or 0 (map g (range_with_len 1 128)) (listed content n) (long ∙ sym (length-listed content n)) (λ m lt.
    let within : m < 128 = omega (arith, lt, long) in
    get_or-map-range_with_len g 1 128 m (1 + m) 0 within (omega arith) ∙ double_in content e m ∙ sym (number_listed content n m within))

at_later_doubles : (content : Image) (e : Entry) → map (named content e) later_double_positions ≡ all_with_all_listed content (listed content (named content e triple_indirect_block))
unfolding later_double_positions
at_later_doubles content e = at_flat (named content e) double_positions (with_all_listed content) (λ (d : ℕ). named content e (double_indirect_block d)) 1 128 (λ d le lt. at_double content e d) ∙ ap (all_with_all_listed content) (double_listed content e)

at_direct : (content : Image) (e : Entry) → length e.pointers ≡ 61 → map (named content e) (data_blocks_from 0 58) ≡ take 58 e.pointers
at_direct content e long = at_parts (named content e) 0 58 (take 58 e.pointers) (length-take-le 58 e.pointers (omega (arith, long))) (λ i lt.
    let same : i ≡ 0 + i = omega arith in
    get_or-take 58 e.pointers i 0 lt ∙ sym (part_direct content e i lt) ∙ ap (λ (j : ℕ). named content e (data_block j)) same)

pub at_every : (content : Image) (e : Entry) → length e.pointers ≡ 61
    → ((take 58 e.pointers ++ with_listed content (named content e indirect_block)) ++ with_all_listed content (named content e (double_indirect_block 0)))
    ++ (named content e triple_indirect_block ∷ all_with_all_listed content (listed content (named content e triple_indirect_block))) ≡ map (named content e) every_position
unfolding first_two
at_every content e long =
    let g = named content e in
    let a = sym (at_direct content e long) in
    let b = sym (at_list content e) in
    let c = sym (at_double content e 0) in
    let d = sym (at_later_doubles content e) in
    (λ i. ((a i ++ (g indirect_block ∷ b i)) ++ c i) ++ (g triple_indirect_block ∷ d i))
    ∙ sym (map-append g (first_two ++ double_positions 0) (triple_indirect_block ∷ later_double_positions)
    ∙ ap (λ (l : List ℕ). l ++ map g (triple_indirect_block ∷ later_double_positions)) (map-append g first_two (double_positions 0)
    ∙ ap (λ (l : List ℕ). l ++ map g (double_positions 0)) (map-append g (data_blocks_from 0 58) (indirect_block ∷ data_blocks_from 58 128))))

-- ---- no number stands for a data block at or past the size

serves_first : (k : ℕ) → k < 59 → (if nat_lt k 59 then k else (if nat_lt k 60 then 186 else 16570)) ≡ k
serves_first k lt = grind (arith, nat_tests)

module _ (content : Image) (e : Entry) where
  -- each double-indirect block names none past the size
  doubles_none : LaterNone content (named content e (double_indirect_block 0)) 186 (blocks_for_size e.size) → TripleNone content (named content e triple_indirect_block) (blocks_for_size e.size)
      → (d : ℕ) → d < 129 → LaterNone content (named content e (double_indirect_block d)) (186 + 16384 * d) (blocks_for_size e.size)
  doubles_none first rest zero lt = first
  doubles_none first rest (suc m) lt =
      let start : 16570 + 16384 * m ≡ 186 + 16384 * suc m = omega arith in
      subst (λ (k : ℕ). LaterNone content (named content e (double_indirect_block (suc m))) k (blocks_for_size e.size)) start
      (subst (λ (n : ℕ). LaterNone content n (16570 + 16384 * m) (blocks_for_size e.size)) (number_listed content (named content e triple_indirect_block) m (omega (arith, lt))) (rest.doubles m (omega (arith, lt))))

  pub none_past : UnusedPointersAreZero e → ListsNoneFrom content (named content e indirect_block) (blocks_for_size e.size - 58) → LaterNone content (named content e (double_indirect_block 0)) 186 (blocks_for_size e.size)
      → TripleNone content (named content e triple_indirect_block) (blocks_for_size e.size) → NamesNonePast content e
  none_past pointers own first rest (data_block j) there le = elim (cases_lt j 58) [
    | inl lt ↦ part_direct content e j lt ∙ pointers j (omega (arith, lt)) (subst (λ (k : ℕ). blocks_for_size e.size ≤ k) (sym (serves_first j (omega (arith, lt)))) le)
    | inr past ↦ elim (cases_lt j 186) [
      | inl lt ↦ part_listed content e j past lt ∙ own (j - 58) (omega (arith, le)) (omega (arith, lt))
      | inr later ↦
          let q = (j - 186) / 128 in
          let i = (j - 186) % 128 in
          let d = q / 128 in
          let r = q % 128 in
          let below : d < 129 = omega (arith, there) in
          part_later content e j later ∙ ap (λ (n : ℕ). number_in content n i) (sym (number_listed content (named content e (double_indirect_block d)) r (omega arith)))
          ∙ (doubles_none first rest d below).later r (omega arith) i (omega (arith, le, later)) (omega arith)
    ]
  ]
  none_past pointers own first rest indirect_block there le = pointers 58 (omega arith) le
  none_past pointers own first rest (inner_block i) there le = (doubles_none first rest (i / 128) (omega (arith, there))).own (i % 128) (omega (arith, le)) (omega arith)
  none_past pointers own first rest (double_indirect_block zero) there le = pointers 59 (omega arith) (omega (arith, le))
  none_past pointers own first rest (double_indirect_block (suc m)) there le = rest.own m (omega (arith, le)) (omega (arith, there))
  none_past pointers own first rest triple_indirect_block there le = pointers 60 (omega arith) le

  pub past_list : NamesNonePast content e → ListsNoneFrom content (named content e indirect_block) (blocks_for_size e.size - 58)
  past_list past i le lt =
      let same : i ≡ 58 + i - 58 = omega arith in
      ap (number_in content (named content e indirect_block)) same ∙ sym (part_listed content e (58 + i) (omega arith) (omega (arith, lt))) ∙ past (data_block (58 + i)) (omega (arith, lt)) (omega (arith, le))

  past_double : NamesNonePast content e → (d : ℕ) → d < 129 → LaterNone content (named content e (double_indirect_block d)) (186 + 16384 * d) (blocks_for_size e.size)
  past_double past d there = record {
    own = λ r le lt. sym (inner_in content e d r lt) ∙ past (inner_block (128 * d + r)) (omega (arith, there, lt)) (omega (arith, le));
    later = λ r below i le lt.
        let q = 128 * d + r in
        ap (λ (n : ℕ). number_in content n i) (number_listed content (named content e (double_indirect_block d)) r below ∙ sym (inner_in content e d r below))
        ∙ sym (later_part content e q i lt) ∙ past (data_block (186 + 128 * q + i)) (omega (arith, there, below, lt)) (omega (arith, le));
  }

  pub past_later : NamesNonePast content e → LaterNone content (named content e (double_indirect_block 0)) 186 (blocks_for_size e.size)
  past_later past = past_double past 0 (omega arith)

  pub past_triple : NamesNonePast content e → TripleNone content (named content e triple_indirect_block) (blocks_for_size e.size)
  past_triple past = record {
    own = λ m le lt. past (double_indirect_block (suc m)) (omega (arith, lt)) (omega (arith, le));
    doubles = λ m lt.
        let start : 186 + 16384 * suc m ≡ 16570 + 16384 * m = omega arith in
        subst (λ (n : ℕ). LaterNone content n (16570 + 16384 * m) (blocks_for_size e.size)) (sym (number_listed content (named content e triple_indirect_block) m lt))
        (subst (λ (k : ℕ). LaterNone content (named content e (double_indirect_block (suc m))) k (blocks_for_size e.size)) start (past_double past (suc m) (omega (arith, lt))));
  }

-- ---- the bytes past the size

pub zeros_past : (content : Image) (e : Entry) → NamesNonePast content e → EndsInZeros content e → (k : ℕ) → e.size ≤ k → k < LARGEST_SIZE → byte_at content e k ≡ 0
zeros_past content e past ends k le lt = elim (cases_lt (k / 512) (blocks_for_size e.size)) [
  | inl last ↦
      let same : k / 512 ≡ e.size / 512 = omega (arith, le, last) in
      ap (λ (j : ℕ). get_or (block_bytes content (named content e (data_block j))) (k % 512) 0) same ∙ ends (k % 512) (omega (arith, le, last)) (omega (arith, le, last)) (omega arith)
  | inr beyond ↦ ap (λ (n : ℕ). get_or (block_bytes content n) (k % 512) 0) (past (data_block (k / 512)) (omega (arith, lt)) beyond) ∙ get_or-replicate 512 (k % 512) 0 0 (omega arith)
]

pub ends_trimmed : (content : Image) (e : Entry) → e.size ≤ LARGEST_SIZE → IsTrimmed content e → EndsInZeros content e
ends_trimmed content e small trimmed k some le lt =
    let at = 512 * (e.size / 512) + k in
    let same : e.size / 512 ≡ at / 512 = omega (arith, lt) in
    let place : k ≡ at % 512 = omega (arith, lt) in
    ap (λ (j : ℕ). get_or (block_bytes content (named content e (data_block j))) k 0) same ∙ ap (λ (i : ℕ). get_or (block_bytes content (named content e (data_block (at / 512)))) i 0) place
    ∙ trimmed.zeros at (omega (arith, le)) (omega (arith, small, some, lt))

-- ---- each number of a survey is named at some position

flat_are : (f : ℕ → List BlockPosition) (a n m : ℕ) → a + n ≤ m → ((i : ℕ) → i < m → (p : BlockPosition) → Contains (f i) p → IsPosition p) → (p : BlockPosition) → Contains (flat_map f (range_with_len a n)) p → IsPosition p
flat_are f a zero m le each p has = absurd (omega (arith, has.1))
flat_are f a (suc n) m le each p has = elim (Contains-append_cases (f a) (flat_map f (range_with_len (a + 1) n)) p has) [
  | inl one ↦ each a (omega (arith, le)) p one
  | inr rest ↦ flat_are f (a + 1) n m (omega (arith, le)) each p rest
]

parts_are : (first count : ℕ) → first + count ≤ 2113722 → (p : BlockPosition) → Contains (data_blocks_from first count) p → IsPosition p
unfolding data_blocks_from
parts_are first count le p has =
    let many : has.0 < count = omega (arith, has.1, length-map-range_with_len data_block first count) in
    subst IsPosition (sym (get_or-map-range_with_len data_block first count has.0 (first + has.0) p many (omega arith)) ∙ has.2) (omega (arith, le, many))

head_or : (x p : BlockPosition) (xs : List BlockPosition) → IsPosition x → ((q : BlockPosition) → Contains xs q → IsPosition q) → Contains (x ∷ xs) p → IsPosition p
head_or x p xs there rest has = elim (Contains-append_cases (x ∷ []) xs p has) [
  | inl one ↦ subst IsPosition (sole x p one.0 one.1 one.2) there
  | inr later ↦ rest p later
]
  where
    sole : (x p : BlockPosition) (k : ℕ) → k < 1 → get_or (x ∷ []) k p ≡ p → x ≡ p
    sole x p zero lt is = is
    sole x p (suc k) lt is = absurd (omega (arith, lt))

double_are : (d : ℕ) → d < 129 → (p : BlockPosition) → Contains (double_positions d) p → IsPosition p
unfolding double_positions
double_are d below p has = head_or (double_indirect_block d) p (flat_map inner_positions (range_with_len (128 * d) 128)) below
    (λ q stands. flat_are inner_positions (128 * d) 128 16512 (omega (arith, below)) (λ i lt r here. head_or (inner_block i) r (data_blocks_from (186 + 128 * i) 128) lt (parts_are (186 + 128 * i) 128 (omega (arith, lt))) here) q stands) has

later_are : (p : BlockPosition) → Contains later_double_positions p → IsPosition p
unfolding later_double_positions
later_are p has = flat_are double_positions 1 128 129 (omega arith) double_are p has

pub every_is : (p : BlockPosition) → Contains every_position p → IsPosition p
unfolding first_two
every_is p has = elim (Contains-append_cases (first_two ++ double_positions 0) (triple_indirect_block ∷ later_double_positions) p has) [
  | inl front ↦ elim (Contains-append_cases first_two (double_positions 0) p front) [
    | inl both ↦ elim (Contains-append_cases (data_blocks_from 0 58) (indirect_block ∷ data_blocks_from 58 128) p both) [
      | inl direct ↦ parts_are 0 58 (omega arith) p direct
      | inr next ↦ head_or indirect_block p (data_blocks_from 58 128) tt (parts_are 58 128 (omega arith)) next
    ]
    | inr double ↦ double_are 0 (omega arith) p double
  ]
  | inr later ↦ head_or triple_indirect_block p later_double_positions tt later_are later
]

-- what is left of numbers stood among them, and isn't 0
pub was_there : (xs : List ℕ) (n : ℕ) → Contains (nonzero xs) n → Contains xs n × (n ≢ 0)
was_there [] n has = absurd (omega (arith, has.1))
was_there (x ∷ xs) n has = elim (Contains-append_cases (nonzero (x ∷ [])) (nonzero xs) n (subst (λ (l : List ℕ). Contains l n) (nonzero-append (x ∷ []) xs) has)) [
  | inl one ↦ elim (cases_eq x 0) [
    | inl none ↦ absurd (nothing x none n one)
    | inr some ↦
        let this = subst (λ (l : List ℕ). Contains l n) (one_number x some) one in
        let same : x ≡ n = only x n this.0 this.1 this.2 in
        ((0, omega arith, same), λ none. some (same ∙ none))
  ]
  | inr rest ↦
      let both = was_there xs n rest in
      (Contains-append_right (x ∷ []) xs n both.0, both.1)
]
  where
    nothing : (x : ℕ) → x ≡ 0 → (n : ℕ) → Contains (nonzero (x ∷ [])) n → ⊥
    nothing x none n has =
        let at_zero : Contains (nonzero (0 ∷ [])) n = subst (λ (y : ℕ). Contains (nonzero (y ∷ [])) n) none has in
        omega (arith, at_zero.1)

pub stands_named : (content : Image) (e : Entry) (n : ℕ) → Contains (sectors_named content e) n → NamesSector content e n
stands_named content e n has =
    let g = named content e in
    let there = was_there (map g every_position) n has in
    let at = there.0 in
    let k = at.0 in
    let below : k < length every_position = omega (arith, at.1, length-map every_position g) in
    let p = get_or every_position k indirect_block in
    record {
      some = there.1;
      position = (p, every_is p (Contains-get_or every_position k indirect_block below), sym (get_or-map g every_position k indirect_block n below) ∙ at.2);
    }

-- ---- where no number stands twice, no two positions name the same sector

pub not_in_both : (xs ys : List ℕ) (n : ℕ) → AreDistinct (xs ++ ys) → Contains xs n → Contains ys n → ⊥
not_in_both xs ys n distinct left right =
    let j = left.0 in
    let i = right.0 in
    let long = length-append xs ys in
    let k = length xs + i in
    let place : k - length xs ≡ i = omega arith in
    let first : get_or (xs ++ ys) j 0 ≡ n = get_or_append_left xs ys 0 j left.1 ∙ get_or_default xs j 0 n left.1 ∙ left.2 in
    let second : get_or (xs ++ ys) k 0 ≡ n = get_or-append_right xs ys (length xs) k 0 refl (omega arith) ∙ ap (λ (m : ℕ). get_or ys m 0) place ∙ get_or_default ys i 0 n right.1 ∙ right.2 in
    distinct j k (omega (arith, left.1)) (omega (arith, right.1, long)) (first ∙ sym second)

not_twice : (xs : List ℕ) (n i k : ℕ) → AreDistinct (nonzero xs) → n ≢ 0 → i < k → k < length xs → get_or xs i n ≡ n → get_or xs k n ≡ n → ⊥
not_twice xs n i k distinct some lt below first second =
    let front = take (i + 1) xs in
    let back = drop (i + 1) xs in
    let short : length front ≡ i + 1 = length-take-le (i + 1) xs (omega (arith, lt, below)) in
    let place : i + 1 + (k - (i + 1)) ≡ k = omega (arith, lt) in
    let apart : AreDistinct (nonzero front ++ nonzero back) = subst AreDistinct (ap nonzero (sym (take-append-drop (i + 1) xs)) ∙ nonzero-append front back) distinct in
    not_in_both (nonzero front) (nonzero back) n apart
    (in_nonzero front n some (i, omega (arith, short), get_or-take (i + 1) xs i n (omega arith) ∙ first))
    (in_nonzero back n some (k - (i + 1), omega (arith, lt, below, length-drop (i + 1) xs), get_or-drop (i + 1) xs (k - (i + 1)) n ∙ ap (λ (m : ℕ). get_or xs m n) place ∙ second))

one_place : (content : Image) (e : Entry) → AreDistinct (sectors_named content e) → (p q : BlockPosition) → IsPosition p → IsPosition q → named content e p ≢ 0 → named content e p ≡ named content e q → p ≡ q
one_place content e distinct p q there_p there_q some same =
    let g = named content e in
    let n = g p in
    let at_p = in_every p there_p in
    let at_q = in_every q there_q in
    let numbers = map g every_position in
    let i = at_p.0 in
    let k = at_q.0 in
    let long = length-map every_position g in
    let first : get_or numbers i n ≡ n = get_or-map g every_position i p n at_p.1 ∙ ap g at_p.2 in
    let second : get_or numbers k n ≡ n = get_or-map g every_position k q n at_q.1 ∙ ap g at_q.2 ∙ sym same in
    elim (cases_lt i k) [
      | inl lt ↦ absurd (not_twice numbers n i k distinct some lt (omega (arith, at_q.1, long)) first second)
      | inr le ↦ elim (cases_lt k i) [
        | inl lt ↦ absurd (not_twice numbers n k i distinct some lt (omega (arith, at_p.1, long)) second first)
        | inr ge ↦
            let one : i ≡ k = omega (arith, le, ge) in
            sym at_p.2 ∙ get_or_default every_position i p q at_p.1 ∙ ap (λ (m : ℕ). get_or every_position m q) one ∙ at_q.2
      ]
    ]

pub keeps_rules : (content : Image) (e : Entry) → AreDistinct (sectors_named content e) → IsTrimmed content e → IsBody content e
keeps_rules content e distinct trimmed = record { distinct = one_place content e distinct; past = trimmed.past; zeros = trimmed.zeros }
