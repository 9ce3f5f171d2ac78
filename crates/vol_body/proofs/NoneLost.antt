-- Where a file takes free sectors and frees those that it no longer names, no free sector is lost.
use Rattle.std.proofs.Common.{◌≡◌, ◌≢◌, ◌⊎◌, inl, inr, ⊎_elim, ◌≤◌, ◌<◌, ◌+◌, ◌-◌, ◌==◌, ℕ, zero, suc, Bool, true, false, not, cond, nat_lt, if◌then◌else◌, List, [], ◌∷◌, ◌++◌, length, map, get_or, set, refl, sym, ◌∙◌, ap, subst, arith}
use Rattle.std.specs.Prelude.{count_by}
use Rattle.std.specs.List.{Contains, range_with_len}
use Rattle.std.proofs.lemmas.Bool.{cases_lt, cases_eq, cases_Bool, false≢true, both_ways}
use Rattle.std.proofs.lemmas.Bool.Decides.{nat_tests}
use Rattle.std.proofs.lemmas.List.{length-map, length-append, get_or-map, get_or_default, length-set, get_or-set_other, get_or-set_same}
use Rattle.std.proofs.lemmas.List.Elements.{All-contains}
use Rattle.std.proofs.lemmas.List.Sums.{sum_by-cons, length-filter}
use Rattle.vol_sector.specs.Disk.{Image}
use Rattle.vol_alloc.specs.Numbers.{AreDistinct}
use Rattle.vol_alloc.specs.Alloc.{first_of, end_of, taken_of}
use Rattle.vol_alloc.specs.declared.sectors.Alloc.{Alloc}
use Rattle.vol_alloc.proofs.Free.{flag_there, taken_there, cleared}
use Rattle.vol_inode.specs.declared.entry.Entry.{Entry}
use Rattle.vol_inode.specs.declared.version.TheConstants.{LARGEST_SIZE}
use Rattle.vol_inode.specs.Space.{blocks_for_size, inner_blocks_for, double_blocks_for}
use Rattle.vol_body.specs.Body.{BlockPosition, data_block, indirect_block, inner_block, double_indirect_block, triple_indirect_block, IsPosition, named, positions_of, IsBody, NamesTaken, NamesOthers}
use Rattle.vol_body.specs.Change.{NamesSector, TakesAndGives, LosesNoSector, used_of}
use Rattle.vol_body.specs.Survey.{nonzero}
use Rattle.vol_body.proofs.Needed.{parts_to, indirect_to, inner_to, double_to, triple_to, long_parts, place_is_there}
use Rattle.vol_body.proofs.Repeats.{Numbered, numbered_append, numbered_made, numbered_one, names_distinct}
use Rattle.vol_body.proofs.Space.{are_places}
use Rattle.vol_body.proofs.Surveyed.{in_nonzero, in_map, was_there}

-- ---- flags, of which those of some numbers are cleared

clear : ℕ → List ℕ → List Bool → List Bool
clear first [] flags = flags
clear first (n ∷ ns) flags = set (clear first ns flags) (n - first) false

length-clear : (first : ℕ) (ns : List ℕ) (flags : List Bool) → length (clear first ns flags) ≡ length flags
unfolding clear
length-clear first [] flags = refl
length-clear first (n ∷ ns) flags = length-set (clear first ns flags) (n - first) false ∙ length-clear first ns flags

-- an element of a list's rest is one of the list
of_rest : (n m : ℕ) (ns : List ℕ) → Contains ns m → Contains (n ∷ ns) m
of_rest n m ns (k, lt, is) = (suc k, omega arith, is)

of_others : (n m : ℕ) (ns : List ℕ) → Contains (n ∷ ns) m → m ≢ n → Contains ns m
of_others n m ns (zero, lt, is) differ = absurd (differ (sym is))
of_others n m ns (suc k, lt, is) differ = (k, omega arith, is)

-- the flag of none of these numbers stays
stays_set : (first : ℕ) (ns : List ℕ) (flags : List Bool) (i : ℕ) → get_or flags i false ≡ true → ((n : ℕ) → Contains ns n → n - first ≢ i) → get_or (clear first ns flags) i false ≡ true
unfolding clear
stays_set first [] flags i is apart = is
stays_set first (n ∷ ns) flags i is apart =
    get_or-set_other (clear first ns flags) (n - first) i false false (λ same. apart n (0, omega arith, refl) (sym same))
    ∙ stays_set first ns flags i is (λ m has. apart m (of_rest n m ns has))

rest_distinct : (n : ℕ) (ns : List ℕ) → AreDistinct (n ∷ ns) → AreDistinct ns
rest_distinct n ns distinct j k lt below = distinct (suc j) (suc k) (omega (arith, lt)) (omega (arith, below))

not_in_rest : (n : ℕ) (ns : List ℕ) → AreDistinct (n ∷ ns) → Contains ns n → ⊥
not_in_rest n ns distinct (k, lt, is) = distinct zero (suc k) (omega arith) (omega (arith, lt)) (sym (get_or_default ns k 0 n lt ∙ is))

-- of so many distinct numbers the flags were set
count_clear : (first : ℕ) (ns : List ℕ) (flags : List Bool) → AreDistinct ns → ((n : ℕ) → Contains ns n → (first ≤ n) × (get_or flags (n - first) false ≡ true)) → count_by not (clear first ns flags) ≡ count_by not flags + length ns
unfolding clear
count_clear first [] flags distinct are = omega arith
count_clear first (n ∷ ns) flags distinct are =
    let rest = count_clear first ns flags (rest_distinct n ns distinct) (λ m has. are m (of_rest n m ns has)) in
    let here = are n (0, omega arith, refl) in
    let still = stays_set first ns flags (n - first) here.1 (λ m has same.
    let equal : m ≡ n = omega (arith, same, here.0, (are m (of_rest n m ns has)).0) in
    not_in_rest n ns distinct (subst (Contains ns) equal has)) in
    omega (arith, rest, cleared (clear first ns flags) (n - first) false (flag_there (clear first ns flags) (n - first) still) still)

-- where no flags are set but those that were, no fewer are clear
count_fewer : (old flags : List Bool) → length flags ≡ length old → ((i : ℕ) → get_or flags i false ≡ true → get_or old i false ≡ true) → count_by not old ≤ count_by not flags
count_fewer [] flags long all = omega arith
count_fewer (b ∷ old) [] long all = absurd (omega (arith, long))
count_fewer (b ∷ old) (c ∷ flags) long all =
    let rest = count_fewer old flags (omega (arith, long)) (λ i is. all (suc i) is) in
    let here : cond {A = ℕ} (not b) 1 0 ≤ cond {A = ℕ} (not c) 1 0 = one_or_none b c (all 0) in
    omega (arith, rest, here, sum_by-cons (λ (x : Bool). cond {A = ℕ} (not x) 1 0) b old, sum_by-cons (λ (x : Bool). cond {A = ℕ} (not x) 1 0) c flags)
  where
    one_or_none : (b c : Bool) → (c ≡ true → b ≡ true) → cond {A = ℕ} (not b) 1 0 ≤ cond {A = ℕ} (not c) 1 0
    one_or_none true c set = omega arith
    one_or_none false true set = absurd (false≢true (set refl))
    one_or_none false false set = omega arith

-- where no flags are set but those that were, and those of some numbers, only as many are no longer clear
count_covered : (first : ℕ) (ns : List ℕ) (old flags : List Bool) → length flags ≡ length old → ((i : ℕ) → get_or flags i false ≡ true → (get_or old i false ≡ true) ⊎ Contains ns (first + i)) → count_by not old ≤ count_by not flags + length ns
count_covered first [] old flags long all =
    let le = count_fewer old flags long (λ i is. ⊎_elim (λ was. was) (λ has. absurd (omega (arith, has.1))) (all i is)) in
    omega (arith, le)
count_covered first (n ∷ ns) old flags long all = elim (cases_Bool (get_or flags (n - first) false)) [
  | inl is ↦
      let lt : n - first < length flags = flag_there flags (n - first) is in
      let rest = count_covered first ns old (set flags (n - first) false) (length-set flags (n - first) false ∙ long) (λ i at. elim (cases_eq i (n - first)) [
        | inl same ↦ absurd (false≢true (sym (ap (λ (k : ℕ). get_or (set flags (n - first) false) k false) same ∙ get_or-set_same flags (n - first) false false lt) ∙ at))
        | inr differ ↦ ⊎_elim (λ was. inl was) (λ has. inr (of_others n (first + i) ns has (λ same. differ (omega arith)))) (all i (sym (get_or-set_other flags (n - first) i false false differ) ∙ at))
      ]) in
      omega (arith, rest, cleared flags (n - first) false lt is)
  | inr clear ↦
      let rest = count_covered first ns old flags long (λ i at. ⊎_elim (λ was. inl was) (λ has. inr (of_others n (first + i) ns has (λ same.
      let here : i ≡ n - first = omega arith in
      both_ways (get_or flags i false) (ap (λ (k : ℕ). get_or flags k false) here ∙ clear) at))) (all i at)) in
      omega (arith, rest)
]

-- ---- the numbers of the sectors that a file names

numbers_of : Image → Entry → List ℕ
numbers_of content e = nonzero (map (named content e) (positions_of e.size))

count_map : {X : Type 0} (f : ℕ → Bool) (g : X → ℕ) (xs : List X) → count_by f (map g xs) ≡ count_by (λ x. f (g x)) xs
count_map f g [] = refl
count_map f g (x ∷ xs) = omega (arith, count_map f g xs, sum_by-cons (λ (n : ℕ). cond {A = ℕ} (f n) 1 0) (g x) (map g xs), sum_by-cons (λ y. cond {A = ℕ} (f (g y)) 1 0) x xs)

length-numbers_of : (content : Image) (e : Entry) → length (numbers_of content e) ≡ used_of content e
unfolding numbers_of
length-numbers_of content e =
    length-filter (λ (n : ℕ). not (n == 0)) (map (named content e) (positions_of e.size)) ∙ count_map (λ (n : ℕ). not (n == 0)) (named content e) (positions_of e.size)

-- the position's place in the list of a file with this many data blocks
place_of : ℕ → BlockPosition → ℕ
place_of count (data_block j) = j
place_of count indirect_block = count
place_of count (inner_block i) = length (parts_to count ++ indirect_to count) + i
place_of count (double_indirect_block d) = length ((parts_to count ++ indirect_to count) ++ inner_to count) + d
place_of count triple_indirect_block = length (((parts_to count ++ indirect_to count) ++ inner_to count) ++ double_to count)

numbered_either : (number : BlockPosition → ℕ) (a : ℕ) (b : Bool) (p : BlockPosition) → number p ≡ a → Numbered number a (if b then p ∷ [] else [])
unfolding Numbered
numbered_either number a true p is k lt = numbered_one number a p is k lt
numbered_either number a false p is k lt = absurd (omega (arith, lt))

numbered_by_count : (count : ℕ) → Numbered (place_of count) 0 ((((parts_to count ++ indirect_to count) ++ inner_to count) ++ double_to count) ++ triple_to count)
unfolding place_of
numbered_by_count count =
    let place = place_of count in
    let front = parts_to count ++ indirect_to count in
    let inner = front ++ inner_to count in
    let all = inner ++ double_to count in
    let parts = numbered_made place data_block 0 0 count (λ i lt. refl) in
    let one = numbered_append place 0 count (parts_to count) (indirect_to count) (long_parts count) parts (numbered_either place (0 + count) (nat_lt 58 count) indirect_block (omega arith)) in
    let two = numbered_append place 0 (length front) front (inner_to count) refl one (numbered_made place inner_block (0 + length front) 0 (inner_blocks_for (count - 186)) (λ i lt. omega arith)) in
    let three = numbered_append place 0 (length inner) inner (double_to count) refl two (numbered_made place double_indirect_block (0 + length inner) 0 (double_blocks_for (count - 186)) (λ i lt. omega arith)) in
    numbered_append place 0 (length all) all (triple_to count) refl three (numbered_either place (0 + length all) (nat_lt 16570 count) triple_indirect_block (omega arith))

numbered_positions : (size : ℕ) → Numbered (place_of (blocks_for_size size)) 0 (positions_of size)
numbered_positions size = numbered_by_count (blocks_for_size size)

numbers_distinct : (content : Image) (e : Entry) → e.size ≤ LARGEST_SIZE → IsBody content e → AreDistinct (numbers_of content e)
unfolding numbers_of
numbers_distinct content e small body = names_distinct (place_of (blocks_for_size e.size)) (positions_of e.size) (numbered_positions e.size) (λ p has. All-contains IsPosition (positions_of e.size) p (are_places e.size small) has) content e body

number_named : (content : Image) (e : Entry) (n : ℕ) → e.size ≤ LARGEST_SIZE → Contains (numbers_of content e) n → NamesSector content e n
unfolding numbers_of
number_named content e n small has =
    let g = named content e in
    let ps = positions_of e.size in
    let there = was_there (map g ps) n has in
    let k = there.0.0 in
    let below : k < length ps = omega (arith, there.0.1, length-map ps g) in
    let p = get_or ps k indirect_block in
    record {
      some = there.1;
      position = (p, All-contains IsPosition ps p (are_places e.size small) (k, below, get_or_default ps k p indirect_block below), sym (get_or-map g ps k indirect_block n below) ∙ there.0.2);
    }

named_number : (content : Image) (e : Entry) (p : BlockPosition) → IsBody content e → IsPosition p → named content e p ≢ 0 → Contains (numbers_of content e) (named content e p)
unfolding numbers_of
named_number content e p body there some = in_nonzero (map (named content e) (positions_of e.size)) (named content e p) some (in_map (named content e) (positions_of e.size) p (place_is_there content e p body there some))

-- ---- no free sector is lost

has_or_not : (n : ℕ) (ns : List ℕ) → Contains ns n ⊎ (Contains ns n → ⊥)
has_or_not n [] = inr (λ has. omega (arith, has.1))
has_or_not n (m ∷ ns) = elim (cases_eq m n) [
  | inl same ↦ inl (0, omega arith, same)
  | inr differ ↦ ⊎_elim (λ has. inl (of_rest m n ns has)) (λ none. inr (λ has. none (of_others m n ns has (λ same. differ (sym same))))) (has_or_not n ns)
]

-- the flag of a sector of the range
flag_of : (a : Alloc) (i : ℕ) → taken_of a (first_of a + i) ≡ get_or a.taken.items i false
flag_of a i =
    let back : a.first + i - a.first ≡ i = omega arith in
    keep (get_or a.taken.items (a.first + i - a.first) false) ∙ ap (λ (k : ℕ). get_or a.taken.items k false) back
  where
    keep : (b : Bool) → (if nat_lt (a.first + i) a.first then false else b) ≡ b
    keep b = grind (arith, nat_tests)

module _ (a b : Alloc) (content after : Image) (e changed : Entry) (some_first : 0 < first_of a) (range : (first_of b ≡ first_of a) × (end_of b ≡ end_of a)) (small : e.size ≤ LARGEST_SIZE)
    (names : NamesTaken (taken_of a) content e) (body : IsBody content e) (rules : IsBody after changed) (takes : TakesAndGives (taken_of a) (taken_of b) content after e changed) where
  -- a sector of the file was taken
  was_taken : (n : ℕ) → NamesSector content e n → taken_of a n ≡ true
  was_taken n named_it =
      let p = named_it.position.0 in
      let is = named_it.position.2 in
      ap (taken_of a) (sym is) ∙ names p named_it.position.1 (λ none. named_it.some (sym is ∙ none))

  -- what is taken now and isn't the file's was taken before, and wasn't the file's
  still_taken : (i : ℕ) → get_or b.taken.items i false ≡ true → NamesOthers after changed (first_of a + i) → get_or (clear (first_of a) (numbers_of content e) a.taken.items) i false ≡ true
  still_taken i is foreign_now =
      let n = first_of a + i in
      let now : taken_of b n ≡ true = ap (λ (k : ℕ). taken_of b (k + i)) (sym range.0) ∙ flag_of b i ∙ is in
      let foreign : NamesOthers content e n = λ p there same. both_ways (taken_of b n) (takes.given n (record { some = omega (arith, some_first); position = (p, there, same) }) foreign_now) now in
      let flag : get_or a.taken.items i false ≡ true = sym (flag_of a i) ∙ sym (takes.others n foreign foreign_now) ∙ now in
      stays_set (first_of a) (numbers_of content e) a.taken.items i flag (λ m has same.
      let named_it = number_named content e m small has in
      let from = (taken_there (first_of a) m a.taken.items (was_taken m named_it)).0 in
      foreign named_it.position.0 named_it.position.1 (named_it.position.2 ∙ (omega (arith, same, from))))

  pub none_lost : LosesNoSector a b content after e changed
  none_lost =
      let first = first_of a in
      let old = numbers_of content e in
      let new = numbers_of after changed in
      let flags = clear first old a.taken.items in
      let given = count_clear first old a.taken.items (numbers_distinct content e small body) (λ n has. taken_there first n a.taken.items (was_taken n (number_named content e n small has))) in
      let long : length b.taken.items ≡ length flags = omega (arith, length-clear first old a.taken.items, a.size, b.size, range.0, range.1) in
      let taken = count_covered first new flags b.taken.items long (λ i is. elim (has_or_not (first + i) new) [
        | inl has ↦ inr has
        | inr none ↦ inl (still_taken i is (λ p there same. none (subst (Contains new) same (named_number after changed p rules there (λ zero_it. omega (arith, some_first, same, zero_it))))))
      ]) in
      omega (arith, given, taken, length-numbers_of content e, length-numbers_of after changed)
