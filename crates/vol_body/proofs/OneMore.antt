-- One more sector that a file names.
use Rattle.std.proofs.Common.{◌≡◌, ◌≢◌, ◌⊎◌, inl, inr, ◌≤◌, ◌<◌, ◌+◌, ◌-◌, ◌*◌, ◌/◌, ◌%◌, ◌==◌, if◌then◌else◌, ℕ, zero, suc, Bool, true, false, List, replicate, get_or, refl, sym, ◌∙◌, ap, arith}
use Rattle.std.proofs.lemmas.Bool.{cases_eq, cases_lt}
use Rattle.std.proofs.lemmas.Bool.Decides.{nat_tests}
use Rattle.vol_sector.specs.Disk.{Image}
use Rattle.vol_inode.specs.declared.entry.Entry.{Entry}
use Rattle.vol_inode.specs.Space.{blocks_for_size}
use Rattle.vol_body.specs.Body.{BlockPosition, data_block, indirect_block, inner_block, double_indirect_block, triple_indirect_block, IsPosition, first_served, named, number_in, block_bytes, byte_at, IsBody, NamesTaken, NamesOthers}
use Rattle.vol_body.specs.Change.{NamesSector, OthersStay, TakesAndGives}
use Rattle.vol_body.specs.internal.Naming.{IsNaming, NamesOneMore, SetsPointer, ListsOneMore}
use Rattle.vol_body.proofs.Places.{number_there, bytes_there, part_direct, part_listed, part_later}
use Rattle.vol_body.proofs.Same.{same_number, same_bytes}
use Rattle.vol_body.proofs.Listed.{none_in_zeros}
use Rattle.vol_inode.specs.declared.version.TheConstants.{LARGEST_SIZE}

-- what the numbers of the file's positions are read from stays, but for the number of one position
record KeepsNumbers (content after : Image) (e changed : Entry) (p : BlockPosition) : Type 0 where
  direct : (j : ℕ) → j < 58 → (data_block j ≡ p → ⊥) → get_or changed.pointers j 0 ≡ get_or e.pointers j 0
  first : (indirect_block ≡ p → ⊥) → get_or changed.pointers 58 0 ≡ get_or e.pointers 58 0
  second : (double_indirect_block 0 ≡ p → ⊥) → get_or changed.pointers 59 0 ≡ get_or e.pointers 59 0
  third : (triple_indirect_block ≡ p → ⊥) → get_or changed.pointers 60 0 ≡ get_or e.pointers 60 0
  listed : (j : ℕ) → 58 ≤ j → j < 186 → (data_block j ≡ p → ⊥) → number_in after (named after changed indirect_block) (j - 58) ≡ number_in content (named content e indirect_block) (j - 58)
  in_triple : (m : ℕ) → m < 128 → (double_indirect_block (suc m) ≡ p → ⊥) → number_in after (named after changed triple_indirect_block) m ≡ number_in content (named content e triple_indirect_block) m
  in_lists : (i : ℕ) → i < 16512 → (inner_block i ≡ p → ⊥)
      → number_in after (named after changed (double_indirect_block (i / 128))) (i % 128) ≡ number_in content (named content e (double_indirect_block (i / 128))) (i % 128)
  later : (j : ℕ) → 186 ≤ j → j < 2113722 → (data_block j ≡ p → ⊥)
      → number_in after (named after changed (inner_block ((j - 186) / 128))) ((j - 186) % 128) ≡ number_in content (named content e (inner_block ((j - 186) / 128))) ((j - 186) % 128)

-- then the other positions name what they named
same_part : (content after : Image) (e changed : Entry) (p : BlockPosition) (j : ℕ) → KeepsNumbers content after e changed p → j < 2113722 → (data_block j ≡ p → ⊥) → named after changed (data_block j) ≡ named content e (data_block j)
same_part content after e changed p j keeps there not = elim (cases_lt j 58) [
  | inl direct ↦ part_direct after changed j direct ∙ keeps.direct j direct not ∙ sym (part_direct content e j direct)
  | inr le ↦ elim (cases_lt j 186) [
    | inl listed ↦ part_listed after changed j le listed ∙ keeps.listed j le listed not ∙ sym (part_listed content e j le listed)
    | inr later ↦ part_later after changed j later ∙ keeps.later j later there not ∙ sym (part_later content e j later)
  ]
]

same_names : (content after : Image) (e changed : Entry) (p q : BlockPosition) → KeepsNumbers content after e changed p → IsPosition q → (q ≡ p → ⊥) → named after changed q ≡ named content e q
same_names content after e changed p (data_block j) keeps there not = same_part content after e changed p j keeps there not
same_names content after e changed p indirect_block keeps there not = keeps.first not
same_names content after e changed p (inner_block i) keeps there not = keeps.in_lists i there not
same_names content after e changed p (double_indirect_block zero) keeps there not = keeps.second not
same_names content after e changed p (double_indirect_block (suc m)) keeps there not = keeps.in_triple m (omega (arith, there)) not
same_names content after e changed p triple_indirect_block keeps there not = keeps.third not

one_more : (content after : Image) (e changed : Entry) (p : BlockPosition) (n : ℕ) → KeepsNumbers content after e changed p → named after changed p ≡ n → changed.size ≡ e.size
    → ((j : ℕ) → j < 2113722 → named content e (data_block j) ≢ 0 → after (named content e (data_block j)) ≡ content (named content e (data_block j))) → NamesOneMore content after e changed p n
one_more content after e changed p n keeps one size stays = record {
  one = one;
  rest = λ q there not. same_names content after e changed p q keeps there not;
  size = size;
  bytes = λ j there not. ap (block_bytes after) (same_part content after e changed p j keeps there not) ∙ same_bytes content after (named content e (data_block j)) (stays j there);
}

quotient_below : (j : ℕ) → j < 2113722 → (j - 186) / 128 < 16512
quotient_below j lt = omega arith

double_below : (i : ℕ) → i < 16512 → i / 128 < 129
double_below i lt = omega arith

-- The entry names the new sector: its pointer is set, and no other sector is written.
module _ (content after : Image) (e changed : Entry) (n : ℕ) (others : NamesOthers content e n) (stays : (x : ℕ) → x ≢ n → after x ≡ content x) where
  -- a pointer sector that stays
  numbers_stay : (h : BlockPosition) (i : ℕ) → IsPosition h → named after changed h ≡ named content e h → number_in after (named after changed h) i ≡ number_in content (named content e h) i
  numbers_stay h i there same = ap (λ (m : ℕ). number_in after m i) same ∙ same_number content after (named content e h) i (λ some. stays (named content e h) (others h there))

  -- a new pointer sector, of zeros
  none_listed : (h : BlockPosition) (i : ℕ) → named after changed h ≡ n → named content e h ≡ 0 → after n ≡ replicate 512 0 → number_in after (named after changed h) i ≡ number_in content (named content e h) i
  none_listed h i one none zeros = ap (λ (m : ℕ). number_in after m i) one ∙ none_in_zeros after n i zeros ∙ sym (ap (λ (m : ℕ). number_in content m i) none)

  parts_stay : (j : ℕ) → j < 2113722 → named content e (data_block j) ≢ 0 → after (named content e (data_block j)) ≡ content (named content e (data_block j))
  parts_stay j there some = stays (named content e (data_block j)) (others (data_block j) there)

  -- the numbers of data blocks, from those of the double-indirect blocks
  later_stay : ((d : ℕ) → d < 129 → (r : ℕ) → number_in after (named after changed (double_indirect_block d)) r ≡ number_in content (named content e (double_indirect_block d)) r)
      → (j : ℕ) → j < 2113722 → number_in after (named after changed (inner_block ((j - 186) / 128))) ((j - 186) % 128) ≡ number_in content (named content e (inner_block ((j - 186) / 128))) ((j - 186) % 128)
  later_stay doubles j lt =
      let q = (j - 186) / 128 in
      numbers_stay (inner_block q) ((j - 186) % 128) (quotient_below j lt) (doubles (q / 128) (double_below q (quotient_below j lt)) (q % 128))

  -- where the entry's pointers to the first double-indirect block and the triple-indirect block stay
  doubles_stay : get_or changed.pointers 59 0 ≡ get_or e.pointers 59 0 → get_or changed.pointers 60 0 ≡ get_or e.pointers 60 0
      → (d : ℕ) → d < 129 → (r : ℕ) → number_in after (named after changed (double_indirect_block d)) r ≡ number_in content (named content e (double_indirect_block d)) r
  doubles_stay second third zero lt r = numbers_stay (double_indirect_block 0) r (omega arith) second
  doubles_stay second third (suc m) lt r = numbers_stay (double_indirect_block (suc m)) r lt (numbers_stay triple_indirect_block m tt third)

  pub one_direct : (k : ℕ) → k < 58 → SetsPointer e changed k n → NamesOneMore content after e changed (data_block k) n
  one_direct k lt sets =
      let first : get_or changed.pointers 58 0 ≡ get_or e.pointers 58 0 = sets.rest 58 (omega arith) (λ is. omega arith) in
      let second : get_or changed.pointers 59 0 ≡ get_or e.pointers 59 0 = sets.rest 59 (omega arith) (λ is. omega arith) in
      let third : get_or changed.pointers 60 0 ≡ get_or e.pointers 60 0 = sets.rest 60 (omega arith) (λ is. omega arith) in
      let keeps : KeepsNumbers content after e changed (data_block k) = record {
        direct = λ j below not. sets.rest j (omega arith) (λ is. not (ap data_block is));
        first = λ not. first;
        second = λ not. second;
        third = λ not. third;
        listed = λ j le below not. numbers_stay indirect_block (j - 58) tt first;
        in_triple = λ m below not. numbers_stay triple_indirect_block m tt third;
        in_lists = λ i below not. doubles_stay second third (i / 128) (double_below i below) (i % 128);
        later = λ j le below not. later_stay (doubles_stay second third) j below;
      } in
      one_more content after e changed (data_block k) n keeps (part_direct after changed k lt ∙ sets.one) sets.size parts_stay

  pub one_list : SetsPointer e changed 58 n → named content e indirect_block ≡ 0 → after n ≡ replicate 512 0 → NamesOneMore content after e changed indirect_block n
  one_list sets none zeros =
      let second : get_or changed.pointers 59 0 ≡ get_or e.pointers 59 0 = sets.rest 59 (omega arith) (λ is. omega arith) in
      let third : get_or changed.pointers 60 0 ≡ get_or e.pointers 60 0 = sets.rest 60 (omega arith) (λ is. omega arith) in
      let keeps : KeepsNumbers content after e changed indirect_block = record {
        direct = λ j below not. sets.rest j (omega arith) (λ is. omega arith);
        first = λ not. absurd (not refl);
        second = λ not. second;
        third = λ not. third;
        listed = λ j le below not. none_listed indirect_block (j - 58) sets.one none zeros;
        in_triple = λ m below not. numbers_stay triple_indirect_block m tt third;
        in_lists = λ i below not. doubles_stay second third (i / 128) (double_below i below) (i % 128);
        later = λ j le below not. later_stay (doubles_stay second third) j below;
      } in
      one_more content after e changed indirect_block n keeps sets.one sets.size parts_stay

  -- where the first double-indirect block is new
  doubles_but_first : get_or changed.pointers 59 0 ≡ n → get_or e.pointers 59 0 ≡ 0 → after n ≡ replicate 512 0 → get_or changed.pointers 60 0 ≡ get_or e.pointers 60 0
      → (d : ℕ) → d < 129 → (r : ℕ) → number_in after (named after changed (double_indirect_block d)) r ≡ number_in content (named content e (double_indirect_block d)) r
  doubles_but_first one none zeros third zero lt r = none_listed (double_indirect_block 0) r one none zeros
  doubles_but_first one none zeros third (suc m) lt r = numbers_stay (double_indirect_block (suc m)) r lt (numbers_stay triple_indirect_block m tt third)

  pub one_lists : SetsPointer e changed 59 n → named content e (double_indirect_block 0) ≡ 0 → after n ≡ replicate 512 0 → NamesOneMore content after e changed (double_indirect_block 0) n
  one_lists sets none zeros =
      let first : get_or changed.pointers 58 0 ≡ get_or e.pointers 58 0 = sets.rest 58 (omega arith) (λ is. omega arith) in
      let third : get_or changed.pointers 60 0 ≡ get_or e.pointers 60 0 = sets.rest 60 (omega arith) (λ is. omega arith) in
      let doubles = doubles_but_first sets.one none zeros third in
      let keeps : KeepsNumbers content after e changed (double_indirect_block 0) = record {
        direct = λ j below not. sets.rest j (omega arith) (λ is. omega arith);
        first = λ not. first;
        second = λ not. absurd (not refl);
        third = λ not. third;
        listed = λ j le below not. numbers_stay indirect_block (j - 58) tt first;
        in_triple = λ m below not. numbers_stay triple_indirect_block m tt third;
        in_lists = λ i below not. doubles (i / 128) (double_below i below) (i % 128);
        later = λ j le below not. later_stay doubles j below;
      } in
      one_more content after e changed (double_indirect_block 0) n keeps sets.one sets.size parts_stay

  -- where the triple-indirect block is new
  doubles_by_new : get_or changed.pointers 59 0 ≡ get_or e.pointers 59 0 → get_or changed.pointers 60 0 ≡ n → get_or e.pointers 60 0 ≡ 0 → after n ≡ replicate 512 0
      → (d : ℕ) → d < 129 → (r : ℕ) → number_in after (named after changed (double_indirect_block d)) r ≡ number_in content (named content e (double_indirect_block d)) r
  doubles_by_new second one none zeros zero lt r = numbers_stay (double_indirect_block 0) r (omega arith) second
  doubles_by_new second one none zeros (suc m) lt r = numbers_stay (double_indirect_block (suc m)) r lt (none_listed triple_indirect_block m one none zeros)

  pub one_triple : SetsPointer e changed 60 n → named content e triple_indirect_block ≡ 0 → after n ≡ replicate 512 0 → NamesOneMore content after e changed triple_indirect_block n
  one_triple sets none zeros =
      let first : get_or changed.pointers 58 0 ≡ get_or e.pointers 58 0 = sets.rest 58 (omega arith) (λ is. omega arith) in
      let second : get_or changed.pointers 59 0 ≡ get_or e.pointers 59 0 = sets.rest 59 (omega arith) (λ is. omega arith) in
      let doubles = doubles_by_new second sets.one none zeros in
      let keeps : KeepsNumbers content after e changed triple_indirect_block = record {
        direct = λ j below not. sets.rest j (omega arith) (λ is. omega arith);
        first = λ not. first;
        second = λ not. second;
        third = λ not. absurd (not refl);
        listed = λ j le below not. numbers_stay indirect_block (j - 58) tt first;
        in_triple = λ m below not. none_listed triple_indirect_block m sets.one none zeros;
        in_lists = λ i below not. doubles (i / 128) (double_below i below) (i % 128);
        later = λ j le below not. later_stay doubles j below;
      } in
      one_more content after e changed triple_indirect_block n keeps sets.one sets.size parts_stay

-- A pointer sector of the file, m, lists the new sector.
module _ (content after : Image) (e : Entry) (n m r : ℕ) (naming : IsNaming content e) (others : NamesOthers content e n) (some : m ≢ 0) (lists_it : ListsOneMore content after m r n) where
  -- other sectors of the file stay
  sector_stays : (h g : BlockPosition) → IsPosition h → IsPosition g → named content e h ≡ m → (g ≡ h → ⊥) → named content e g ≢ 0 → after (named content e g) ≡ content (named content e g)
  sector_stays h g h_there there is not names = lists_it.stays (named content e g) (others g there) (λ same. not (naming.distinct g h there h_there names (same ∙ sym is)))

  other_numbers : (h g : BlockPosition) (i : ℕ) → IsPosition h → IsPosition g → named content e h ≡ m → (g ≡ h → ⊥) → named after e g ≡ named content e g → number_in after (named after e g) i ≡ number_in content (named content e g) i
  other_numbers h g i h_there there is not same = ap (λ (x : ℕ). number_in after x i) same ∙ same_number content after (named content e g) i (sector_stays h g h_there there is not)

  new_number : (h : BlockPosition) (i : ℕ) → named after e h ≡ m → i ≡ r → number_in after (named after e h) i ≡ n
  new_number h i is at = ap (λ (x : ℕ). number_in after x i) is ∙ ap (λ (x : ℕ). number_in after m x) at ∙ number_there after m r some ∙ lists_it.one

  old_numbers : (h : BlockPosition) (i : ℕ) → named content e h ≡ m → named after e h ≡ named content e h → i < 128 → i ≢ r → number_in after (named after e h) i ≡ number_in content (named content e h) i
  old_numbers h i is same lt other =
      ap (λ (x : ℕ). number_in after x i) (same ∙ is)
      ∙ number_there after m i some ∙ lists_it.rest i lt other ∙ sym (number_there content m i some)
      ∙ sym (ap (λ (x : ℕ). number_in content x i) is)

  parts_kept : (h : BlockPosition) → IsPosition h → named content e h ≡ m → ((j : ℕ) → data_block j ≡ h → ⊥) → (j : ℕ) → j < 2113722 → named content e (data_block j) ≢ 0 → after (named content e (data_block j)) ≡ content (named content e (data_block j))
  parts_kept h h_there is not j there names = sector_stays h (data_block j) h_there there is (not j) names

  -- where the sector is no triple-indirect block
  double_names : (h : BlockPosition) → IsPosition h → named content e h ≡ m → (triple_indirect_block ≡ h → ⊥) → (d : ℕ) → named after e (double_indirect_block d) ≡ named content e (double_indirect_block d)
  double_names h h_there is not zero = refl
  double_names h h_there is not (suc k) = other_numbers h triple_indirect_block k h_there tt is not refl

  -- nor a double-indirect block
  inner_names : (h : BlockPosition) → IsPosition h → named content e h ≡ m → (triple_indirect_block ≡ h → ⊥) → ((d : ℕ) → double_indirect_block d ≡ h → ⊥) → (i : ℕ) → i < 16512 → named after e (inner_block i) ≡ named content e (inner_block i)
  inner_names h h_there is not nor i lt = other_numbers h (double_indirect_block (i / 128)) (i % 128) h_there (double_below i lt) is (nor (i / 128)) (double_names h h_there is not (i / 128))

  pub one_listed : (j : ℕ) → 58 ≤ j → j < 186 → r ≡ j - 58 → named content e indirect_block ≡ m → NamesOneMore content after e e (data_block j) n
  one_listed j le lt at is =
      let inner = inner_names indirect_block tt is (λ equal. cc) (λ d equal. cc) in
      let keeps : KeepsNumbers content after e e (data_block j) = record {
        direct = λ k below not. refl;
        first = λ not. refl;
        second = λ not. refl;
        third = λ not. refl;
        listed = λ k from below not. old_numbers indirect_block (k - 58) is refl (omega arith) (λ equal. not (ap data_block (omega arith)));
        in_triple = λ k below not. double_names indirect_block tt is (λ equal. cc) (suc k);
        in_lists = λ i below not. inner i below;
        later = λ k from below not. other_numbers indirect_block (inner_block ((k - 186) / 128)) ((k - 186) % 128) tt (quotient_below k below) is (λ equal. cc) (inner ((k - 186) / 128) (quotient_below k below));
      } in
      one_more content after e e (data_block j) n keeps (part_listed after e j le lt ∙ new_number indirect_block (j - 58) is (sym at)) refl (parts_kept indirect_block tt is (λ k equal. cc))

  pub one_later_list : (i : ℕ) → i < 16512 → r ≡ i % 128 → named content e (double_indirect_block (i / 128)) ≡ m → named content e (inner_block i) ≡ 0 → after n ≡ replicate 512 0 → NamesOneMore content after e e (inner_block i) n
  one_later_list i lt at is none zeros =
      let holder = double_indirect_block (i / 128) in
      let there = double_below i lt in
      let doubles = double_names holder there is (λ equal. cc) in
      let one : named after e (inner_block i) ≡ n = new_number holder (i % 128) (doubles (i / 128) ∙ is) (sym at) in
      let in_lists : (k : ℕ) → k < 16512 → (inner_block k ≡ inner_block i → ⊥) → number_in after (named after e (double_indirect_block (k / 128))) (k % 128) ≡ number_in content (named content e (double_indirect_block (k / 128))) (k % 128) = λ k below not. elim (cases_eq (k / 128) (i / 128)) [
        | inl equal ↦
            let here : named content e (double_indirect_block (k / 128)) ≡ m = ap (λ (x : ℕ). named content e (double_indirect_block x)) equal ∙ is in
            old_numbers (double_indirect_block (k / 128)) (k % 128) here (doubles (k / 128)) (omega arith) (λ same. not (ap inner_block (omega (arith, same, at, equal))))
        | inr other ↦ other_numbers holder (double_indirect_block (k / 128)) (k % 128) there (double_below k below) is (λ equal. other cc) (doubles (k / 128))
      ] in
      let keeps : KeepsNumbers content after e e (inner_block i) = record {
        direct = λ k below not. refl;
        first = λ not. refl;
        second = λ not. refl;
        third = λ not. refl;
        listed = λ k from below not. other_numbers holder indirect_block (k - 58) there tt is (λ equal. cc) refl;
        in_triple = λ k below not. doubles (suc k);
        in_lists = in_lists;
        later = λ k from below not. elim (cases_eq ((k - 186) / 128) i) [
          | inl equal ↦
              ap (λ (x : ℕ). number_in after (named after e (inner_block x)) ((k - 186) % 128)) equal
              ∙ ap (λ (x : ℕ). number_in after x ((k - 186) % 128)) one ∙ none_in_zeros after n ((k - 186) % 128) zeros
              ∙ sym (ap (λ (x : ℕ). number_in content x ((k - 186) % 128)) none)
              ∙ sym (ap (λ (x : ℕ). number_in content (named content e (inner_block x)) ((k - 186) % 128)) equal)
          | inr other ↦ other_numbers holder (inner_block ((k - 186) / 128)) ((k - 186) % 128) there (quotient_below k below) is (λ equal. cc) (in_lists ((k - 186) / 128) (quotient_below k below) (λ equal. other (cc)))
        ];
      } in
      one_more content after e e (inner_block i) n keeps one refl (parts_kept holder there is (λ k equal. cc))

  pub one_double_list : (i : ℕ) → i < 128 → r ≡ i → named content e triple_indirect_block ≡ m → named content e (double_indirect_block (suc i)) ≡ 0 → after n ≡ replicate 512 0 → NamesOneMore content after e e (double_indirect_block (suc i)) n
  one_double_list i lt at is none zeros =
      let one : named after e (double_indirect_block (suc i)) ≡ n = new_number triple_indirect_block i is (sym at) in
      let in_triple = λ (k : ℕ) (below : k < 128) (not : double_indirect_block (suc k) ≡ double_indirect_block (suc i) → ⊥). old_numbers triple_indirect_block k is refl below (λ equal. not (ap (λ (x : ℕ). double_indirect_block (suc x)) (equal ∙ at))) in
      let in_lists = λ (k : ℕ) (below : k < 16512). in_double i one none zeros is in_triple (k / 128) (double_below k below) (k % 128) in
      let keeps : KeepsNumbers content after e e (double_indirect_block (suc i)) = record {
        direct = λ k below not. refl;
        first = λ not. refl;
        second = λ not. refl;
        third = λ not. refl;
        listed = λ k from below not. other_numbers triple_indirect_block indirect_block (k - 58) tt tt is (λ equal. cc) refl;
        in_triple = in_triple;
        in_lists = λ k below not. in_lists k below;
        later = λ k from below not. other_numbers triple_indirect_block (inner_block ((k - 186) / 128)) ((k - 186) % 128) tt (quotient_below k below) is (λ equal. cc) (in_lists ((k - 186) / 128) (quotient_below k below));
      } in
      one_more content after e e (double_indirect_block (suc i)) n keeps one refl (parts_kept triple_indirect_block tt is (λ k equal. cc))
    where
      -- the numbers of a double-indirect block: of the new one zeros, of each other one what they were
      in_double : (i : ℕ) → named after e (double_indirect_block (suc i)) ≡ n → named content e (double_indirect_block (suc i)) ≡ 0 → after n ≡ replicate 512 0 → named content e triple_indirect_block ≡ m
          → ((k : ℕ) → k < 128 → (double_indirect_block (suc k) ≡ double_indirect_block (suc i) → ⊥) → named after e (double_indirect_block (suc k)) ≡ named content e (double_indirect_block (suc k)))
          → (d : ℕ) → d < 129 → (x : ℕ) → number_in after (named after e (double_indirect_block d)) x ≡ number_in content (named content e (double_indirect_block d)) x
      in_double i one none zeros is in_triple zero lt x = other_numbers triple_indirect_block (double_indirect_block 0) x tt (omega arith) is (λ equal. cc) refl
      in_double i one none zeros is in_triple (suc k) lt x = elim (cases_eq k i) [
        | inl equal ↦
            ap (λ (y : ℕ). number_in after (named after e (double_indirect_block (suc y))) x) equal
            ∙ ap (λ (y : ℕ). number_in after y x) one ∙ none_in_zeros after n x zeros
            ∙ sym (ap (λ (y : ℕ). number_in content y x) none)
            ∙ sym (ap (λ (y : ℕ). number_in content (named content e (double_indirect_block (suc y))) x) equal)
        | inr other ↦ other_numbers triple_indirect_block (double_indirect_block (suc k)) x tt lt is (λ equal. cc) (in_triple k (omega (arith, lt)) (λ equal. other cc))
      ]

  pub one_later : (j : ℕ) → 186 ≤ j → j < 2113722 → r ≡ (j - 186) % 128 → named content e (inner_block ((j - 186) / 128)) ≡ m → NamesOneMore content after e e (data_block j) n
  one_later j le lt at is =
      let holder = inner_block ((j - 186) / 128) in
      let below_it = quotient_below j lt in
      let inner = inner_names holder below_it is (λ equal. cc) (λ d equal. cc) in
      let keeps : KeepsNumbers content after e e (data_block j) = record {
        direct = λ k below not. refl;
        first = λ not. refl;
        second = λ not. refl;
        third = λ not. refl;
        listed = λ k from below not. other_numbers holder indirect_block (k - 58) below_it tt is (λ equal. cc) refl;
        in_triple = λ k below not. double_names holder below_it is (λ equal. cc) (suc k);
        in_lists = λ i below not. inner i below;
        later = λ k from below not. elim (cases_eq ((k - 186) / 128) ((j - 186) / 128)) [
          | inl equal ↦
              let here : named content e (inner_block ((k - 186) / 128)) ≡ m = ap (λ (x : ℕ). named content e (inner_block x)) equal ∙ is in
              old_numbers (inner_block ((k - 186) / 128)) ((k - 186) % 128) here (inner ((k - 186) / 128) (quotient_below k below)) (omega arith) (λ same. not (ap data_block (omega arith)))
          | inr other ↦ other_numbers holder (inner_block ((k - 186) / 128)) ((k - 186) % 128) below_it (quotient_below k below) is (λ equal. other (cc)) (inner ((k - 186) / 128) (quotient_below k below))
        ];
      } in
      one_more content after e e (data_block j) n keeps (part_later after e j le ∙ new_number holder ((j - 186) % 128) (inner ((j - 186) / 128) below_it ∙ is) (sym at)) refl (parts_kept holder below_it is (λ k equal. cc))

-- A sector that the file names for a data block is written over: it names the same sectors, and other data blocks have the same bytes.
pub write_named : (content after : Image) (e : Entry) (j n : ℕ) → IsNaming content e → j < 2113722 → named content e (data_block j) ≡ n → n ≢ 0 → ((x : ℕ) → x ≢ n → after x ≡ content x) → NamesOneMore content after e e (data_block j) n
write_named content after e j n naming lt is some stays =
    let stays_by = λ (g : BlockPosition) (there : IsPosition g) (not : g ≡ data_block j → ⊥) (names : named content e g ≢ 0). stays (named content e g) (λ same. not (naming.distinct g (data_block j) there lt names (same ∙ sym is))) in
    let in_triple = λ (m : ℕ). same_number content after (named content e triple_indirect_block) m (stays_by triple_indirect_block tt (λ equal. cc)) in
    let in_lists = λ (i : ℕ) (below : i < 16512).
    ap (λ (x : ℕ). number_in after x (i % 128)) (double_stays in_triple (i / 128))
    ∙ same_number content after (named content e (double_indirect_block (i / 128))) (i % 128) (stays_by (double_indirect_block (i / 128)) (double_below i below) (λ equal. cc)) in
    let listed = λ (i : ℕ). same_number content after (named content e indirect_block) i (stays_by indirect_block tt (λ equal. cc)) in
    let later = λ (k : ℕ) (below : k < 2113722).
    ap (λ (x : ℕ). number_in after x ((k - 186) % 128)) (in_lists ((k - 186) / 128) (quotient_below k below))
    ∙ same_number content after (named content e (inner_block ((k - 186) / 128))) ((k - 186) % 128) (stays_by (inner_block ((k - 186) / 128)) (quotient_below k below) (λ equal. cc)) in
    let keeps : KeepsNumbers content after e e indirect_block = record {
      direct = λ k below not. refl;
      first = λ not. refl;
      second = λ not. refl;
      third = λ not. refl;
      listed = λ k from below not. listed (k - 58);
      in_triple = λ m below not. in_triple m;
      in_lists = λ i below not. in_lists i below;
      later = λ k from below not. later k below;
    } in
    let same = λ (k : ℕ) (below : k < 2113722). same_part content after e e indirect_block k keeps below (λ equal. cc) in
    record {
      one = same j lt ∙ is;
      rest = λ q there not. kept keeps q there;
      size = refl;
      bytes = λ k below not. ap (block_bytes after) (same k below) ∙ same_bytes content after (named content e (data_block k)) (stays_by (data_block k) below not);
    }
  where
    double_stays : ((m : ℕ) → number_in after (named content e triple_indirect_block) m ≡ number_in content (named content e triple_indirect_block) m) → (d : ℕ) → named after e (double_indirect_block d) ≡ named content e (double_indirect_block d)
    double_stays in_triple zero = refl
    double_stays in_triple (suc m) = in_triple m

    kept : KeepsNumbers content after e e indirect_block → (q : BlockPosition) → IsPosition q → named after e q ≡ named content e q
    kept keeps (data_block j) there = same_part content after e e indirect_block j keeps there (λ equal. cc)
    kept keeps indirect_block there = refl
    kept keeps (inner_block i) there = keeps.in_lists i there (λ equal. cc)
    kept keeps (double_indirect_block zero) there = refl
    kept keeps (double_indirect_block (suc m)) there = keeps.in_triple m (omega (arith, there)) (λ equal. cc)
    kept keeps triple_indirect_block there = refl

pub same_place : (a b : BlockPosition) → (a ≡ b) ⊎ (a ≡ b → ⊥)
same_place (data_block i) (data_block j) = elim (cases_eq i j) [
  | inl same ↦ inl (ap data_block same)
  | inr other ↦ inr (λ equal. other cc)
]
same_place (data_block i) indirect_block = inr (λ equal. cc)
same_place (data_block i) (inner_block j) = inr (λ equal. cc)
same_place (data_block i) (double_indirect_block j) = inr (λ equal. cc)
same_place (data_block i) triple_indirect_block = inr (λ equal. cc)
same_place indirect_block (data_block j) = inr (λ equal. cc)
same_place indirect_block indirect_block = inl refl
same_place indirect_block (inner_block j) = inr (λ equal. cc)
same_place indirect_block (double_indirect_block j) = inr (λ equal. cc)
same_place indirect_block triple_indirect_block = inr (λ equal. cc)
same_place (inner_block i) (data_block j) = inr (λ equal. cc)
same_place (inner_block i) indirect_block = inr (λ equal. cc)
same_place (inner_block i) (inner_block j) = elim (cases_eq i j) [
  | inl same ↦ inl (ap inner_block same)
  | inr other ↦ inr (λ equal. other cc)
]
same_place (inner_block i) (double_indirect_block j) = inr (λ equal. cc)
same_place (inner_block i) triple_indirect_block = inr (λ equal. cc)
same_place (double_indirect_block i) (data_block j) = inr (λ equal. cc)
same_place (double_indirect_block i) indirect_block = inr (λ equal. cc)
same_place (double_indirect_block i) (inner_block j) = inr (λ equal. cc)
same_place (double_indirect_block i) (double_indirect_block j) = elim (cases_eq i j) [
  | inl same ↦ inl (ap double_indirect_block same)
  | inr other ↦ inr (λ equal. other cc)
]
same_place (double_indirect_block i) triple_indirect_block = inr (λ equal. cc)
same_place triple_indirect_block (data_block j) = inr (λ equal. cc)
same_place triple_indirect_block indirect_block = inr (λ equal. cc)
same_place triple_indirect_block (inner_block j) = inr (λ equal. cc)
same_place triple_indirect_block (double_indirect_block j) = inr (λ equal. cc)
same_place triple_indirect_block triple_indirect_block = inl refl

-- the rules on the sectors are a part of those on the file
pub naming_of : (content : Image) (e : Entry) → IsBody content e → IsNaming content e
naming_of content e body = record { distinct = body.distinct; past = body.past }

pub body_of : (content : Image) (e : Entry) → IsNaming content e → ((k : ℕ) → e.size ≤ k → k < LARGEST_SIZE → byte_at content e k ≡ 0) → IsBody content e
body_of content e naming zeros = record { distinct = naming.distinct; past = naming.past; zeros = zeros }

-- a file that names the same sectors, and is no shorter
pub naming_by : (content after : Image) (e changed : Entry) → IsNaming content e → e.size ≤ changed.size → ((p : BlockPosition) → IsPosition p → named after changed p ≡ named content e p) → IsNaming after changed
naming_by content after e changed naming longer names = record {
  distinct = λ p q a b some equal. naming.distinct p q a b (λ none. some (names p a ∙ none)) (sym (names p a) ∙ equal ∙ names q b);
  past = λ p a le. names p a ∙ naming.past p a (omega arith);
}

module _ (content after : Image) (e changed : Entry) (p : BlockPosition) (n : ℕ) (more : NamesOneMore content after e changed p n) where
  -- a data block that stays has the same bytes
  pub byte_stays : (k : ℕ) → k < LARGEST_SIZE → (data_block (k / 512) ≡ p → ⊥) → byte_at after changed k ≡ byte_at content e k
  byte_stays k lt not = ap (λ (l : List ℕ). get_or l (k % 512) 0) (more.bytes (k / 512) (omega arith) not)

  -- the bytes of the data block that names the sector
  pub byte_there : (k : ℕ) → n ≢ 0 → data_block (k / 512) ≡ p → byte_at after changed k ≡ get_or (after n) (k % 512) 0
  byte_there k some is =
      let one : named after changed (data_block (k / 512)) ≡ n = ap (named after changed) is ∙ more.one in
      ap (λ (x : ℕ). get_or (block_bytes after x) (k % 512) 0) one ∙ ap (λ (l : List ℕ). get_or l (k % 512) 0) (bytes_there after n some)

  -- a pointer sector more changes no byte
  pub all_bytes_stay : ((j : ℕ) → data_block j ≡ p → ⊥) → (k : ℕ) → k < LARGEST_SIZE → byte_at after changed k ≡ byte_at content e k
  all_bytes_stay not k lt = byte_stays k lt (not (k / 512))

  -- where it named the sector before, it names the same ones
  pub names_stay : named content e p ≡ n → (q : BlockPosition) → IsPosition q → named after changed q ≡ named content e q
  names_stay is q there = elim (same_place q p) [
    | inl same ↦ ap (named after changed) same ∙ more.one ∙ sym is ∙ sym (ap (named content e) same)
    | inr not ↦ more.rest q there not
  ]

  -- what it names now
  pub named_now : (q : BlockPosition) → IsPosition q → (named after changed q ≡ n) ⊎ (named after changed q ≡ named content e q)
  named_now q there = elim (same_place q p) [
    | inl same ↦ inl (ap (named after changed) same ∙ more.one)
    | inr not ↦ inr (more.rest q there not)
  ]

  -- the rules on the sectors hold still
  pub naming_more : IsNaming content e → NamesOthers content e n → n ≢ 0 → IsPosition p → first_served p < blocks_for_size e.size → IsNaming after changed
  naming_more naming others some p_there serves = record { distinct = distinct; past = past }
    where
      distinct : (a b : BlockPosition) → IsPosition a → IsPosition b → named after changed a ≢ 0 → named after changed a ≡ named after changed b → a ≡ b
      distinct a b a_there b_there names equal = elim (same_place a p) [
        | inl a_is ↦ elim (same_place b p) [
          | inl b_is ↦ a_is ∙ sym b_is
          | inr b_not ↦ absurd (others b b_there (sym (more.rest b b_there b_not) ∙ sym equal ∙ ap (named after changed) a_is ∙ more.one))
        ]
        | inr a_not ↦ elim (same_place b p) [
          | inl b_is ↦ absurd (others a a_there (sym (more.rest a a_there a_not) ∙ equal ∙ ap (named after changed) b_is ∙ more.one))
          | inr b_not ↦ naming.distinct a b a_there b_there (λ none. names (more.rest a a_there a_not ∙ none)) (sym (more.rest a a_there a_not) ∙ equal ∙ more.rest b b_there b_not)
        ]
      ]

      past : (a : BlockPosition) → IsPosition a → blocks_for_size changed.size ≤ first_served a → named after changed a ≡ 0
      past a a_there le = elim (same_place a p) [
        | inl is ↦ absurd (out (first_served a) (first_served p) (ap first_served is) (ap blocks_for_size more.size) le serves)
        | inr not ↦ more.rest a a_there not ∙ naming.past a a_there (fits (ap blocks_for_size more.size) le)
      ]
        where
          out : {s t : ℕ} (x y : ℕ) → x ≡ y → s ≡ t → s ≤ x → y < t → ⊥
          out x y same size le lt = omega arith

          fits : {s t x : ℕ} → s ≡ t → s ≤ x → t ≤ x
          fits size le = omega arith

  module _ (taken now : ℕ → Bool) (takes : (k : ℕ) → now k ≡ (if k == n then true else taken k)) where
    now_taken : (k : ℕ) → k ≡ n → now k ≡ true
    now_taken k is = takes k ∙ pick k (taken k) is
      where
        pick : (k : ℕ) (b : Bool) → k ≡ n → (if k == n then true else b) ≡ true
        pick k b is = grind (arith, nat_tests)

    now_same : (k : ℕ) → k ≢ n → now k ≡ taken k
    now_same k not = takes k ∙ pick k (taken k) not
      where
        pick : (k : ℕ) (b : Bool) → k ≢ n → (if k == n then true else b) ≡ b
        pick k b not = grind (arith, nat_tests)

    still_taken : (k : ℕ) → taken k ≡ true → now k ≡ true
    still_taken k is = elim (cases_eq k n) [
      | inl same ↦ now_taken k same
      | inr not ↦ now_same k not ∙ is
    ]

    -- all that it names is taken
    pub names_taken_more : NamesTaken taken content e → NamesTaken now after changed
    names_taken_more names q there some = elim (named_now q there) [
      | inl is ↦ now_taken (named after changed q) is
      | inr same ↦ ap now same ∙ still_taken (named content e q) (names q there (λ none. some (same ∙ none)))
    ]

    -- one more sector is taken, and no other
    pub takes_one : NamesTaken taken content e → taken n ≡ false → named content e p ≡ 0 → IsPosition p → TakesAndGives taken now content after e changed
    takes_one names free none p_there = record { taken = names_taken_more names; fresh = fresh; given = given; others = others }
      where
        fresh : (x : ℕ) → NamesSector after changed x → NamesOthers content e x → taken x ≡ false
        fresh x one others = elim (named_now one.position.0 one.position.1) [
          | inl is ↦ ap taken (sym one.position.2 ∙ is) ∙ free
          | inr same ↦ absurd (others one.position.0 one.position.1 (sym same ∙ one.position.2))
        ]

        given : (x : ℕ) → NamesSector content e x → NamesOthers after changed x → now x ≡ false
        given x one others = elim (same_place one.position.0 p) [
          | inl is ↦ absurd (one.some (sym one.position.2 ∙ ap (named content e) is ∙ none))
          | inr not ↦ absurd (others one.position.0 one.position.1 (more.rest one.position.0 one.position.1 not ∙ one.position.2))
        ]

        others : (x : ℕ) → NamesOthers content e x → NamesOthers after changed x → now x ≡ taken x
        others x before now_others = now_same x (λ is. now_others p p_there (more.one ∙ sym is))

-- only a sector of the range is written, that is free or the file's
pub others_stay_one : (place first end : ℕ) (taken : ℕ → Bool) (content after : Image) (e : Entry) (n : ℕ) → ((x : ℕ) → x ≢ n → after x ≡ content x)
    → first ≤ n → n < end → (taken n ≡ true → NamesOthers content e n → ⊥) → OthersStay place first end taken content after e
others_stay_one place first end taken content after e n stays from below own = record {
  outside = λ x not out. stays x (λ is. beyond x is out);
  taken = λ x not is others. stays x (λ same. own (sym (ap taken same) ∙ is) (λ p there names. others p there (names ∙ sym same)));
}
  where
    beyond : (x : ℕ) → x ≡ n → (x < first) ⊎ (end ≤ x) → ⊥
    beyond x is (inl lt) = omega arith
    beyond x is (inr le) = omega arith

-- of two such sectors
pub others_stay_two : (place first end : ℕ) (taken : ℕ → Bool) (content after : Image) (e : Entry) (n m : ℕ) → ((x : ℕ) → x ≢ n → x ≢ m → after x ≡ content x)
    → first ≤ n → n < end → (taken n ≡ true → NamesOthers content e n → ⊥) → first ≤ m → m < end → (taken m ≡ true → NamesOthers content e m → ⊥) → OthersStay place first end taken content after e
others_stay_two place first end taken content after e n m stays n_from n_below n_own m_from m_below m_own = record {
  outside = λ x not out. stays x (λ is. beyond x n n_from n_below is out) (λ is. beyond x m m_from m_below is out);
  taken = λ x not is others. stays x (λ same. mine x n n_own same is others) (λ same. mine x m m_own same is others);
}
  where
    beyond : (x y : ℕ) → first ≤ y → y < end → x ≡ y → (x < first) ⊎ (end ≤ x) → ⊥
    beyond x y from below is (inl lt) = omega arith
    beyond x y from below is (inr le) = omega arith

    mine : (x y : ℕ) → (taken y ≡ true → NamesOthers content e y → ⊥) → x ≡ y → taken x ≡ true → NamesOthers content e x → ⊥
    mine x y own same is others = own (sym (ap taken same) ∙ is) (λ p there names. others p there (names ∙ sym same))

-- what a file names goes only by its pointers
pub names_by_pointers : (content : Image) (e f : Entry) (p : BlockPosition) → f.pointers ≡ e.pointers → named content f p ≡ named content e p
names_by_pointers content e f (data_block j) same = ap (λ (ps : List ℕ). named content (record e { pointers = ps }) (data_block j)) same
names_by_pointers content e f indirect_block same = ap (λ (ps : List ℕ). named content (record e { pointers = ps }) indirect_block) same
names_by_pointers content e f (inner_block i) same = ap (λ (ps : List ℕ). named content (record e { pointers = ps }) (inner_block i)) same
names_by_pointers content e f (double_indirect_block d) same = ap (λ (ps : List ℕ). named content (record e { pointers = ps }) (double_indirect_block d)) same
names_by_pointers content e f triple_indirect_block same = ap (λ (ps : List ℕ). named content (record e { pointers = ps }) triple_indirect_block) same

-- The bytes of the other positions' sectors stay, those of pointer sectors too: where only the new sector is written,
pub places_stay : (content after : Image) (e changed : Entry) (p : BlockPosition) (n : ℕ) → NamesOneMore content after e changed p n → NamesOthers content e n → ((x : ℕ) → x ≢ n → after x ≡ content x)
    → (g : BlockPosition) → IsPosition g → (g ≡ p → ⊥) → block_bytes after (named after changed g) ≡ block_bytes content (named content e g)
places_stay content after e changed p n more others stays g there not =
    ap (block_bytes after) (more.rest g there not) ∙ same_bytes content after (named content e g) (λ some. stays (named content e g) (others g there))

-- where a pointer sector is written too, those of all but this one,
pub places_stay_but : (content after : Image) (e changed : Entry) (p h : BlockPosition) (n m : ℕ) → NamesOneMore content after e changed p n → IsNaming content e → NamesOthers content e n → IsPosition h → named content e h ≡ m
    → ((x : ℕ) → x ≢ n → x ≢ m → after x ≡ content x) → (g : BlockPosition) → IsPosition g → (g ≡ p → ⊥) → (g ≡ h → ⊥) → block_bytes after (named after changed g) ≡ block_bytes content (named content e g)
places_stay_but content after e changed p h n m more naming others h_there is stays g there not apart =
    ap (block_bytes after) (more.rest g there not)
    ∙ same_bytes content after (named content e g) (λ some. stays (named content e g) (others g there) (λ same. apart (naming.distinct g h there h_there some (same ∙ sym is))))

-- and where the sector that a position names is written over.
pub places_stay_by : (content after : Image) (e changed : Entry) (p : BlockPosition) (n : ℕ) → NamesOneMore content after e changed p n → IsNaming content e → IsPosition p → named content e p ≡ n
    → ((x : ℕ) → x ≢ n → after x ≡ content x) → (g : BlockPosition) → IsPosition g → (g ≡ p → ⊥) → block_bytes after (named after changed g) ≡ block_bytes content (named content e g)
places_stay_by content after e changed p n more naming p_there is stays g there not =
    ap (block_bytes after) (more.rest g there not)
    ∙ same_bytes content after (named content e g) (λ some. stays (named content e g) (λ same. not (naming.distinct g p there p_there some (same ∙ sym is))))
