-- As many sectors are free as no file names.
use Rattle.std.proofs.Common.{◌≡◌, ◌≢◌, ◌⊎◌, inl, inr, ℕ, zero, suc, ◌+◌, ◌≤◌, ◌<◌, ◌==◌, not, cond, if◌then◌else◌, Bool, false, List, [], ◌∷◌, ◌++◌, length, get_or, Option, Some, None, refl, sym, ◌∙◌, ap, subst, arith}
use Rattle.std.specs.List.{sum_by, count_by, Contains}
use Rattle.std.proofs.lemmas.Bool.{cases_eq, cases_Bool, cond-true, cond-false, eqb-true}
use Rattle.std.proofs.lemmas.List.{length-append}
use Rattle.std.proofs.lemmas.List.Elements.{Contains-append_left, Contains-append_right}
use Rattle.std.proofs.lemmas.List.Sums.{sum_by-cons}
use Rattle.vol_sector.specs.Disk.{Image}
use Rattle.vol_inode.specs.declared.entry.Entry.{Entry}
use Rattle.vol_body.specs.Body.{BlockPosition, named, positions_of}
use Rattle.vol_body.specs.Change.{used_of}
use Rattle.vol_body.proofs.Needed.{place_is_there}
use Rattle.vol_body.proofs.Steps.{taken_range}
use Rattle.vol_alloc.specs.declared.sectors.Alloc.{Alloc}
use Rattle.vol_alloc.specs.Alloc.{first_of, end_of, free_of}
use Rattle.vol_alloc.proofs.Covers.{taken_in_list}
use Rattle.vol_tree.specs.declared.superblock.Superblock.{Superblock}
use Rattle.vol_tree.specs.Stands.{Slots}
use Rattle.vol_tree.specs.Clauses.{slots_in}
use Rattle.vol_tree.specs.Opened.{data_sectors}
use Rattle.vol_tree.specs.internal.Parts.{IsContent, AreTaken}
use Rattle.vol_log.specs.declared.layout.TheConstants.{FIRST_AFTER_LOG}

-- how many sectors the slot's file names
abbrev pub used_in : Image → Option Entry → ℕ
used_in content None = 0
used_in content (Some e) = used_of content e

-- the sectors named at these places
names_at : Image → Entry → List BlockPosition → List ℕ
names_at content e [] = []
names_at content e (p ∷ places) = if named content e p == 0 then names_at content e places else named content e p ∷ names_at content e places

long_at : (content : Image) (e : Entry) (places : List BlockPosition) → length (names_at content e places) ≡ count_by (λ p. not (named content e p == 0)) places
unfolding names_at
long_at content e [] = refl
long_at content e (p ∷ places) =
    let rest = long_at content e places in
    let more = sum_by-cons (λ (q : BlockPosition). cond {A = ℕ} (not (named content e q == 0)) 1 0) p places in
    elim (cases_Bool (named content e p == 0)) [
      | inl none ↦
          let here : length (names_at content e (p ∷ places)) ≡ length (names_at content e places) = ap length (cond-true (named content e p == 0) _ _ none) in
          let one : cond {A = ℕ} (not (named content e p == 0)) 1 0 ≡ 0 = ap (λ (b : Bool). cond {A = ℕ} (not b) 1 0) none in
          omega (arith, here, rest, more, one)
      | inr some ↦
          let here : length (names_at content e (p ∷ places)) ≡ suc (length (names_at content e places)) = ap length (cond-false (named content e p == 0) _ _ some) in
          let one : cond {A = ℕ} (not (named content e p == 0)) 1 0 ≡ 1 = ap (λ (b : Bool). cond {A = ℕ} (not b) 1 0) some in
          omega (arith, here, rest, more, one)
    ]

later : (n m : ℕ) (ns : List ℕ) → Contains ns n → Contains (m ∷ ns) n
later n m ns (k, lt, is) = (suc k, omega arith, is)

is_at : (content : Image) (e : Entry) (places : List BlockPosition) (p : BlockPosition) (n : ℕ) → Contains places p → named content e p ≡ n → n ≢ 0 → Contains (names_at content e places) n
unfolding names_at
is_at content e [] p n (k, lt, is) name some = absurd (omega arith)
is_at content e (q ∷ places) p n (zero, lt, is) name some =
    let here : named content e q ≡ n = ap (named content e) is ∙ name in
    let test : (named content e q == 0) ≡ false = elim (cases_Bool (named content e q == 0)) [ inl none ↦ absurd (some (sym here ∙ eqb-true _ _ none)) | inr other ↦ other ] in
    subst (λ (ns : List ℕ). Contains ns n) (sym (cond-false (named content e q == 0) (names_at content e places) _ test)) (0, omega arith, here)
is_at content e (q ∷ places) p n (suc k, lt, is) name some =
    let rest = is_at content e places p n (k, omega arith, is) name some in
    elim (cases_Bool (named content e q == 0)) [
      | inl none ↦ subst (λ (ns : List ℕ). Contains ns n) (sym (cond-true (named content e q == 0) _ _ none)) rest
      | inr other ↦ subst (λ (ns : List ℕ). Contains ns n) (sym (cond-false (named content e q == 0) (names_at content e places) _ other)) (later n (named content e q) (names_at content e places) rest)
    ]

names_in : Image → Option Entry → List ℕ
names_in content None = []
names_in content (Some e) = names_at content e (positions_of e.size)

all_names : Image → Slots → List ℕ
all_names content [] = []
all_names content (o ∷ slots) = names_in content o ++ all_names content slots

long_in : (content : Image) (o : Option Entry) → length (names_in content o) ≡ used_in content o
unfolding names_in
long_in content None = refl
long_in content (Some e) = long_at content e (positions_of e.size)

long_all : (content : Image) (slots : Slots) → length (all_names content slots) ≡ sum_by (used_in content) slots
unfolding all_names
long_all content [] = refl
long_all content (o ∷ slots) =
    omega (arith, length-append (names_in content o) (all_names content slots), long_in content o, long_all content slots, sum_by-cons (used_in content) o slots)

is_in_all : (content : Image) (slots : Slots) (s : ℕ) (n : ℕ) → s < length slots → Contains (names_in content (get_or slots s None)) n → Contains (all_names content slots) n
unfolding all_names
is_in_all content [] s n lt is = absurd (omega arith)
is_in_all content (o ∷ slots) zero n lt is = Contains-append_left (names_in content o) (all_names content slots) n is
is_in_all content (o ∷ slots) (suc s) n lt is = Contains-append_right (names_in content o) (all_names content slots) n (is_in_all content slots s n (omega arith) is)

has_or_not : (ns : List ℕ) (n : ℕ) → Contains ns n ⊎ (Contains ns n → ⊥)
has_or_not [] n = inr (λ (k, lt, is). omega arith)
has_or_not (m ∷ ns) n = elim (cases_eq m n) [
  | inl same ↦ inl (0, omega arith, same)
  | inr differ ↦ elim (has_or_not ns n) [
    | inl has ↦ inl (later n m ns has)
    | inr hasnt ↦ inr (λ h. none m ns n differ hasnt h)
  ]
]
  where
    none : (m : ℕ) (ns : List ℕ) (n : ℕ) → m ≢ n → (Contains ns n → ⊥) → Contains (m ∷ ns) n → ⊥
    none m ns n differ hasnt (zero, lt, is) = differ is
    none m ns n differ hasnt (suc k, lt, is) = hasnt (k, omega arith, is)

within : (slots : Slots) (s : ℕ) (e : Entry) → get_or slots s None ≡ Some e → s < length slots
within [] s e is = absurd (cc)
within (o ∷ slots) zero e is = omega arith
within (o ∷ slots) (suc s) e is = let rest = within slots s e is in omega arith

pub free_and_used : (content : Image) (v : Superblock) (sectors : Alloc) → IsContent content v → AreTaken content v (slots_in content v.slots) sectors → first_of sectors ≡ FIRST_AFTER_LOG + v.slots → end_of sectors ≡ v.sectors
    → data_sectors v ≤ free_of sectors + sum_by (used_in content) (slots_in content v.slots)
unfolding names_in
free_and_used content v sectors is taken first end =
    let slots = slots_in content v.slots in
    let le = taken_in_list sectors (all_names content slots) (λ n is_taken. elim (has_or_not (all_names content slots) n) [
      | inl has ↦ has
      | inr hasnt ↦ absurd (taken.only n is_taken (λ s e at p place name.
          let some : n ≢ 0 = λ none. omega (arith, (taken_range sectors n is_taken).0) in
          let there = place_is_there content e p (is.volume.sectors.bodies s e at) place (λ none. some (sym name ∙ none)) in
          let own : Contains (names_in content (get_or slots s None)) n = subst (λ (o : Option Entry). Contains (names_in content o) n) (sym at) (is_at content e (positions_of e.size) p n there name some) in
          hasnt (is_in_all content slots s n (within slots s e at) own)))
    ]) in
    omega (arith, le, long_all content slots)
