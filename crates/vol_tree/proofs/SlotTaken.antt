-- The taken sectors where one slot is changed.
use Rattle.std.proofs.Common.{◌≡◌, ◌≢◌, inl, inr, ℕ, ◌<◌, true, false, length, get_or, set, Option, Some, None, sym, ◌∙◌, ap}
use Rattle.std.proofs.lemmas.Bool.{cases_eq, false≢true}
use Rattle.std.proofs.lemmas.List.{get_or-set_same, get_or-set_other}
use Rattle.vol_sector.specs.Disk.{Image}
use Rattle.vol_inode.specs.declared.entry.Entry.{Entry}
use Rattle.vol_body.specs.Body.{named, IsPosition, NamesTaken, NamesOthers}
use Rattle.vol_body.proofs.Same.{same_file}
use Rattle.vol_alloc.specs.declared.sectors.Alloc.{Alloc}
use Rattle.vol_alloc.specs.Alloc.{taken_of}
use Rattle.vol_tree.specs.declared.superblock.Superblock.{Superblock}
use Rattle.vol_tree.specs.Stands.{Slots, Holds, KeepApart}
use Rattle.vol_tree.specs.internal.Parts.{AreTaken}
use Rattle.vol_tree.proofs.SlotChange.{OtherSlots, FitsIn, at_set}

-- what the slot holds doesn't name the sector
abbrev pub NamesNot : Image → Option Entry → ℕ → Type 0
NamesNot content o n = (e : Entry) → o ≡ Some e → NamesOthers content e n

-- the taken sectors follow the names of one slot
pub record TakenFollows (a b : Image) (x o : Option Entry) (old new : Alloc) : Type 0 where
  pub own : (e : Entry) → o ≡ Some e → NamesTaken (taken_of new) b e
  pub same : (n : ℕ) → NamesNot a x n → NamesNot b o n → taken_of new n ≡ taken_of old n
  pub given : (n : ℕ) → (NamesNot a x n → ⊥) → NamesNot b o n → taken_of new n ≡ false

module _ (a b : Image) (v : Superblock) (slots : Slots) (s : ℕ) (lt : s < length slots) (o : Option Entry) (holds : Holds a v.version slots) (apart : KeepApart a v slots)
    (others : OtherSlots a b v slots s) (fits : FitsIn a b v slots s o) (old new : Alloc) (follows : TakenFollows a b (get_or slots s None) o old new) (taken : AreTaken a v slots old) where
  same_name : (t : ℕ) (e : Entry) → get_or slots t None ≡ Some e → t ≢ s → (p : _) → IsPosition p → named b e p ≡ named a e p
  same_name t e is differ p place = (same_file a b e (others.files t e is differ)).names p place

  still_taken : (t : ℕ) (e : Entry) → get_or slots t None ≡ Some e → t ≢ s → NamesTaken (taken_of new) b e
  still_taken t e is differ p place some =
      let name = same_name t e is differ p place in
      let some_a : named a e p ≢ 0 = λ none. some (name ∙ none) in
      let not_old : NamesNot a (get_or slots s None) (named a e p) = λ d at q place2 eq. differ (apart.apart t s e d p q is at place place2 some_a (sym eq)) in
      let not_new : NamesNot b o (named a e p) = λ d at q place2 eq. fits.apart t e d p q is differ at place place2 some_a (sym eq) in
      ap (taken_of new) name ∙ follows.same (named a e p) not_old not_new ∙ taken.named t e is p place some_a

  abbrev after : Slots
  after = set slots s o

  at_s : get_or after s None ≡ o
  at_s = get_or-set_same slots s o None lt

  only_named : (n : ℕ) → taken_of new n ≡ true → ((t : ℕ) (e : Entry) → get_or after t None ≡ Some e → NamesOthers b e n) → ⊥
  only_named n is_taken none =
      let not_new : NamesNot b o n = λ e own. none s e (at_s ∙ own) in
      let was_named : NamesNot a (get_or slots s None) n → ⊥ = λ not_old.
      taken.only n (sym (follows.same n not_old not_new) ∙ is_taken) (λ t e is p place eq. elim (cases_eq t s) [
        | inl same ↦ not_old e (ap (λ (k : ℕ). get_or slots k None) (sym same) ∙ is) p place eq
        | inr differ ↦ none t e (get_or-set_other slots s t o None differ ∙ is) p place (same_name t e is differ p place ∙ eq)
      ]) in
      false≢true (sym (follows.given n was_named not_new) ∙ is_taken)

  pub taken_set : AreTaken b v (set slots s o) new
  taken_set = record {
    named = λ t e is. elim (at_set slots s t o e is) [
      | inl (same, own) ↦ follows.own e own
      | inr (differ, was) ↦ still_taken t e was differ
    ];
    only = only_named;
  }
