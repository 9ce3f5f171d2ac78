-- A file whose entry and sectors are written anew.
use Rattle.std.proofs.Common.{is_some, ◌≡◌, ◌≢◌, inl, inr, ℕ, suc, ◌+◌, ◌≤◌, ◌<◌, true, false, List, [], ◌∷◌, get_or, set, Option, Some, None, refl, sym, ◌∙◌, ap, subst, arith}
use Rattle.std.proofs.lemmas.Bool.{cases_eq, cases_Bool, false≢true}
use Rattle.std.proofs.lemmas.Option.{same_Some}
use Rattle.vol_sector.specs.Disk.{Image}
use Rattle.vol_inode.specs.declared.entry.Entry.{Entry}
use Rattle.vol_inode.specs.Entry.{IsEntry, name_of}
use Rattle.vol_inode.specs.Name.{IsName}
use Rattle.vol_inode.specs.Spelling.{spelling}
use Rattle.vol_body.specs.Body.{BlockPosition, IsPosition, named, NamesTaken, NamesOthers, IsBody}
use Rattle.vol_body.specs.Change.{OthersStay, TakesAndGives}
use Rattle.vol_body.proofs.Steps.{taken_range}
use Rattle.vol_alloc.specs.declared.sectors.Alloc.{Alloc}
use Rattle.vol_alloc.specs.Alloc.{first_of, end_of, taken_of}
use Rattle.vol_dirs.specs.declared.dirs.Dirs.{Dirs}
use Rattle.vol_dirs.specs.Names.{Shows}
use Rattle.vol_dirs.proofs.Shown.{rewritten_shown}
use Rattle.vol_tree.specs.declared.superblock.Superblock.{Superblock}
use Rattle.vol_tree.specs.Tree as tree
use Rattle.vol_tree.specs.Tree.{Tree, Path, Directory, File, IsTree, IsDirectory, IsAt, root, changed}
use Rattle.vol_tree.specs.Space.{space}
use Rattle.vol_tree.specs.Stands.{Slots, slot, entry_of, tree_of, IsVolume}
use Rattle.vol_tree.specs.Clauses.{slots_in, tree_in}
use Rattle.vol_tree.specs.Opened.{data_sectors}
use Rattle.vol_tree.specs.internal.Parts.{IsContent, AreTaken}
use Rattle.vol_tree.proofs.SlotsRead.{slots_count}
use Rattle.vol_tree.proofs.SlotChange.{OtherSlots, FitsIn, set_tree, set_slots, set_volume}
use Rattle.vol_tree.proofs.SlotTaken.{TakenFollows, taken_set}
use Rattle.vol_tree.proofs.Entries.{entry-changed_same, entry-changed_other}
use Rattle.vol_tree.proofs.Finding.{slot_within}
use Rattle.vol_log.specs.declared.layout.TheConstants.{FIRST_AFTER_LOG}
use Rattle.vol_dirs.specs.Slots.{slot_sector}

-- ---- the tree

-- a file with other bytes: the tree is a tree
module _ (T : Tree) (t : IsTree T) (s : ℕ) (e : tree.Entry) (h : tree.entry T s ≡ Some e) (file : e.node ≢ Directory) (bytes : List ℕ) where
  abbrev filled : tree.Entry
  filled = record e { node = File bytes }

  abbrev U : Tree
  U = changed T s (Some filled)

  not_top : s ≢ 1
  not_top same = file (ap (λ (d : tree.Entry). d.node) (same_Some e root (sym h ∙ (ap (tree.entry T) same ∙ t.top))))

  at_s : tree.entry U s ≡ Some filled
  at_s = entry-changed_same T s e (Some filled) h

  elsewhere : (x : ℕ) → x ≢ s → tree.entry U x ≡ tree.entry T x
  elsewhere x differ = entry-changed_other T s x (Some filled) differ

  -- each entry has the parent and the name that it had
  was : (x : ℕ) (d : tree.Entry) → tree.entry U x ≡ Some d → (c : tree.Entry) × (tree.entry T x ≡ Some c) × (d.parent ≡ c.parent) × (d.name ≡ c.name)
  was x d is = elim (cases_eq x s) [
    | inl same ↦
        let own : filled ≡ d = same_Some filled d (sym at_s ∙ (ap (tree.entry U) (sym same) ∙ is)) in
        (e, ap (tree.entry T) same ∙ h, sym (ap (λ (c : tree.Entry). c.parent) own), sym (ap (λ (c : tree.Entry). c.name) own))
    | inr differ ↦ (d, sym (elsewhere x differ) ∙ is, refl, refl)
  ]

  now : (x : ℕ) (c : tree.Entry) → tree.entry T x ≡ Some c → (d : tree.Entry) × (tree.entry U x ≡ Some d) × (d.parent ≡ c.parent) × (d.name ≡ c.name)
  now x c is = elim (cases_eq x s) [
    | inl same ↦
        let own : e ≡ c = same_Some e c (sym h ∙ (ap (tree.entry T) (sym same) ∙ is)) in
        (filled, ap (tree.entry U) same ∙ at_s, ap (λ (c : tree.Entry). c.parent) own, ap (λ (c : tree.Entry). c.name) own)
    | inr differ ↦ (c, elsewhere x differ ∙ is, refl, refl)
  ]

  directory_stays : (x : ℕ) → IsDirectory T x → IsDirectory U x
  directory_stays x d =
      let differ : x ≢ s = λ same. file (ap (λ (c : tree.Entry). c.node) (same_Some e d.0 (sym h ∙ (ap (tree.entry T) (sym same) ∙ d.1))) ∙ d.2) in
      (d.0, elsewhere x differ ∙ d.1, d.2)

  leads : (path : Path) (x : ℕ) → IsAt T path x → IsAt U path x
  leads [] x g = g
  leads (n ∷ path) x g =
      let d = now x g.0 g.1 in
      (d.0, d.1, d.3 ∙ g.2, subst (λ (p : ℕ). IsAt U path p) (sym d.2) (leads path g.0.parent g.3))

  used_was : (x : ℕ) (o : Option tree.Entry) → tree.entry U x ≡ o → is_some o ≡ true → is_some (tree.entry T x) ≡ true
  used_was x None is some = absurd (false≢true some)
  used_was x (Some d) is some = let c = was x d is in ap is_some c.1

  pub filled_tree : IsTree U
  filled_tree = record {
    top = elsewhere 1 (λ same. not_top (sym same)) ∙ t.top;
    named = λ x d is other. let c = was x d is in subst IsName (sym c.3) (t.named x c.0 c.1 other);
    inside = λ x d is other. let c = was x d is in subst (λ (p : ℕ). IsDirectory U p) (sym c.2) (directory_stays c.0.parent (t.inside x c.0 c.1 other));
    apart = λ x y d f is too parents names.
        let c = was x d is in
        let b = was y f too in
        t.apart x y c.0 b.0 c.1 b.1 (sym c.2 ∙ parents ∙ b.2) (sym c.3 ∙ names ∙ b.3);
    reached = λ x some. let path = t.reached x (used_was x (tree.entry U x) refl some) in (path.0, leads path.0 x path.1);
  }

-- ---- the slots

-- what a write leaves of a content, a file's entry and the taken sectors
pub record Rewrites (a b : Image) (v : Superblock) (s : ℕ) (d e : Entry) (old new : Alloc) : Type 0 where
  pub entry : IsEntry v.version e
  pub kind : e.kind ≡ d.kind
  pub parent : e.parent ≡ d.parent
  pub name : name_of e ≡ name_of d
  pub body : IsBody b e
  pub staged : b (slot_sector (s + 1)) ≡ spelling e
  pub others : OthersStay (slot_sector (s + 1)) (first_of old) (end_of old) (taken_of old) a b d
  pub taken : TakesAndGives (taken_of old) (taken_of new) a b d e
  pub first : first_of new ≡ first_of old
  pub end : end_of new ≡ end_of old

module _ (a b : Image) (v : Superblock) (s : ℕ) (d e : Entry) (old new : Alloc) (is : IsContent a v) (at : get_or (slots_in a v.slots) s None ≡ Some d)
    (first : first_of old ≡ FIRST_AFTER_LOG + v.slots) (end : end_of old ≡ v.sectors) (low : FIRST_AFTER_LOG + v.slots < v.sectors) (taken : AreTaken a v (slots_in a v.slots) old) (r : Rewrites a b v s d e old new) where
  abbrev slots : Slots
  slots = slots_in a v.slots

  lt : s < v.slots
  lt = slot_within a v.slots s d at

  -- a sector of another slot's file isn't this one's
  not_own : (t : ℕ) (f : Entry) (p : BlockPosition) → get_or slots t None ≡ Some f → t ≢ s → IsPosition p → named a f p ≢ 0 → NamesOthers a d (named a f p)
  not_own t f p is_f differ place some q place2 same = differ (is.volume.sectors.apart t s f d p q is_f at place place2 some (sym same))

  pub rewritten_others : OtherSlots a b v slots s
  rewritten_others = record {
    bytes = λ t l differ. r.others.outside (slot_sector (t + 1)) (λ same. differ (omega (arith, lt))) (inl (omega (arith, lt)));
    files = λ t f is_f differ p place some.
        let after_slots : FIRST_AFTER_LOG + v.slots ≤ named a f p = is.volume.sectors.after_slots t f p is_f place some in
        r.others.taken (named a f p) (λ same. omega (arith, lt)) (taken.named t f is_f p place some) (not_own t f p is_f differ place some);
  }

  own : (c : Entry) → Some e ≡ Some c → e ≡ c
  own c same = same_Some e c same

  range : (n : ℕ) → taken_of new n ≡ true → (FIRST_AFTER_LOG + v.slots ≤ n) × (n < v.sectors)
  range n is_taken = let within = taken_range new n is_taken in (omega (arith, within.0, r.first, first), omega (arith, within.1, r.end, end))

  names_taken : (p : BlockPosition) → IsPosition p → named b e p ≢ 0 → taken_of new (named b e p) ≡ true
  names_taken p place some = r.taken.taken p place some

  below : (p : BlockPosition) → IsPosition p → named b e p < v.sectors
  below p place = elim (cases_eq (named b e p) 0) [
    | inl none ↦ omega (arith, lt)
    | inr some ↦ (range (named b e p) (names_taken p place some)).1
  ]

  fits : FitsIn a b v slots s (Some e)
  fits = record {
    bytes = λ l. r.staged;
    entry = λ c same. subst (IsEntry v.version) (own c same) r.entry;
    body = λ c same. subst (IsBody b) (own c same) r.body;
    after_slots = λ c p same place. subst (λ (x : Entry). named b x p ≢ 0 → FIRST_AFTER_LOG + v.slots ≤ named b x p) (own c same) (λ some. (range (named b e p) (names_taken p place some)).0);
    there = λ c p same place. subst (λ (x : Entry). named b x p < v.sectors) (own c same) (below p place);
    apart = λ t f c p q is_f differ same place other some eq.
        let eq_e : named a f p ≡ named b e q = eq ∙ ap (λ (x : Entry). named b x q) (sym (own c same)) in
        let free : taken_of old (named a f p) ≡ false = r.taken.fresh (named a f p) (record { some = some; position = (q, other, sym eq_e) }) (not_own t f p is_f differ place some) in
        false≢true (sym free ∙ taken.named t f is_f p place some);
  }

  follows : TakenFollows a b (get_or slots s None) (Some e) old new
  follows = record {
    own = λ c same. subst (NamesTaken (taken_of new) b) (own c same) r.taken.taken;
    same = λ n not_old not_new. r.taken.others n (not_old d at) (not_new e refl);
    given = λ n was_named not_new. elim (cases_Bool (taken_of new n)) [
      | inl still ↦ absurd (was_named (λ c at_c p place eq.
          let is_d : d ≡ c = same_Some d c (sym at ∙ at_c) in
          let eq_d : named a d p ≡ n = ap (λ (x : Entry). named a x p) is_d ∙ eq in
          let some : n ≢ 0 = λ none. omega (arith, (range n still).0) in
          let gone : taken_of new n ≡ false = r.taken.given n (record { some = some; position = (p, place, eq_d) }) (not_new e refl) in
          false≢true (sym gone ∙ still)))
      | inr free ↦ free
    ];
  }

  slots_are : slots_in b v.slots ≡ set slots s (Some e)
  slots_are = set_slots a b v slots s (Some e) is.volume.count is.volume.holds is.volume.sectors rewritten_others fits

  tree_set : tree_of b (set slots s (Some e)) ≡ changed (tree_in a v) (suc s) (Some (entry_of b e))
  tree_set = set_tree a b v slots s (Some e) is.volume.count is.volume.holds is.volume.sectors rewritten_others fits

  pub rewritten_tree : tree_in b v ≡ changed (tree_in a v) (suc s) (Some (entry_of b e))
  rewritten_tree = ap (tree_of b) slots_are ∙ tree_set

  pub rewritten_taken : AreTaken b v (slots_in b v.slots) new
  rewritten_taken = subst (λ (x : Slots). AreTaken b v x new) (sym slots_are)
      (taken_set a b v slots s (omega (arith, slots_count a v.slots, lt)) (Some e) is.volume.holds is.volume.sectors rewritten_others fits old new follows taken)

  pub rewritten_front : b 0 ≡ a 0
  rewritten_front = r.others.outside 0 (λ same. omega (arith, lt)) (inl (omega (arith, lt)))

  pub rewritten_content : IsTree (changed (tree_in a v) (suc s) (Some (entry_of b e))) → space (changed (tree_in a v) (suc s) (Some (entry_of b e))) ≤ data_sectors v → IsContent b v
  rewritten_content is_tree small = record {
    volume = subst (λ (x : Slots). IsVolume b v x) (sym slots_are)
        (set_volume a b v slots s (Some e) is.volume.count is.volume.holds is.volume.sectors rewritten_others fits (subst IsTree (sym tree_set) is_tree) (subst (λ (U : Tree). space U ≤ data_sectors v) (sym tree_set) small));
  }

  pub rewritten_shows : (dirs : Dirs) → Shows v.version a v.slots dirs → Shows v.version b v.slots dirs
  rewritten_shows dirs shows =
      let here : slot_sector (suc s) ≡ slot_sector (s + 1) = omega (arith, lt) in
      rewritten_shown v.version a b v.slots (suc s) d e dirs shows (is.volume.holds.entries s d at) r.entry
      (ap a here ∙ is.volume.holds.bytes s (omega (arith, is.volume.count, lt)) ∙ ap slot at) (ap b here ∙ r.staged) (sym r.kind) (sym r.parent) (sym r.name)
      (λ t from last differ. r.others.outside (slot_sector t) (λ same. differ (omega (arith, lt))) (inl (omega (arith, lt))))
