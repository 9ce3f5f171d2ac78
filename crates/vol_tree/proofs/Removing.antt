-- An entry is taken out, with the sectors that its file named.
use Rattle.std.proofs.Common.{◌≡◌, ◌≢◌, inl, inr, ℕ, suc, ◌+◌, ◌≤◌, ◌<◌, true, false, length, get_or, set, Some, None, sym, ◌∙◌, ap, subst, arith}
use Rattle.std.specs.Option.{option_map}
use Rattle.std.proofs.lemmas.Bool.{cases_eq, cases_Bool, false≢true}
use Rattle.std.proofs.lemmas.Option.{same_Some}
use Rattle.std.proofs.lemmas.List.FromFn.{length-map-range_with_len}
use Rattle.std.proofs.lemmas.List.Sums.{sum_by-set}
use Rattle.vol_sector.specs.Disk.{Image, put}
use Rattle.vol_log.proofs.Images.{put_same, put_other, at_once}
use Rattle.vol_inode.specs.declared.entry.Entry.{Entry}
use Rattle.vol_inode.specs.Spelling.{unused}
use Rattle.vol_inode.specs.Space.{need_of}
use Rattle.vol_body.specs.Body.{BlockPosition, IsPosition, named, NamesOthers, bytes_of, byte_at}
use Rattle.vol_body.proofs.Steps.{taken_range}
use Rattle.vol_alloc.specs.declared.sectors.Alloc.{Alloc}
use Rattle.vol_alloc.specs.Alloc.{first_of, end_of, taken_of}
use Rattle.vol_tree.specs.declared.superblock.Superblock.{Superblock}
use Rattle.vol_tree.specs.Tree.{Tree, IsTree, changed}
use Rattle.vol_tree.specs.Space.{space, need_in, size_of}
use Rattle.vol_tree.specs.Stands.{Slots, entry_of, node_by, tree_of, IsVolume}
use Rattle.vol_tree.specs.Clauses.{slots_in, tree_in}
use Rattle.vol_tree.specs.Opened.{data_sectors}
use Rattle.vol_tree.specs.internal.Parts.{IsContent, AreTaken}
use Rattle.vol_tree.proofs.SlotsRead.{slots_count}
use Rattle.vol_tree.proofs.SlotChange.{OtherSlots, FitsIn, set_tree, set_slots, set_volume}
use Rattle.vol_tree.proofs.SlotTaken.{TakenFollows, taken_set}
use Rattle.vol_tree.proofs.Rewriting.{Rewrites, rewritten_others, rewritten_front}
use Rattle.vol_tree.proofs.Finding.{slot_within, entry_at, length_tree, size_back}
use Rattle.vol_log.specs.declared.layout.TheConstants.{FIRST_AFTER_LOG}
use Rattle.vol_dirs.specs.Slots.{slot_sector}

module _ (a b c : Image) (v : Superblock) (s : ℕ) (d e : Entry) (old new : Alloc) (is : IsContent a v) (at : get_or (slots_in a v.slots) s None ≡ Some d)
    (first : first_of old ≡ FIRST_AFTER_LOG + v.slots) (end : end_of old ≡ v.sectors) (low : FIRST_AFTER_LOG + v.slots < v.sectors) (taken : AreTaken a v (slots_in a v.slots) old) (r : Rewrites a b v s d e old new)
    (empty : e.size ≡ 0) (put_is : c ≡ put (slot_sector (s + 1)) unused b) where
  abbrev slots : Slots
  slots = slots_in a v.slots

  lt : s < v.slots
  lt = slot_within a v.slots s d at

  elsewhere : (k : ℕ) → k ≢ slot_sector (s + 1) → c k ≡ b k
  elsewhere k differ = at_once k c (put (slot_sector (s + 1)) unused b) put_is ∙ put_other (slot_sector (s + 1)) k unused b differ

  before : OtherSlots a b v slots s
  before = rewritten_others a b v s d e old new is at first end low taken r

  others : OtherSlots a c v slots s
  others = record {
    bytes = λ t l differ. elsewhere (slot_sector (t + 1)) (λ same. differ (omega arith)) ∙ before.bytes t l differ;
    files = λ t f is_f differ p place some.
        let after_slots : FIRST_AFTER_LOG + v.slots ≤ named a f p = is.volume.sectors.after_slots t f p is_f place some in
        elsewhere (named a f p) (λ same. omega (arith, lt)) ∙ before.files t f is_f differ p place some;
  }

  fits : FitsIn a c v slots s None
  fits = record {
    bytes = λ l. at_once (slot_sector (s + 1)) c (put (slot_sector (s + 1)) unused b) put_is ∙ put_same (slot_sector (s + 1)) unused b;
    entry = λ x none. absurd (cc);
    body = λ x none. absurd (cc);
    after_slots = λ x p none. absurd (cc);
    there = λ x p none. absurd (cc);
    apart = λ t x y p q at_x differ none. absurd (cc);
  }

  names_none : (p : BlockPosition) → IsPosition p → named b e p ≡ 0
  names_none p place = r.body.past p place (omega (arith, empty))

  range : (n : ℕ) → taken_of new n ≡ true → n ≢ 0
  range n is_taken none = omega (arith, (taken_range new n is_taken).0, r.first, first)

  was_range : (n : ℕ) → taken_of old n ≡ true → n ≢ 0
  was_range n is_taken none = omega (arith, (taken_range old n is_taken).0, first)

  others_than : (n : ℕ) → n ≢ 0 → NamesOthers b e n
  others_than n some p place eq = some (sym eq ∙ names_none p place)

  never_taken : (n : ℕ) → n ≡ 0 → taken_of new n ≡ taken_of old n
  never_taken n none = elim (cases_Bool (taken_of new n)) [
    | inl yes_new ↦ absurd (range n yes_new none)
    | inr free ↦ elim (cases_Bool (taken_of old n)) [
      | inl yes_old ↦ absurd (was_range n yes_old none)
      | inr was_free ↦ free ∙ sym was_free
    ]
  ]

  follows : TakenFollows a c (get_or slots s None) None old new
  follows = record {
    own = λ x none. absurd (cc);
    same = λ n not_old not_new. elim (cases_eq n 0) [
      | inl none ↦ never_taken n none
      | inr some ↦ r.taken.others n (not_old d at) (others_than n some)
    ];
    given = λ n was_named not_new. elim (cases_Bool (taken_of new n)) [
      | inl still ↦ absurd (was_named (λ x at_x p place eq.
          let is_d : d ≡ x = same_Some d x (sym at ∙ at_x) in
          let eq_d : named a d p ≡ n = ap (λ (y : Entry). named a y p) is_d ∙ eq in
          let some : n ≢ 0 = range n still in
          let gone : taken_of new n ≡ false = r.taken.given n (record { some = some; position = (p, place, eq_d) }) (others_than n some) in
          false≢true (sym gone ∙ still)))
      | inr free ↦ free
    ];
  }

  pub removed_slots : slots_in c v.slots ≡ set slots s None
  removed_slots = set_slots a c v slots s None is.volume.count is.volume.holds is.volume.sectors others fits

  tree_set : tree_of c (set slots s None) ≡ changed (tree_in a v) (suc s) None
  tree_set = set_tree a c v slots s None is.volume.count is.volume.holds is.volume.sectors others fits

  pub removed_tree : tree_in c v ≡ changed (tree_in a v) (suc s) None
  removed_tree = ap (tree_of c) removed_slots ∙ tree_set

  pub removed_taken : AreTaken c v (slots_in c v.slots) new
  removed_taken = subst (λ (x : Slots). AreTaken c v x new) (sym removed_slots)
      (taken_set a c v slots s (omega (arith, slots_count a v.slots, lt)) None is.volume.holds is.volume.sectors others fits old new follows taken)

  pub removed_front : c 0 ≡ a 0
  removed_front = elsewhere 0 (λ same. omega arith) ∙ rewritten_front a b v s d e old new is at first end low taken r

  pub removed_space : space (changed (tree_in a v) (suc s) None) + need_of d.size ≡ space (tree_in a v)
  removed_space =
      let T : Tree = tree_in a v in
      let long : s < length T = omega (arith, length_tree a v, lt) in
      let right = is.volume.holds.entries s d at in
      let size : d.size ≡ size_of (node_by d.kind (bytes_of a d)) = size_back d.kind d.size (bytes_of a d) right.rules.size.directory (length-map-range_with_len (byte_at a d) 0 d.size) in
      let own : need_in (get_or T s None) ≡ need_of d.size = ap need_in (entry_at a slots s ∙ ap (option_map (entry_of a)) at) ∙ ap need_of (sym size) in
      omega (arith, sum_by-set need_in T s None None long, own)

  pub removed_content : IsTree (changed (tree_in a v) (suc s) None) → IsContent c v
  removed_content is_tree = record {
    volume =
        let small : space (changed (tree_in a v) (suc s) None) ≤ data_sectors v = omega (arith, removed_space, is.volume.space) in
        subst (λ (x : Slots). IsVolume c v x) (sym removed_slots)
        (set_volume a c v slots s None is.volume.count is.volume.holds is.volume.sectors others fits (subst IsTree (sym tree_set) is_tree) (subst (λ (U : Tree). space U ≤ data_sectors v) (sym tree_set) small));
  }
