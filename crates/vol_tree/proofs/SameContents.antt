-- A volume whose content is the same in another image, and what a crash around a commit leaves.
use Rattle.std.proofs.Common.{◌≡◌, inl, inr, ℕ, ◌+◌, ◌≤◌, List, [], ◌∷◌, length, get_or, set, Some, None, refl, sym, ◌∙◌, ap, subst, arith}
use Rattle.std.specs.Option.{option_map}
use Rattle.std.proofs.lemmas.List.{set_past, length-map}
use Rattle.vol_sector.specs.Disk.{Image, Disk}
use Rattle.vol_log.specs.Header.{Places}
use Rattle.vol_log.specs.Batch.{logged, HasContent, HasEither, Settled}
use Rattle.vol_log.specs.internal.Batch.{numbers}
use Rattle.vol_log.proofs.Commit.{over_low, has_own}
use Rattle.vol_inode.specs.declared.entry.Entry.{Entry}
use Rattle.vol_body.specs.Body.{named, IsSameFile, SameSectors}
use Rattle.vol_body.proofs.Same.{same_file}
use Rattle.vol_alloc.specs.declared.sectors.Alloc.{Alloc}
use Rattle.vol_alloc.specs.Alloc.{taken_of}
use Rattle.vol_dirs.specs.declared.dirs.Dirs.{Dirs}
use Rattle.vol_dirs.specs.Names.{Shows}
use Rattle.vol_dirs.proofs.Shown.{same_shown}
use Rattle.vol_tree.specs.declared.superblock.Superblock.{Superblock}
use Rattle.vol_tree.specs.Superblock.{HasRanges, superblock}
use Rattle.vol_tree.specs.Tree.{Tree, IsTree}
use Rattle.vol_tree.specs.Space.{space}
use Rattle.vol_tree.specs.Stands.{Slots, entry_of, tree_of, IsVolume, StandsAs}
use Rattle.vol_tree.specs.Clauses.{slots_in, tree_in}
use Rattle.vol_tree.specs.Opened.{data_sectors, ReflectsOr}
use Rattle.vol_tree.specs.internal.Parts.{IsContent, AreTaken}
use Rattle.vol_tree.proofs.SlotsRead.{slots_count}
use Rattle.vol_tree.proofs.SlotChange.{OtherSlots, FitsIn, set_tree, set_slots, set_volume}
use Rattle.vol_log.specs.declared.layout.TheConstants.{FIRST_AFTER_LOG}
use Rattle.vol_dirs.specs.Slots.{slot_sector}

-- ---- an image with the same content

module _ (a b : Image) (v : Superblock) (same : (k : ℕ) → FIRST_AFTER_LOG ≤ k → a k ≡ b k) (is : IsContent a v) where
  abbrev slots : Slots
  slots = slots_in a v.slots

  same_sectors : (t : ℕ) (e : Entry) → get_or slots t None ≡ Some e → SameSectors a b e
  same_sectors t e at p place some =
      let after_log : FIRST_AFTER_LOG ≤ named a e p = omega (arith, is.volume.sectors.after_slots t e p at place some) in
      sym (same (named a e p) after_log)

  others : OtherSlots a b v slots v.slots
  others = record {
    bytes = λ t lt differ. let after_log : FIRST_AFTER_LOG ≤ slot_sector (t + 1) = omega arith in sym (same (slot_sector (t + 1)) after_log);
    files = λ t e at differ. same_sectors t e at;
  }

  nothing : FitsIn a b v slots v.slots None
  nothing = record {
    bytes = λ lt. absurd (omega arith);
    entry = λ e none. absurd (cc);
    body = λ e none. absurd (cc);
    after_slots = λ e p none. absurd (cc);
    there = λ e p none. absurd (cc);
    apart = λ t d e p q at differ none. absurd (cc);
  }

  past : set slots v.slots None ≡ slots
  past = set_past slots v.slots None (omega (arith, slots_count a v.slots))

  pub same_slots_in : slots_in b v.slots ≡ slots
  same_slots_in = set_slots a b v slots v.slots None is.volume.count is.volume.holds is.volume.sectors others nothing ∙ past

  pub same_tree_in : tree_in b v ≡ tree_in a v
  same_tree_in =
      ap (tree_of b) same_slots_in ∙ sym (ap (tree_of b) past)
      ∙ set_tree a b v slots v.slots None is.volume.count is.volume.holds is.volume.sectors others nothing
      ∙ set_past (tree_of a slots) v.slots None (omega (arith, tree_long))
    where
      tree_long : length (tree_of a slots) ≤ v.slots
      tree_long = omega (arith, length-map slots (option_map (entry_of a)), slots_count a v.slots)

  pub same_is_content : IsContent b v
  same_is_content = record {
    volume =
        let whole : IsVolume b v (set slots v.slots None) = set_volume a b v slots v.slots None is.volume.count is.volume.holds is.volume.sectors others nothing
        (subst IsTree tree_is is.volume.tree) (subst (λ (T : Tree). space T ≤ data_sectors v) tree_is is.volume.space) in
        subst (λ (s : Slots). IsVolume b v s) (past ∙ sym same_slots_in) whole;
  }
    where
      tree_is : tree_of a slots ≡ tree_of b (set slots v.slots None)
      tree_is = sym same_tree_in ∙ ap (tree_of b) (same_slots_in ∙ sym past)

  same_file_of : (t : ℕ) (e : Entry) → get_or slots t None ≡ Some e → IsSameFile a b e
  same_file_of t e at = same_file a b e (same_sectors t e at)

  pub same_taken : (sectors : Alloc) → AreTaken a v slots sectors → AreTaken b v (slots_in b v.slots) sectors
  same_taken sectors taken = subst (λ (s : Slots). AreTaken b v s sectors) (sym same_slots_in) (record {
    named = λ t e at p place some.
        let names : named b e p ≡ named a e p = (same_file_of t e at).names p place in
        ap (taken_of sectors) names ∙ taken.named t e at p place (λ none. some (names ∙ none));
    only = λ n is_taken none. taken.only n is_taken (λ t e at p place named_n. none t e at p place ((same_file_of t e at).names p place ∙ named_n));
  })

  pub same_shows : (dirs : Dirs) → Shows v.version a v.slots dirs → Shows v.version b v.slots dirs
  same_shows dirs shows = same_shown v.version a b v.slots dirs shows (λ s first last. let after_log : FIRST_AFTER_LOG ≤ slot_sector s = omega arith in sym (same (slot_sector s) after_log))

-- ---- what images stand for

numbers_logged : (ns : List ℕ) (at : ℕ) (m : Image) → numbers (logged ns at m) ≡ ns
numbers_logged [] at m = refl
numbers_logged (n ∷ ns) at m = ap (λ (l : List ℕ). n ∷ l) (numbers_logged ns (at + 1) m)

-- the first sector isn't the log's
pub front_of : (sectors : ℕ) (c content : Image) → HasContent sectors c content → c 0 ≡ content 0
front_of sectors c content has =
    let places : Places sectors (numbers (logged has.log 2 c)) = subst (Places sectors) (sym (numbers_logged has.log 2 c)) has.header.places in
    sym (over_low sectors (logged has.log 2 c) places 0 c (omega arith)) ∙ has.same 0 (inl (omega arith))

pub stands_with : (c content : Image) (v : Superblock) → HasRanges v → content 0 ≡ superblock v → IsContent content v → HasContent v.sectors c content → StandsAs c v (tree_in content v)
stands_with c content v ranges front is has = record {
  front = front_of v.sectors c content has ∙ front;
  ranges = ranges;
  content = content;
  log = has;
  slots = slots_in content v.slots;
  volume = is.volume;
  is = refl;
}

-- a crash around a commit leaves the tree that was committed last, or that of the content
pub reflects_or : (disk : Disk) (content c : Image) (v : Superblock) → HasRanges v → disk.may_leave disk.seen → Settled v.sectors disk → disk.seen 0 ≡ superblock v → IsContent disk.seen v
    → content 0 ≡ superblock v → IsContent content v → HasEither v.sectors disk.seen content c → ReflectsOr disk v (tree_in content v) c
reflects_or disk content c v ranges may settled committed_front committed front is (inl has) = inl (record {
  earlier = disk.seen;
  could = may;
  tree = tree_in disk.seen v;
  stood = stands_with disk.seen disk.seen v ranges committed_front committed (has_own v.sectors disk.seen disk.seen settled.empty (λ k at. refl));
  stands = stands_with c disk.seen v ranges committed_front committed has;
})
reflects_or disk content c v ranges may settled committed_front committed front is (inr has) = inr (stands_with c content v ranges front is has)
