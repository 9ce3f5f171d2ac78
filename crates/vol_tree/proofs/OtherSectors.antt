-- An image stands for its tree by the volume's own sectors alone.
use Rattle.std.proofs.Common.{◌≡◌, ℕ, ◌+◌, ◌≤◌, ◌<◌, List, [], ◌∷◌, length, get_or, Some, None, refl, sym, ◌∙◌, ap, subst, arith, inr}
use Rattle.std.specs.Prelude.{◌==◌, if◌then◌else◌}
use Rattle.vol_sector.specs.Disk.{Image}
use Rattle.vol_log.specs.Header.{IsHeader}
use Rattle.vol_log.specs.Batch.{over, logged}
use Rattle.vol_inode.specs.declared.entry.Entry.{Entry}
use Rattle.vol_body.specs.Body.{named, IsSameFile, SameSectors}
use Rattle.vol_body.proofs.Same.{same_file, same_rules}
use Rattle.vol_tree.specs.declared.superblock.Superblock.{Superblock}
use Rattle.vol_tree.specs.Tree.{Tree, IsTree}
use Rattle.vol_tree.specs.Space.{space}
use Rattle.vol_tree.specs.Stands.{Slots, tree_of, IsVolume, StandsAs}
use Rattle.vol_tree.proofs.OneTree.{same_tree_entry, same_options}
use Rattle.vol_log.specs.declared.layout.TheConstants.{FIRST_AFTER_LOG}
use Rattle.vol_dirs.specs.Slots.{slot_sector}

-- ---- the log's images

-- the sectors that a log is for, and its images, are the same
over_logged : (ns : List ℕ) (at limit : ℕ) (one other : Image) (k : ℕ) → at + length ns ≤ limit → ((n : ℕ) → n < limit → other n ≡ one n) → other k ≡ one k → over (logged ns at other) other k ≡ over (logged ns at one) one k
over_logged ns at limit one other k le same here = by_batch ns at le where
  by_batch : (ms : List ℕ) (from : ℕ) → from + length ms ≤ limit → over (logged ms from other) other k ≡ over (logged ms from one) one k
  by_batch [] from low = here
  by_batch (m ∷ ms) from low =
      let image : other from ≡ one from = same from (omega arith) in
      let rest = by_batch ms (from + 1) (omega arith) in
      λ i. if k == m then image i else rest i

-- ---- the volume

module _ (a b : Image) (v : Superblock) (room : FIRST_AFTER_LOG + v.slots < v.sectors) (slots : Slots) (is : IsVolume a v slots) (same : (k : ℕ) → FIRST_AFTER_LOG ≤ k → k < v.sectors → b k ≡ a k) where
  same_sectors : (s : ℕ) (e : Entry) → get_or slots s None ≡ Some e → SameSectors a b e
  same_sectors s e at p place some =
      let after_log : FIRST_AFTER_LOG ≤ named a e p = omega (arith, is.sectors.after_slots s e p at place some) in
      same (named a e p) after_log (is.sectors.there s e p at place)

  file : (s : ℕ) (e : Entry) → get_or slots s None ≡ Some e → IsSameFile a b e
  file s e at = same_file a b e (same_sectors s e at)

  pub tree_same : tree_of b slots ≡ tree_of a slots
  tree_same = same_options b a slots (λ s e at. sym (same_tree_entry a b v.version e (is.holds.entries s e at) (same_sectors s e at)))

  pub other_volume : IsVolume b v slots
  other_volume = record {
    count = is.count;
    holds = record {
      bytes = λ s lt.
          let after_log : FIRST_AFTER_LOG ≤ slot_sector (s + 1) = omega arith in
          let there : slot_sector (s + 1) < v.sectors = omega (arith, room, is.count, lt) in
          same (slot_sector (s + 1)) after_log there ∙ is.holds.bytes s lt;
      entries = is.holds.entries;
    };
    sectors = record {
      bodies = λ s e at. same_rules a b e (file s e at) (is.sectors.bodies s e at);
      after_slots = λ s e p at place some.
          let names = (file s e at).names p place in
          omega (arith, names, is.sectors.after_slots s e p at place (λ none. some (names ∙ none)));
      there = λ s e p at place. omega (arith, (file s e at).names p place, is.sectors.there s e p at place);
      apart = λ s t d e p q one other place too some equal.
          let first = (file s d one).names p place in
          let second = (file t e other).names q too in
          is.sectors.apart s t d e p q one other place too (λ none. some (first ∙ none)) (sym first ∙ equal ∙ second);
    };
    tree = subst IsTree (sym tree_same) is.tree;
    space = omega (arith, ap space tree_same, is.space);
  }

-- ---- the image

pub other_sectors : (one other : Image) (v : Superblock) (T : Tree) → StandsAs one v T → ((k : ℕ) → k < v.sectors → other k ≡ one k) → StandsAs other v T
other_sectors one other v T st same = record {
  front = same 0 (omega (arith, st.ranges.least)) ∙ st.front;
  ranges = st.ranges;
  content = content;
  log = record { log = ns; header = subst (λ (bytes : List ℕ). IsHeader v.sectors bytes ns) (sym (same 1 (omega (arith, st.ranges.least)))) st.log.header; same = λ k at. refl };
  slots = st.slots;
  volume = other_volume st.content content v st.ranges.room st.slots st.volume inside;
  is = st.is ∙ sym (tree_same st.content content v st.ranges.room st.slots st.volume inside);
} where
  ns : List ℕ
  ns = st.log.log

  content : Image
  content = over (logged ns 2 other) other

  inside : (k : ℕ) → FIRST_AFTER_LOG ≤ k → k < v.sectors → content k ≡ st.content k
  inside k le lt = over_logged ns 2 v.sectors one other k (omega (arith, st.log.header.places.few, st.ranges.least)) same (same k lt) ∙ st.log.same k (inr le)
