-- What opening finds of an image and leaves of it.
use Rattle.std.proofs.Common.{inr, ◌≡◌, ◌≤◌, ℕ, List, [], refl, sym, ◌∙◌, ap, subst, arith}
use Rattle.vol_sector.specs.Disk.{Image, Disk, Leaves}
use Rattle.vol_log.specs.Header.{IsHeader}
use Rattle.vol_sector.specs.declared.device.Device.{Ghosts}
use Rattle.vol_log.specs.Log.{view, device_of, staged_of}
use Rattle.vol_log.specs.declared.log.Log.{Log}
use Rattle.vol_log.specs.declared.staged.Staged.{Staged}
use Rattle.vol_log.specs.Reading.{OnlyReads}
use Rattle.vol_log.specs.Batch.{over, SameContent, HasContent, Settled}
use Rattle.vol_log.proofs.Moments.{leaves_same, leaves_then}
use Rattle.vol_log.proofs.Opening.{only_keeps}
use Rattle.vol_log.proofs.Commit.{has_own}
use Rattle.vol_tree.specs.declared.superblock.Superblock.{Superblock}
use Rattle.vol_tree.specs.Superblock.{superblock, HasRanges}
use Rattle.vol_tree.specs.Tree.{Tree}
use Rattle.vol_tree.specs.Stands.{IsVolume, StandsAs}
use Rattle.vol_tree.specs.Clauses.{slots_in, tree_in}
use Rattle.vol_tree.specs.Opening.{StandsOn, HoldsOn}
use Rattle.vol_alloc.specs.declared.sectors.Alloc.{Alloc}
use Rattle.vol_dirs.specs.declared.dirs.Dirs.{Dirs}
use Rattle.vol_tree.specs.internal.Parts.{IsContent, AreTaken, IsWorking}
use Rattle.vol_tree.specs.internal.Reads.{HasParts}
use Rattle.vol_tree.proofs.OneTree.{same_superblock}
use Rattle.vol_tree.proofs.SlotsRead.{slots_read}
use Rattle.vol_tree.proofs.SameContents.{front_of, stands_with, same_is_content}

-- the content is told up to the log's own sectors
pub has_same : (sectors : ℕ) (a m n : Image) → HasContent sectors a m → SameContent n m → HasContent sectors a n
has_same sectors a m n has same = record { log = has.log; header = has.header; same = λ k at. has.same k at ∙ sym (same k at) }

-- another image with the same content stands for the same tree
pub stands_again : (a c : Image) (v : Superblock) (T : Tree) (st : StandsAs a v T) → HasContent v.sectors c st.content → StandsAs c v T
stands_again a c v T st has = record {
  front = front_of v.sectors c st.content has ∙ sym (front_of v.sectors a st.content st.log) ∙ st.front;
  ranges = st.ranges;
  content = st.content;
  log = has;
  slots = st.slots;
  volume = st.volume;
  is = st.is;
}

pub stands_volume : (a : Image) (v : Superblock) (T : Tree) (st : StandsAs a v T) (content : Image) → SameContent content st.content → IsContent content v
stands_volume a v T st content same = same_is_content st.content content v (λ k le. sym (same k (inr le))) own
  where
    slots_are : slots_in st.content v.slots ≡ st.slots
    slots_are = ap (slots_in st.content) (sym st.volume.count) ∙ slots_read st.content v.version st.slots st.volume.holds

    own : IsContent st.content v
    own = record { volume = subst (IsVolume st.content v) (sym slots_are) st.volume }

-- one superblock
pub one_superblock : (size : ℕ) (image : Image) (v w : Superblock) (T : Tree) → HasRanges v → image 0 ≡ superblock v → StandsOn size image w T → w ≡ v
one_superblock size image v w T ranges front on = same_superblock (image 0) w v on.stands.ranges ranges on.stands.front front

pub leaves_weaker : (a b : Disk) (P Q : Image → Type 0) → Leaves a b P → ((m : Image) → P m → Q m) → Leaves a b Q
leaves_weaker a b P Q leaves weaker = leaves_then a a b Q P Q (leaves_same a Q) leaves (λ m q. q) weaker

pub leaves_nothing : (a b : Disk) (Q : Image → Type 0) → Leaves a b (λ c. ⊥) → Leaves a b Q
leaves_nothing a b Q leaves = leaves_weaker a b (λ c. ⊥) Q leaves (λ m none. absurd none)

-- ---- what a crash leaves, and what reads give, before the volume is known to be right

module _ (d0 d1 : Disk) (size : ℕ) (v w : Superblock) (T : Tree) (ranges : HasRanges v) (front : d0.seen 0 ≡ superblock v) (same : d1.seen ≡ d0.seen) (on : StandsOn size d0.seen w T) where
  is_v : w ≡ v
  is_v = one_superblock size d0.seen v w T ranges front on

  -- what the log stands for
  log_has : HasContent w.sectors d1.seen on.stands.content
  log_has = subst (λ (a : Image). HasContent w.sectors a on.stands.content) (sym same) on.stands.log

  pub crash_over : (d2 : Disk) → Leaves d0 d1 (λ c. ⊥) → ((m : Image) → HasContent v.sectors d1.seen m → Leaves d1 d2 (λ c. HasContent v.sectors c m)) → Leaves d0 d2 (λ c. StandsAs c w T)
  crash_over d2 first second =
      let own : Leaves d1 d2 (λ c. HasContent w.sectors c on.stands.content) = subst (λ (u : Superblock). (m : Image) → HasContent u.sectors d1.seen m → Leaves d1 d2 (λ c. HasContent u.sectors c m)) (sym is_v) second on.stands.content log_has in
      leaves_then d0 d1 d2 (λ c. ⊥) (λ c. HasContent w.sectors c on.stands.content) (λ c. StandsAs c w T) first own (λ m none. absurd none) (λ m has. stands_again d0.seen m w T on.stands has)

  pub kept_over : (after : Image) (now : ℕ) → now ≡ size → ((m : Image) → HasContent v.sectors d1.seen m → HasContent v.sectors after m) → StandsOn now after w T
  kept_over after now sized keeps =
      let own : HasContent w.sectors after on.stands.content = subst (λ (u : Superblock). (m : Image) → HasContent u.sectors d1.seen m → HasContent u.sectors after m) (sym is_v) keeps on.stands.content log_has in
      record { stands = stands_again d0.seen after w T on.stands own; room = omega (arith, on.room, sized) }

  pub none_over : ((m : Image) → HasContent v.sectors d1.seen m → ⊥) → ⊥
  none_over none = subst (λ (u : Superblock). (m : Image) → HasContent u.sectors d1.seen m → ⊥) (sym is_v) none on.stands.content log_has

  pub volume_over : (content : Image) → ((m : Image) → HasContent v.sectors d1.seen m → SameContent content m) → IsContent content v
  volume_over content told =
      let own : SameContent content on.stands.content = subst (λ (u : Superblock). (m : Image) → HasContent u.sectors d1.seen m → SameContent content m) (sym is_v) told on.stands.content log_has in
      subst (IsContent content) is_v (stands_volume d0.seen w T on.stands content own)

-- what the steps of opening leave of an image with a right first sector and a right log
module _ (d0 d1 : Disk) (size : ℕ) (v w : Superblock) (m : Image) (ranges : HasRanges v) (front : d0.seen 0 ≡ superblock v) (same : d1.seen ≡ d0.seen) (holds : HoldsOn size d0.seen w m) where
  held_is : w ≡ v
  held_is = same_superblock (d0.seen 0) w v holds.ranges ranges holds.front front

  pub held_log : HasContent v.sectors d1.seen m
  held_log = subst (λ (u : Superblock). HasContent u.sectors d1.seen m) held_is (subst (λ (a : Image). HasContent w.sectors a m) (sym same) holds.log)

  pub held_again : (c : Image) → HasContent v.sectors c m → HoldsOn size c w m
  held_again c has =
      let own : HasContent w.sectors c m = subst (λ (u : Superblock). HasContent u.sectors c m) (sym held_is) has in
      record { front = front_of w.sectors c m own ∙ sym (front_of w.sectors d0.seen m holds.log) ∙ holds.front; ranges = holds.ranges; room = holds.room; log = own }

  pub held_over : (d2 : Disk) → Leaves d0 d1 (λ c. ⊥) → Leaves d1 d2 (λ c. HasContent v.sectors c m) → Leaves d0 d2 (λ c. HoldsOn size c w m)
  held_over d2 first second = leaves_then d0 d1 d2 (λ c. ⊥) (λ c. HasContent v.sectors c m) (λ c. HoldsOn size c w m) first second (λ c none. absurd none) (λ c has. held_again c has)

-- an image that holds no volume's log
pub none_held : (d0 d1 : Disk) (size : ℕ) (v : Superblock) → HasRanges v → v.sectors ≤ size → d0.seen 0 ≡ superblock v → d1.seen ≡ d0.seen → ((w : Superblock) (m : Image) → HoldsOn size d0.seen w m → ⊥)
    → (m : Image) → HasContent v.sectors d1.seen m → ⊥
none_held d0 d1 size v ranges room front same none m has =
    none v m (record { front = front; ranges = ranges; room = room; log = subst (λ (a : Image). HasContent v.sectors a m) same has })

-- an installed log stands for what it stood for
pub settled_has : (sectors : ℕ) (d : Disk) (a content m : Image) → Settled sectors d → a ≡ d.seen → content ≡ d.seen → SameContent content m → HasContent sectors a m
settled_has sectors d a content m settled is seen same =
    subst (λ (x : Image). HasContent sectors x m) (sym is) (has_own sectors d.seen m settled.empty (λ k at. sym (λ i. seen i k) ∙ same k at))

-- ---- what opening found

pub record Finds (size : ℕ) (d0 d3 : Disk) (content : Image) (v : Superblock) : Type 0 where
  pub ranges : HasRanges v
  pub room : v.sectors ≤ size
  pub front : d0.seen 0 ≡ superblock v
  pub has : HasContent v.sectors d0.seen content
  pub settled : Settled v.sectors d3
  pub seen : content ≡ d3.seen
  pub volume : IsContent content v

module _ (size : ℕ) (d0 d3 : Disk) (content : Image) (v : Superblock) (f : Finds size d0 d3 content v) where
  front_is : content 0 ≡ superblock v
  front_is = sym (front_of v.sectors d0.seen content f.has) ∙ f.front

  pub finds_stands : StandsOn size d0.seen v (tree_in content v)
  finds_stands = record { stands = stands_with d0.seen content v f.ranges front_is f.volume f.has; room = f.room }

  pub finds_lasting : (c : Image) → d3.may_leave c → StandsAs c v (tree_in content v)
  finds_lasting c may =
      stands_with c content v f.ranges front_is f.volume (settled_has v.sectors d3 c content content f.settled (f.settled.durable c may) f.seen (λ k at. refl))

  pub finds_working : (sectors : Alloc) → AreTaken content v (slots_in content v.slots) sectors → IsWorking d3 content v sectors
  finds_working sectors taken = record {
    settled = f.settled;
    front = front_is;
    committed_front = sym (λ i. f.seen i 0) ∙ front_is;
    committed = subst (λ (m : Image). IsContent m v) f.seen f.volume;
    taken = taken;
  }

-- reads leave the disk settled
pub settled_reads : (sectors : ℕ) (a b : Disk) → Settled sectors a → Leaves a b (λ c. ⊥) → b.seen ≡ a.seen → Settled sectors b
settled_reads sectors a b settled quiet same = record {
  durable = only_keeps a b settled.durable quiet same;
  empty = subst (λ (m : Image). IsHeader sectors (m 1) []) (sym same) settled.empty;
}

-- from what the steps of opening promise
module _ {D : Type 0} {g : Ghosts D} where
  pub log_finds : (before read : D) (log after : Log D g) (v : Superblock) (dirs : Dirs) (sectors : Alloc) (reserved : ℕ) → g.honest before → g.honest read → g.honest (device_of log)
      → HasRanges v → v.sectors ≤ g.size before → (g.disk before).seen 0 ≡ superblock v → (g.disk read).seen ≡ (g.disk before).seen → staged_of log ≡ []
      → ((m : Image) → HasContent v.sectors (g.disk read).seen m → SameContent (view log) m) → (m : Image) × HasContent v.sectors (g.disk read).seen m → Settled v.sectors (g.disk (device_of log))
      → OnlyReads log after → HasParts (view log) v dirs sectors reserved
      → Finds (g.size before) (g.disk before) (g.disk (device_of after)) (view after) v
  log_finds before read log after v dirs sectors reserved h h1 h2 ranges room front same none told some settled reads parts = record {
    ranges = ranges;
    room = room;
    front = front;
    has = subst (λ (a : Image). HasContent v.sectors a (view after)) same (has_same v.sectors (g.disk read).seen some.0 (view after) some.1 (λ k at. (λ i. reads.view h2 i k) ∙ told some.0 some.1 k at));
    settled = settled_reads v.sectors (g.disk (device_of log)) (g.disk (device_of after)) settled (reads.crash h2) (reads.seen h2);
    seen = ap (λ (batch : List Staged). over batch (g.disk (device_of after)).seen) (reads.staged ∙ none);
    volume = subst (λ (m : Image). IsContent m v) (sym (reads.view h2)) parts.volume;
  }
