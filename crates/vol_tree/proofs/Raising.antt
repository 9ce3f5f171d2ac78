-- A volume of an older version is one of a newer, with another first sector.
use Rattle.std.proofs.Common.{◌≡◌, ◌≢◌, ◌↔◌, ◌⊎◌, inl, inr, ⊎_elim, ℕ, ◌+◌, ◌-◌, ◌≤◌, ◌<◌, true, false, Bool, nat_lt, ltb-true, List, [], get_or, Some, None, Result, Err, OnOk, is_err, refl, sym, ◌∙◌, ap, subst, arith}
use Rattle.std.proofs.lemmas.Bool.{ltb-false}
use Rattle.std.proofs.lemmas.Option.{same_Some}
use Rattle.vol_sector.specs.Disk.{Image, Disk, Leaves, put, counted}
use Rattle.vol_sector.specs.declared.device.Device.{Ghosts}
use Rattle.vol_log.specs.Log.{view, device_of, log_sectors, has_failed, staged_of}
use Rattle.vol_log.specs.Batch.{over, Settled}
use Rattle.vol_log.specs.declared.log.Log.{Log}
use Rattle.vol_log.specs.declared.staged.Staged.{Staged}
use Rattle.vol_log.proofs.Commit.{has_own}
use Rattle.vol_log.proofs.Images.{put_other}
use Rattle.vol_log.proofs.Moments.{leaves_then, leaves_same}
use Rattle.vol_inode.specs.declared.entry.Entry.{Entry}
use Rattle.vol_inode.specs.declared.version.Version.{Version}
use Rattle.vol_inode.specs.declared.version.Version.TheVariants.{One, Two, Four}
use Rattle.vol_inode.specs.Entry.{IsEntry, HasWidths}
use Rattle.vol_inode.specs.Space.{size_limit}
use Rattle.vol_inode.specs.Spelling.{spelling}
use Rattle.vol_dirs.specs.declared.dirs.Dirs.{Dirs}
use Rattle.vol_dirs.specs.Names.{Shows}
use Rattle.vol_alloc.specs.declared.sectors.Alloc.{Alloc}
use Rattle.vol_tree.specs.declared.parts.Parts.{Parts}
use Rattle.vol_tree.specs.declared.superblock.Superblock.{Superblock}
use Rattle.vol_tree.specs.Superblock.{superblock, HasRanges, IsOlder, version_number}
use Rattle.vol_tree.specs.Tree.{Tree}
use Rattle.vol_tree.specs.Space.{space}
use Rattle.vol_tree.specs.Stands.{StandsAs}
use Rattle.vol_tree.specs.Clauses.{slot_in, slots_in, tree_in, raised, MayUpgrade}
use Rattle.vol_tree.specs.Opened.{ReflectsOr, GoesOn}
use Rattle.vol_tree.specs.Parts.{opened}
use Rattle.vol_tree.specs.internal.Parts.{IsContent, AreTaken, IsOpen}
use Rattle.vol_tree.specs.internal.Upgrades.{Upgrades}
use Rattle.vol_tree.specs.internal.Commits.{Commits}
use Rattle.vol_sector.specs.Past.{StillGoesOn}
use Rattle.vol_tree.proofs.GoingOn.{goes_then, goes_same}
use Rattle.vol_tree.proofs.Committing.{reflects_then, on_ok}
use Rattle.vol_sector.specs.declared.fault.VolumeFault.{VolumeFault}
use Rattle.vol_sector.specs.declared.fault.VolumeFault.TheVariants as faults
use Rattle.vol_tree.proofs.SlotsRead.{slot_read}
use Rattle.vol_tree.proofs.SameContents.{same_is_content, same_tree_in, same_shows, same_taken, stands_with}
use Rattle.vol_log.specs.declared.layout.TheConstants.{FIRST_AFTER_LOG}
use Rattle.vol_dirs.specs.Slots.{slot_sector}

-- ---- two versions, of which the first is older

-- none is newer than version 4
not_newest : (v w : Version) → IsOlder v w → v ≢ Four
not_newest One w older = λ same. cc
not_newest Two w older = λ same. cc
not_newest Four One older = absurd (omega (arith, older))
not_newest Four Two older = absurd (omega (arith, older))
not_newest Four Four older = absurd (omega (arith, older))

-- one of them is older, or it isn't
older_or_not : (v w : Version) → IsOlder v w ⊎ (IsOlder v w → ⊥)
older_or_not v w = go (nat_lt (version_number v) (version_number w)) refl
  where
    go : (b : Bool) → nat_lt (version_number v) (version_number w) ≡ b → IsOlder v w ⊎ (IsOlder v w → ⊥)
    go true is = inl (ltb-true (version_number v) (version_number w) is)
    go false is = let le = ltb-false (version_number v) (version_number w) is in inr (λ older. omega arith)

-- the newer allows each size that the older does
larger : (v w : Version) (n : ℕ) → IsOlder v w → n ≤ size_limit v → n ≤ size_limit w
larger One One n older small = small
larger One Two n older small = omega (arith, small)
larger One Four n older small = omega (arith, small)
larger Two One n older small = absurd (omega (arith, older))
larger Two Two n older small = small
larger Two Four n older small = omega (arith, small)
larger Four One n older small = absurd (omega (arith, older))
larger Four Two n older small = absurd (omega (arith, older))
larger Four Four n older small = small

-- and each entry
entry_raised : (v w : Version) (e : Entry) → IsOlder v w → IsEntry v e → IsEntry w e
entry_raised v w e older is = record {
  widths = is.widths;
  rules = record {
    name = is.rules.name;
    padded = is.rules.padded;
    size = record { directory = is.rules.size.directory; small = larger v w e.size older is.rules.size.small };
    pointers = is.rules.pointers;
  };
}

module _ (content : Image) (v : Superblock) (to : Version) (older : IsOlder v.version to) (is : IsContent content v) where
  pub content_raised : IsContent content (raised to v)
  content_raised = record {
    volume = record {
      count = is.volume.count;
      holds = record {
        bytes = is.volume.holds.bytes;
        entries = λ s e at. entry_raised v.version to e older (is.volume.holds.entries s e at);
      };
      sectors = record { bodies = is.volume.sectors.bodies; after_slots = is.volume.sectors.after_slots; there = is.volume.sectors.there; apart = is.volume.sectors.apart };
      tree = is.volume.tree;
      space = is.volume.space;
    };
  }

  pub taken_raised : (sectors : Alloc) → AreTaken content v (slots_in content v.slots) sectors → AreTaken content (raised to v) (slots_in content v.slots) sectors
  taken_raised sectors taken = record { named = taken.named; only = taken.only }

  -- an entry that a slot spells is one that the older version allows
  entry_lowered : (s : ℕ) (e : Entry) → s < v.slots → IsEntry to e → content (slot_sector (s + 1)) ≡ spelling e → IsEntry v.version e
  entry_lowered s e lt right spelled =
      let o = get_or (slots_in content v.slots) s None in
      let own : slot_in (content (slot_sector (s + 1))) ≡ o = ap slot_in (is.volume.holds.bytes s (omega (arith, is.volume.count))) ∙ slot_read o (λ d at. (is.volume.holds.entries s d at).widths) in
      let read : slot_in (content (slot_sector (s + 1))) ≡ Some e = ap slot_in spelled ∙ slot_read (Some e) (λ d same. subst HasWidths (same_Some e d same) right.widths) in
      is.volume.holds.entries s e (sym own ∙ read)

  pub shows_raised : (dirs : Dirs) → Shows v.version content v.slots dirs → Shows to content v.slots dirs
  shows_raised dirs shows = record {
    names = λ p n s. (
      λ names.
          let at = (shows.names p n s).0 names in
          record {
            first = at.first;
            last = at.last;
            spelled = record {
              entry = at.spelled.entry;
              right = entry_raised v.version to at.spelled.entry older at.spelled.right;
              spelled = at.spelled.spelled;
              parent_is = at.spelled.parent_is;
              name_is = at.spelled.name_is;
            };
          },
      λ at.
          let here : slot_sector (s - 1 + 1) ≡ slot_sector s = omega (arith, at.first) in
          (shows.names p n s).1 (record {
            first = at.first;
            last = at.last;
            spelled = record {
              entry = at.spelled.entry;
              right = entry_lowered (s - 1) at.spelled.entry (omega (arith, at.first, at.last)) at.spelled.right (ap content here ∙ at.spelled.spelled);
              spelled = at.spelled.spelled;
              parent_is = at.spelled.parent_is;
              name_is = at.spelled.name_is;
            };
          }),
    );
    seats = λ s e first last right spelled.
        let here : slot_sector (s - 1 + 1) ≡ slot_sector s = omega (arith, first) in
        shows.seats s e first last (entry_lowered (s - 1) e (omega (arith, first, last)) right (ap content here ∙ spelled)) spelled;
  }

ranges_raised : (v : Superblock) (to : Version) → IsOlder v.version to → HasRanges v → HasRanges (raised to v)
ranges_raised v to older r = record { least = r.least; most = r.most; some_slots = r.some_slots; few_slots = r.few_slots; room = r.room; older = λ before. r.older (not_newest v.version to older) }

-- ---- the parts

-- what a log promises of the front's write
pub record LogFronts {D : Type 0} {g : Ghosts D} (old new : Log D g) (image : List ℕ) (io : Bool) : Type 0 where
  pub written : io ≡ false → g.honest (device_of old) → (g.disk (device_of new)).seen ≡ put 0 image (g.disk (device_of old)).seen
  pub settled : io ≡ false → g.honest (device_of old) → Settled (log_sectors old) (g.disk (device_of new))
  pub others : g.honest (device_of old) → (n : ℕ) → 0 < n → (g.disk (device_of new)).seen n ≡ (g.disk (device_of old)).seen n
  pub crash : g.honest (device_of old) → Leaves (g.disk (device_of old)) (g.disk (device_of new)) (λ c. c ≡ put 0 image (g.disk (device_of old)).seen)
  pub staged : staged_of new ≡ []
  pub failed : has_failed new ≡ io
  pub sectors : log_sectors new ≡ log_sectors old
  pub honest : g.honest (device_of old) ↔ g.honest (device_of new)
  pub goes_on : (end : ℕ) → log_sectors old ≤ end → StillGoesOn (g.goes_on end) (device_of old) (device_of new)
  pub size : g.size (device_of new) ≡ g.size (device_of old)
  pub failures : g.failures (device_of new) ≡ counted io (g.failures (device_of old))

module _ {D : Type 0} {g : Ghosts D} (may_stay : (d : D) → g.honest d → (g.disk d).may_leave (g.disk d).seen) (old : Parts D g) (log : Log D g) (is : IsOpen old) (ok : has_failed old.log ≡ false) (empty : staged_of old.log ≡ [])
    (to : Version) (older : IsOlder old.numbers.version to) where
  abbrev v : Superblock
  v = old.numbers

  seen_of : (l : Log D g) → staged_of l ≡ [] → view l ≡ (g.disk (device_of l)).seen
  seen_of l none = ap (λ (b : List Staged). over b (g.disk (device_of l)).seen) none

  module _ (io : Bool) (f : LogFronts old.log log (superblock (raised to v)) io) where
    after_log : g.honest (device_of old.log) → (k : ℕ) → FIRST_AFTER_LOG ≤ k → view old.log k ≡ view log k
    after_log h k le =
        ap (λ (m : Image). m k) (seen_of old.log empty) ∙ sym (f.others h k (omega arith)) ∙ sym (ap (λ (m : Image). m k) (seen_of log f.staged))

    tree_same : g.honest (device_of old.log) → tree_in (view log) v ≡ tree_in (view old.log) v
    tree_same h = same_tree_in (view old.log) (view log) v (after_log h) (is.content h)

    content_same : g.honest (device_of old.log) → IsContent (view log) v
    content_same h = same_is_content (view old.log) (view log) v (after_log h) (is.content h)

    -- the image with the new first sector stands for the tree
    stands_new : g.honest (device_of old.log) → StandsAs (put 0 (superblock (raised to v)) (g.disk (device_of old.log)).seen) (raised to v) (tree_in (view old.log) v)
    stands_new h =
        let disk = g.disk (device_of old.log) in
        let m : Image = put 0 (superblock (raised to v)) disk.seen in
        let was = is.working h ok in
        let later : (k : ℕ) → FIRST_AFTER_LOG ≤ k → view old.log k ≡ m k = λ k le. ap (λ (x : Image). x k) (seen_of old.log empty) ∙ sym (beyond k disk.seen (omega arith)) in
        let content = same_is_content (view old.log) m v later (is.content h) in
        let tree = same_tree_in (view old.log) m v later (is.content h) in
        subst (λ (T : Tree). StandsAs m (raised to v) T) tree
        (stands_with m m (raised to v) (ranges_raised v to older is.ranges) refl (content_raised m v to older content) (has_own v.sectors m m was.settled.empty (λ k at. refl)))
      where
        beyond : (k : ℕ) (m : Image) → 0 < k → put 0 (superblock (raised to v)) m k ≡ m k
        beyond k m lt = put_other 0 k (superblock (raised to v)) m (λ same. omega arith)

    crash_new : g.honest (device_of old.log) → Leaves (g.disk (device_of old.log)) (g.disk (device_of log)) (MayUpgrade (g.disk (device_of old.log)) v to (opened old).tree)
    crash_new h =
        let disk = g.disk (device_of old.log) in
        leaves_then disk disk (g.disk (device_of log)) (λ c. ⊥) (λ c. c ≡ put 0 (superblock (raised to v)) disk.seen) (MayUpgrade disk v to (opened old).tree) (leaves_same disk (λ c. ⊥)) (f.crash h)
        (λ m none. absurd none) (λ m same. inr (subst (λ (x : Image). StandsAs x (raised to v) (opened old).tree) (sym same) (stands_new h)))

    pub not_upgraded : io ≡ true → Upgrades to old (record old { log = log }) io
    not_upgraded bad = record {
      is_open = record {
        ranges = is.ranges;
        sectors = f.sectors ∙ is.sectors;
        on_device = omega (arith, f.size, is.on_device);
        first = is.first;
        end = is.end;
        slots = is.slots;
        content = λ h. content_same (f.honest.1 h);
        reserved = λ h. let h0 = f.honest.1 h in is.reserved h0 ∙ ap space (sym (tree_same h0));
        shows = λ h. let h0 = f.honest.1 h in same_shows (view old.log) (view log) v (after_log h0) (is.content h0) old.dirs (is.shows h0);
        working = λ h fine. absurd (let both : true ≡ false = sym bad ∙ sym f.failed ∙ fine in cc);
      };
      tree = tree_same;
      done = λ good. absurd (let both : true ≡ false = sym bad ∙ good in cc);
      undone = λ b. refl;
      crash = crash_new;
      durable = λ good. absurd (let both : true ≡ false = sym bad ∙ good in cc);
      failed = f.failed;
      failures = λ fine. f.failures;
      idle = λ failed. absurd (let both : true ≡ false = sym failed ∙ ok in cc);
      honest = f.honest;
      size = f.size;
      goes_on = λ end le. f.goes_on end (subst (λ (n : ℕ). n ≤ end) (sym is.sectors) le);
    }

    pub is_upgraded : io ≡ false → Upgrades to old (record old { log = log; numbers = raised to v }) io
    is_upgraded good = record {
      is_open = record {
        ranges = ranges_raised v to older is.ranges;
        sectors = f.sectors ∙ is.sectors;
        on_device = omega (arith, f.size, is.on_device);
        first = is.first;
        end = is.end;
        slots = is.slots;
        content = λ h. content_raised (view log) v to older (content_same (f.honest.1 h));
        reserved = λ h. let h0 = f.honest.1 h in is.reserved h0 ∙ ap space (sym (tree_same h0));
        shows = λ h. let h0 = f.honest.1 h in shows_raised (view log) v to older (content_same h0) old.dirs (same_shows (view old.log) (view log) v (after_log h0) (is.content h0) old.dirs (is.shows h0));
        working = λ h fine.
            let h0 = f.honest.1 h in
            let was = is.working h0 ok in
            let new_seen = f.written good h0 in
            let front_seen : (g.disk (device_of log)).seen 0 ≡ superblock (raised to v) = ap (λ (m : Image). m 0) new_seen in
            record {
              settled = subst (λ (s : ℕ). Settled s (g.disk (device_of log))) is.sectors (f.settled good h0);
              front = ap (λ (m : Image). m 0) (seen_of log f.staged) ∙ front_seen;
              committed_front = front_seen;
              committed = subst (λ (m : Image). IsContent m (raised to v)) (seen_of log f.staged) (content_raised (view log) v to older (content_same h0));
              taken = taken_raised (view log) v to older (content_same h0) old.sectors (same_taken (view old.log) (view log) v (after_log h0) (is.content h0) old.sectors was.taken);
            };
      };
      tree = tree_same;
      done = λ b. refl;
      undone = λ bad. absurd (let both : true ≡ false = sym bad ∙ good in cc);
      crash = crash_new;
      durable = λ b h c may.
          let only = (f.settled good h).durable c may in
          subst (λ (T : Tree). StandsAs c (raised to v) T) (sym (tree_same h)) (subst (λ (x : Image). StandsAs x (raised to v) (tree_in (view old.log) v)) (sym (only ∙ f.written good h)) (stands_new h));
      failed = f.failed;
      failures = λ fine. f.failures;
      idle = λ failed. absurd (let both : true ≡ false = sym failed ∙ ok in cc);
      honest = f.honest;
      size = f.size;
      goes_on = λ end le. f.goes_on end (subst (λ (n : ℕ). n ≤ end) (sym is.sectors) le);
    }

-- a commit that failed
pub upgrade_fails : {D : Type 0} {g : Ghosts D} (to : Version) (a b : Parts D g) → Commits a b true → Upgrades to a b true
upgrade_fails {D} {g} to a b c = record {
  is_open = c.is_open;
  tree = c.tree;
  done = λ good. absurd (cc);
  undone = λ bad. c.kept.numbers;
  crash = λ h.
      let disk = g.disk (device_of a.log) in
      let reflects = ReflectsOr disk a.numbers (opened a).tree in
      leaves_then disk disk (g.disk (device_of b.log)) reflects reflects (MayUpgrade disk a.numbers to (opened a).tree) (leaves_same disk reflects) (c.crash h) (λ m p. inl p) (λ m p. inl p);
  durable = λ good. absurd (cc);
  failed = c.kept.failed;
  failures = c.kept.failures;
  idle = c.kept.idle;
  honest = c.kept.honest;
  size = c.kept.size;
  goes_on = c.goes_on;
}

-- what a crash leaves of an upgrade after a commit
upgrade_on : (a b c : Disk) (v w : Superblock) (to : Version) (T U : Tree) → v ≡ w → T ≡ U → Leaves a b (ReflectsOr a w U) → Leaves b c (MayUpgrade b v to T) → Leaves a c (MayUpgrade a w to U)
upgrade_on a b c v w to T U numbers tree first second =
    let on : Leaves b c (MayUpgrade b w to U) = subst (λ (u : Superblock). Leaves b c (MayUpgrade b u to U)) numbers (subst (λ (V : Tree). Leaves b c (MayUpgrade b v to V)) tree second) in
    leaves_then a b c (ReflectsOr a w U) (MayUpgrade b w to U) (MayUpgrade a w to U) first on (λ m p. inl p) (λ m p. ⊎_elim (λ was. inl (reflects_then a b w U m first.now was)) (λ new. inr new) p)

-- after a commit
pub upgrades_after : {D : Type 0} {g : Ghosts D} (to : Version) (a b c : Parts D g) (io : Bool) → Commits a b false → Upgrades to b c io → Upgrades to a c io
upgrades_after {D} {g} to a b c io first second = record {
  is_open = second.is_open;
  tree = λ h. second.tree (first.kept.honest.0 h) ∙ first.tree h;
  done = λ good. second.done good ∙ ap (raised to) first.kept.numbers;
  undone = λ bad. second.undone bad ∙ first.kept.numbers;
  crash = λ h. upgrade_on (g.disk (device_of a.log)) (g.disk (device_of b.log)) (g.disk (device_of c.log)) b.numbers a.numbers to (opened b).tree (opened a).tree first.kept.numbers (first.tree h) (first.crash h) (second.crash (first.kept.honest.0 h));
  durable = λ good h. second.durable good (first.kept.honest.0 h);
  failed = second.failed;
  failures = λ ok. second.failures first.kept.failed ∙ ap (counted io) (first.kept.failures ok);
  idle = λ failed. absurd (let i = (first.kept.idle failed).1 in cc);
  honest = (λ h. second.honest.0 (first.kept.honest.0 h), λ h. first.kept.honest.1 (second.honest.1 h));
  size = second.size ∙ first.kept.size;
  goes_on = goes_then g.goes_on (opened a) (opened b) (opened c) first.kept.numbers first.goes_on second.goes_on;
}

-- ---- an upgrade, to a newer version or not

module _ {D : Type 0} {g : Ghosts D} (to : Version) (old new : Parts D g) (r : Result (Unit {0}) VolumeFault) (newest : (IsOlder old.numbers.version to → ⊥) → (new ≡ old) × (r ≡ Err faults.Upgraded))
    (upgrades : IsOlder old.numbers.version to → Upgrades to old new (is_err r)) where
  pub upgrade_open : IsOpen old → IsOpen new
  upgrade_open is = elim (older_or_not old.numbers.version to) [
    | inl older ↦ (upgrades older).is_open
    | inr newer ↦ subst (λ (p : Parts D g). IsOpen p) (sym (newest newer).0) is
  ]

  pub upgrade_crash : g.honest (device_of old.log) → Leaves (g.disk (device_of old.log)) (g.disk (device_of new.log)) (MayUpgrade (g.disk (device_of old.log)) old.numbers to (opened old).tree)
  upgrade_crash h = elim (older_or_not old.numbers.version to) [
    | inl older ↦ (upgrades older).crash h
    | inr newer ↦ subst (λ (p : Parts D g). Leaves (g.disk (device_of old.log)) (g.disk (device_of p.log)) (MayUpgrade (g.disk (device_of old.log)) old.numbers to (opened old).tree)) (sym (newest newer).0) (leaves_same (g.disk (device_of old.log)) _)
  ]

  pub upgrade_lasts : g.honest (device_of old.log) → OnOk r ((c : Image) → (g.disk (device_of new.log)).may_leave c → StandsAs c new.numbers (opened new).tree)
  upgrade_lasts h = elim (older_or_not old.numbers.version to) [
    | inl older ↦ on_ok r _ (λ good. (upgrades older).durable good h)
    | inr newer ↦ subst (λ (x : Result (Unit {0}) VolumeFault). OnOk x ((c : Image) → (g.disk (device_of new.log)).may_leave c → StandsAs c new.numbers (opened new).tree)) (sym (newest newer).1) tt
  ]

  pub upgrade_goes_on : GoesOn g.goes_on (opened old) (opened new)
  upgrade_goes_on = elim (older_or_not old.numbers.version to) [
    | inl older ↦ (upgrades older).goes_on
    | inr newer ↦ goes_same g.goes_on (opened old) (opened new) (ap (λ (p : Parts D g). device_of p.log) (newest newer).0)
  ]
