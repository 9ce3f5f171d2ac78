-- A volume's parts around a commit.
use Rattle.std.proofs.Common.{◌≡◌, ◌≤◌, ℕ, ◌⊎◌, ◌↔◌, inl, inr, Bool, true, false, [], Result, Ok, Err, OnOk, is_err, refl, sym, ◌∙◌, ap, subst, arith}
use Rattle.std.proofs.lemmas.Bool.{cases_Bool}
use Rattle.vol_sector.specs.Disk.{Image, Disk, Leaves, counted}
use Rattle.vol_sector.specs.declared.device.Device.{Ghosts}
use Rattle.vol_log.specs.Log.{view, device_of, log_sectors, has_failed}
use Rattle.vol_log.specs.Batch.{SameContent, HasEither, Settled}
use Rattle.vol_log.specs.declared.log.Log.{Log}
use Rattle.vol_log.proofs.Moments.{leaves_same, leaves_then, leaves_quiet}
use Rattle.vol_log.proofs.Opening.{only_keeps}
use Rattle.vol_log.specs.Header.{IsHeader}
use Rattle.vol_dirs.specs.Names.{Shows}
use Rattle.vol_tree.specs.Tree.{Tree}
use Rattle.vol_tree.proofs.OneTree.{one_tree}
use Rattle.vol_log.proofs.Commit.{has_own}
use Rattle.vol_tree.specs.declared.parts.Parts.{Parts}
use Rattle.vol_tree.specs.Superblock.{superblock}
use Rattle.vol_tree.specs.Space.{space}
use Rattle.vol_tree.specs.Stands.{StandsAs}
use Rattle.vol_tree.specs.declared.superblock.Superblock.{Superblock}
use Rattle.vol_tree.specs.Clauses.{tree_in, slots_in}
use Rattle.vol_tree.specs.Opened.{ReflectsOr}
use Rattle.vol_tree.specs.Parts.{opened}
use Rattle.vol_tree.specs.internal.Parts.{IsOpen, IsContent, AreTaken}
use Rattle.vol_tree.specs.internal.Commits.{Commits}
use Rattle.vol_tree.proofs.GoingOn.{goes_then}
use Rattle.vol_sector.specs.Past.{StillGoesOn}
use Rattle.vol_tree.proofs.SameContents.{same_slots_in, same_is_content, same_tree_in, same_taken, same_shows, stands_with, reflects_or}
use Rattle.vol_log.specs.declared.layout.TheConstants.{FIRST_AFTER_LOG}

pub at_ok : {T E : Type 0} (r : Result T E) (P : Type 0) → OnOk r P → is_err r ≡ false → P
at_ok (Ok x) P p is = p
at_ok (Err e) P p is = absurd (cc)

pub on_ok : {T E : Type 0} (r : Result T E) (P : Type 0) → (is_err r ≡ false → P) → OnOk r P
on_ok (Ok x) P p = p refl
on_ok (Err e) P p = tt

-- what a log promises of a commit
pub record LogCommits {D : Type 0} {g : Ghosts D} (old new : Log D g) (io : Bool) : Type 0 where
  pub done : io ≡ false → g.honest (device_of old) → Settled (log_sectors old) (g.disk (device_of new)) × SameContent (g.disk (device_of new)).seen (view old)
  pub crash : g.honest (device_of old) → Leaves (g.disk (device_of old)) (g.disk (device_of new)) (HasEither (log_sectors old) (g.disk (device_of old)).seen (view old))
  pub keeps : g.honest (device_of old) → SameContent (view new) (view old)
  pub failed : has_failed new ≡ io
  pub idle : has_failed old ≡ true → (device_of new ≡ device_of old) × (io ≡ true)
  pub sectors : log_sectors new ≡ log_sectors old
  pub honest : g.honest (device_of old) ↔ g.honest (device_of new)
  pub goes_on : (end : ℕ) → log_sectors old ≤ end → StillGoesOn (g.goes_on end) (device_of old) (device_of new)
  pub size : g.size (device_of new) ≡ g.size (device_of old)
  pub failures : has_failed old ≡ false → g.failures (device_of new) ≡ counted io (g.failures (device_of old))

module _ {D : Type 0} {g : Ghosts D} (may_stay : (d : D) → g.honest d → (g.disk d).may_leave (g.disk d).seen) (old : Parts D g) (log : Log D g) (io : Bool) (is : IsOpen old) (c : LogCommits old.log log io) where
  abbrev new : Parts D g
  new = record old { log = log }

  same : g.honest (device_of old.log) → SameContent (view old.log) (view log)
  same h k at = sym (c.keeps h k at)

  after_log : g.honest (device_of old.log) → (k : ℕ) → FIRST_AFTER_LOG ≤ k → view old.log k ≡ view log k
  after_log h k le = same h k (inr le)

  pub tree_stays : g.honest (device_of old.log) → tree_in (view log) old.numbers ≡ tree_in (view old.log) old.numbers
  tree_stays h = same_tree_in (view old.log) (view log) old.numbers (after_log h) (is.content h)

  committed_open : IsOpen new
  committed_open = record {
    ranges = is.ranges;
    sectors = c.sectors ∙ is.sectors;
    on_device = omega (arith, c.size, is.on_device);
    first = is.first;
    end = is.end;
    slots = is.slots;
    content = λ h. let h0 = c.honest.1 h in same_is_content (view old.log) (view log) old.numbers (after_log h0) (is.content h0);
    reserved = λ h. let h0 = c.honest.1 h in is.reserved h0 ∙ ap space (sym (tree_stays h0));
    shows = λ h. let h0 = c.honest.1 h in same_shows (view old.log) (view log) old.numbers (after_log h0) (is.content h0) old.dirs (is.shows h0);
    working = λ h ok.
        let h0 = c.honest.1 h in
        let io_is : io ≡ false = sym c.failed ∙ ok in
        let was_ok : has_failed old.log ≡ false = elim (cases_Bool (has_failed old.log)) [ inl yes_failed ↦ absurd (let i = (c.idle yes_failed).1 in cc) | inr fine ↦ fine ] in
        let done = c.done io_is h0 in
        let was = is.working h0 was_ok in
        record {
          settled = subst (λ s. Settled s (g.disk (device_of log))) is.sectors done.0;
          front = c.keeps h0 0 (inl (omega arith)) ∙ was.front;
          committed_front = done.1 0 (inl (omega arith)) ∙ was.front;
          committed = same_is_content (view old.log) (g.disk (device_of log)).seen old.numbers (λ k le. sym (done.1 k (inr le))) (is.content h0);
          taken = same_taken (view old.log) (view log) old.numbers (after_log h0) (is.content h0) old.sectors was.taken;
        };
  }

  committed_crash : g.honest (device_of old.log) → Leaves (g.disk (device_of old.log)) (g.disk (device_of log)) (ReflectsOr (g.disk (device_of old.log)) old.numbers (opened old).tree)
  committed_crash h = elim (cases_Bool (has_failed old.log)) [
    | inl yes_failed ↦ subst (λ (d : D). Leaves (g.disk (device_of old.log)) (g.disk d) (ReflectsOr (g.disk (device_of old.log)) old.numbers (opened old).tree)) (sym (c.idle yes_failed).0) (leaves_same (g.disk (device_of old.log)) _)
    | inr fine ↦
        let disk = g.disk (device_of old.log) in
        let was = is.working h fine in
        leaves_then disk disk (g.disk (device_of log)) (ReflectsOr disk old.numbers (opened old).tree) (HasEither (log_sectors old.log) disk.seen (view old.log)) (ReflectsOr disk old.numbers (opened old).tree) (leaves_same disk _) (c.crash h) (λ m p. p)
        (λ m either. reflects_or disk (view old.log) m old.numbers is.ranges (may_stay (device_of old.log) h) was.settled was.committed_front was.committed was.front (is.content h)
        (subst (λ s. HasEither s disk.seen (view old.log) m) is.sectors either))
  ]

  pub commits : Commits old new io
  commits = record {
    is_open = committed_open;
    tree = tree_stays;
    slots = λ h. same_slots_in (view old.log) (view log) old.numbers (after_log h) (is.content h);
    crash = committed_crash;
    kept = record { numbers = refl; failed = c.failed; failures = c.failures; idle = c.idle; honest = c.honest; size = c.size };
    goes_on = λ end le. c.goes_on end (subst (λ (n : ℕ). n ≤ end) (sym is.sectors) le);
    dirs = refl;
    sectors = refl;
    reserved = refl;
  }

  -- after its success each crash leaves the tree
  pub commit_lasts : io ≡ false → g.honest (device_of old.log) → (m : Image) → (g.disk (device_of log)).may_leave m → StandsAs m old.numbers (opened old).tree
  commit_lasts io_is h m may =
      let done = c.done io_is h in
      let disk = g.disk (device_of log) in
      let settled = subst (λ s. Settled s disk) is.sectors done.0 in
      let same_seen : SameContent (view old.log) disk.seen = λ k at. sym (done.1 k at) in
      let content : IsContent disk.seen old.numbers = same_is_content (view old.log) disk.seen old.numbers (λ k le. same_seen k (inr le)) (is.content h) in
      let was_ok : has_failed old.log ≡ false = elim (cases_Bool (has_failed old.log)) [ inl yes_failed ↦ absurd (let i = (c.idle yes_failed).1 in cc) | inr fine ↦ fine ] in
      let front : disk.seen 0 ≡ superblock old.numbers = done.1 0 (inl (omega arith)) ∙ (is.working h was_ok).front in
      let stands : StandsAs disk.seen old.numbers (tree_in disk.seen old.numbers) = stands_with disk.seen disk.seen old.numbers is.ranges front content (has_own old.numbers.sectors disk.seen disk.seen settled.empty (λ k at. refl)) in
      let tree = same_tree_in (view old.log) disk.seen old.numbers (λ k le. same_seen k (inr le)) (is.content h) in
      subst (λ (T : Tree). StandsAs m old.numbers T) tree (subst (λ (x : Image). StandsAs x old.numbers (tree_in disk.seen old.numbers)) (sym (settled.durable m may)) stands)

-- nothing is done
pub no_commit : {D : Type 0} {g : Ghosts D} (p : Parts D g) (io : Bool) → IsOpen p → has_failed p.log ≡ io → Commits p p io
no_commit {D} {g} p io is failed = record {
  is_open = is;
  tree = λ h. refl;
  slots = λ h. refl;
  crash = λ h. leaves_same (g.disk (device_of p.log)) _;
  kept = record {
    numbers = refl;
    failed = failed;
    failures = λ ok. let io_is : io ≡ false = sym failed ∙ ok in ap (λ b. counted b (g.failures (device_of p.log))) (sym io_is);
    idle = λ yes_failed. (refl, sym failed ∙ yes_failed);
    honest = (λ h. h, λ h. h);
    size = refl;
  };
  goes_on = λ end le first from. from;
  dirs = refl;
  sectors = refl;
  reserved = refl;
}

-- what a log promises of a read
pub record LogReads {D : Type 0} {g : Ghosts D} (old new : Log D g) (io : Bool) : Type 0 where
  pub view : g.honest (device_of old) → view new ≡ view old
  pub seen : g.honest (device_of old) → (g.disk (device_of new)).seen ≡ (g.disk (device_of old)).seen
  pub crash : g.honest (device_of old) → Leaves (g.disk (device_of old)) (g.disk (device_of new)) (λ c. ⊥)
  pub failed : has_failed new ≡ io
  pub idle : has_failed old ≡ true → (device_of new ≡ device_of old) × (io ≡ true)
  pub sectors : log_sectors new ≡ log_sectors old
  pub honest : g.honest (device_of old) ↔ g.honest (device_of new)
  pub goes_on : (end : ℕ) → StillGoesOn (g.goes_on end) (device_of old) (device_of new)
  pub size : g.size (device_of new) ≡ g.size (device_of old)
  pub failures : has_failed old ≡ false → g.failures (device_of new) ≡ counted io (g.failures (device_of old))

pub still_settled : (sectors : _) (a b : Disk) → Settled sectors a → b.seen ≡ a.seen → Leaves a b (λ c. ⊥) → Settled sectors b
still_settled sectors a b was seen quiet = record {
  durable = only_keeps a b was.durable quiet seen;
  empty = subst (λ (m : Image). IsHeader sectors (m 1) []) (sym seen) was.empty;
}

-- a volume whose log is read
pub reads_commit : {D : Type 0} {g : Ghosts D} (old : Parts D g) (log : Log D g) (io : Bool) → IsOpen old → LogReads old.log log io → Commits old (record old { log = log }) io
reads_commit {D} {g} old log io is r = record {
  is_open = record {
    ranges = is.ranges;
    sectors = r.sectors ∙ is.sectors;
    on_device = omega (arith, r.size, is.on_device);
    first = is.first;
    end = is.end;
    slots = is.slots;
    content = λ h. let h0 = r.honest.1 h in subst (λ m. IsContent m old.numbers) (sym (r.view h0)) (is.content h0);
    reserved = λ h. let h0 = r.honest.1 h in is.reserved h0 ∙ ap (λ m. space (tree_in m old.numbers)) (sym (r.view h0));
    shows = λ h. let h0 = r.honest.1 h in subst (λ m. Shows old.numbers.version m old.numbers.slots old.dirs) (sym (r.view h0)) (is.shows h0);
    working = λ h ok.
        let h0 = r.honest.1 h in
        let io_is : io ≡ false = sym r.failed ∙ ok in
        let was_ok : has_failed old.log ≡ false = elim (cases_Bool (has_failed old.log)) [ inl yes_failed ↦ absurd (let i = (r.idle yes_failed).1 in cc) | inr fine ↦ fine ] in
        let was = is.working h0 was_ok in
        record {
          settled = still_settled old.numbers.sectors (g.disk (device_of old.log)) (g.disk (device_of log)) was.settled (r.seen h0) (r.crash h0);
          front = ap (λ m. m 0) (r.view h0) ∙ was.front;
          committed_front = ap (λ m. m 0) (r.seen h0) ∙ was.committed_front;
          committed = subst (λ m. IsContent m old.numbers) (sym (r.seen h0)) was.committed;
          taken = subst (λ m. AreTaken m old.numbers (slots_in m old.numbers.slots) old.sectors) (sym (r.view h0)) was.taken;
        };
  };
  tree = λ h. ap (λ m. tree_in m old.numbers) (r.view h);
  slots = λ h. ap (λ m. slots_in m old.numbers.slots) (r.view h);
  crash = λ h. leaves_quiet (g.disk (device_of old.log)) (g.disk (device_of old.log)) (g.disk (device_of log)) _ (leaves_same (g.disk (device_of old.log)) _) (r.crash h);
  kept = record { numbers = refl; failed = r.failed; failures = r.failures; idle = r.idle; honest = r.honest; size = r.size };
  goes_on = λ end le. r.goes_on end;
  dirs = refl;
  sectors = refl;
  reserved = refl;
}

-- what an image of the middle reflects was reflected before
reflected : (a : Disk) (v : Superblock) (tree : Tree) (e c : Image) (T : Tree) → a.may_leave e ⊎ ReflectsOr a v tree e → StandsAs e v T → StandsAs c v T → ReflectsOr a v tree c
reflected a v tree e c T (inl could) stood stands = inl (record { earlier = e; could = could; tree = T; stood = stood; stands = stands })
reflected a v tree e c T (inr (inl r)) stood stands =
    let same : T ≡ r.tree = one_tree e v T r.tree stood r.stands in
    inl (record { earlier = r.earlier; could = r.could; tree = r.tree; stood = r.stood; stands = subst (λ (U : Tree). StandsAs c v U) same stands })
reflected a v tree e c T (inr (inr now)) stood stands = inr (subst (λ (U : Tree). StandsAs c v U) (one_tree e v T tree stood now) stands)

pub reflects_then : (a b : Disk) (v : Superblock) (tree : Tree) (c : Image) → ((m : Image) → b.may_leave m → a.may_leave m ⊎ ReflectsOr a v tree m) → ReflectsOr b v tree c → ReflectsOr a v tree c
reflects_then a b v tree c first (inl r) = reflected a v tree r.earlier c r.tree (first r.earlier r.could) r.stood r.stands
reflects_then a b v tree c first (inr now) = inr now

-- what a crash leaves of a volume with the same numbers and tree
pub same_volume : (a b : Disk) (v w : Superblock) (T U : Tree) → v ≡ w → T ≡ U → Leaves a b (ReflectsOr a v T) → Leaves a b (ReflectsOr a w U)
same_volume a b v w T U numbers tree leaves = subst (λ (u : Superblock). Leaves a b (ReflectsOr a u U)) numbers (subst (λ (V : Tree). Leaves a b (ReflectsOr a v V)) tree leaves)

-- over one step after another
pub crash_on : (a b c : Disk) (v w : Superblock) (T U : Tree) → v ≡ w → T ≡ U → Leaves a b (ReflectsOr a w U) → Leaves b c (ReflectsOr b v T) → Leaves a c (ReflectsOr a w U)
crash_on a b c v w T U numbers tree first second =
    leaves_then a b c (ReflectsOr a w U) (ReflectsOr b w U) (ReflectsOr a w U) first (same_volume b c v w T U numbers tree second) (λ m p. p) (λ m p. reflects_then a b w U m first.now p)

-- one after another
pub commits_then : {D : Type 0} {g : Ghosts D} (a b c : Parts D g) (io : Bool) → Commits a b false → Commits b c io → Commits a c io
commits_then {D} {g} a b c io first second = record {
  is_open = second.is_open;
  tree = λ h. second.tree (first.kept.honest.0 h) ∙ first.tree h;
  slots = λ h. second.slots (first.kept.honest.0 h) ∙ first.slots h;
  crash = λ h. crash_on (g.disk (device_of a.log)) (g.disk (device_of b.log)) (g.disk (device_of c.log)) b.numbers a.numbers (opened b).tree (opened a).tree first.kept.numbers (first.tree h) (first.crash h) (second.crash (first.kept.honest.0 h));
  kept = record {
    numbers = second.kept.numbers ∙ first.kept.numbers;
    failed = second.kept.failed;
    failures = λ ok. second.kept.failures first.kept.failed ∙ ap (counted io) (first.kept.failures ok);
    idle = λ failed. absurd (let i = (first.kept.idle failed).1 in cc);
    honest = (λ h. second.kept.honest.0 (first.kept.honest.0 h), λ h. first.kept.honest.1 (second.kept.honest.1 h));
    size = second.kept.size ∙ first.kept.size;
  };
  goes_on = goes_then g.goes_on (opened a) (opened b) (opened c) first.kept.numbers first.goes_on second.goes_on;
  dirs = second.dirs ∙ first.dirs;
  sectors = second.sectors ∙ first.sectors;
  reserved = second.reserved ∙ first.reserved;
}

-- what a crash leaves over a call after a call
pub crash_then : (a b c : Disk) (v : Superblock) (T U : Tree) (P : Image → Type 0) → Leaves a b (ReflectsOr a v T) → Leaves b c (ReflectsOr b v U) → ((m : Image) → StandsAs m v U → P m) → Leaves a c (λ m. ReflectsOr a v T m ⊎ P m)
crash_then a b c v T U P first second known = leaves_then a b c (ReflectsOr a v T) (ReflectsOr b v U) (λ m. ReflectsOr a v T m ⊎ P m) first second (λ m p. inl p) (λ m p. go m p)
  where
    go : (m : Image) → ReflectsOr b v U m → ReflectsOr a v T m ⊎ P m
    go m (inl r) = inl (reflected a v T r.earlier m r.tree (first.now r.earlier r.could) r.stood r.stands)
    go m (inr s) = inr (known m s)
