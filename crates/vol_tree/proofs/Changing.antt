-- From steps to calls.
use Rattle.std.proofs.Common.{arith, ◌≡◌, ◌⊎◌, inr, true, false, Bool, Result, Ok, Err, IsErrAnd, refl, sym, ◌∙◌, ap, subst}
use Rattle.vol_sector.specs.Disk.{Image, Leaves}
use Rattle.vol_sector.specs.declared.device.Device.{Ghosts}
use Rattle.vol_log.specs.Log.{view, device_of, log_sectors, has_failed}
use Rattle.vol_log.proofs.Moments.{leaves_quiet, leaves_same}
use Rattle.vol_tree.proofs.Committing.{commits_then, no_commit, still_settled}
use Rattle.vol_alloc.specs.Alloc.{first_of, end_of}
use Rattle.vol_dirs.specs.Names.{slots_of, Shows}
use Rattle.vol_tree.specs.declared.errno.Errno.{Errno}
use Rattle.vol_tree.specs.declared.errno.Errno.TheVariants as errno
use Rattle.vol_tree.specs.declared.parts.Parts.{Parts}
use Rattle.vol_tree.specs.declared.superblock.Superblock.{Superblock}
use Rattle.vol_tree.specs.Superblock.{superblock}
use Rattle.vol_tree.specs.Space.{space}
use Rattle.vol_tree.specs.Tree.{Tree}
use Rattle.vol_tree.specs.Clauses.{is_io, tree_in, slots_in}
use Rattle.vol_tree.specs.Opened.{Keeps}
use Rattle.vol_tree.specs.Parts.{opened}
use Rattle.vol_tree.specs.internal.Parts.{IsOpen, IsContent, AreTaken}
use Rattle.vol_tree.specs.internal.Commits.{Commits, ReadsOnly}
use Rattle.vol_tree.specs.internal.Changes.{Changes, Stages}

-- a crash leaves nothing new
abbrev pub IsQuiet : {D : Type 0} {g : Ghosts D} → Parts D g → Parts D g → Type 0
IsQuiet {g = g} old new = g.honest (device_of old.log) → Leaves (g.disk (device_of old.log)) (g.disk (device_of new.log)) (λ c. ⊥)

pub nothing_done : {D : Type 0} {g : Ghosts D} (old : Parts D g) → IsQuiet old old
nothing_done {D} {g} old h = leaves_same (g.disk (device_of old.log)) (λ c. ⊥)

pub quiet_then : {D : Type 0} {g : Ghosts D} (a b c : Parts D g) → (g.honest (device_of a.log) → g.honest (device_of b.log)) → IsQuiet a b → IsQuiet b c → IsQuiet a c
quiet_then {D} {g} a b c on first second h = leaves_quiet (g.disk (device_of a.log)) (g.disk (device_of b.log)) (g.disk (device_of c.log)) (λ m. ⊥) (first h) (second (on h))

pub no_reads : {D : Type 0} {g : Ghosts D} (old : Parts D g) → IsOpen old → has_failed old.log ≡ false → ReadsOnly old old false
no_reads old is ok = record { commits = no_commit old false is ok; quiet = nothing_done old; view = λ h. refl }

pub reads_then : {D : Type 0} {g : Ghosts D} (a b c : Parts D g) (io : Bool) → ReadsOnly a b false → ReadsOnly b c io → ReadsOnly a c io
reads_then a b c io first second = record {
  commits = commits_then a b c io first.commits second.commits;
  quiet = quiet_then a b c first.commits.kept.honest.0 first.quiet second.quiet;
  view = λ h. second.view (first.commits.kept.honest.0 h) ∙ first.view h;
}

-- a call that is refused, after reads or none
pub refused : {D : Type 0} {g : Ghosts D} {X : Type 0} (meant : Result (Tree × X) Errno) (old new : Parts D g) (e : Errno) → ReadsOnly old new (is_io {X = X} (Err e))
    → (g.honest (device_of old.log) → (meant ≡ Err e) ⊎ (e ≡ errno.Io)) → Changes meant old new (Err e)
refused meant old new e reads why = record {
  is_open = reads.commits.is_open;
  answer = λ h. (reads.commits.tree h, why h);
  crash = reads.commits.crash;
  refused = λ h other. reads.quiet h;
  kept = reads.commits.kept;
  goes_on = reads.commits.goes_on;
}

-- what is kept in memory fits the new content
pub record Fits {D : Type 0} {g : Ghosts D} (p : Parts D g) (v : Superblock) : Type 0 where
  pub front : view p.log 0 ≡ superblock v
  pub content : IsContent (view p.log) v
  pub reserved : p.reserved ≡ space (tree_in (view p.log) v)
  pub shows : Shows v.version (view p.log) v.slots p.dirs
  pub taken : AreTaken (view p.log) v (slots_in (view p.log) v.slots) p.sectors

module _ {D : Type 0} {g : Ghosts D} (mid new : Parts D g) (is : IsOpen mid) (s : Stages mid new) (ok : has_failed mid.log ≡ false) where
  pub staged_open : (g.honest (device_of mid.log) → Fits new mid.numbers) → IsOpen new
  staged_open fits = subst (λ v. IsOpen (record new { numbers = v })) (sym s.numbers) (record {
    ranges = is.ranges;
    sectors = s.log_sectors ∙ is.sectors;
    on_device = omega (arith, s.size, is.on_device);
    first = s.first ∙ is.first;
    end = s.end ∙ is.end;
    slots = s.slots ∙ is.slots;
    content = λ h. (fits (s.honest.1 h)).content;
    reserved = λ h. (fits (s.honest.1 h)).reserved;
    shows = λ h. (fits (s.honest.1 h)).shows;
    working = λ h fine.
        let h0 = s.honest.1 h in
        let was = is.working h0 ok in
        let now = fits h0 in
        record {
          settled = still_settled mid.numbers.sectors (g.disk (device_of mid.log)) (g.disk (device_of new.log)) was.settled (s.seen h0) (s.crash h0);
          front = now.front;
          committed_front = ap (λ (m : Image). m 0) (s.seen h0) ∙ was.committed_front;
          committed = subst (λ (m : Image). IsContent m mid.numbers) (sym (s.seen h0)) was.committed;
          taken = now.taken;
        };
  })

-- a call that is done: a commit or none, and then sectors are staged
pub done_open : {D : Type 0} {g : Ghosts D} {X : Type 0} (meant : Result (Tree × X) Errno) (old mid new : Parts D g) (x : X) → Commits old mid false → IsOpen new → Stages mid new
    → (g.honest (device_of old.log) → meant ≡ Ok ((opened new).tree, x)) → Changes meant old new (Ok x)
done_open {D} {g} meant old mid new x c is_open s is = record {
  is_open = is_open;
  answer = is;
  crash = λ h. leaves_quiet (g.disk (device_of old.log)) (g.disk (device_of mid.log)) (g.disk (device_of new.log)) _ (c.crash h) (s.crash (c.kept.honest.0 h));
  refused = λ h. tt;
  kept = record {
    numbers = s.numbers ∙ c.kept.numbers;
    failed = s.failed;
    failures = λ ok. s.failures ∙ c.kept.failures ok;
    idle = λ failed. absurd (let i = (c.kept.idle failed).1 in cc);
    honest = (λ h. s.honest.0 (c.kept.honest.0 h), λ h. c.kept.honest.1 (s.honest.1 h));
    size = s.size ∙ c.kept.size;
  };
  goes_on = λ end le first from. s.goes_on end first (c.goes_on end le first from);
}

pub done : {D : Type 0} {g : Ghosts D} {X : Type 0} (meant : Result (Tree × X) Errno) (old mid new : Parts D g) (x : X) → Commits old mid false → Stages mid new
    → (g.honest (device_of old.log) → Fits new mid.numbers) → (g.honest (device_of old.log) → meant ≡ Ok ((opened new).tree, x)) → Changes meant old new (Ok x)
done meant old mid new x c s fits is = done_open meant old mid new x c (staged_open mid new c.is_open s c.kept.failed (λ h. fits (c.kept.honest.1 h))) s is

-- one after another
pub stages_then : {D : Type 0} {g : Ghosts D} (a b c : Parts D g) → Stages a b → Stages b c → Stages a c
stages_then {D} {g} a b c one other = record {
  seen = λ h. other.seen (one.honest.0 h) ∙ one.seen h;
  crash = λ h. leaves_quiet (g.disk (device_of a.log)) (g.disk (device_of b.log)) (g.disk (device_of c.log)) (λ m. ⊥) (one.crash h) (other.crash (one.honest.0 h));
  failed = other.failed;
  numbers = other.numbers ∙ one.numbers;
  log_sectors = other.log_sectors ∙ one.log_sectors;
  first = other.first ∙ one.first;
  end = other.end ∙ one.end;
  slots = other.slots ∙ one.slots;
  honest = (λ h. other.honest.0 (one.honest.0 h), λ h. one.honest.1 (other.honest.1 h));
  size = other.size ∙ one.size;
  goes_on = λ end first from. other.goes_on end first (one.goes_on end first from);
  failures = other.failures ∙ one.failures;
}

-- sectors are staged and the names change, over the same device
pub stages : {D : Type 0} {g : Ghosts D} (old new : Parts D g) → device_of new.log ≡ device_of old.log → has_failed new.log ≡ false → log_sectors new.log ≡ log_sectors old.log
    → new.numbers ≡ old.numbers → new.sectors ≡ old.sectors → slots_of new.dirs ≡ slots_of old.dirs → Stages old new
stages {D} {g} old new device failed sectors numbers allocated slots = record {
  seen = λ h. ap (λ (d : D). (g.disk d).seen) device;
  crash = λ h. subst (λ (d : D). Leaves (g.disk (device_of old.log)) (g.disk d) (λ c. ⊥)) (sym device) (leaves_same (g.disk (device_of old.log)) (λ c. ⊥));
  failed = failed;
  numbers = numbers;
  log_sectors = sectors;
  first = ap first_of allocated;
  end = ap end_of allocated;
  slots = slots;
  honest = (λ h. subst g.honest (sym device) h, λ h. subst g.honest device h);
  size = ap g.size device;
  goes_on = λ end first from. subst (g.goes_on end first) (sym device) from;
  failures = ap g.failures device;
}

-- a device's fault is 29
pub fault_is_io : {X : Type 0} (r : Result X Errno) → IsErrAnd r (λ e. e ≡ errno.Io) → is_io r ≡ true
fault_is_io (Ok x) p = absurd p
fault_is_io {X} (Err e) p = ap (λ (x : Errno). is_io {X = X} (Err x)) p

-- a call that ends where the device failed
pub refused_io : {D : Type 0} {g : Ghosts D} {X : Type 0} (meant : Result (Tree × X) Errno) (old new : Parts D g) (r : Result X Errno) → IsErrAnd r (λ e. e ≡ errno.Io) → Commits old new true → Changes meant old new r
refused_io meant old new (Ok x) p c = absurd p
refused_io {D} {g} {X} meant old new (Err e) p c = record {
  is_open = c.is_open;
  answer = λ h. (c.tree h, inr p);
  crash = c.crash;
  refused = λ h other. absurd (other p);
  kept = subst (λ (io : Bool). Keeps g.honest g.size g.failures (opened old) (opened new) io) (sym (fault_is_io {X = X} (Err e) p)) c.kept;
  goes_on = c.goes_on;
}
