-- How taking an entry out goes on to a call's answer.
use Rattle.std.proofs.Common.{◌≡◌, ◌⊎◌, inl, inr, ⊎_elim, ◌+◌, ◌-◌, ◌≤◌, if◌then◌else◌, ℕ, true, false, Bool, Result, Ok, Err, IsErr, IsErrAnd, MatchResult, is_err, refl, sym, ◌∙◌, ap, subst, arith}
use Rattle.std.proofs.lemmas.Bool.{false≢true}
use Rattle.vol_sector.specs.Disk.{counted}
use Rattle.vol_sector.specs.declared.device.Device.{Ghosts}
use Rattle.vol_log.specs.Log.{device_of}
use Rattle.vol_tree.specs.declared.errno.Errno.{Errno}
use Rattle.vol_tree.specs.declared.errno.Errno.TheVariants as errno
use Rattle.vol_tree.specs.Clauses.{is_io}
use Rattle.vol_tree.specs.declared.parts.Parts.{Parts}
use Rattle.vol_tree.specs.Tree.{Tree}
use Rattle.vol_tree.specs.Clauses.{Answers, LeavesAlone}
use Rattle.vol_tree.specs.internal.Changes.{Changes}
use Rattle.vol_tree.specs.Parts.{opened}
use Rattle.vol_tree.specs.internal.Commits.{Commits, ReadsOnly}
use Rattle.vol_tree.specs.internal.Removals.{Fails}
use Rattle.vol_tree.proofs.GoingOn.{goes_then}
use Rattle.vol_tree.proofs.Committing.{crash_on}
use Rattle.vol_tree.proofs.Changing.{IsQuiet, quiet_then, refused}

pub err_is : {T E : Type 0} (r : Result T E) → IsErr r → is_err r ≡ true
err_is (Ok x) h = absurd (false≢true h)
err_is (Err e) h = refl

-- a call that fails after a commit or none
pub commits_fail : {D : Type 0} {g : Ghosts D} (a b c : Parts D g) → Commits a b false → Fails b c → Fails a c
commits_fail {D} {g} a b c first second = record {
  is_open = second.is_open;
  tree = λ h. second.tree (first.kept.honest.0 h) ∙ first.tree h;
  crash = λ h. crash_on (g.disk (device_of a.log)) (g.disk (device_of b.log)) (g.disk (device_of c.log)) b.numbers a.numbers (opened b).tree (opened a).tree first.kept.numbers (first.tree h) (first.crash h) (second.crash (first.kept.honest.0 h));
  kept = record {
    numbers = second.kept.numbers ∙ first.kept.numbers;
    failed = second.kept.failed;
    failures = λ ok. second.kept.failures first.kept.failed ∙ ap (counted true) (first.kept.failures ok);
    idle = λ failed. absurd (let i = (first.kept.idle failed).1 in cc);
    honest = (λ h. second.kept.honest.0 (first.kept.honest.0 h), λ h. first.kept.honest.1 (second.kept.honest.1 h));
    size = second.kept.size ∙ first.kept.size;
  };
  goes_on = goes_then g.goes_on (opened a) (opened b) (opened c) first.kept.numbers first.goes_on second.goes_on;
}

-- a sector that is staged takes one place at most
pub room_left : (b : Bool) (r n : ℕ) → n ≡ (if b then r else r - 1) → r ≤ n + 1
room_left true r n is = omega arith
room_left false r n is = omega arith

-- whether a refusal is the device's depends only on its errno
pub same_io : (X Y : Type 0) (e : Errno) → is_io {X = X} (Err e) ≡ is_io {X = Y} (Err e)
same_io X Y errno.Exist = refl
same_io X Y errno.TooBig = refl
same_io X Y errno.BadText = refl
same_io X Y errno.Invalid = refl
same_io X Y errno.Io = refl
same_io X Y errno.IsDirectory = refl
same_io X Y errno.NameTooLong = refl
same_io X Y errno.NotFound = refl
same_io X Y errno.NoSpace = refl
same_io X Y errno.NotDirectory = refl
same_io X Y errno.NotEmpty = refl
same_io X Y errno.NotCapable = refl

pub passed_io : {X : Type 0} (Y : Type 0) (r : Result X Errno) (why : Errno) → IsErrAnd r (λ e. e ≡ why) → is_io {X = Y} (Err why) ≡ is_io r
passed_io Y (Ok x) why p = absurd p
passed_io {X} Y (Err e) why p = same_io Y X why ∙ ap (λ (x : Errno). is_io {X = X} (Err x)) (sym p)

pub passed_err : {X : Type 0} (r : Result X Errno) (why : Errno) (P : X → Type 0) → IsErrAnd r (λ e. e ≡ why) → why ≡ errno.Io → MatchResult r P (λ e. e ≡ errno.Io)
passed_err (Ok x) why P p io = absurd p
passed_err (Err e) why P p io = p ∙ io

-- a call that passes on why another one was refused
pub refused_by : {D : Type 0} {g : Ghosts D} {X : Type 0} (Y : Type 0) (meant : Result (Tree × X) Errno) (old new : Parts D g) (r : Result X Errno) (why : Errno) → IsErrAnd r (λ e. e ≡ why) → ReadsOnly old new (is_io {X = Y} (Err why))
    → (g.honest (device_of old.log) → (meant ≡ Err why) ⊎ (why ≡ errno.Io)) → Changes meant old new r
refused_by Y meant old new (Ok x) why p reads because = absurd p
refused_by {X = X} Y meant old new (Err e) why p reads because =
    refused meant old new e (subst (λ (io : Bool). ReadsOnly old new io) (same_io Y X why ∙ ap (λ (x : Errno). is_io {X = X} (Err x)) (sym p)) reads)
    (λ h. ⊎_elim (λ is. inl (is ∙ ap (λ (x : Errno). Err x) (sym p))) (λ io. inr (p ∙ io)) (because h))

left_alone : {D : Type 0} {g : Ghosts D} {X : Type 0} (a b c : Parts D g) (r : Result X Errno) → (g.honest (device_of a.log) → g.honest (device_of b.log)) → IsQuiet a b
    → (g.honest (device_of b.log) → LeavesAlone (g.disk (device_of b.log)) (g.disk (device_of c.log)) r) → g.honest (device_of a.log) → LeavesAlone (g.disk (device_of a.log)) (g.disk (device_of c.log)) r
left_alone a b c (Ok x) on first second h = tt
left_alone a b c (Err e) on first second h = λ other. quiet_then a b c on first (λ h1. second h1 other) h

-- a call that changes what reads left
pub changes_after : {D : Type 0} {g : Ghosts D} {X : Type 0} (meant other : Result (Tree × X) Errno) (a b c : Parts D g) (r : Result X Errno) → ReadsOnly a b false → Changes other b c r
    → (g.honest (device_of a.log) → other ≡ meant) → Changes meant a c r
changes_after {D} {g} {X} meant other a b c r reads second same = record {
  is_open = second.is_open;
  answer = λ h.
      let told = subst (λ (T : Tree). Answers other T (opened c).tree r) (reads.commits.tree h) (second.answer (reads.commits.kept.honest.0 h)) in
      subst (λ (m : Result (Tree × X) Errno). Answers m (opened a).tree (opened c).tree r) (same h) told;
  crash = λ h. crash_on (g.disk (device_of a.log)) (g.disk (device_of b.log)) (g.disk (device_of c.log)) b.numbers a.numbers (opened b).tree (opened a).tree reads.commits.kept.numbers (reads.commits.tree h) (reads.commits.crash h) (second.crash (reads.commits.kept.honest.0 h));
  refused = left_alone a b c r reads.commits.kept.honest.0 reads.quiet second.refused;
  kept = record {
    numbers = second.kept.numbers ∙ reads.commits.kept.numbers;
    failed = second.kept.failed;
    failures = λ ok. second.kept.failures reads.commits.kept.failed ∙ ap (counted (is_io r)) (reads.commits.kept.failures ok);
    idle = λ failed. absurd (let i = (reads.commits.kept.idle failed).1 in cc);
    honest = (λ h. second.kept.honest.0 (reads.commits.kept.honest.0 h), λ h. reads.commits.kept.honest.1 (second.kept.honest.1 h));
    size = second.kept.size ∙ reads.commits.kept.size;
  };
  goes_on = goes_then g.goes_on (opened a) (opened b) (opened c) reads.commits.kept.numbers reads.commits.goes_on second.goes_on;
}

-- a call that leaves the tree as it is
pub done_nothing : {D : Type 0} {g : Ghosts D} {X : Type 0} (meant : Result (Tree × X) Errno) (a b : Parts D g) (x : X) → Commits a b false → (g.honest (device_of a.log) → meant ≡ Ok ((opened a).tree, x)) → Changes meant a b (Ok x)
done_nothing meant a b x c why = record {
  is_open = c.is_open;
  answer = λ h. why h ∙ ap (λ (U : Tree). Ok (U, x)) (sym (c.tree h));
  crash = c.crash;
  refused = λ h. tt;
  kept = c.kept;
  goes_on = c.goes_on;
}
