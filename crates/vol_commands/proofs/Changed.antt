-- The steps of a change of the tree.
use Rattle.std.proofs.Common.{◌≡◌, ◌⊎◌, ⊎_elim, inl, inr, ℕ, IsSome, Result, Ok, Err, IsErrAnd, false, refl, sym, ◌∙◌, ap, subst}
use Rattle.std.proofs.lemmas.Bool.{false≢true}
use Rattle.vol_sector.specs.Disk.{Disk, Leaves}
use Rattle.vol_log.proofs.Moments.{leaves_same}
use Rattle.vol_tree.specs.declared.errno.Errno.{Errno}
use Rattle.vol_tree.specs.declared.errno.Errno.TheVariants as errno
use Rattle.vol_tree.specs.declared.superblock.Superblock.{Superblock}
use Rattle.vol_tree.specs.Tree.{Tree, Name, Directory, entry}
use Rattle.vol_tree.specs.Calls.{created, with_unit}
use Rattle.vol_tree.specs.Clauses.{Answers, is_io}
use Rattle.vol_tree.specs.Opened.{Opened, IsSerial, Keeps, ReflectsOr, GoesOn}
use Rattle.vol_tree.proofs.GoingOn.{goes_then}
use Rattle.path_walk.specs.Paths.{◌>>=◌}
use Rattle.path_walk.specs.Walk.{Asked, IsEntryOf}
use Rattle.sandbox_args.specs.declared.request.Change.{Change}
use Rattle.vol_commands.specs.declared.failure.Failure.{Failure}
use Rattle.vol_commands.specs.declared.failure.Failure.TheVariants as failure
use Rattle.vol_commands.specs.Tasks.{ReflectsAny}
use Rattle.vol_commands.specs.Changes.{Changes, IsPartOfChange, meant}
use Rattle.vol_commands.specs.internal.Changing.{AnswersOrStops, Changed}
use Rattle.vol_tar.proofs.Kept.{keeps_then}
use Rattle.vol_tar.proofs.Moments.{any_then, leaves_more, quiet_or}
use Rattle.vol_tar.proofs.Filled.{with_ok}
use Rattle.vol_commands.proofs.Filled.{synced_not}

abbrev Meaning : Type 0
Meaning = Tree → Result Tree Errno

-- a refusal is one with nothing else to answer
unit_refused : (r : Result Tree Errno) (e : Errno) → (r ≡ Err e) ⊎ (e ≡ errno.Io) → (with_unit r ≡ Err e) ⊎ (e ≡ errno.Io)
unit_refused r e why = ⊎_elim (λ is. inl (ap with_unit is)) (λ io. inr io) why

module _ {D : Type 0} (honest : D → Type 0) (disk : D → Disk) (size failures : D → ℕ) (goes_on : ℕ → D → D → Type 0) where
  -- what is meant is said otherwise
  pub means : (m n : Meaning) (a b : Opened D) (r : Result (Unit {0}) Errno) → (honest a.device → m a.tree ≡ n a.tree)
      → Changed honest disk size failures goes_on m a b r → Changed honest disk size failures goes_on n a b r
  means m n a b r same done = record {
    answer = λ h. subst (λ (meant : Result Tree Errno). Answers (with_unit meant) a.tree b.tree r) (same h) (done.answer h);
    crash = done.crash;
    kept = done.kept;
    goes = done.goes;
  }

  -- a change after others that only asked
  pub asked_first : (m : Meaning) (a b c : Opened D) (r : Result (Unit {0}) Errno) → Asked honest disk size failures goes_on a b false
      → Changed honest disk size failures goes_on m b c r → Changed honest disk size failures goes_on m a c r
  asked_first m a b c r asked done = record {
    answer = λ h. subst (λ (T : Tree). Answers (with_unit (m T)) T c.tree r) (asked.tree h) (done.answer (asked.kept.honest.0 h));
    crash = λ h. quiet_or (disk a.device) (disk b.device) (disk c.device) a.numbers b.numbers a.tree b.tree asked.kept.numbers (asked.tree h) (asked.crash h) (done.crash (asked.kept.honest.0 h));
    kept = keeps_then honest size failures a b c (is_io r) asked.kept done.kept;
    goes = goes_then goes_on a b c asked.kept.numbers asked.goes done.goes;
  }

  -- a change that is refused before it begins
  pub refused : (m : Meaning) (a b : Opened D) (e : Errno) → Asked honest disk size failures goes_on a b (is_io {X = Unit {0}} (Err e)) → (honest a.device → (m a.tree ≡ Err e) ⊎ (e ≡ errno.Io))
      → Changed honest disk size failures goes_on m a b (Err e)
  refused m a b e asked why = record {
    answer = λ h. (asked.tree h, unit_refused (m a.tree) e (why h));
    crash = λ h. leaves_more (disk a.device) (disk b.device) (λ c. ⊥) (ReflectsOr (disk a.device) a.numbers a.tree) (λ c none. absurd none) (asked.crash h);
    kept = asked.kept;
    goes = asked.goes;
  }

  -- nothing was asked yet
  pub asked_nothing : (a : Opened D) → a.failed ≡ false → Asked honest disk size failures goes_on a a false
  asked_nothing a working = record {
    tree = λ h. refl;
    crash = λ h. leaves_same (disk a.device) (λ c. ⊥);
    kept = record {
      numbers = refl;
      failed = working;
      failures = λ ok. refl;
      idle = λ failed. absurd (false≢true (sym working ∙ failed));
      honest = (λ h. h, λ h. h);
      size = refl;
    };
    goes = λ end le first from. from;
  }

  -- an entry is one still
  pub entry_kept : (a b : Opened D) (s : ℕ) → Asked honest disk size failures goes_on a b false → IsEntryOf honest a s → IsEntryOf honest b s
  entry_kept a b s asked is = record {
    number = subst (λ (v : Superblock). IsSerial v s) (sym asked.kept.numbers) is.number;
    used = λ h. let before = asked.kept.honest.1 h in subst (λ (T : Tree). IsSome (entry T s)) (sym (asked.tree before)) (is.used before);
  }

  -- the same where it goes on as an error
  pub refused_on : (m : Meaning) (a b : Opened D) (e : Errno) (r : Result (Unit {0}) Errno) → Asked honest disk size failures goes_on a b (is_io {X = Unit {0}} (Err e))
      → (honest a.device → (m a.tree ≡ Err e) ⊎ (e ≡ errno.Io)) → IsErrAnd r (λ f. f ≡ e) → Changed honest disk size failures goes_on m a b r
  refused_on m a b e (Ok x) asked why err = absurd err
  refused_on m a b e (Err f) asked why err = subst (λ (d : Errno). Changed honest disk size failures goes_on m a b (Err d)) (sym err) (refused m a b e asked why)

  -- a directory was made, or that was refused
  abbrev made_in : ℕ → Name → Meaning
  made_in parent name T = created T parent name Directory >>= λ made. Ok made.0

  pub created_ok : (parent : ℕ) (name : Name) (a b : Opened D) (serial : ℕ) → (honest a.device → Answers (created a.tree parent name Directory) a.tree b.tree (Ok serial))
      → (honest a.device → Leaves (disk a.device) (disk b.device) (ReflectsOr (disk a.device) a.numbers a.tree)) → Keeps honest size failures a b false → GoesOn goes_on a b
      → Changed honest disk size failures goes_on (made_in parent name) a b (Ok tt)
  created_ok parent name a b serial answer crash kept goes = record {
    answer = λ h. ap (λ (r : Result (Tree × ℕ) Errno). with_unit (r >>= λ made. Ok made.0)) (answer h);
    crash = crash;
    kept = kept;
    goes = goes;
  }

  pub created_err : (parent : ℕ) (name : Name) (a b : Opened D) (e : Errno) (r : Result (Unit {0}) Errno) → (honest a.device → Answers (created a.tree parent name Directory) a.tree b.tree (Err e))
      → (honest a.device → Leaves (disk a.device) (disk b.device) (ReflectsOr (disk a.device) a.numbers a.tree)) → Keeps honest size failures a b (is_io {X = Unit {0}} (Err e)) → GoesOn goes_on a b → IsErrAnd r (λ f. f ≡ e)
      → Changed honest disk size failures goes_on (made_in parent name) a b r
  created_err parent name a b e (Ok x) answer crash kept goes err = absurd err
  created_err parent name a b e (Err f) answer crash kept goes err = subst (λ (d : Errno). Changed honest disk size failures goes_on (made_in parent name) a b (Err d)) (sym err) (record {
    answer = λ h. let (same, why) = answer h in (same, ⊎_elim (λ is. inl (ap (λ (r : Result (Tree × ℕ) Errno). with_unit (r >>= λ made. Ok made.0)) is)) (λ io. inr io) why);
    crash = crash;
    kept = kept;
    goes = goes;
  })

-- ---- and then a sync

-- a change that is refused leaves the tree, or the device stopped it
pub change_refused : (T : Tree) (change : Change) (U : Tree) (e : Errno) (r : Result (Unit {0}) Failure) → AnswersOrStops (meant T change) T U (Err e) → IsPartOfChange T change U → IsErrAnd r (λ f. f ≡ failure.Tree e) → Changes T change U r
change_refused T change U e (Ok x) why part err = absurd err
change_refused T change U e (Err f) why part err =
    subst (λ (f : Failure). Changes T change U (Err f)) (sym err) (⊎_elim (λ is. inl is) (λ io. inr (io, part)) why)

-- a sync that is refused leaves the tree that was made
pub sync_refused : (T : Tree) (change : Change) (M U : Tree) (e : Errno) (r : Result (Unit {0}) Failure) → IsPartOfChange T change M → Answers (with_unit (Ok M)) M U (Err e) → IsErrAnd r (λ f. f ≡ failure.Tree e) → Changes T change U r
sync_refused T change M U e (Ok x) part why err = absurd err
sync_refused T change M U e (Err f) part why err =
    subst (λ (f : Failure). Changes T change U (Err f)) (sym err)
    (inr (synced_not M e why.1, subst (λ (V : Tree). IsPartOfChange T change V) (sym why.0) part))

pub synced : (T : Tree) (change : Change) (M U : Tree) → meant T change ≡ Ok M → with_unit (Ok M) ≡ Ok (U, tt) → meant T change ≡ Ok U
synced T change M U is same = is ∙ with_ok (Ok M) U same

module _ (a b : Disk) (v : Superblock) (T : Tree) (change : Change) where
  pub sync_left : (d : Disk) (w : Superblock) (M : Tree) → w ≡ v → IsPartOfChange T change M → Leaves a b (ReflectsAny a v (IsPartOfChange T change)) → Leaves b d (ReflectsOr b w M) → Leaves a d (ReflectsAny a v (IsPartOfChange T change))
  sync_left d w M numbers part first next = any_then a v (IsPartOfChange T change) b d w M numbers part first next
