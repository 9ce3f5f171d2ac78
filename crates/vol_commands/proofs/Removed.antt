-- The steps of a change that takes several calls of the volume.
use Rattle.std.proofs.Common.{◌≡◌, ◌≢◌, ◌⊎◌, ⊎_elim, inl, inr, ◌==◌, ◌+◌, ℕ, Bool, false, IsSome, List, None, Result, Ok, Err, OnOk, IsErrAnd, if◌then◌else◌, refl, sym, ◌∙◌, ap, subst}
use Rattle.std.proofs.lemmas.Bool.{cond-false, ne_eqb}
use Rattle.vol_sector.specs.Disk.{Disk, Leaves}
use Rattle.vol_tree.specs.declared.errno.Errno.{Errno}
use Rattle.vol_tree.specs.declared.errno.Errno.TheVariants as errno
use Rattle.vol_tree.specs.Tree.{Tree, IsTree, changed, entry}
use Rattle.vol_tree.specs.Calls.{parent_at, with_unit}
use Rattle.vol_tree.specs.Clauses.{Answers, is_io}
use Rattle.vol_tree.specs.Opened.{Opened, Keeps, ReflectsOr, GoesOn}
use Rattle.vol_tree.proofs.GoingOn.{goes_then}
use Rattle.path_walk.specs.Paths.{◌>>=◌}
use Rattle.path_walk.specs.Walk.{Asked}
use Rattle.vol_commands.specs.Tasks.{ReflectsAny, serial_named}
use Rattle.vol_commands.specs.Changes.{IsThinned, top_named, tree_removed, without}
use Rattle.vol_commands.specs.internal.Changing.{Applied, AnswersOrStops, Changed, IsLeafBelow}
use Rattle.vol_tar.proofs.Kept.{keeps_then}
use Rattle.vol_tar.proofs.Moments.{any_after, any_same, any_then, leaves_more}
use Rattle.vol_tar.proofs.Filled.{with_err, with_ok}
use Rattle.vol_commands.proofs.Thinned.{IsAmid, amid_last, amid_next, leaf_gone, next_used}

abbrev Meaning : Type 0
Meaning = Tree → Result Tree Errno

-- a call's answer, or 29
answer_of : (meant : Result Tree Errno) (T U : Tree) (r : Result (Unit {0}) Errno) → Answers (with_unit meant) T U r → AnswersOrStops meant T U r
answer_of meant T U (Ok x) done = with_ok meant U done
answer_of meant T U (Err e) done = ⊎_elim (λ is. inl (with_err meant e is, done.0)) (λ io. inr io) done.1

-- where it is refused, the tree is as it was
part_of : (T U : Tree) (r : Result (Unit {0}) Errno) (meant : Result Tree Errno) (P : Tree → Type 0) → P T → OnOk r (P U) → Answers (with_unit meant) T U r → P U
part_of T U (Ok x) meant P same ok done = ok
part_of T U (Err e) meant P same ok done = subst P (sym done.0) same

module _ {D : Type 0} (honest : D → Type 0) (disk : D → Disk) (size failures : D → ℕ) (goes_on : ℕ → D → D → Type 0) where
  -- a change by one call
  pub applies : (m : Meaning) (P : Tree → Tree → Type 0) (a b : Opened D) (r : Result (Unit {0}) Errno) → P a.tree a.tree → (honest a.device → OnOk r (P a.tree b.tree))
      → Changed honest disk size failures goes_on m a b r → Applied honest disk size failures goes_on m P a b r
  applies m P a b r same ok done = record {
    answer = λ h. answer_of (m a.tree) a.tree b.tree r (done.answer h);
    part = λ h. part_of a.tree b.tree r (m a.tree) (P a.tree) same (ok h) (done.answer h);
    crash = λ h. any_then (disk a.device) a.numbers (P a.tree) (disk a.device) (disk b.device) a.numbers a.tree refl same (any_same (disk a.device) a.numbers (P a.tree)) (done.crash h);
    kept = done.kept;
    goes = done.goes;
  }

  -- of which a stop leaves the tree before it, or the one that is meant
  pub applies_or_not : (m : Meaning) (a b : Opened D) (r : Result (Unit {0}) Errno) → Changed honest disk size failures goes_on m a b r
      → Applied honest disk size failures goes_on m (λ T U. (U ≡ T) ⊎ (m T ≡ Ok U)) a b r
  applies_or_not m a b r done = applies m (λ T U. (U ≡ T) ⊎ (m T ≡ Ok U)) a b r (inl refl) (λ h. made r (done.answer h)) done
    where
      made : (r : Result (Unit {0}) Errno) → Answers (with_unit (m a.tree)) a.tree b.tree r → OnOk r ((b.tree ≡ a.tree) ⊎ (m a.tree ≡ Ok b.tree))
      made (Ok x) is = inr (with_ok (m a.tree) b.tree is)
      made (Err e) is = tt

  -- one after others that only asked, where the same is said otherwise
  pub applied_after : (m n : Meaning) (P Q : Tree → Tree → Type 0) (a b c : Opened D) (r : Result (Unit {0}) Errno) → Asked honest disk size failures goes_on a b false → (honest a.device → m a.tree ≡ n a.tree)
      → (honest a.device → (U : Tree) → P a.tree U → Q a.tree U) → Applied honest disk size failures goes_on m P b c r → Applied honest disk size failures goes_on n Q a c r
  applied_after m n P Q a b c r asked same more done = record {
    answer = λ h. subst (λ (meant : Result Tree Errno). AnswersOrStops meant a.tree c.tree r) (same h)
        (subst (λ (T : Tree). AnswersOrStops (m T) T c.tree r) (asked.tree h) (done.answer (asked.kept.honest.0 h)));
    part = λ h. more h c.tree (subst (λ (T : Tree). P T c.tree) (asked.tree h) (done.part (asked.kept.honest.0 h)));
    crash = λ h. any_after (disk a.device) a.numbers (Q a.tree) (disk b.device) (disk c.device) b.numbers (P b.tree) asked.kept.numbers
        (λ U part. more h U (subst (λ (T : Tree). P T U) (asked.tree h) part))
        (leaves_more (disk a.device) (disk b.device) (λ x. ⊥) (ReflectsAny (disk a.device) a.numbers (Q a.tree)) (λ x none. absurd none) (asked.crash h))
        (done.crash (asked.kept.honest.0 h));
    kept = keeps_then honest size failures a b c (is_io r) asked.kept done.kept;
    goes = goes_then goes_on a b c asked.kept.numbers asked.goes done.goes;
  }

  -- one that the device stops
  pub stopped : (m : Meaning) (P : Tree → Tree → Type 0) (a b c : Opened D) (e : Errno) (r : Result (Unit {0}) Errno) → Keeps honest size failures a b false → Keeps honest size failures b c (is_io {X = Unit {0}} (Err e)) → GoesOn goes_on a b → GoesOn goes_on b c
      → (honest a.device → e ≡ errno.Io) → (honest a.device → P a.tree c.tree) → (honest a.device → Leaves (disk a.device) (disk c.device) (ReflectsAny (disk a.device) a.numbers (P a.tree)))
      → IsErrAnd r (λ f. f ≡ e) → Applied honest disk size failures goes_on m P a c r
  stopped m P a b c e (Ok x) first next goes on io part crash err = absurd err
  stopped m P a b c e (Err f) first next goes on io part crash err = subst (λ (d : Errno). Applied honest disk size failures goes_on m P a c (Err d)) (sym err) (record {
    answer = λ h. inr (io h);
    part = part;
    crash = crash;
    kept = keeps_then honest size failures a b c (is_io {X = Unit {0}} (Err e)) first next;
    goes = goes_then goes_on a b c first.numbers goes on;
  })

-- ---- the tree of a path

module _ (T : Tree) (path : List ℕ) where
  pub removal_top : (top : ℕ) → serial_named T path ≡ Ok top → top ≢ 1 → top_named T path ≡ Ok top
  removal_top top is other =
      ap (λ (r : Result ℕ Errno). let next : Result ℕ Errno = r >>= (λ serial. if serial == 1 then Err errno.Invalid else Ok serial) in next) is
      ∙ cond-false _ _ _ (ne_eqb top 1 other)

  pub removal_is : (top : ℕ) → top_named T path ≡ Ok top → Ok (without T top) ≡ tree_removed T path
  removal_is top is = sym (ap (λ (r : Result ℕ Errno). let next : Result Tree Errno = r >>= λ top. Ok (without T top) in next) is)

-- ---- one turn of a removal

-- an entry is gone, and its directory is the next one at hand
pub record HasTurned (T : Tree) (top : ℕ) (V : Tree) (leaf next turns : ℕ) : Type 0 where
  pub amid : leaf ≢ top → IsAmid T top V next (turns + 1)
  pub used : IsSome (entry V next)
  pub thinned : IsThinned T top V
  pub last : leaf ≡ top → ◌≡◌ {A = Result Tree Errno} (Ok (without T top)) (Ok V)

removed_is : (A B : Tree) (m n : ℕ) → ◌≡◌ {A = Result (Tree × ℕ) Errno} (Ok (A, m)) (Ok (B, n)) → (A ≡ B) × (m ≡ n)
removed_is A B m n h = (ap (λ (r : Result (Tree × ℕ) Errno). (given r).0) h, ap (λ (r : Result (Tree × ℕ) Errno). (given r).1) h)
  where
    given : Result (Tree × ℕ) Errno → Tree × ℕ
    given (Ok p) = p
    given (Err e) = (A, m)

-- what is meant isn't refused, so the device failed
pub only_io : {X : Type 0} (x : X) (e : Errno) → (◌≡◌ {A = Result X Errno} (Ok x) (Err e)) ⊎ (e ≡ errno.Io) → e ≡ errno.Io
only_io {X} x e why = ⊎_elim (λ is. absurd (let no : ◌≡◌ {A = Result X Errno} (Ok x) (Err e) = is in cc)) (λ io. io) why

pub turned : (T : Tree) (top : ℕ) (U M V : Tree) (here leaf next turns : ℕ) → IsAmid T top U here turns → IsTree T → top ≢ 1 → IsSome (entry T top) → IsLeafBelow U here leaf
    → M ≡ U → IsSome (entry M leaf) → ◌≡◌ {A = Result (Tree × ℕ) Errno} (Ok (changed M leaf None, parent_at M leaf)) (Ok (V, next)) → HasTurned T top V leaf next turns
turned T top U M V here leaf next turns amid t other used at same there done =
    let amid_now = subst (λ (X : Tree). IsAmid T top X here turns) (sym same) amid in
    let at_now = subst (λ (X : Tree). IsLeafBelow X here leaf) (sym same) at in
    let is = removed_is (changed M leaf None) V (parent_at M leaf) next done in
    record {
      amid = λ apart. subst (λ (X : Tree). IsAmid T top X next (turns + 1)) is.0 (subst (λ (x : ℕ). IsAmid T top (changed M leaf None) x (turns + 1)) is.1 (amid_next T top M here turns leaf amid_now t other used at_now there apart));
      used = subst (λ (X : Tree). IsSome (entry X next)) is.0 (subst (λ (x : ℕ). IsSome (entry (changed M leaf None) x)) is.1 (next_used T top M here turns leaf amid_now t other used at_now there));
      thinned = subst (λ (X : Tree). IsThinned T top X) is.0 (leaf_gone T top M here turns leaf amid_now t other used at_now there);
      last = λ same. ap Ok (sym (amid_last T top M here turns leaf amid_now t other used at_now there same) ∙ is.0);
    }

module _ {D : Type 0} (honest : D → Type 0) (disk : D → Disk) (size failures : D → ℕ) (goes_on : ℕ → D → D → Type 0) (a b c : Opened D) (these : Tree → Type 0) (numbers : b.numbers ≡ a.numbers) (h : honest b.device) where
  -- a step that only asks leaves nothing else
  pub quiet_left : (io : Bool) → Asked honest disk size failures goes_on b c io → Leaves (disk a.device) (disk b.device) (ReflectsAny (disk a.device) a.numbers these) → Leaves (disk a.device) (disk c.device) (ReflectsAny (disk a.device) a.numbers these)
  quiet_left io asked first =
      any_after (disk a.device) a.numbers these (disk b.device) (disk c.device) b.numbers (λ U. ⊥) numbers (λ U none. absurd none) first
      (leaves_more (disk b.device) (disk c.device) (λ x. ⊥) (ReflectsAny (disk b.device) b.numbers (λ U. ⊥)) (λ x none. absurd none) (asked.crash h))

  -- and then one that changes the tree
  pub turn_left : (d : Opened D) → Asked honest disk size failures goes_on b c false → these b.tree → Leaves (disk a.device) (disk b.device) (ReflectsAny (disk a.device) a.numbers these)
      → Leaves (disk c.device) (disk d.device) (ReflectsOr (disk c.device) c.numbers c.tree) → Leaves (disk a.device) (disk d.device) (ReflectsAny (disk a.device) a.numbers these)
  turn_left d asked is first next =
      any_then (disk a.device) a.numbers these (disk c.device) (disk d.device) c.numbers c.tree (asked.kept.numbers ∙ numbers) (subst these (sym (asked.tree h)) is) (quiet_left false asked first) next
