-- What one step of a walk leaves: the clauses of `turn` and `advance` at each of their ends.
use Rattle.std.proofs.Common.{◌≡◌, ◌⊎◌, ℕ, Bool, true, false, cond, not, List, ◌∷◌, Option, Some, None, Result, Ok, Err, IfOk, IsErrAnd, MatchResult, IsSome, inl, inr, ⊎_elim, refl, sym, ◌∙◌, ap, subst}
use Rattle.std.specs.Option.{option_map_or}
use Rattle.std.proofs.lemmas.Bool.{cond-true, cond-false}
use denote.Ref.{Bor}
use Rattle.vol_sector.specs.Disk.{Disk, counted}
use Rattle.vol_log.proofs.Moments.{leaves_same}
use Rattle.vol_tree.specs.declared.errno.Errno.{Errno}
use Rattle.vol_tree.specs.declared.errno.Errno.TheVariants as errno
use Rattle.vol_tree.specs.Tree.{Tree, Name, entry, lookup, same_name}
use Rattle.vol_tree.specs.Calls.{directory_at}
use Rattle.vol_tree.specs.Clauses.{is_io}
use Rattle.vol_tree.specs.Opened.{Opened, IsSerial}
use Rattle.vol_tree.proofs.Taking.{passed_io}
use Rattle.path_walk.specs.Paths.{Reached, missing, stepped, parent_at, dots, is_skipped}
use Rattle.path_walk.specs.Walk.{Asked, IsEntryOf}
use Rattle.path_walk.specs.internal.Turns.{turned, ends, counting, now_of}

-- ---- the volume

module _ {D : Type 0} (honest : D → Type 0) (disk : D → Disk) (size failures : D → ℕ) (goes_on : ℕ → D → D → Type 0) where
  -- nothing was asked of a volume that works
  pub asked_nothing : (v : Opened D) → v.failed ≡ false → Asked honest disk size failures goes_on v v false
  asked_nothing v works = record {
    tree = λ h. refl;
    crash = λ h. leaves_same (disk v.device) (λ c. ⊥);
    kept = record {
      numbers = refl;
      failed = works;
      failures = λ ok. refl;
      idle = λ failed. absurd (let e : ◌≡◌ {A = Bool} false true = sym works ∙ failed in cc);
      honest = (λ h. h, λ h. h);
      size = refl;
    };
    goes = λ end le first from. from;
  }

  -- the error of a call, passed on
  pub asked_passed : {X : Type 0} (Y : Type 0) (a b : Opened D) (r : Result X Errno) (why : Errno) → IsErrAnd r (λ e. e ≡ why)
      → Asked honest disk size failures goes_on a b (is_io {X = Y} (Err why)) → Asked honest disk size failures goes_on a b (is_io r)
  asked_passed Y a b r why p asked = subst (λ io. Asked honest disk size failures goes_on a b io) (passed_io Y r why p) asked

  -- an entry is one after a call that only asks
  pub entry_after : (a b : Opened D) (io : Bool) (serial : ℕ) → Asked honest disk size failures goes_on a b io → IsEntryOf honest a serial → IsEntryOf honest b serial
  entry_after a b io serial asked here = record {
    number = subst (λ v. IsSerial v serial) (sym asked.kept.numbers) here.number;
    used = λ h.
        let before = asked.kept.honest.1 h in
        subst (λ (T : Tree). IsSome (entry T serial)) (sym (asked.tree before)) (here.used before);
  }

pub passed_match : {X : Type 0} (P : X → Type 0) (Q : Errno → Type 0) (r : Result X Errno) (why : Errno) → IsErrAnd r (λ e. e ≡ why) → Q why → MatchResult r P Q
passed_match P Q (Ok x) why p q = absurd p
passed_match P Q (Err e) why p q = subst Q (sym p) q

pub passed_ok : {X : Type 0} (P : X → Type 0) (r : Result X Errno) (why : Errno) → IsErrAnd r (λ e. e ≡ why) → IfOk r P
passed_ok P (Ok x) why p = absurd p
passed_ok P (Err e) why p = tt

-- ---- the names

abbrev Meant : Type 0
Meant = Result Reached Errno

leads : (d s : Bool) (p : ℕ) (l next : Option ℕ) (F : ℕ → Meant) (M : Meant)
    → ◌≡◌ {A = Result (Option ℕ) Errno} (cond (not d) (Err errno.NotDirectory) (cond s (Ok (Some p)) (Ok l))) (Ok next)
    → cond (not d) (Err errno.NotDirectory) (cond s (F p) (option_map_or F l M)) ≡ option_map_or F next M
leads false s p l next F M is = cc
leads true true p l next F M is = let same : Some p ≡ next = cc in ap (λ (o : Option ℕ). option_map_or F o M) same
leads true false p l next F M is = let same : l ≡ next = cc in ap (λ (o : Option ℕ). option_map_or F o M) same

stops : (d s : Bool) (p : ℕ) (l : Option ℕ) (e : Errno) (F : ℕ → Meant) (M : Meant)
    → ◌≡◌ {A = Result (Option ℕ) Errno} (cond (not d) (Err errno.NotDirectory) (cond s (Ok (Some p)) (Ok l))) (Err e)
    → cond (not d) (Err errno.NotDirectory) (cond s (F p) (option_map_or F l M)) ≡ Err e
stops false s p l e F M is = let same : errno.NotDirectory ≡ e = cc in ap Err same
stops true true p l e F M is = cc
stops true false p l e F M is = cc

module _ (T : Tree) (here : ℕ) (gone : Option (Bor (List ℕ))) (part : Name) where
  pub skips_on : is_skipped part ≡ true → (names : List Name) → ends T here (now_of gone) (counting part names) ≡ ends T here (now_of gone) names
  skips_on skipped names = ap (ends T here (now_of gone)) (cond-true _ names (part ∷ names) skipped)

  counts : is_skipped part ≡ false → (names : List Name) → ends T here (now_of gone) (counting part names) ≡ ends T here (now_of gone) (part ∷ names)
  counts counted names = ap (ends T here (now_of gone)) (cond-false _ names (part ∷ names) counted)

  -- after a missing name
  pub after_missing : (name : Bor (List ℕ)) → gone ≡ Some name → is_skipped part ≡ false → (names : List Name)
      → ends T here (now_of gone) (counting part names) ≡ Err errno.NotFound
  after_missing name is counted names = counts counted names ∙ ap (λ (g : Option (Bor (List ℕ))). ends T here (now_of g) (part ∷ names)) is

  begins : gone ≡ None → is_skipped part ≡ false → (names : List Name) → ends T here (now_of gone) (counting part names) ≡ stepped T here (part ∷ names)
  begins is counted names = counts counted names ∙ ap (λ (g : Option (Bor (List ℕ))). ends T here (now_of g) (part ∷ names)) is

  -- to the next entry, or to a name that is missing
  pub goes_on : gone ≡ None → is_skipped part ≡ false → (next : Option ℕ) → turned T here part ≡ Ok next → (names : List Name)
      → ends T here (now_of gone) (counting part names) ≡ option_map_or (λ child. stepped T child names) next (missing here part names)
  goes_on is counted next turns names = begins is counted names
      ∙ leads (directory_at T here) (same_name part dots) (parent_at T here) (lookup T here part) next (λ child. stepped T child names) (missing here part names) turns

  pub goes_wrong : gone ≡ None → is_skipped part ≡ false → (e : Errno) → (turned T here part ≡ Err e) ⊎ (e ≡ errno.Io) → (names : List Name)
      → (ends T here (now_of gone) (counting part names) ≡ Err e) ⊎ (e ≡ errno.Io)
  goes_wrong is counted e why names = ⊎_elim (λ turns. inl (begins is counted names
      ∙ stops (directory_at T here) (same_name part dots) (parent_at T here) (lookup T here part) e (λ child. stepped T child names) (missing here part names) turns)) (λ io. inr io) why

-- ---- one component

pub from_a_file : (T : Tree) (here : ℕ) (part : Name) → directory_at T here ≡ false → turned T here part ≡ Err errno.NotDirectory
from_a_file T here part file = cond-true _ _ _ (ap not file)

pub turns_up : (T : Tree) (here : ℕ) (part : Name) (up : ℕ) → directory_at T here ≡ true → same_name part dots ≡ true → up ≡ parent_at T here → turned T here part ≡ Ok (Some up)
turns_up T here part up directory is_up is = cond-false _ _ _ (ap not directory) ∙ (cond-true _ _ _ is_up ∙ ap (λ (p : ℕ). Ok (Some p)) (sym is))
