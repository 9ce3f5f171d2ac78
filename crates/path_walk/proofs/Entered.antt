-- The entries that a walk comes to.
use Rattle.std.proofs.Common.{◌≡◌, ◌≢◌, ◌↔◌, ◌⊎◌, ℕ, true, false, not, MatchResult, inr, refl, Option, Some, None, MatchOption, IfOk, IsSome, Result, Ok, Err, sym, ◌∙◌, ap, subst}
use Rattle.std.proofs.lemmas.Bool.{cond-false, false≢true}
use Rattle.vol_tree.specs.declared.errno.Errno.{Errno}
use Rattle.vol_tree.specs.declared.errno.Errno.TheVariants as errno
use Rattle.vol_tree.specs.Tree.{Tree, Name, Entry, entry, lookup, same_name}
use Rattle.vol_tree.specs.Calls.{directory_at}
use Rattle.vol_tree.specs.Clauses.{Tells}
use Rattle.vol_tree.specs.Opened.{Opened, IsSerial}
use Rattle.vol_tree.proofs.Lookups.{looked_up}
use Rattle.path_walk.specs.Paths.{dots}
use Rattle.path_walk.specs.internal.Turns.{turned}
use Rattle.path_walk.specs.Walk.{IsNext}

-- what a look-up finds is an entry
pub found_next : {D : Type 0} (honest : D → Type 0) (old new : Opened D) (directory : ℕ) (name : Name) (result : Result (Option ℕ) Errno) → new.numbers ≡ old.numbers
    → (honest old.device ↔ honest new.device) → (honest old.device → Tells (lookup old.tree directory name) old.tree new.tree result)
    → IfOk result (λ found. MatchOption found (Unit {0}) (λ s. IsSerial old.numbers s)) → IfOk result (IsNext honest new)
found_next honest old new directory name (Err e) numbers same answer range = tt
found_next honest old new directory name (Ok None) numbers same answer range = tt
found_next honest old new directory name (Ok (Some s)) numbers same answer range = record {
  number = subst (λ v. IsSerial v s) (sym numbers) range;
  used = λ h.
      let told = answer (same.1 h) in
      let l = looked_up old.tree directory s name (sym told.0) in
      let there : entry new.tree s ≡ Some l.0 = ap (λ (T : Tree). entry T s) told.1 ∙ l.1 in
      subst (λ (o : Option Entry). IsSome o) (sym there) refl;
}

-- a look-up in a directory is what its component leads to
pub child_turns : (T M : Tree) (here : ℕ) (part : Name) (r : Result (Option ℕ) Errno) → M ≡ T → directory_at T here ≡ true → same_name part dots ≡ false
    → MatchResult r (λ found. found ≡ lookup M here part) (λ e. e ≡ errno.Io)
    → MatchResult r (λ next. turned T here part ≡ Ok next) (λ e. (turned T here part ≡ Err e) ⊎ (e ≡ errno.Io))
child_turns T M here part (Ok found) same directory plain is =
    cond-false _ _ _ (ap not directory) ∙ (cond-false _ _ _ plain ∙ ap Ok (sym (is ∙ ap (λ (T : Tree). lookup T here part) same)))
child_turns T M here part (Err e) same directory plain io = inr io

pub plain_name : (part : Name) → same_name part dots ≡ false → part ≢ dots
plain_name part plain is = false≢true (sym plain ∙ ap (λ (n : Name). same_name n dots) is)

pub on_ok : {X : Type 0} {P : X → Type 0} (r : Result X Errno) → ((x : X) → P x) → IfOk r P
on_ok (Ok x) p = p x
on_ok (Err e) p = tt
