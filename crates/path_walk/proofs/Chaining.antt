-- One step of a walk after another.
use Rattle.std.proofs.Common.{◌≡◌, ◌≢◌, ◌⊎◌, ◌≤◌, ℕ, suc, Bool, true, false, cond, take, List, [], ◌∷◌, Result, Ok, Err, inl, inr, ⊎_elim, refl, sym, ◌∙◌, ap, subst, arith}
use Rattle.std.specs.List.{Contains}
use Rattle.std.proofs.lemmas.Bool.{cases_Bool, cond-true, cond-false}
use Rattle.vol_sector.specs.Disk.{Disk, counted}
use Rattle.vol_log.proofs.Moments.{leaves_quiet}
use Rattle.vol_inode.specs.Name.{IsName}
use Rattle.vol_tree.specs.declared.errno.Errno.{Errno}
use Rattle.vol_tree.specs.declared.errno.Errno.TheVariants as errno
use Rattle.vol_tree.specs.Tree.{Tree, Name, IsTree}
use Rattle.vol_tree.specs.Opened.{Opened}
use Rattle.vol_tree.proofs.GoingOn.{goes_then}
use Rattle.path_walk.specs.declared.walking.Reached.{Reached as ReachedValue}
use Rattle.path_walk.specs.Paths.{Found, Missing, dots, is_skipped, components_of, stays_inside, resolved, as_wanted}
use Rattle.path_walk.specs.Walk.{GivesOrIo}
use Rattle.path_walk.specs.internal.Turns.{counting, walks_as, IsPartLen}
use Rattle.path_walk.specs.Walk.{Asked}
use Rattle.path_walk.specs.internal.Steps.{AreNames}
use Rattle.path_walk.proofs.Turning.{left, components_next, resolves_as}

module _ {D : Type 0} (honest : D → Type 0) (disk : D → Disk) (size failures : D → ℕ) (goes_on : ℕ → D → D → Type 0) where
  pub asked_then : (a b c : Opened D) (io : Bool) → Asked honest disk size failures goes_on a b false → Asked honest disk size failures goes_on b c io → Asked honest disk size failures goes_on a c io
  asked_then a b c io f s = record {
    tree = λ h. s.tree (f.kept.honest.0 h) ∙ f.tree h;
    crash = λ h. leaves_quiet (disk a.device) (disk b.device) (disk c.device) _ (f.crash h) (s.crash (f.kept.honest.0 h));
    kept = record {
      numbers = s.kept.numbers ∙ f.kept.numbers;
      failed = s.kept.failed;
      failures = λ ok. s.kept.failures f.kept.failed ∙ ap (counted io) (f.kept.failures ok);
      idle = λ failed. absurd (let i = (f.kept.idle failed).1 in cc);
      honest = (λ h. s.kept.honest.0 (f.kept.honest.0 h), λ h. f.kept.honest.1 (s.kept.honest.1 h));
      size = s.kept.size ∙ f.kept.size;
    };
    goes = goes_then goes_on a b c f.kept.numbers f.goes s.goes;
  }

contains_first : (name : Name) (names : List Name) → Contains (name ∷ names) name
contains_first name names = (0, omega arith, refl)

contains_later : (n name : Name) (names : List Name) → Contains names name → Contains (n ∷ names) name
contains_later n name names (k, l, is) = (suc k, omega arith, is)

module _ (more : Bool) (rest part : List ℕ) (n : ℕ) (on : more ≡ true) (p : IsPartLen rest n) (front : part ≡ take n rest) (names : AreNames (cond more (components_of rest) [])) where
  all : cond more (components_of rest) [] ≡ counting part (left rest n)
  all = cond-true _ (components_of rest) [] on ∙ (components_next rest n p ∙ ap (λ (t : List ℕ). counting t (left rest n)) (sym front))

  -- the part, where it counts
  pub first_is_name : is_skipped part ≡ false → part ≢ dots → IsName part
  first_is_name counts plain =
      let is : cond more (components_of rest) [] ≡ part ∷ left rest n = all ∙ cond-false _ _ _ counts in
      names part (subst (λ (ns : List Name). Contains ns part) (sym is) (contains_first part (left rest n))) plain

  -- those after it
  pub rest_are_names : AreNames (left rest n)
  rest_are_names name asked plain = elim (cases_Bool (is_skipped part)) [
    | inl skips ↦
        let is : cond more (components_of rest) [] ≡ left rest n = all ∙ cond-true _ _ _ skips in
        names name (subst (λ (ns : List Name). Contains ns name) (sym is) asked) plain
    | inr counts ↦
        let is : cond more (components_of rest) [] ≡ part ∷ left rest n = all ∙ cond-false _ _ _ counts in
        names name (subst (λ (ns : List Name). Contains ns name) (sym is) (contains_later part name (left rest n) asked)) plain
  ]

-- ---- all of a walk

module _ (T : Tree) (directory : ℕ) (wants : Bool) (text : List ℕ) (is_tree : IsTree T) (first : 1 ≤ directory) (inside : stays_inside 0 (components_of text) ≡ true) where
  pub walk_refused : (e : Errno) → (walks_as T directory text ≡ Err e) ⊎ (e ≡ errno.Io) → (resolved T directory wants (components_of text) ≡ Err e) ⊎ (e ≡ errno.Io)
  walk_refused e why = ⊎_elim (λ err. inl (resolves_as T directory wants (components_of text) (Err e) is_tree first inside err)) (λ io. inr io) why

  pub walk_misses : (parent : ℕ) (name : Name) → walks_as T directory text ≡ Ok (Missing parent name) → resolved T directory wants (components_of text) ≡ Ok (Missing parent name)
  walk_misses parent name is = resolves_as T directory wants (components_of text) (Ok (Missing parent name)) is_tree first inside is

  pub walk_finds : (M : Tree) (serial : ℕ) (result : Result ReachedValue Errno) → M ≡ T → walks_as T directory text ≡ Ok (Found serial)
      → GivesOrIo (as_wanted M wants (Found serial)) result → GivesOrIo (resolved T directory wants (components_of text)) result
  walk_finds M serial result same is gives =
      let whole = resolves_as T directory wants (components_of text) (Ok (Found serial)) is_tree first inside is in
      subst (λ meant. GivesOrIo meant result) (ap (λ (T : Tree). as_wanted T wants (Found serial)) same ∙ sym whole) gives
