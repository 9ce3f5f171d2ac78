-- A tree with a created entry is a tree.
use Rattle.std.proofs.Common.{is_some, ◌≡◌, ◌≢◌, ℕ, zero, suc, ◌<◌, Bool, true, false, [], ◌∷◌, length, get_or, Option, Some, None, Result, Ok, Err, refl, sym, ◌∙◌, ap, subst, inl, inr, arith, eqb, ◌⊎◌}
use Rattle.std.specs.Option.{option_map_or}
use Rattle.std.proofs.lemmas.Option.{same_Some, none-some}
use Rattle.std.proofs.lemmas.Bool.{cases_eq, cases_Bool, cond-true, cond-false, false≢true, and_from, eq-eqb}
use Rattle.std.proofs.lemmas.Bool.Decides.{Decides-eqb}
use Rattle.std.proofs.lemmas.Slice.Eq.{slice_eq-Decides}
use Rattle.vol_tree.specs.Tree.{Tree, Path, Name, Entry, entry, lookup, least_from, is_child, same_name, IsAt, IsTree, IsDirectory, root}
use Rattle.vol_inode.specs.Name.{IsName}
use Rattle.vol_tree.specs.Laws.{CreatesLeast, CreatedIsTree}
use Rattle.vol_tree.specs.declared.errno.Errno.{Errno}
use Rattle.vol_tree.specs.declared.errno.Errno.TheVariants as errno
use Rattle.vol_tree.proofs.Entries.{used_within}
use Rattle.vol_tree.proofs.LeastSerial.{created_least}

pub none_passes : (n : ℕ) (test : Option Entry → Bool) (T : Tree) → least_from n test T ≡ None → (i : ℕ) → i < length T → test (get_or T i None) ≡ false
none_passes n test [] h i l = absurd (omega arith)
none_passes n test (e ∷ T) h i l = elim (cases_Bool (test e)) [
  | inl hit ↦ absurd (none-some n (sym h ∙ cond-true _ _ _ hit))
  | inr miss ↦ elim i as (λ i. i < suc (length T) → test (get_or (e ∷ T) i None) ≡ false) [
    | zero ↦ λ l. miss
    | suc j ↦ λ l. none_passes (suc n) test T (sym (cond-false _ _ _ miss) ∙ h) j (omega arith)
  ] l
]

-- where a look-up finds nothing, no entry has that name in that directory
pub not_there : (T : Tree) (parent : ℕ) (name : Name) → lookup T parent name ≡ None → (s : ℕ) (e : Entry) → entry T s ≡ Some e → e.parent ≡ parent → e.name ≡ name → ⊥
not_there T parent name h zero e g p n = none-some e g
not_there T parent name h (suc i) e g p n =
    let fails = none_passes 1 (is_child parent name) T h i (used_within T i e g) in
    let passes : is_child parent name (Some e) ≡ true = and_from (eqb e.parent parent) (same_name e.name name) (eq-eqb _ _ p) ((slice_eq-Decides Decides-eqb e.name name (same_name e.name name) refl).1 n) in
    false≢true (sym fails ∙ (ap (is_child parent name) g ∙ passes))

pub was_missing : {A X : Type 0} (o : Option A) (errno : Errno) (rest : Result X Errno) (x : X) → option_map_or (λ a. Err errno) o rest ≡ Ok x → o ≡ None
was_missing None errno rest x h = refl
was_missing (Some a) errno rest x h = cc

module _ (T U : Tree) (t : IsTree T) (s : ℕ) (e : Entry) (c : CreatesLeast T U s e) (free : lookup T e.parent e.name ≡ None)
    (name : IsName e.name) (inside : IsDirectory T e.parent) where
  apart_of : (x : ℕ) (d : Entry) → entry T x ≡ Some d → x ≢ s
  apart_of x d h same = none-some d (sym c.unused ∙ (ap (entry T) (sym same) ∙ h))

  still : (x : ℕ) (d : Entry) → entry T x ≡ Some d → entry U x ≡ Some d
  still x d h = c.others x (apart_of x d h) ∙ h

  leads_still : (path : Path) (x : ℕ) → IsAt T path x → IsAt U path x
  leads_still [] x h = h
  leads_still (n ∷ path) x h = (h.0, still x h.0 h.1, h.2, leads_still path h.0.parent h.3)

  is_directory_still : (x : ℕ) → IsDirectory T x → IsDirectory U x
  is_directory_still x d = (d.0, still x d.0 d.1, d.2)

  -- an entry of the new tree is the new one, or an old one
  abbrev IsNewOr : ℕ → Entry → Type 0
  IsNewOr x d = ((x ≡ s) × (d ≡ e)) ⊎ (entry T x ≡ Some d)

  which : (x : ℕ) (d : Entry) → entry U x ≡ Some d → IsNewOr x d
  which x d h = elim (cases_eq x s) [
    | inl same ↦ inl (same, same_Some d e (sym h ∙ (ap (entry U) same ∙ c.there)))
    | inr other ↦ inr (sym (c.others x other) ∙ h)
  ]

  grown : IsTree U
  grown = record {
    top = still 1 root t.top;
    named = λ x d h not_top. elim (which x d h) [
      | inl new ↦ subst (λ (d : Entry). IsName d.name) (sym new.1) name
      | inr old ↦ t.named x d old not_top
    ];
    inside = λ x d h not_top. elim (which x d h) [
      | inl new ↦ is_directory_still d.parent (subst (λ (d : Entry). IsDirectory T d.parent) (sym new.1) inside)
      | inr old ↦ is_directory_still d.parent (t.inside x d old not_top)
    ];
    apart = λ x y d f h g parents names. elim (which x d h) [
      | inl new ↦ elim (which y f g) [
        | inl too ↦ new.0 ∙ sym too.0
        | inr old ↦ absurd (not_there T e.parent e.name free y f old (sym parents ∙ ap (λ (d : Entry). d.parent) new.1) (sym names ∙ ap (λ (d : Entry). d.name) new.1))
      ]
      | inr old ↦ elim (which y f g) [
        | inl new ↦ absurd (not_there T e.parent e.name free x d old (parents ∙ ap (λ (d : Entry). d.parent) new.1) (names ∙ ap (λ (d : Entry). d.name) new.1))
        | inr too ↦ t.apart x y d f old too parents names
      ]
    ];
    reached = λ x used. elim (cases_eq x s) [
      | inl same ↦
          let above = t.reached e.parent (ap is_some inside.1) in
          (e.name ∷ above.0, (e, ap (entry U) same ∙ c.there, refl, leads_still above.0 e.parent above.1))
      | inr other ↦
          let path = t.reached x (ap is_some (sym (c.others x other)) ∙ used) in
          (path.0, leads_still path.0 x path.1)
    ];
  }

pub created_grows : CreatedIsTree
created_grows T U parent s name node t is_name inside h =
    grown T U t s (record { parent = parent; name = name; node = node }) (created_least T U parent s name node h)
    (was_missing (lookup T parent name) errno.Exist _ (U, s) h) is_name inside
