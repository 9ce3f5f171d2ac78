-- Moving an entry moves what is below it, and nothing else.
use Rattle.std.proofs.Common.{◌≡◌, ◌≢◌, ℕ, [], ◌∷◌, Option, Some, refl, sym, ◌∙◌, ap, subst, inl, inr}
use Rattle.std.specs.Option.{option_map, option_map_or}
use Rattle.std.proofs.lemmas.Bool.{cases_eq}
use Rattle.vol_tree.specs.Tree.{Tree, Path, Name, Entry, entry, changed, Leads, IsAt, IsTree}
use Rattle.vol_tree.specs.Calls.{moved}
use Rattle.vol_tree.proofs.Entries.{entry-changed_same, entry-changed_other, no_cycle}

-- After the move of an entry to a name in a directory: what was below it is below it still, by the same names; it
-- stands at the new name; every other entry stands where it stood; and each node is as it was.
pub record MovesSubtree (T U : Tree) (serial parent : ℕ) (name : Name) : Type 0 where
  pub subtree : (path : Path) (t : ℕ) → Leads T serial path t → Leads U serial path t
  pub top : (path : Path) → IsAt T path parent → IsAt U (name ∷ path) serial
  pub others : (path : Path) (t : ℕ) → IsAt T path t → ((below : Path) → Leads T serial below t → ⊥) → IsAt U path t
  pub nodes : (t : ℕ) → option_map (λ (e : Entry). e.node) (entry U t) ≡ option_map (λ (e : Entry). e.node) (entry T t)

abbrev pub RenameMovesTheSubtree : Type 0
RenameMovesTheSubtree = (T : Tree) (serial parent : ℕ) (name : Name) (e : Entry) → IsTree T → entry T serial ≡ Some e
    → ((below : Path) → Leads T serial below parent → ⊥) → MovesSubtree T (moved T serial parent name) serial parent name

module _ (T : Tree) (t : IsTree T) (s parent : ℕ) (name : Name) (e : Entry) (h : entry T s ≡ Some e) (outside : (below : Path) → Leads T s below parent → ⊥) where
  abbrev there : Entry
  there = record e { parent = parent; name = name }

  abbrev U : Tree
  U = changed T s (Some there)

  subtree : (path : Path) (x : ℕ) → Leads T s path x → Leads U s path x
  subtree [] x g = g
  subtree (n ∷ path) x g =
      let apart : x ≢ s = λ same. no_cycle T t n path s (subst (λ (y : ℕ). Leads T s (n ∷ path) y) same g) in
      (g.0, entry-changed_other T s x (Some there) apart ∙ g.1, g.2, subtree path g.0.parent g.3)

  others : (path : Path) (x : ℕ) → IsAt T path x → ((below : Path) → Leads T s below x → ⊥) → IsAt U path x
  others [] x g o = g
  others (n ∷ path) x g o =
      let apart : x ≢ s = o [] in
      (g.0, entry-changed_other T s x (Some there) apart ∙ g.1, g.2, others path g.0.parent g.3 (λ below b. o (n ∷ below) (g.0, g.1, g.2, b)))

  nodes : (x : ℕ) → option_map (λ (e : Entry). e.node) (entry U x) ≡ option_map (λ (e : Entry). e.node) (entry T x)
  nodes x = elim (cases_eq x s) [
    | inl same ↦ ap (λ (y : ℕ). option_map (λ (e : Entry). e.node) (entry U y)) same
        ∙ ap (option_map (λ (e : Entry). e.node)) (entry-changed_same T s e (Some there) h)
        ∙ ap (option_map (λ (e : Entry). e.node)) (sym h)
        ∙ ap (λ (y : ℕ). option_map (λ (e : Entry). e.node) (entry T y)) (sym same)
    | inr apart ↦ ap (option_map (λ (e : Entry). e.node)) (entry-changed_other T s x (Some there) apart)
  ]

  moves : MovesSubtree T U s parent name
  moves = record {
    subtree = subtree;
    top = λ path g. (there, entry-changed_same T s e (Some there) h, refl, others path parent g outside);
    others = others;
    nodes = nodes;
  }

pub rename_moves : RenameMovesTheSubtree
rename_moves T s parent name e t h outside =
    subst (λ (U : Tree). MovesSubtree T U s parent name)
    (sym (ap (λ (o : Option Entry). option_map_or (λ (e : Entry). changed T s (Some (record e { parent = parent; name = name }))) o T) h))
    (moves T t s parent name e h outside)
