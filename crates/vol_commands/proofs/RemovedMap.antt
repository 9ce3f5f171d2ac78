-- What the removal of a tree does to the map from paths.
use Rattle.std.proofs.Common.{◌≡◌, ℕ, [], ◌∷◌, length, Option, Some, None, IsSome, inl, inr, refl, sym, ◌∙◌, ap}
use Rattle.std.specs.Option.{option_map}
use Rattle.std.proofs.lemmas.Option.{none-some}
use Rattle.std.proofs.lemmas.Bool.{cases_Bool, cond-true, cond-false, false≢true}
use Rattle.vol_tree.specs.Tree.{Tree, Path, Node, Entry, IsTree, Leads, entry}
use Rattle.vol_tree.specs.Calls.{is_within}
use Rattle.vol_tree.specs.PathLaws.{IsBelow, Maps}
use Rattle.vol_tree.proofs.Within.{within_below}
use Rattle.vol_commands.specs.Changes.{without}
use Rattle.vol_commands.specs.Laws.{TreeRemovedMap}
use Rattle.vol_commands.proofs.Thinned.{entry-without}

module _ (T : Tree) (top : ℕ) (t : IsTree T) (used : IsSome (entry T top)) where
  outside : (s : ℕ) → (IsBelow T top s → ⊥) → entry (without T top) s ≡ entry T s
  outside s stays = elim (cases_Bool (is_within (length T) T top s)) [
    | inl within ↦ absurd (stays ((within_below T top s t used).0 within))
    | inr apart ↦ entry-without T top s ∙ cond-false _ _ _ apart
  ]

  -- an entry that is kept is that of the tree, and not below
  kept : (s : ℕ) (e : Entry) → entry (without T top) s ≡ Some e → (entry T s ≡ Some e) × (IsBelow T top s → ⊥)
  kept s e h = elim (cases_Bool (is_within (length T) T top s)) [
    | inl within ↦ absurd (none-some e (sym (entry-without T top s ∙ cond-true _ _ _ within) ∙ h))
    | inr apart ↦ (sym (entry-without T top s ∙ cond-false _ _ _ apart) ∙ h, λ b. false≢true (sym apart ∙ (within_below T top s t used).1 b.0 b.1))
  ]

  leads_kept : (path : Path) (s : ℕ) → Leads (without T top) 1 path s → Leads T 1 path s
  leads_kept [] s h = h
  leads_kept (n ∷ path) s h = (h.0, (kept s h.0 h.1).0, h.2, leads_kept path h.0.parent h.3)

  leads_outside : (path : Path) (s : ℕ) → Leads T 1 path s → (IsBelow T top s → ⊥) → Leads (without T top) 1 path s
  leads_outside [] s h stays = h
  leads_outside (n ∷ path) s h stays =
      (h.0, outside s stays ∙ h.1, h.2, leads_outside path h.0.parent h.3 (λ b. stays (h.0.name ∷ b.0, (h.0, h.1, refl, b.1))))

  mapped : (path : Path) (s : ℕ) (m : Node) → Maps (without T top) path s m → Maps T path s m × (IsBelow T top s → ⊥)
  mapped path s m h = go (entry (without T top) s) refl
    where
      go : (o : Option Entry) → entry (without T top) s ≡ o → Maps T path s m × (IsBelow T top s → ⊥)
      go None at = absurd (none-some m (sym (ap (option_map (λ (e : Entry). e.node)) at) ∙ h.is))
      go (Some e) at =
          let was = kept s e at in
          (record { at = leads_kept path s h.at; is = ap (option_map (λ (e : Entry). e.node)) (was.0 ∙ sym at) ∙ h.is }, was.1)

  pub removed_map : (path : Path) (s : ℕ) (m : Node) → (Maps (without T top) path s m → Maps T path s m × (IsBelow T top s → ⊥)) × ((Maps T path s m × (IsBelow T top s → ⊥)) → Maps (without T top) path s m)
  removed_map path s m = (
    mapped path s m,
    λ both. record { at = leads_outside path s both.0.at both.1; is = ap (option_map (λ (e : Entry). e.node)) (outside s both.1) ∙ both.0.is },
  )

pub tree_removed_map : TreeRemovedMap
tree_removed_map T top t used path s m = removed_map T top t used path s m
