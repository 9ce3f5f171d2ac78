-- The map from paths says all of a tree.
use Rattle.std.proofs.Common.{is_some, ◌≡◌, ℕ, suc, true, [], ◌∷◌, Option, Some, None, refl, sym, ◌∙◌, ap, subst}
use Rattle.std.specs.Option.{option_map}
use Rattle.std.proofs.lemmas.List.{ext_get_or}
use Rattle.std.proofs.lemmas.Option.{same_Some}
use Rattle.std.proofs.lemmas.Bool.{false≢true}
use Rattle.vol_tree.specs.Tree.{Tree, Path, Entry, entry, Leads, IsAt, IsTree, root}
use Rattle.vol_tree.specs.Laws.{SamePaths, PathsDetermineTheTree}

-- at most one entry stands at a path
pub one_serial : (T : Tree) (t : IsTree T) (p : Path) (a b : ℕ) → IsAt T p a → IsAt T p b → a ≡ b
one_serial T t [] a b h g = h ∙ sym g
one_serial T t (n ∷ p) a b h g =
    let above : h.0.parent ≡ g.0.parent = one_serial T t p h.0.parent g.0.parent h.3 g.3 in
    t.apart a b h.0 g.0 h.1 g.1 above (h.2 ∙ sym g.2)

pub opened : (o : Option Entry) → is_some o ≡ true → (e : Entry) × (o ≡ Some e)
opened None h = absurd (false≢true h)
opened (Some e) h = (e, refl)

same_entry : (d e : Entry) → d.parent ≡ e.parent → d.name ≡ e.name → d.node ≡ e.node → d ≡ e
same_entry d e p n o = λ i. record { parent = p i; name = n i; node = o i }

node_same : (o : Option Entry) (p : Option Entry) (d e : Entry) → o ≡ Some d → p ≡ Some e → option_map (λ (e : Entry). e.node) p ≡ option_map (λ (e : Entry). e.node) o → d.node ≡ e.node
node_same o p d e h g same =
    let two : Some e.node ≡ Some d.node = sym (ap (option_map (λ (e : Entry). e.node)) g) ∙ (same ∙ ap (option_map (λ (e : Entry). e.node)) h) in
    sym (same_Some e.node d.node two)

module _ (T U : Tree) (t : IsTree T) (u : IsTree U) (s : SamePaths T U) where
  -- an entry that stands at one path in both
  alike : (path : Path) (serial : ℕ) (d e : Entry) → entry T serial ≡ Some d → entry U serial ≡ Some e → IsAt T path serial → IsAt U path serial → d ≡ e
  alike [] serial d e h g a b =
      let top : d ≡ root = same_Some d root (sym h ∙ (ap (entry T) a ∙ t.top)) in
      let top_too : e ≡ root = same_Some e root (sym g ∙ (ap (entry U) b ∙ u.top)) in
      top ∙ sym top_too
  alike (n ∷ path) serial d e h g a b =
      let mine : a.0 ≡ d = same_Some a.0 d (sym a.1 ∙ h) in
      let yours : b.0 ≡ e = same_Some b.0 e (sym b.1 ∙ g) in
      let above : IsAt T path d.parent = subst (λ (e : Entry). Leads T 1 path e.parent) mine a.3 in
      let above_too : IsAt U path e.parent = subst (λ (e : Entry). Leads U 1 path e.parent) yours b.3 in
      let held = used_above path d.parent above in
      let parents : d.parent ≡ e.parent = one_serial U u path d.parent e.parent (s.there path d.parent above held).0 above_too in
      let names : d.name ≡ e.name = ap (λ (e : Entry). e.name) (sym mine) ∙ (a.2 ∙ (sym b.2 ∙ ap (λ (e : Entry). e.name) yours)) in
      same_entry d e parents names (node_same (entry T serial) (entry U serial) d e h g (s.nodes serial))
    where
      used_above : (path : Path) (serial : ℕ) → IsAt T path serial → is_some (entry T serial) ≡ true
      used_above [] serial a = ap (λ (x : ℕ). is_some (entry T x)) a ∙ ap is_some t.top
      used_above (n ∷ path) serial a = ap is_some a.1

  each : (serial : ℕ) → entry T serial ≡ entry U serial
  each serial = go (entry T serial) (entry U serial) refl refl
    where
      go : (o p : Option Entry) → entry T serial ≡ o → entry U serial ≡ p → o ≡ p
      go None None h g = refl
      go None (Some e) h g =
          let path = u.reached serial (ap is_some g) in
          let there = s.back path.0 serial path.1 (ap is_some g) in
          absurd (false≢true (sym (ap is_some h) ∙ there.1))
      go (Some d) None h g =
          let path = t.reached serial (ap is_some h) in
          let there = s.there path.0 serial path.1 (ap is_some h) in
          absurd (false≢true (sym (ap is_some g) ∙ there.1))
      go (Some d) (Some e) h g =
          let path = t.reached serial (ap is_some h) in
          ap Some (alike path.0 serial d e h g path.1 (s.there path.0 serial path.1 (ap is_some h)).0)

pub determines : PathsDetermineTheTree
determines T U t u s = ext_get_or None T U s.slots (λ i l. each T U t u s (suc i))
