-- What holds at each moment of a run that began with some directories open, and what keeps it.
use Rattle.std.proofs.Common.{◌≡◌, ◌≢◌, ℕ, ◌<◌, false, List, [], ◌∷◌, Option, Some, None, Ok, refl, sym, ◌∙◌, ap, subst, inl, inr}
use Rattle.std.proofs.lemmas.Option.{same_Some, none-some}
use Rattle.std.proofs.lemmas.Bool.{cases_eq, cond-true, cond-false, false≢true, eq-eqb, ne_eqb}
use Rattle.vol_inode.specs.Name.{IsName}
use Rattle.vol_tree.specs.Tree.{Tree, Path, Name, Node, File, Entry as TreeEntry, entry, changed, Leads, IsTree, IsDirectory, root}
use Rattle.vol_tree.specs.Calls.{is_directory, created}
use Rattle.vol_tree.proofs.Entries.{entry-changed_same, entry-changed_other}
use Rattle.vol_tree.proofs.LeastSerial.{created_least}
use Rattle.vol_tree.proofs.Grows.{created_grows}
use Rattle.wasi_fd.specs.declared.descriptor.Descriptor.{Descriptor}
use Rattle.wasi_fd.specs.declared.descriptor.Descriptor.TheVariants.{Entry}
use Rattle.wasi_fd.specs.declared.descriptor.Opened.{Opened}
use Rattle.wasi_fd.specs.Table.{Table, with_at}
use Rattle.wasi_bodies.specs.laws.Confined.{Tops, IsOutside}
use Rattle.wasi_fd.specs.declared.table.TheConstants.{PLACES}
use Rattle.vol_tree.proofs.Trees.{Childless, without_is_tree, rewritten_is_tree, moved_is_tree}
pub use Rattle.wasi_bodies.specs.internal.Entries.{is_directory_kind}

-- A descriptor's entry is there, is what the descriptor says, and is not outside.
pub record IsGood (T0 : Tree) (tops : Tops) (T : Tree) (fd : ℕ) (o : Opened) : Type 0 where
  pub few : fd < PLACES
  pub e : TreeEntry
  pub used : entry T o.serial ≡ Some e
  pub kind : is_directory e.node ≡ is_directory_kind o.kind
  pub inside : IsOutside T0 tops o.serial → ⊥

pub record Holds (T0 : Tree) (tops : Tops) (T : Tree) (table : Table) : Type 0 where
  pub tree : IsTree T
  pub same : (s : ℕ) → IsOutside T0 tops s → entry T s ≡ entry T0 s
  pub gained : (s : ℕ) (e : TreeEntry) → entry T s ≡ Some e → IsOutside T0 tops e.parent → entry T0 s ≡ Some e
  pub lost : (s : ℕ) (e : TreeEntry) → entry T0 s ≡ Some e → IsOutside T0 tops e.parent → entry T s ≡ Some e
  pub named : (fd : ℕ) (o : Opened) → table fd ≡ Some (Entry o) → IsGood T0 tops T fd o

-- ---- nothing leads to the number that no entry has

pub no_lead_to_none : (T : Tree) (d : ℕ) (e : TreeEntry) → entry T d ≡ Some e → (path : Path) → Leads T d path 0 → ⊥
no_lead_to_none T d e h [] g = none-some e (ap (entry T) g ∙ h)
no_lead_to_none T d e h (n ∷ path) g = none-some g.0 g.1

-- below an entry there is no root
pub below_not_root : (T : Tree) → IsTree T → (d : ℕ) (e : TreeEntry) → entry T d ≡ Some e → (n : Name) (path : Path) (x : ℕ) → Leads T d (n ∷ path) x → x ≢ 1
below_not_root T t d e h n path x g same =
    let is_root : g.0 ≡ root = same_Some g.0 root (sym g.1 ∙ (ap (entry T) same ∙ t.top)) in
    no_lead_to_none T d e h path (subst (λ (f : TreeEntry). Leads T d path f.parent) is_root g.3)

module _ (T0 : Tree) (t0 : IsTree T0) (tops : Tops) (directories : (top : ℕ) → tops top → IsDirectory T0 top) where
  -- what an entry outside stands in is outside
  pub outside_above : (s : ℕ) (e : TreeEntry) → IsOutside T0 tops s → entry T0 s ≡ Some e → s ≢ 1 → IsOutside T0 tops e.parent
  outside_above s e out used not_top = let above = t0.inside s e used not_top in record {
    e = above.0;
    used = above.1;
    below_none = λ top path is leads. out.below_none top (e.name ∷ path) is (e, used, refl, leads);
  }

  -- a file that stands outside is outside, since it is no directory
  pub file_outside : (s : ℕ) (e : TreeEntry) → entry T0 s ≡ Some e → is_directory e.node ≡ false → IsOutside T0 tops e.parent → IsOutside T0 tops s
  file_outside s e used file out = record {
    e = e;
    used = used;
    below_none = λ top path is leads. elim path as (λ path. Leads T0 top path s → ⊥) [
      | [] ↦ λ here.
          let d = directories top is in
          let this : d.0 ≡ e = same_Some d.0 e (sym d.1 ∙ (ap (entry T0) (sym here) ∙ used)) in
          false≢true (sym file ∙ (ap (λ (e : TreeEntry). is_directory e.node) (sym this) ∙ ap is_directory d.2))
      | n ∷ path ↦ λ g.
          let this : g.0 ≡ e = same_Some g.0 e (sym g.1 ∙ used) in
          out.below_none top path is (subst (λ (e : TreeEntry). Leads T0 top path e.parent) this g.3)
    ] leads;
  }

  -- what is below an entry that is not outside is not outside
  pub inside_below : (T : Tree) (table : Table) → Holds T0 tops T table → (d : ℕ) (e : TreeEntry) → entry T d ≡ Some e → (IsOutside T0 tops d → ⊥)
      → (path : Path) (x : ℕ) → Leads T d path x → IsOutside T0 tops x → ⊥
  inside_below T table h d e used inside [] x g out = inside (subst (IsOutside T0 tops) g out)
  inside_below T table h d e used inside (n ∷ path) x g out =
      inside_below T table h d e used inside path g.0.parent g.3
      (outside_above x g.0 out (sym (h.same x out) ∙ g.1) (below_not_root T h.tree d e used n path x g))

  -- a change at one serial
  pub keeps_point : (T U : Tree) (table : Table) (s : ℕ) → Holds T0 tops T table → IsTree U → ((x : ℕ) → x ≢ s → entry U x ≡ entry T x)
      → (IsOutside T0 tops s → ⊥)
      → ((e : TreeEntry) → entry U s ≡ Some e → IsOutside T0 tops e.parent → ⊥)
      → ((e : TreeEntry) → entry T s ≡ Some e → IsOutside T0 tops e.parent → ⊥)
      → ((fd : ℕ) (o : Opened) → table fd ≡ Some (Entry o) → o.serial ≡ s → (e : TreeEntry) × (entry U s ≡ Some e) × (is_directory e.node ≡ is_directory_kind o.kind))
      → Holds T0 tops U table
  keeps_point T U table s h u others inside new old held = record {
    tree = u;
    same = λ x out. elim (cases_eq x s) [
      | inl here ↦ absurd (inside (subst (IsOutside T0 tops) here out))
      | inr apart ↦ others x apart ∙ h.same x out
    ];
    gained = λ x e g out. elim (cases_eq x s) [
      | inl here ↦ absurd (new e (ap (entry U) (sym here) ∙ g) out)
      | inr apart ↦ h.gained x e (sym (others x apart) ∙ g) out
    ];
    lost = λ x e g out. let before = h.lost x e g out in elim (cases_eq x s) [
      | inl here ↦ absurd (old e (ap (entry T) (sym here) ∙ before) out)
      | inr apart ↦ others x apart ∙ before
    ];
    named = λ fd o g. let good = h.named fd o g in elim (cases_eq o.serial s) [
      | inl here ↦ let now = held fd o g here in record { few = good.few; e = now.0; used = ap (entry U) here ∙ now.1; kind = now.2; inside = good.inside }
      | inr apart ↦ record { few = good.few; e = good.e; used = others o.serial apart ∙ good.used; kind = good.kind; inside = good.inside }
    ];
  }

  -- ---- the table

  pub keeps_table : (T : Tree) (table other : Table) → Holds T0 tops T table → ((fd : ℕ) (o : Opened) → other fd ≡ Some (Entry o) → IsGood T0 tops T fd o) → Holds T0 tops T other
  keeps_table T table other h good = record { tree = h.tree; same = h.same; gained = h.gained; lost = h.lost; named = good }

  pub keeps_at : (T : Tree) (table : Table) (n : ℕ) (place : Option Descriptor) → Holds T0 tops T table → ((o : Opened) → place ≡ Some (Entry o) → IsGood T0 tops T n o)
      → Holds T0 tops T (with_at n place table)
  keeps_at T table n place h good = keeps_table T table (with_at n place table) h (λ fd o g. elim (cases_eq fd n) [
    | inl here ↦ subst (λ (k : ℕ). IsGood T0 tops T k o) (sym here) (good o (sym (cond-true _ place (table fd) (eq-eqb fd n here)) ∙ g))
    | inr apart ↦ h.named fd o (sym (cond-false _ place (table fd) (ne_eqb fd n apart)) ∙ g)
  ])

  -- ---- the calls of a tree

  pub keeps_created : (T U : Tree) (table : Table) (parent serial : ℕ) (name : Name) (node : Node) → Holds T0 tops T table → (IsOutside T0 tops parent → ⊥)
      → IsName name → IsDirectory T parent → created T parent name node ≡ Ok (U, serial)
      → Holds T0 tops U table × (entry U serial ≡ Some (record { parent = parent; name = name; node = node })) × (IsOutside T0 tops serial → ⊥)
  keeps_created T U table parent serial name node h inside is_name directory made =
      let c = created_least T U parent serial name node made in
      let unused : IsOutside T0 tops serial → ⊥ = λ out. none-some out.e (sym c.unused ∙ (h.same serial out ∙ out.used)) in (
        keeps_point T U table serial h (created_grows T U parent serial name node h.tree is_name directory made) c.others
            unused
            (λ e g out. let this : e ≡ record { parent = parent; name = name; node = node } = same_Some e _ (sym g ∙ c.there) in
            inside (subst (λ (e : TreeEntry). IsOutside T0 tops e.parent) this out))
            (λ e g out. none-some e (sym c.unused ∙ g))
            (λ fd o g here. let good = h.named fd o g in absurd (none-some good.e (sym c.unused ∙ (ap (entry T) (sym here) ∙ good.used)))),
        c.there,
        unused,
      )

  pub keeps_rewritten : (T : Tree) (table : Table) (s : ℕ) (e : TreeEntry) (bytes : List ℕ) → Holds T0 tops T table → (IsOutside T0 tops s → ⊥)
      → entry T s ≡ Some e → is_directory e.node ≡ false → Holds T0 tops (changed T s (Some (record e { node = File bytes }))) table
  keeps_rewritten T table s e bytes h inside used file =
      let new : TreeEntry = record e { node = File bytes } in
      let U : Tree = changed T s (Some new) in
      let there : entry U s ≡ Some new = entry-changed_same T s e (Some new) used in
      let never : IsOutside T0 tops e.parent → ⊥ = λ out. inside (file_outside s e (h.gained s e used out) file out) in
      keeps_point T U table s h (rewritten_is_tree T h.tree s e used file bytes) (λ x apart. entry-changed_other T s x (Some new) apart)
      inside
      (λ d g out. let this : d ≡ new = same_Some d new (sym g ∙ there) in never (subst (λ (d : TreeEntry). IsOutside T0 tops d.parent) this out))
      (λ d g out. let this : d ≡ e = same_Some d e (sym g ∙ used) in never (subst (λ (d : TreeEntry). IsOutside T0 tops d.parent) this out))
      (λ fd o g here. let good = h.named fd o g in
      let this : good.e ≡ e = same_Some good.e e (sym good.used ∙ (ap (entry T) here ∙ used)) in
      (new, there, sym file ∙ (ap (λ (e : TreeEntry). is_directory e.node) (sym this) ∙ good.kind)))

  pub keeps_removed : (T : Tree) (table : Table) (s : ℕ) (e : TreeEntry) → Holds T0 tops T table → entry T s ≡ Some e → s ≢ 1 → (IsOutside T0 tops s → ⊥)
      → (IsOutside T0 tops e.parent → ⊥) → Childless T s → ((fd : ℕ) (o : Opened) → table fd ≡ Some (Entry o) → o.serial ≢ s) → Holds T0 tops (changed T s None) table
  keeps_removed T table s e h used not_top inside above childless not_held =
      let gone : entry (changed T s None) s ≡ None = entry-changed_same T s e None used in
      keeps_point T (changed T s None) table s h (without_is_tree T h.tree s e used not_top childless) (λ x apart. entry-changed_other T s x None apart)
      inside
      (λ d g out. none-some d (sym gone ∙ g))
      (λ d g out. let this : d ≡ e = same_Some d e (sym g ∙ used) in above (subst (λ (d : TreeEntry). IsOutside T0 tops d.parent) this out))
      (λ fd o g here. absurd (not_held fd o g here))

  pub keeps_moved : (T : Tree) (table : Table) (s : ℕ) (e : TreeEntry) (parent : ℕ) (name : Name) → Holds T0 tops T table → entry T s ≡ Some e → s ≢ 1
      → (IsOutside T0 tops s → ⊥) → (IsOutside T0 tops e.parent → ⊥) → (IsOutside T0 tops parent → ⊥) → IsName name → IsDirectory T parent
      → ((below : Path) → Leads T s below parent → ⊥) → ((x : ℕ) (d : TreeEntry) → entry T x ≡ Some d → d.parent ≡ parent → d.name ≡ name → x ≡ s)
      → Holds T0 tops (changed T s (Some (record e { parent = parent; name = name }))) table
  keeps_moved T table s e parent name h used not_top inside above there is_name directory outside free =
      let new : TreeEntry = record e { parent = parent; name = name } in
      let U : Tree = changed T s (Some new) in
      let now : entry U s ≡ Some new = entry-changed_same T s e (Some new) used in
      keeps_point T U table s h (moved_is_tree T h.tree s e used not_top parent name is_name directory outside free) (λ x apart. entry-changed_other T s x (Some new) apart)
      inside
      (λ d g out. let this : d ≡ new = same_Some d new (sym g ∙ now) in there (subst (λ (d : TreeEntry). IsOutside T0 tops d.parent) this out))
      (λ d g out. let this : d ≡ e = same_Some d e (sym g ∙ used) in above (subst (λ (d : TreeEntry). IsOutside T0 tops d.parent) this out))
      (λ fd o g here. let good = h.named fd o g in
      let this : good.e ≡ e = same_Some good.e e (sym good.used ∙ (ap (entry T) here ∙ used)) in
      (new, now, ap (λ (e : TreeEntry). is_directory e.node) (sym this) ∙ good.kind))
