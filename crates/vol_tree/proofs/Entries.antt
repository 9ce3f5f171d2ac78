-- Entries of changed trees, and paths that lead through them.
use Rattle.std.proofs.Common.{is_some, true, ◌≡◌, ◌≢◌, ℕ, zero, suc, ◌<◌, [], ◌∷◌, ◌++◌, length, Option, Some, None, refl, sym, ◌∙◌, ap, subst, inl, inr, arith}
use Rattle.std.proofs.lemmas.List.{get_or-set_same, get_or-set_other, get_or_past, length-append}
use Rattle.std.proofs.lemmas.Option.{same_Some, none-some}
use Rattle.std.proofs.lemmas.Bool.{cases_lt}
use Rattle.vol_tree.specs.Tree.{Tree, Path, Name, Entry, entry, changed, Leads, IsAt, IsTree, IsDirectory, root}

-- a serial with an entry is within the slots
pub used_within : (T : Tree) (slot : ℕ) (e : Entry) → entry T (suc slot) ≡ Some e → slot < length T
used_within T slot e h = elim (cases_lt slot (length T)) [
  | inl l ↦ l
  | inr past ↦ absurd (none-some e (sym (get_or_past T slot None past) ∙ h))
]

pub entry-changed_same : (T : Tree) (s : ℕ) (d : Entry) (e : Option Entry) → entry T s ≡ Some d → entry (changed T s e) s ≡ e
entry-changed_same T zero d e h = absurd (none-some d h)
entry-changed_same T (suc slot) d e h = get_or-set_same T slot e None (used_within T slot d h)

pub entry-changed_other : (T : Tree) (s t : ℕ) (e : Option Entry) → t ≢ s → entry (changed T s e) t ≡ entry T t
entry-changed_other T zero t e n = refl
entry-changed_other T (suc s) zero e n = refl
entry-changed_other T (suc s) (suc t) e n = get_or-set_other T s t e None (λ h. n (ap suc h))

pub leads_on : (T : Tree) (a b c : ℕ) (p q : Path) → Leads T a p b → Leads T b q c → Leads T a (q ++ p) c
leads_on T a b c p [] h g = subst (λ (s : ℕ). Leads T a p s) (sym g) h
leads_on T a b c p (n ∷ q) h g = (g.0, g.1, g.2, leads_on T a b g.0.parent p q h g.3)

-- nothing leads to the number that no entry has
pub no_way : (T : Tree) (p : Path) → Leads T 1 p 0 → ⊥
no_way T [] h = absurd (omega arith)
no_way T (n ∷ p) h = none-some h.0 h.1

-- the root has no other path
only_root : (T : Tree) (t : IsTree T) (n : Name) (p : Path) (s : ℕ) → s ≡ 1 → Leads T 1 (n ∷ p) s → ⊥
only_root T t n p s e h =
    let same : h.0 ≡ root = same_Some h.0 root (sym h.1 ∙ ap (λ (s : ℕ). entry T s) e ∙ t.top) in
    no_way T p (subst (λ (s : ℕ). Leads T 1 p s) (ap (λ (e : Entry). e.parent) same) h.3)

-- an entry has one path
pub one_path : (T : Tree) (t : IsTree T) (p q : Path) (s : ℕ) → IsAt T p s → IsAt T q s → p ≡ q
one_path T t [] [] s h g = refl
one_path T t [] (n ∷ q) s h g = absurd (only_root T t n q s h g)
one_path T t (n ∷ p) [] s h g = absurd (only_root T t n p s g h)
one_path T t (n ∷ p) (m ∷ q) s h g =
    let same : g.0 ≡ h.0 = same_Some g.0 h.0 (sym g.1 ∙ h.1) in
    let names : n ≡ m = sym h.2 ∙ ap (λ (e : Entry). e.name) (sym same) ∙ g.2 in
    let rest : p ≡ q = one_path T t p q h.0.parent h.3 (subst (λ (e : Entry). Leads T 1 q e.parent) same g.3) in
    cc

-- and so none is below itself
pub no_cycle : (T : Tree) (t : IsTree T) (n : Name) (p : Path) (s : ℕ) → Leads T s (n ∷ p) s → ⊥
no_cycle T t n p s h =
    let from_top = t.reached s (ap (λ (o : Option Entry). is_some o) h.1) in
    let same = one_path T t from_top.0 ((n ∷ p) ++ from_top.0) s from_top.1 (leads_on T 1 s s from_top.0 (n ∷ p) from_top.1 h) in
    absurd (omega (arith, ap length same, length-append (n ∷ p) from_top.0))

-- a directory is an entry
pub directory_used : (T : Tree) (s : ℕ) → IsDirectory T s → is_some (entry T s) ≡ true
directory_used T s d = ap is_some d.1
