-- What the names say of the entries in a directory.
use Rattle.std.proofs.Common.{is_some, ◌≡◌, ◌≢◌, inl, inr, ℕ, zero, suc, ◌+◌, ◌-◌, ◌≤◌, ◌<◌, ◌==◌, ◌||◌, true, false, not, Bool, [], ◌∷◌, length, drop, get_or, Option, Some, None, Ok, Err, MatchOption, refl, sym, ◌∙◌, ap, subst, arith}
use Rattle.std.specs.List.{list_any}
use Rattle.std.specs.Option.{option_map_or}
use Rattle.std.proofs.lemmas.Bool.{cases_lt, cases_Bool, false≢true, not-true, eq-eqb, eqb-true}
use Rattle.std.proofs.lemmas.Option.{none-some}
use Rattle.std.proofs.lemmas.List.{get_or-drop, length-drop}
use Rattle.vol_sector.specs.Disk.{Image}
use Rattle.vol_inode.specs.declared.entry.Entry.{Entry}
use Rattle.vol_inode.specs.Entry.{name_of}
use Rattle.vol_inode.specs.Name.{IsName}
use Rattle.vol_dirs.specs.declared.dirs.Dirs.{Dirs}
use Rattle.vol_dirs.specs.Names.{Names, Shows, IsChild, NoChildOver, IsNextChild}
use Rattle.vol_tree.specs.declared.superblock.Superblock.{Superblock}
use Rattle.vol_tree.specs.declared.errno.Errno.TheVariants as errno
use Rattle.vol_tree.specs.Tree as tree
use Rattle.vol_tree.specs.Tree.{Tree, IsTree, lookup, is_in, is_empty, changed, root}
use Rattle.vol_tree.specs.Calls.{next_child, directory_removed, is_file_at, is_directory}
use Rattle.vol_tree.specs.Stands.{entry_of}
use Rattle.vol_tree.specs.Clauses.{tree_in}
use Rattle.vol_tree.specs.internal.Slots.{slot_of}
use Rattle.vol_tree.specs.internal.Parts.{IsContent}
use Rattle.vol_tree.specs.internal.Removals.{IsBare}
use Rattle.vol_tree.proofs.Entries.{used_within}
use Rattle.vol_tree.proofs.Finding.{held, is_held, tree_entry}
use Rattle.vol_tree.proofs.Lookups.{found, looked_up}
use Rattle.vol_tree.proofs.Grows.{none_passes, not_there}
use Rattle.vol_tree.proofs.Trees.{Childless, empty_childless, file_childless}
use Rattle.vol_tree.proofs.WriteCalls.{file_used}
use Rattle.vol_tree.proofs.Writes.{first_refuses, next_decides}

-- an entry that stands in the directory
in_parts : (p : ℕ) (o : Option tree.Entry) → is_in p o ≡ true → (e : tree.Entry) × (o ≡ Some e) × (e.parent ≡ p)
in_parts p None h = absurd (false≢true h)
in_parts p (Some e) h = (e, refl, eqb-true e.parent p h)

in_passes : (p : ℕ) (o : Option tree.Entry) (e : tree.Entry) → o ≡ Some e → e.parent ≡ p → is_in p o ≡ true
in_passes p o e is same = ap (is_in p) is ∙ eq-eqb e.parent p same

module _ (content : Image) (v : Superblock) (dirs : Dirs) (is : IsContent content v) (shows : Shows v.version content v.slots dirs) where
  abbrev T : Tree
  T = tree_in content v

  is_child_of : (p t : ℕ) (e : tree.Entry) → tree.entry T t ≡ Some e → e.parent ≡ p → IsChild dirs p t
  is_child_of p t e at same = (e.name, subst (λ (q : ℕ). Names dirs q e.name t) same (is_held content v dirs is shows t e at))

  child_at : (p s : ℕ) → IsChild dirs p s → (e : tree.Entry) × (tree.entry T s ≡ Some e) × (e.parent ≡ p)
  child_at p s child = let e = held content v dirs is shows p child.0 s child.1 in (e.0, e.1, e.2)

  -- what stands at a place past the first ones
  past_is : (after place : ℕ) → get_or (drop after T) place None ≡ tree.entry T (suc (after + place))
  past_is after place = get_or-drop after T place None

  place_of : (p after s : ℕ) (e : tree.Entry) → after < s → tree.entry T s ≡ Some e → e.parent ≡ p → (is_in p (get_or (drop after T) (s - suc after) None) ≡ true) × (s - suc after < length (drop after T))
  place_of p after s e over at same =
      let here : suc (after + (s - suc after)) ≡ s = omega arith in
      let stands : get_or (drop after T) (s - suc after) None ≡ Some e = past_is after (s - suc after) ∙ ap (tree.entry T) here ∙ at in
      let within : s - 1 < length T = used_within T (s - 1) e (ap (tree.entry T) (let back : suc (s - 1) ≡ s = omega arith in back) ∙ at) in
      (in_passes p _ e stands same, omega (arith, length-drop after T, within))

  next_by : (o : Option ℕ) (p after : ℕ) (x : Option ℕ) → next_child T p after ≡ x → MatchOption o (NoChildOver dirs p after) (λ s. IsNextChild dirs p after s) → o ≡ x
  next_by None p after None at h = refl
  next_by None p after (Some t) at h =
      let f = found (suc after) (is_in p) (drop after T) t at in
      let e = in_parts p (get_or (drop after T) f.place None) f.passes in
      let here : tree.entry T t ≡ Some e.0 = ap (tree.entry T) (let back : t ≡ suc (after + f.place) = omega (arith, f.is) in back) ∙ sym (past_is after f.place) ∙ e.1 in
      let le : t ≤ after = h t (is_child_of p t e.0 here e.2) in
      absurd (omega (arith, f.is, le))
  next_by (Some s) p after None at h =
      let e = child_at p s h.child in
      let place = place_of p after s e.0 h.over e.1 e.2 in
      absurd (false≢true (sym (none_passes (suc after) (is_in p) (drop after T) at (s - suc after) place.1) ∙ place.0))
  next_by (Some s) p after (Some t) at h =
      let e = child_at p s h.child in
      let place = place_of p after s e.0 h.over e.1 e.2 in
      let f = found (suc after) (is_in p) (drop after T) t at in
      let d = in_parts p (get_or (drop after T) f.place None) f.passes in
      let here : tree.entry T t ≡ Some d.0 = ap (tree.entry T) (let back : t ≡ suc (after + f.place) = omega (arith, f.is) in back) ∙ sym (past_is after f.place) ∙ d.1 in
      let le : s ≤ t = h.least t (is_child_of p t d.0 here d.2) (omega (arith, f.is)) in
      elim (cases_lt s t) [
        | inl lt ↦
            let before : s - suc after < f.place = omega (arith, f.is, h.over) in
            absurd (false≢true (sym (f.before (s - suc after) before) ∙ place.0))
        | inr ge ↦ ap Some (let same : s ≡ t = omega arith in same)
      ]

  pub next_is : (o : Option ℕ) (p after : ℕ) → MatchOption o (NoChildOver dirs p after) (λ s. IsNextChild dirs p after s) → o ≡ next_child T p after
  next_is o p after h = next_by o p after (next_child T p after) refl h

  -- a directory in which no child is held is empty
  pub none_in : (o : Option ℕ) (p : ℕ) → MatchOption o (NoChildOver dirs p 0) (λ s. IsNextChild dirs p 0 s) → is_some o ≡ false → Childless T p
  none_in None p h none zero d at same = none-some d at
  none_in None p h none (suc t) d at same = let le : suc t ≤ 0 = h (suc t) (is_child_of p (suc t) d at same) in omega arith
  none_in (Some s) p h none t d at same = absurd (false≢true (sym none))

  pub some_in : (o : Option ℕ) (p : ℕ) → MatchOption o (NoChildOver dirs p 0) (λ s. IsNextChild dirs p 0 s) → is_some o ≡ true → is_empty T p ≡ false
  some_in None p h some = absurd (false≢true some)
  some_in (Some s) p h some = elim (cases_Bool (is_empty T p)) [
    | inl empty ↦ let e = child_at p s h.child in absurd (empty_childless T p empty s e.0 e.1 e.2)
    | inr full ↦ full
  ]

  -- the names hold each entry but the root
  pub is_found : (serial : ℕ) (d : Entry) → 1 ≤ serial → serial ≢ 1 → slot_of content v serial ≡ Some d → IsName (name_of d) × (lookup T d.parent (name_of d) ≡ Some serial)
  is_found serial d first other slot =
      let at = tree_entry content v serial d first slot in
      (is.volume.tree.named serial (entry_of content d) at other, go (lookup T d.parent (name_of d)) refl)
    where
      go : (x : Option ℕ) → lookup T d.parent (name_of d) ≡ x → lookup T d.parent (name_of d) ≡ Some serial
      go None none = absurd (not_there T d.parent (name_of d) none serial (entry_of content d) (tree_entry content v serial d first slot) refl refl)
      go (Some t) some =
          let e = looked_up T d.parent t (name_of d) some in
          some ∙ ap Some (is.volume.tree.apart t serial e.0 (entry_of content d) e.1 (tree_entry content v serial d first slot) e.2 e.3)

-- a directory in which nothing stands is empty
any_has : (test : Option tree.Entry → Bool) (T : Tree) → list_any test T ≡ true → (i : ℕ) × (test (get_or T i None) ≡ true)
any_has test [] h = absurd (false≢true h)
any_has test (o ∷ T) h = elim (cases_Bool (test o)) [
  | inl here ↦ (0, here)
  | inr not_here ↦ let rest = any_has test T (second (test o) (list_any test T) not_here h) in (suc rest.0, rest.1)
]
  where
    second : (a b : Bool) → a ≡ false → (a || b) ≡ true → b ≡ true
    second true b no_one h = absurd (false≢true (sym no_one))
    second false b no_one h = h

pub childless_empty : (T : Tree) (p : ℕ) → Childless T p → is_empty T p ≡ true
childless_empty T p bare = elim (cases_Bool (list_any (is_in p) T)) [
  | inl some ↦
      let at = any_has (is_in p) T some in
      let e = in_parts p (get_or T at.0 None) at.1 in
      absurd (bare (suc at.0) e.0 e.1 e.2)
  | inr none ↦ ap not none
]

-- ---- removing a directory

pub removed_root : (T : Tree) (d : ℕ) → d ≡ 1 → directory_removed T d ≡ Err errno.Invalid
removed_root T d is = first_refuses (d == 1) errno.Invalid ((not (is_empty T d), errno.NotEmpty) ∷ []) (Ok (changed T d None)) (eq-eqb d 1 is)

not_one : (d : ℕ) → d ≢ 1 → (d == 1) ≡ false
not_one d other = elim (cases_Bool (d == 1)) [ inl same ↦ absurd (other (eqb-true d 1 same)) | inr differ ↦ differ ]

pub removed_full : (T : Tree) (d : ℕ) → d ≢ 1 → is_empty T d ≡ false → directory_removed T d ≡ Err errno.NotEmpty
removed_full T d other full =
    next_decides (d == 1) errno.Invalid ((not (is_empty T d), errno.NotEmpty) ∷ []) (Ok (changed T d None)) (not_one d other)
    ∙ first_refuses (not (is_empty T d)) errno.NotEmpty [] (Ok (changed T d None)) (ap not full)

pub removed_is : (T : Tree) (d : ℕ) → d ≢ 1 → is_empty T d ≡ true → directory_removed T d ≡ Ok (changed T d None)
removed_is T d other empty =
    next_decides (d == 1) errno.Invalid ((not (is_empty T d), errno.NotEmpty) ∷ []) (Ok (changed T d None)) (not_one d other)
    ∙ next_decides (not (is_empty T d)) errno.NotEmpty [] (Ok (changed T d None)) (ap not empty)

-- a file isn't the root
file_not_top : (T : Tree) → IsTree T → (s : ℕ) → is_file_at T s ≡ true → s ≢ 1
file_not_top T t s file same =
    let at : tree.entry T s ≡ Some root = ap (tree.entry T) same ∙ t.top in
    false≢true (ap (λ (o : Option tree.Entry). option_map_or (λ (c : tree.Entry). not (is_directory c.node)) o false) (sym at) ∙ file)

pub file_bare : (T : Tree) → IsTree T → (s : ℕ) → is_file_at T s ≡ true → IsBare T s
file_bare T t s file = record { used = file_used T s file; not_top = file_not_top T t s file; bare = go (tree.entry T s) refl file }
  where
    go : (o : Option tree.Entry) → tree.entry T s ≡ o → option_map_or (λ (c : tree.Entry). not (is_directory c.node)) o false ≡ true → Childless T s
    go None at is = absurd (false≢true is)
    go (Some e) at is = file_childless T t s e at (not-true (is_directory e.node) is)
