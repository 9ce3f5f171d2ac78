-- What calls on files do to the map from paths.
use Rattle.std.proofs.Common.{◌≡◌, ◌≢◌, ◌↔◌, inl, inr, ℕ, nat_lt, Bool, true, false, not, List, [], ◌∷◌, length, Option, Some, None, Result, Ok, refl, sym, ◌∙◌, ap, subst}
use Rattle.std.specs.Option.{option_map, option_map_or}
use Rattle.std.proofs.lemmas.Bool.{cases_eq, false≢true}
use Rattle.std.proofs.lemmas.Option.{same_Some}
use Rattle.vol_inode.specs.Space.{size_limit}
use Rattle.vol_body.specs.Bytes.{written_bytes, resized_bytes}
use Rattle.vol_tree.specs.declared.errno.Errno.{Errno}
use Rattle.vol_tree.specs.declared.errno.Errno.TheVariants as errno
use Rattle.vol_tree.specs.Tree.{Tree, Path, Node, Directory, File, Entry, entry, changed, IsAt}
use Rattle.vol_tree.specs.Calls.{unless, if_it_fits, with_bytes, is_file_at, is_directory, bytes_at, bytes_of}
use Rattle.vol_tree.specs.Space.{Geometry, space}
use Rattle.vol_tree.specs.PathLaws.{Maps, IsFilled, WrittenMap, ResizedMap}
use Rattle.vol_tree.proofs.Entries.{entry-changed_same, entry-changed_other}
use Rattle.vol_tree.proofs.Writes.{with_is}

-- a file is an entry with its bytes
pub file_there : (T : Tree) (file : ℕ) → is_file_at T file ≡ true → (e : Entry) × (entry T file ≡ Some e) × (e.node ≡ File (bytes_at T file))
file_there T file h = go (entry T file) refl h
  where
    node_is : (n : Node) → not (is_directory n) ≡ true → n ≡ File (bytes_of n)
    node_is Directory is = absurd (false≢true is)
    node_is (File bytes) is = refl

    go : (o : Option Entry) → entry T file ≡ o → option_map_or (λ (c : Entry). not (is_directory c.node)) o false ≡ true → (e : Entry) × (entry T file ≡ Some e) × (e.node ≡ File (bytes_at T file))
    go None at is = absurd (false≢true is)
    go (Some e) at is = (e, at, node_is e.node is ∙ ap File (sym (ap (λ (o : Option Entry). option_map_or (λ (c : Entry). bytes_of c.node) o []) at)))

module _ (T : Tree) (file : ℕ) (e : Entry) (h : entry T file ≡ Some e) (bytes : List ℕ) where
  abbrev filled : Entry
  filled = record e { node = File bytes }

  abbrev U : Tree
  U = changed T file (Some filled)

  at_file : entry U file ≡ Some filled
  at_file = entry-changed_same T file e (Some filled) h

  elsewhere : (x : ℕ) → x ≢ file → entry U x ≡ entry T x
  elsewhere x differ = entry-changed_other T file x (Some filled) differ

  to_filled : (path : Path) (x : ℕ) → IsAt T path x → IsAt U path x
  to_filled [] x g = g
  to_filled (n ∷ path) x g = elim (cases_eq x file) [
    | inl same ↦
        let own : e ≡ g.0 = same_Some e g.0 (sym h ∙ (ap (entry T) (sym same) ∙ g.1)) in
        (filled, ap (entry U) same ∙ at_file, ap (λ (c : Entry). c.name) own ∙ g.2, subst (λ (p : ℕ). IsAt U path p) (ap (λ (c : Entry). c.parent) (sym own)) (to_filled path g.0.parent g.3))
    | inr differ ↦ (g.0, elsewhere x differ ∙ g.1, g.2, to_filled path g.0.parent g.3)
  ]

  from_filled : (path : Path) (x : ℕ) → IsAt U path x → IsAt T path x
  from_filled [] x g = g
  from_filled (n ∷ path) x g = elim (cases_eq x file) [
    | inl same ↦
        let own : filled ≡ g.0 = same_Some filled g.0 (sym at_file ∙ (ap (entry U) (sym same) ∙ g.1)) in
        (e, ap (entry T) same ∙ h, ap (λ (c : Entry). c.name) own ∙ g.2, subst (λ (p : ℕ). IsAt T path p) (ap (λ (c : Entry). c.parent) (sym own)) (from_filled path g.0.parent g.3))
    | inr differ ↦ (g.0, sym (elsewhere x differ) ∙ g.1, g.2, from_filled path g.0.parent g.3)
  ]

  pub filled_map : (path : Path) (s : ℕ) (m : Node) → Maps U path s m ↔ IsFilled T file bytes path s m
  filled_map path s m = (
    λ g. elim (cases_eq s file) [
      | inl same ↦ inr (subst (λ (x : ℕ). IsAt T path x) same (from_filled path s g.at), same, same_Some m (File bytes) (sym g.is ∙ ap (option_map (λ (c : Entry). c.node)) (ap (entry U) same ∙ at_file)))
      | inr differ ↦ inl (record { at = from_filled path s g.at; is = ap (option_map (λ (c : Entry). c.node)) (sym (elsewhere s differ)) ∙ g.is }, differ)
    ],
    λ either. elim either [
      | inl (old, differ) ↦ record { at = to_filled path s old.at; is = ap (option_map (λ (c : Entry). c.node)) (elsewhere s differ) ∙ old.is }
      | inr (at, same, is) ↦ record {
        at = subst (λ (x : ℕ). IsAt U path x) (sym same) (to_filled path file at);
        is = ap (option_map (λ (c : Entry). c.node)) (ap (entry U) same ∙ at_file) ∙ ap Some (sym is);
      }
    ],
  )

-- the same bytes change nothing
unfilled_map : (T : Tree) (file : ℕ) (e : Entry) → entry T file ≡ Some e → (bytes : List ℕ) → e.node ≡ File bytes → (path : Path) (s : ℕ) (m : Node) → Maps T path s m ↔ IsFilled T file bytes path s m
unfilled_map T file e h bytes node path s m = (
  λ g. elim (cases_eq s file) [
    | inl same ↦ inr (subst (λ (x : ℕ). IsAt T path x) same g.at, same, same_Some m (File bytes) (sym g.is ∙ ap (option_map (λ (c : Entry). c.node)) (ap (entry T) same ∙ h) ∙ ap Some node))
    | inr differ ↦ inl (g, differ)
  ],
  λ either. elim either [
    | inl (old, differ) ↦ old
    | inr (at, same, is) ↦ record {
      at = subst (λ (x : ℕ). IsAt T path x) (sym same) at;
      is = ap (option_map (λ (c : Entry). c.node)) (ap (entry T) same ∙ h) ∙ ap Some (node ∙ sym is);
    }
  ],
)

unless_ok : {X : Type 0} (c : Bool) (e : Errno) (checks : List (Bool × Errno)) (x : Result X Errno) (y : X) → unless ((c, e) ∷ checks) x ≡ Ok y → unless checks x ≡ Ok y
unless_ok true e checks x y h = absurd (cc)
unless_ok false e checks x y h = h

ok_same : {X : Type 0} (x y : X) → ◌≡◌ {A = Result X Errno} (Ok x) (Ok y) → x ≡ y
ok_same x y h = cc

fitted : (g : Geometry) (T U : Tree) (file : ℕ) (bytes : List ℕ) → if_it_fits g T file bytes ≡ Ok U → with_bytes T file bytes ≡ U
fitted g T U file bytes h =
    ok_same (with_bytes T file bytes) U
    (unless_ok (nat_lt g.data_sectors (space (with_bytes T file bytes))) errno.NoSpace [] (Ok (with_bytes T file bytes)) U
    (unless_ok (nat_lt (size_limit g.version) (length bytes)) errno.TooBig ((nat_lt g.data_sectors (space (with_bytes T file bytes)), errno.NoSpace) ∷ []) (Ok (with_bytes T file bytes)) U h))

by_bytes : (g : Geometry) (T U : Tree) (file : ℕ) (bytes : List ℕ) → is_file_at T file ≡ true → if_it_fits g T file bytes ≡ Ok U → (path : Path) (s : ℕ) (m : Node) → Maps U path s m ↔ IsFilled T file bytes path s m
by_bytes g T U file bytes is_file h path s m =
    let there = file_there T file is_file in
    subst (λ (V : Tree). Maps V path s m ↔ IsFilled T file bytes path s m) (sym (with_is g T file there.0 there.1 bytes) ∙ fitted g T U file bytes h) (filled_map T file there.0 there.1 bytes path s m)

pub written_map : WrittenMap
written_map volume T U file offset [] t is_file h path s m =
    let there = file_there T file is_file in
    subst (λ (V : Tree). Maps V path s m ↔ IsFilled T file (bytes_at T file) path s m) (ok_same T U h) (unfilled_map T file there.0 there.1 (bytes_at T file) there.2 path s m)
written_map volume T U file offset (byte ∷ bytes) t is_file h path s m = by_bytes volume T U file (written_bytes (bytes_at T file) offset (byte ∷ bytes)) is_file h path s m

pub resized_map : ResizedMap
resized_map volume T U file size t is_file h path s m = by_bytes volume T U file (resized_bytes size (bytes_at T file)) is_file h path s m
