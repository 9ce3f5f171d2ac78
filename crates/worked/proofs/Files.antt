-- A new file, and its bytes.
use Rattle.std.proofs.Common.{◌≡◌, ℕ, zero, suc, ◌+◌, true, List, [], ◌∷◌, ◌++◌, length, drop, Option, Some, None, Ok, Err, refl, ◌∙◌, ap, subst, append-nil, inr}
use Rattle.std.specs.Prelude.{Result}
use Rattle.std.specs.Option.{option_map}
use Rattle.vol_body.specs.Bytes.{written_bytes}
use Rattle.vol_tree.specs.declared.errno.Errno.{Errno}
use Rattle.vol_tree.specs.Tree.{Tree, Name, Node, Directory, File, Entry, entry, IsTree, IsDirectory}
use Rattle.vol_tree.specs.Space.{Geometry}
use Rattle.vol_tree.specs.Calls.{created, written, is_file_at, bytes_at, with_unit}
use Rattle.vol_tree.specs.PathLaws.{Maps, CreatedMap, WrittenMap}

tree_or : Tree → Result (Tree × Unit {0}) Errno → Tree
tree_or T (Ok x) = x.0
tree_or T (Err e) = T

pub no_unit : (r : Result Tree Errno) (T : Tree) (u : Unit {0}) → with_unit r ≡ Ok (T, u) → r ≡ Ok T
unfolding tree_or
no_unit (Ok U) T u e = ap Ok (ap (tree_or U) e)
no_unit (Err x) T u e = cc

nothing_left : (n : ℕ) → drop {A = ℕ} n [] ≡ []
nothing_left zero = refl
nothing_left (suc n) = refl

-- bytes that are written to an empty file are the file's
first_bytes : (bytes : List ℕ) → written_bytes [] 0 bytes ≡ bytes
first_bytes [] = refl
first_bytes (b ∷ bs) = ap (λ (l : List ℕ). (b ∷ bs) ++ l) (nothing_left (0 + length (b ∷ bs))) ∙ append-nil (b ∷ bs)

node_bytes : (T : Tree) (s : ℕ) (bytes : List ℕ) → option_map (λ (e : Entry). e.node) (entry T s) ≡ Some (File bytes) → (is_file_at T s ≡ true) × (bytes_at T s ≡ bytes)
node_bytes T s bytes is = by_entry (entry T s) refl is where
  by_node : (e : Entry) (n : Node) → entry T s ≡ Some e → e.node ≡ n → Some n ≡ Some (File bytes) → (is_file_at T s ≡ true) × (bytes_at T s ≡ bytes)
  by_node e Directory at node same = cc
  by_node e (File xs) at node same = (cc, cc)

  by_entry : (o : Option Entry) → entry T s ≡ o → option_map (λ (e : Entry). e.node) o ≡ Some (File bytes) → (is_file_at T s ≡ true) × (bytes_at T s ≡ bytes)
  by_entry None at same = cc
  by_entry (Some e) at same = by_node e e.node at refl same

-- a file that was made and written stands in the root
pub stored : CreatedMap → WrittenMap → (volume : Geometry) (T U V : Tree) (s : ℕ) (name : Name) (bytes : List ℕ) → IsTree T → IsTree U → created T 1 name (File []) ≡ Ok (U, s) → written volume U s 0 bytes ≡ Ok V → Maps V (name ∷ []) s (File bytes)
stored created_map written_map volume T U V s name bytes tree made create write =
    let top : IsDirectory T 1 = (_, tree.top, refl) in
    let first : Maps U (name ∷ []) s (File []) = (created_map T U 1 s name (File []) tree top create (name ∷ []) s (File [])).1 (inr (record { above = []; at = refl; is = refl }, refl, refl)) in
    let file = node_bytes U s [] first.is in
    let there = (written_map volume U V s 0 bytes made file.0 write (name ∷ []) s (File (written_bytes (bytes_at U s) 0 bytes))).1 (inr (first.at, refl, refl)) in
    subst (λ (l : List ℕ). Maps V (name ∷ []) s (File l)) (ap (λ (l : List ℕ). written_bytes l 0 bytes) file.1 ∙ first_bytes bytes) there
