-- The map from paths is a map, and what taking an entry out does to it.
use Rattle.std.proofs.Common.{◌≡◌, ◌≢◌, ◌≤◌, ◌↔◌, ℕ, zero, suc, not, ◌==◌, [], ◌∷◌, ◌++◌, length, Option, Some, None, Result, Ok, refl, sym, ◌∙◌, ap, subst, arith}
use Rattle.std.specs.Option.{option_map}
use Rattle.std.proofs.lemmas.Option.{same_Some, none-some}
use Rattle.vol_tree.specs.declared.errno.Errno.{Errno}
use Rattle.vol_tree.specs.declared.errno.Errno.TheVariants as errno
use Rattle.vol_tree.specs.Tree.{Tree, Path, Name, Node, Directory, Entry, entry, changed, Leads, IsTree, root, is_empty}
use Rattle.vol_tree.specs.Calls.{is_directory}
use Rattle.vol_tree.specs.PathLaws.{Maps, IsPathMap, PathsAreAMap, UnlinkedMap, DirectoryRemovedMap}
use Rattle.vol_tree.proofs.Determines.{one_serial}
use Rattle.vol_tree.proofs.Entries.{used_within, no_way, one_path}
use Rattle.vol_tree.proofs.FilledMaps.{file_there}
use Rattle.vol_tree.proofs.PathMaps.{removed_map}
use Rattle.vol_tree.proofs.RenamedMaps.{passes, ok_same, not_false}
use Rattle.vol_tree.proofs.Trees.{empty_childless, file_childless}

used_range : (T : Tree) (s : ℕ) (o : Option Entry) (m : Node) → entry T s ≡ o → option_map (λ (e : Entry). e.node) o ≡ Some m → (1 ≤ s) × (s ≤ length T)
used_range T zero o m is node = absurd (none-some m (ap (option_map (λ (e : Entry). e.node)) is ∙ node))
used_range T (suc slot) None m is node = absurd (none-some m node)
used_range T (suc slot) (Some e) m is node = let lt = used_within T slot e is in (omega arith, omega (arith, lt))

module _ (T : Tree) (t : IsTree T) where
  above_is : (name : Name) (path : Path) (s : ℕ) (m : Node) → Maps T (name ∷ path) s m → (d : ℕ) × Maps T path d Directory
  above_is name path s m h =
      let e = h.at.0 in
      let other : s ≢ 1 = λ same.
      let is : e ≡ root = same_Some e root (sym h.at.1 ∙ (ap (entry T) same ∙ t.top)) in
      no_way T path (subst (λ (d : Entry). Leads T 1 path d.parent) is h.at.3) in
      let up = t.inside s e h.at.1 other in
      (e.parent, record { at = h.at.3; is = ap (option_map (λ (d : Entry). d.node)) up.1 ∙ ap Some up.2 })

  first_part : (below above : Path) (s : ℕ) (m : Node) → below ≢ [] → Maps T (below ++ above) s m → (d : ℕ) × Maps T above d Directory
  first_part [] above s m some h = absurd (some refl)
  first_part (n ∷ []) above s m some h = above_is n above s m h
  first_part (n ∷ (k ∷ below)) above s m some h = let up = above_is n ((k ∷ below) ++ above) s m h in first_part (k ∷ below) above up.0 Directory (λ none. cc) up.1

  is_path_map : IsPathMap T
  is_path_map = record {
    top = record { at = refl; is = ap (option_map (λ (e : Entry). e.node)) t.top };
    one_entry = λ path s u m n one other.
        let same : s ≡ u = one_serial T t path s u one.at other.at in
        (same, same_Some m n (sym one.is ∙ ap (λ (x : ℕ). option_map (λ (e : Entry). e.node) (entry T x)) same ∙ other.is));
    one_path = λ p q s m n one other. one_path T t p q s one.at other.at;
    range = λ path s m h. used_range T s (entry T s) m refl h.is;
    inside = first_part;
  }

pub path_map : PathsAreAMap
path_map = is_path_map

pub unlinked_map : UnlinkedMap
unlinked_map T file t is =
    let there = file_there T file is in
    removed_map T file there.0 t there.1 (file_childless T t file there.0 there.1 (ap is_directory there.2))

pub directory_removed_map : DirectoryRemovedMap
directory_removed_map T U directory t is done path s m =
    let answer : Result Tree Errno = Ok (changed T directory None) in
    let one = passes (directory == 1) errno.Invalid ((not (is_empty T directory), errno.NotEmpty) ∷ []) answer U done in
    let two = passes (not (is_empty T directory)) errno.NotEmpty [] answer U one.1 in
    subst (λ (V : Tree). Maps V path s m ↔ (Maps T path s m × (s ≢ directory))) (ok_same (changed T directory None) U two.1)
    (removed_map T directory is.0 t is.1 (empty_childless T directory (not_false (is_empty T directory) two.0)) path s m)
