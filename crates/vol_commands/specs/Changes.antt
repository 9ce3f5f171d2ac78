-- What a change of a volume's tree means: which tree comes of it, or which errno refuses it (`docs/USING.md`,
-- "Commands"). `meant` says it for each `Change`, and `IsPartOfChange` is what a stop inside may leave.
use Rattle.std.specs.Prelude.{◌≡◌, ◌⊎◌, ◌&&◌, ◌==◌, ℕ, suc, Bool, not, [], ◌∷◌, length, None, Result, Ok, Err, if◌then◌else◌}
use Rattle.vol_tree.specs.declared.errno.Errno.{Errno}
use Rattle.vol_tree.specs.declared.errno.Errno.TheVariants as errno
use Rattle.vol_tree.specs.Tree.{Tree, Directory, IsTree, entry}
use Rattle.vol_tree.specs.Calls.{directory_at, created, unlinked, directory_removed, is_within, renamed, name_at, parent_at}
use Rattle.vol_tree.specs.PathLaws.{IsBelow}
use Rattle.path_walk.specs.Paths.{Reached, Found, Missing, ◌>>=◌}
use Rattle.sandbox_args.specs.declared.request.Change.{Change}
use Rattle.sandbox_args.specs.declared.request.Change.TheVariants.{MakeDirectory, Move, Remove, RemoveAll}
use Rattle.sandbox_args.specs.Request.{Text}
use Rattle.vol_commands.specs.declared.failure.Failure.{Failure}
use Rattle.vol_commands.specs.declared.failure.Failure.TheVariants as failure
use Rattle.vol_commands.specs.Tasks.{reached, entry_found, entry_named, serial_named}

-- what isn't there becomes an empty directory
abbrev pub directory_in : Tree → Reached × Bool → Result Tree Errno
directory_in T (Found serial, wants) = Err errno.Exist
directory_in T (Missing parent name, wants) = created T parent name Directory >>= λ made. Ok made.0

abbrev pub directory_made : Tree → Text → Result Tree Errno
directory_made T path = reached T path >>= directory_in T

-- The entry gets the place and the name of another one, which goes; or those of one that isn't there, where a slash after
-- its name asks for a directory.
abbrev pub moved_to : Tree → ℕ → Reached × Bool → Result Tree Errno
moved_to T source (Found target, wants) = renamed T source (parent_at T target) (name_at T target)
moved_to T source (Missing parent name, wants) =
    if wants && not (directory_at T source) then Err errno.NotDirectory else renamed T source parent name

-- both paths are read and walked before the first has to be there
abbrev pub entry_moved : Tree → Text → Text → Result Tree Errno
entry_moved T from to = reached T from >>= λ source. reached T to >>= λ target. entry_found source >>= λ serial. moved_to T serial target

-- a file goes, or a directory that is empty
abbrev pub entry_removed : Tree → Text → Result Tree Errno
entry_removed T path = entry_named T path >>= λ e. if e.1 then directory_removed T e.0 else Ok (unlinked T e.0)

-- ---- a whole tree that is removed

-- the slots from serial n on, those of the serials that pass the test not in use
abbrev pub kept_from : ℕ → (ℕ → Bool) → Tree → Tree
kept_from n goes [] = []
kept_from n goes (e ∷ T) = (if goes n then None else e) ∷ kept_from (suc n) goes T

-- the tree without an entry and all that is below it
abbrev pub without : Tree → ℕ → Tree
without T top = kept_from 1 (is_within (length T) T top) T

-- the entry that a path names, but not the root, which stays
abbrev pub top_named : Tree → Text → Result ℕ Errno
top_named T path = serial_named T path >>= λ serial. if serial == 1 then Err errno.Invalid else Ok serial

abbrev pub tree_removed : Tree → Text → Result Tree Errno
tree_removed T path = top_named T path >>= λ top. Ok (without T top)

-- Some entries at the top or below it are gone, and all others are as they were. What is left is a tree.
pub record IsThinned (T : Tree) (top : ℕ) (U : Tree) : Type 0 where
  pub slots : length U ≡ length T
  pub tree : IsTree U
  pub entries : (serial : ℕ) → (entry U serial ≡ entry T serial) ⊎ (IsBelow T top serial × (entry U serial ≡ None))

-- what a stop inside the removal of a tree may leave
abbrev pub IsPartOfRemoval : Tree → Text → Tree → Type 0
IsPartOfRemoval T path U = (U ≡ T) ⊎ ((top : ℕ) × (top_named T path ≡ Ok top) × IsThinned T top U)

-- ---- each change

-- the tree that a change means, or the errno that refuses it
abbrev pub meant : Tree → Change → Result Tree Errno
meant T (MakeDirectory path) = directory_made T path.now
meant T (Move from to) = entry_moved T from.now to.now
meant T (Remove path) = entry_removed T path.now
meant T (RemoveAll path) = tree_removed T path.now

-- The tree before a change, or the one that it means. Of a tree that is removed some entries may be gone.
abbrev pub IsPartOfChange : Tree → Change → Tree → Type 0
IsPartOfChange T (MakeDirectory path) U = (U ≡ T) ⊎ (directory_made T path.now ≡ Ok U)
IsPartOfChange T (Move from to) U = (U ≡ T) ⊎ (entry_moved T from.now to.now ≡ Ok U)
IsPartOfChange T (Remove path) U = (U ≡ T) ⊎ (entry_removed T path.now ≡ Ok U)
IsPartOfChange T (RemoveAll path) U = IsPartOfRemoval T path.now U

-- A change leaves the tree that it means; or it is refused with the errno that is meant, and the tree stays. Or, with 29,
-- the device failed before it was kept.
abbrev pub Changes : Tree → Change → Tree → Result (Unit {0}) Failure → Type 0
Changes T change U (Ok x) = meant T change ≡ Ok U
Changes T change U (Err (failure.Volume fault)) = ⊥
Changes T change U (Err (failure.Tree e)) = ((meant T change ≡ Err e) × (U ≡ T)) ⊎ ((e ≡ errno.Io) × IsPartOfChange T change U)
Changes T change U (Err failure.Stream) = ⊥
