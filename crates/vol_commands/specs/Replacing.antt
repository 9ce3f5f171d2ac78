-- What `put --whole` does (`docs/USING.md`, "Commands"): the input is put into a new file beside that of the path, and
-- this file then gets the path's place by a move. So the file of the path has all of the input or what it had.
use Rattle.std.specs.Prelude.{◌≡◌, ◌⊎◌, ◌++◌, ℕ, List, Option, Result, Ok, Err, true, codes}
use Rattle.vol_sector.specs.declared.fault.VolumeFault.TheVariants as fault
use Rattle.vol_tree.specs.declared.superblock.Superblock.{Superblock}
use Rattle.vol_tree.specs.declared.errno.Errno.{Errno}
use Rattle.vol_tree.specs.declared.errno.Errno.TheVariants as errno
use Rattle.vol_tree.specs.Tree.{Tree}
use Rattle.sandbox_args.specs.Request.{Text}
use Rattle.vol_commands.specs.declared.failure.Failure.{Failure}
use Rattle.vol_commands.specs.declared.failure.Failure.TheVariants as failure
use Rattle.vol_commands.specs.Blame.{blames_device}
use Rattle.vol_commands.specs.Changes.{entry_moved, entry_removed}
use Rattle.vol_commands.specs.Tasks.{IsPartOfPut, Puts, file_named}

-- the path of the new file, until it has the place of the old one
abbrev pub path_beside : Text → Text
path_beside path = path ++ codes ".sandbox-put"

-- a file is there, or there is no entry
abbrev pub IsFilesPlace : Tree → Text → Type 0
IsFilesPlace T path = (e : Errno) → file_named T path ≡ Err e → e ≡ errno.NotFound

-- why a path is none of a file, or the device failed
abbrev pub RefusesPlace : Tree → Text → Errno → Type 0
RefusesPlace T path e = (file_named T path ≡ Err e) ⊎ (e ≡ errno.Io)

-- the new file is taken away, or wasn't there
abbrev pub Removes : Tree → Text → Tree → Type 0
Removes M beside U = (entry_removed M beside ≡ Ok U) ⊎ ((U ≡ M) × (e : Errno) × (entry_removed M beside ≡ Err e))

-- what a stop while it is taken away may leave
abbrev pub IsRemovalPart : Tree → Text → Tree → Type 0
IsRemovalPart M beside U = (U ≡ M) ⊎ (entry_removed M beside ≡ Ok U)

-- It is taken away, and the failure stays what it was; or the device failed, too.
abbrev pub TakesBack : Tree → Text → Tree → Failure → Failure → Type 0
TakesBack M beside U first last = ((last ≡ first) × Removes M beside U) ⊎ ((last ≡ failure.Tree errno.Io) × IsRemovalPart M beside U)

-- The new file gets the place of the old one; or that is refused, and it stays beside; or the device failed.
abbrev pub Moves : Tree → Text → Text → Tree → Result (Unit {0}) Failure → Type 0
Moves M beside path U (Ok x) = entry_moved M beside path ≡ Ok U
Moves M beside path U (Err (failure.Volume fault)) = ⊥
Moves M beside path U (Err (failure.Tree e)) = ((entry_moved M beside path ≡ Err e) × (U ≡ M)) ⊎ ((e ≡ errno.Io) × ((U ≡ M) ⊎ (entry_moved M beside path ≡ Ok U)))
Moves M beside path U (Err failure.Stream) = ⊥

-- Once the input was put into the new file, that is moved; else it is taken away, unless the device failed.
abbrev pub Ends : Tree → Text → Text → Tree → Result (Unit {0}) Failure → Result (Unit {0}) Failure → Type 0
Ends M beside path U (Ok x) done = Moves M beside path U done
Ends M beside path U (Err first) (Ok x) = ⊥
Ends M beside path U (Err first) (Err last) = TakesBack M beside U first last ⊎ ((blames_device (Err first) ≡ true) × (last ≡ first) × (U ≡ M))

pub record WritesBeside (v : Superblock) (T : Tree) (beside path : Text) (before after : Option (List ℕ)) (U : Tree) (done : Result (Unit {0}) Failure) : Type 0 where
  pub tree : Tree
  pub first : Result (Unit {0}) Failure
  pub puts : Puts v T beside before after tree first
  pub ends : Ends tree beside path U first done

-- Nothing was read or changed, since the path is that of no file, the device failed, or memory was refused; or the input was
-- put beside, and moved.
abbrev pub PutsWhole : Superblock → Tree → Text → Option (List ℕ) → Option (List ℕ) → Tree → Result (Unit {0}) Failure → Type 0
PutsWhole v T path before after U done =
    ((U ≡ T) × (after ≡ before) × ((done ≡ Err (failure.Volume fault.Memory)) ⊎ ((e : Errno) × (done ≡ Err (failure.Tree e)) × RefusesPlace T path e)))
    ⊎ (IsFilesPlace T path × WritesBeside v T (path_beside path) path before after U done)

-- What a stop inside may leave: the tree before, the same with a new file beside that has a beginning of the input, or that
-- with this file moved or taken away.
abbrev pub IsPartOfWhole : Superblock → Tree → Text → Text → Option (List ℕ) → Tree → Type 0
IsPartOfWhole v T beside path known U = IsPartOfPut v T beside known U
    ⊎ ((M : Tree) × IsPartOfPut v T beside known M × ((entry_moved M beside path ≡ Ok U) ⊎ (entry_removed M beside ≡ Ok U)))
