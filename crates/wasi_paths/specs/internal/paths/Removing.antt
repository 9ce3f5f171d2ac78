-- The parts of `path_remove_directory` and `path_unlink_file`, which differ in a right and in the kind of the entry.
-- `remove` takes both as arguments, as the code does, and is proved to be the row of either call.
use Rattle.std.specs.Prelude.{ℕ, not, List, Bool, Result, Ok}
use Rattle.vol_inode.specs.declared.entry.Kind.{Kind}
use Rattle.vol_inode.specs.declared.entry.Kind.TheVariants as nodes
use Rattle.vol_tree.specs.declared.errno.Errno.{Errno}
use Rattle.vol_tree.specs.Tree.{Tree}
use Rattle.vol_tree.specs.Calls.{directory_at, directory_removed, unlinked}
use Rattle.wasi_bodies.specs.World.{World, held_open}
use Rattle.wasi_bodies.specs.Checks.{Checked, Done, ◌>>=◌, ◌>>◌, guard, found, tree_call, only_world}
use Rattle.wasi_bodies.specs.Errnos.{BUSY, ISDIR, NOTDIR}
use Rattle.wasi_bodies.specs.internal.paths.Walks.{reached_from}

-- what a path finds
abbrev pub found_at : World → List ℕ → ℕ → ℕ → ℕ → ℕ → Checked ℕ
found_at w memory fd rights path len = reached_from w memory fd rights path len >>= found

-- whether a directory, or a file, is of this kind
abbrev pub is_kind : Kind → Bool → Bool
is_kind nodes.Directory is_directory = is_directory
is_kind nodes.File is_directory = not is_directory

-- the errno for an entry of the other kind
abbrev pub other_kind : Kind → ℕ
other_kind nodes.Directory = NOTDIR
other_kind nodes.File = ISDIR

-- it is of this kind, and no descriptor has it
abbrev pub removal_checked : Kind → Bool → Bool → Checked (Unit {0})
removal_checked kind is_directory held = do
  guard (is_kind kind is_directory) (other_kind kind)
  guard (not held) BUSY

-- what a path finds, where that holds
abbrev pub removable : Kind → World → List ℕ → ℕ → ℕ → ℕ → ℕ → Checked ℕ
removable kind w memory fd rights path len = do
  serial ← found_at w memory fd rights path len
  removal_checked kind (directory_at w.tree serial) (held_open w serial)
  Ok serial

-- the tree without it
abbrev pub taken_out : Kind → Tree → ℕ → Result Tree Errno
taken_out nodes.Directory T serial = directory_removed T serial
taken_out nodes.File T serial = Ok (unlinked T serial)

-- the rows of `path_remove_directory` and `path_unlink_file`
abbrev pub remove : Kind → World → List ℕ → ℕ → ℕ → ℕ → ℕ → Checked Done
remove kind w memory fd rights path len = do
  serial ← removable kind w memory fd rights path len
  T ← tree_call w (taken_out kind w.tree serial)
  Ok (only_world (record w { tree = T }))
