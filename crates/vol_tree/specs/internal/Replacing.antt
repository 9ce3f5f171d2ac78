-- Which entries may take the place of others, by the kinds of both and by whether something is in the other one.
-- `replacing` is the tests of `moved_onto` (in `Calls`) without the tree: `may_replace` answers by it once a rename has
-- read both entries.
use Rattle.std.specs.Prelude.{Bool, true, false, Result, Ok, Err}
use Rattle.vol_inode.specs.declared.entry.Kind.{Kind}
use Rattle.vol_inode.specs.declared.entry.Kind.TheVariants as kinds
use Rattle.vol_tree.specs.declared.errno.Errno.{Errno}
use Rattle.vol_tree.specs.declared.errno.Errno.TheVariants as errno

abbrev pub kind_is_directory : Kind → Bool
kind_is_directory kinds.Directory = true
kind_is_directory kinds.File = false

-- a directory that of an empty directory, a file that of a file
abbrev pub replacing : Kind → Kind → Bool → Result (Unit {0}) Errno
replacing kinds.Directory kinds.File is_full = Err errno.NotDirectory
replacing kinds.File kinds.Directory is_full = Err errno.IsDirectory
replacing kinds.Directory kinds.Directory true = Err errno.NotEmpty
replacing kinds.Directory kinds.Directory false = Ok tt
replacing kinds.File kinds.File is_full = Ok tt
