-- Calls on paths (`path_*` of WASI preview 1; `docs/DECISIONS.md`, "WASI calls"). Each row checks descriptors and
-- ranges of memory, walks each path, checks what was reached, and then makes its call of the tree, if it has one.
use Rattle.std.specs.Prelude.{ℕ, ◌+◌, Bool, not, ◌==◌, ◌&&◌, ◌||◌, nat_le, List, [], length, Some, None, Ok, Err, if◌then◌else◌, bit_and}
use Rattle.std.specs.Option.{ok_or}
use Rattle.byteorder.specs.Endian.{little_bytes}
use Rattle.wasm_store.specs.Bytes.{bytes_at}
use Rattle.vol_tree.specs.Tree.{Tree, Name, Directory, File, is_empty}
use Rattle.vol_tree.specs.Calls.{directory_at, parent_at, name_at, created, unlinked, directory_removed, renamed, resized, is_within}
use Rattle.path_walk.specs.Paths.{Reached, Found, Missing, wants_directory}
use Rattle.wasi_fd.specs.declared.descriptor.Descriptor.{Descriptor}
use Rattle.wasi_fd.specs.declared.descriptor.Descriptor.TheVariants.{Entry}
use Rattle.wasi_fd.specs.declared.descriptor.EntryKind.TheVariants as kinds
use Rattle.wasi_fd.specs.declared.descriptor.Opened.{Opened}
use Rattle.wasi_fd.specs.Rights.{bits_of, file_rights, directory_rights}
use Rattle.wasi_bodies.specs.World.{World, with_descriptor, least_closed, held_open}
use Rattle.wasi_bodies.specs.Checks.{Checked, ◌>>=◌, ◌>>◌, guard, get, of_kind, has, opened_entry, entry_at, only_directories, range, walk, tree_call, found, Done, only_world, with_result}
use Rattle.wasi_bodies.specs.descriptors.Rows.{entry_stat}
use Rattle.wasi_bodies.specs.Errnos.{BUSY, EXIST, INVAL, ISDIR, MFILE, NOENT, NOTCAPABLE, NOTDIR, NOTEMPTY, NOTSUP}
use Rattle.wasi_fd.specs.declared.table.TheConstants.{PLACES}
use Rattle.wasi_fd.specs.Rights.{PATH_CREATE_DIRECTORY, PATH_CREATE_FILE, PATH_OPEN, PATH_FILESTAT_SET_SIZE, PATH_FILESTAT_GET, PATH_REMOVE_DIRECTORY, PATH_RENAME_SOURCE, PATH_RENAME_TARGET, PATH_UNLINK_FILE}

-- what the path in these bytes of memory reaches from the descriptor's directory
abbrev pub path_at : World → List ℕ → Opened → ℕ → ℕ → Checked Reached
path_at w memory directory path len = walk w directory (bytes_at memory path len)

-- the directory and the name that is missing in it
abbrev pub missing : Reached → Checked (ℕ × Name)
missing (Found serial) = Err EXIST
missing (Missing parent name) = Ok (parent, name)

-- path_create_directory(fd, path, length)
abbrev pub path_create_directory : World → List ℕ → ℕ → ℕ → ℕ → Checked Done
path_create_directory w memory fd path len = do
  directory ← entry_at w fd only_directories PATH_CREATE_DIRECTORY
  range memory path len
  reached ← path_at w memory directory path len
  place ← missing reached
  made ← tree_call w (created w.tree place.0 place.1 Directory)
  Ok (only_world (record w { tree = made.0 }))

-- path_filestat_get(fd, flags, path, length, result)
abbrev pub path_filestat_get : World → List ℕ → ℕ → ℕ → ℕ → ℕ → Checked Done
path_filestat_get w memory fd path len result = do
  directory ← entry_at w fd only_directories PATH_FILESTAT_GET
  range memory path len
  range memory result 64
  reached ← path_at w memory directory path len
  serial ← found reached
  bytes ← tree_call w (Ok (entry_stat w.tree serial))
  Ok (with_result w result bytes)

-- path_remove_directory(fd, path, length)
abbrev pub path_remove_directory : World → List ℕ → ℕ → ℕ → ℕ → Checked Done
path_remove_directory w memory fd path len = do
  directory ← entry_at w fd only_directories PATH_REMOVE_DIRECTORY
  range memory path len
  reached ← path_at w memory directory path len
  serial ← found reached
  guard (directory_at w.tree serial) NOTDIR
  guard (not (held_open w serial)) BUSY
  T ← tree_call w (directory_removed w.tree serial)
  Ok (only_world (record w { tree = T }))

-- path_unlink_file(fd, path, length)
abbrev pub path_unlink_file : World → List ℕ → ℕ → ℕ → ℕ → Checked Done
path_unlink_file w memory fd path len = do
  directory ← entry_at w fd only_directories PATH_UNLINK_FILE
  range memory path len
  reached ← path_at w memory directory path len
  serial ← found reached
  guard (not (directory_at w.tree serial)) ISDIR
  guard (not (held_open w serial)) BUSY
  T ← tree_call w (Ok (unlinked w.tree serial))
  Ok (only_world (record w { tree = T }))

-- ---- path_open

-- the flag is set
abbrev pub is_set : ℕ → ℕ → Bool
is_set flags bit = bit_and flags bit == bit

-- `oflags`
abbrev pub creat : ℕ
creat = 1

abbrev pub directory_only : ℕ
directory_only = 2

abbrev pub excl : ℕ
excl = 4

abbrev pub trunc : ℕ
trunc = 8

-- the rights that the flags ask for
abbrev pub open_rights : ℕ → ℕ
open_rights oflags = PATH_OPEN + (if is_set oflags creat then PATH_CREATE_FILE else 0) + (if is_set oflags trunc then PATH_FILESTAT_SET_SIZE else 0)

-- the row's own checks on what was reached
abbrev pub open_checks : World → ℕ → Bool → Reached → Checked (Unit {0})
open_checks w oflags slash (Found serial) = do
  guard (not (is_set oflags creat && is_set oflags excl)) EXIST
  if directory_at w.tree serial
      then guard (not (is_set oflags creat || is_set oflags trunc)) ISDIR
      else guard (not (is_set oflags directory_only)) NOTDIR
open_checks w oflags slash (Missing parent name) = do
  guard (is_set oflags creat) NOENT
  guard (not slash) ISDIR

-- the tree and the entry that is opened in it
abbrev pub open_entry : World → ℕ → Reached → Checked (Tree × ℕ)
open_entry w oflags (Found serial) =
    if not (directory_at w.tree serial) && is_set oflags trunc
    then tree_call w (resized w.volume w.tree serial 0) >>= (λ T. Ok (T, serial))
    else Ok (w.tree, serial)
open_entry w oflags (Missing parent name) = tree_call w (created w.tree parent name (File []))

-- what is asked for, no more than the directory hands on
abbrev pub new_descriptor : Tree → Opened → ℕ → ℕ → ℕ → ℕ → Descriptor
new_descriptor T directory serial base inheriting fdflags =
    let is_directory = directory_at T serial in
    let kept = bit_and base (bits_of directory.inheriting) in
    Entry (record {
      serial = serial;
      kind = if is_directory then kinds.Directory else kinds.File;
      position = 0;
      append = is_set fdflags 1;
      base = record { 0 = bit_and kept (if is_directory then directory_rights else file_rights) };
      inheriting = record { 0 = if is_directory then bit_and inheriting (bits_of directory.inheriting) else 0 };
      guest_name = None;
    })

-- the least number that stands for nothing, or MFILE where there is none
abbrev pub new_number : World → Checked ℕ
new_number w = ok_or (least_closed PLACES 0 w.table) MFILE

-- path_open(fd, flags, path, length, oflags, base, inheriting, fdflags, result)
abbrev pub path_open : World → List ℕ → ℕ → ℕ → ℕ → ℕ → ℕ → ℕ → ℕ → ℕ → Checked Done
path_open w memory fd path len oflags base inheriting fdflags result = do
  directory ← entry_at w fd only_directories (open_rights oflags)
  guard (nat_le oflags 15 && nat_le fdflags 31) INVAL
  guard (not (is_set oflags directory_only && is_set oflags creat)) INVAL
  guard (bit_and fdflags (2 + 8 + 16) == 0) NOTSUP
  range memory path len
  range memory result 4
  reached ← path_at w memory directory path len
  open_checks w oflags (wants_directory (bytes_at memory path len)) reached
  number ← new_number w
  made ← open_entry w oflags reached
  Ok (with_result (with_descriptor number (Some (new_descriptor made.0 directory made.1 base inheriting fdflags)) (record w { tree = made.0 }))
      result (little_bytes 4 number))

-- ---- path_rename

-- the row's own checks on what was reached, and the call of the tree
abbrev pub rename_to : World → ℕ → Bool → Reached → Checked Tree
rename_to w source slash (Found target) =
    if target == source then Ok w.tree else do
      guard (not (directory_at w.tree source && is_within (length w.tree) w.tree source target)) INVAL
      guard (not (directory_at w.tree source && not (directory_at w.tree target))) NOTDIR
      guard (not (directory_at w.tree target && not (directory_at w.tree source))) ISDIR
      guard (not (held_open w target)) BUSY
      guard (not (directory_at w.tree target) || is_empty w.tree target) NOTEMPTY
      tree_call w (renamed w.tree source (parent_at w.tree target) (name_at w.tree target))
rename_to w source slash (Missing parent name) = do
  guard (not (directory_at w.tree source && is_within (length w.tree) w.tree source parent)) INVAL
  guard (not slash || directory_at w.tree source) NOTDIR
  tree_call w (renamed w.tree source parent name)

-- path_rename(fd, path, length, fd, path, length): each check on the first, then on the second
abbrev pub path_rename : World → List ℕ → ℕ → ℕ → ℕ → ℕ → ℕ → ℕ → Checked Done
path_rename w memory from_fd from_path from_len to_fd to_path to_len = do
  d ← get w from_fd
  e ← get w to_fd
  of_kind only_directories d
  of_kind only_directories e
  guard (has d PATH_RENAME_SOURCE) NOTCAPABLE
  guard (has e PATH_RENAME_TARGET) NOTCAPABLE
  range memory from_path from_len
  range memory to_path to_len
  from ← opened_entry d
  to ← opened_entry e
  moved ← path_at w memory from from_path from_len
  target ← path_at w memory to to_path to_len
  source ← found moved
  guard (not (source == from.serial)) BUSY
  T ← rename_to w source (wants_directory (bytes_at memory to_path to_len)) target
  Ok (only_world (record w { tree = T }))
