-- Descriptors: closing them, what they are and where they stand (`fd_close`, `fd_fdstat_get`, `fd_filestat_get`,
-- `fd_prestat_*`, `fd_seek`, `fd_tell` of WASI preview 1; `docs/DECISIONS.md`, "WASI calls"). `fd_seek` reads its
-- distance as a signed number of 64 bits, and refuses a place below 0 or past `last_position`.
use Rattle.std.specs.Prelude.{ℕ, ◌+◌, ◌-◌, ◌^◌, ◌==◌, ◌&&◌, ◌||◌, nat_le, nat_lt, List, [], ◌∷◌, ◌++◌, length, replicate, Option, Some, None, Ok, if◌then◌else◌}
use Rattle.std.specs.Option.{option_map_or, ok_or}
use Rattle.byteorder.specs.Endian.{little_bytes}
use denote.Ref.{Bor}
use Rattle.vol_tree.specs.Tree.{Tree, Node, Directory, File, Entry as TreeEntry, entry}
use Rattle.vol_tree.specs.Calls.{bytes_at}
use Rattle.wasi_fd.specs.declared.descriptor.Descriptor.{Descriptor}
use Rattle.wasi_fd.specs.declared.descriptor.Descriptor.TheVariants.{Stream, Entry}
use Rattle.wasi_fd.specs.declared.descriptor.EntryKind.{EntryKind}
use Rattle.wasi_fd.specs.declared.descriptor.Stream.{Stream as StreamValue}
use Rattle.wasi_fd.specs.declared.descriptor.EntryKind.TheVariants as kinds
use Rattle.wasi_fd.specs.declared.descriptor.Opened.{Opened}
use Rattle.wasi_fd.specs.Table.{base_of, inheriting_of}
use Rattle.wasi_bodies.specs.declared.streams.Terminals.{Terminals}
use Rattle.wasi_bodies.specs.World.{World, with_descriptor, moved_to, is_terminal}
use Rattle.wasi_bodies.specs.Checks.{Checked, ◌>>=◌, ◌>>◌, guard, get, of_kind, has, opened_entry, descriptor, any_kind, only_files, range, tree_call, Done, only_world, with_result}
use Rattle.wasi_bodies.specs.Errnos.{BADF, INVAL, NAMETOOLONG, NOTCAPABLE, OVERFLOW}
use Rattle.wasi_fd.specs.Rights.{FD_FILESTAT_GET, FD_SEEK, FD_TELL}

-- `filetype`
abbrev pub type_of_kind : EntryKind → ℕ
type_of_kind kinds.Directory = 3
type_of_kind kinds.File = 4

-- A stream is a character device. In an interactive run a terminal is one, and what any other stream is isn't known.
abbrev pub type_of_stream : Option Terminals → StreamValue → ℕ
type_of_stream None s = 2
type_of_stream (Some t) s = if is_terminal t s then 2 else 0

abbrev pub type_of : Option Terminals → Descriptor → ℕ
type_of interactive (Stream s) = type_of_stream interactive s
type_of interactive (Entry o) = type_of_kind o.kind

-- fd_close(fd)
abbrev pub fd_close : World → ℕ → Checked Done
fd_close w fd = do
  d ← get w fd
  Ok (only_world (with_descriptor fd None w))

abbrev pub flags_of : Descriptor → ℕ
flags_of (Stream s) = 0
flags_of (Entry o) = if o.append then 1 else 0

-- `fdstat`: type, flags, base, inheriting
abbrev pub fdstat : Option Terminals → Descriptor → List ℕ
fdstat interactive d = type_of interactive d ∷ 0 ∷ little_bytes 2 (flags_of d) ++ replicate 4 0 ++ little_bytes 8 (base_of d) ++ little_bytes 8 (inheriting_of d)

-- fd_fdstat_get(fd, result)
abbrev pub fd_fdstat_get : World → List ℕ → ℕ → ℕ → Checked Done
fd_fdstat_get w memory fd result = do
  d ← get w fd
  range memory result 24
  Ok (with_result w result (fdstat w.interactive d))

-- `filestat`: dev, ino, type, nlink, size, and three times
abbrev pub filestat : ℕ → ℕ → ℕ → List ℕ
filestat serial type size = replicate 8 0 ++ little_bytes 8 serial ++ (type ∷ replicate 7 0) ++ little_bytes 8 1 ++ little_bytes 8 size ++ replicate 24 0

abbrev pub node_stat : ℕ → Node → List ℕ
node_stat serial Directory = filestat serial 3 0
node_stat serial (File bytes) = filestat serial 4 (length bytes)

abbrev pub entry_stat : Tree → ℕ → List ℕ
entry_stat T serial = option_map_or (λ (e : TreeEntry). node_stat serial e.node) (entry T serial) []

abbrev pub stat_of : World → Descriptor → Checked (List ℕ)
stat_of w (Stream s) = Ok (filestat 0 (type_of_stream w.interactive s) 0)
stat_of w (Entry o) = tree_call w (Ok (entry_stat w.tree o.serial))

-- fd_filestat_get(fd, result)
abbrev pub fd_filestat_get : World → List ℕ → ℕ → ℕ → Checked Done
fd_filestat_get w memory fd result = do
  d ← descriptor w fd any_kind FD_FILESTAT_GET
  range memory result 64
  bytes ← stat_of w d
  Ok (with_result w result bytes)

-- the name that the guest knows a preopened directory by
abbrev pub guest_name : Descriptor → Option (List ℕ)
guest_name (Stream s) = None
guest_name (Entry o) = option_map_or (λ (name : Bor (List ℕ)). Some name.now) o.guest_name None

-- fd_prestat_get(fd, result)
abbrev pub fd_prestat_get : World → List ℕ → ℕ → ℕ → Checked Done
fd_prestat_get w memory fd result = do
  d ← get w fd
  name ← ok_or (guest_name d) BADF
  range memory result 8
  Ok (with_result w result (replicate 4 0 ++ little_bytes 4 (length name)))

-- fd_prestat_dir_name(fd, path, length)
abbrev pub fd_prestat_dir_name : World → List ℕ → ℕ → ℕ → ℕ → Checked Done
fd_prestat_dir_name w memory fd path len = do
  d ← get w fd
  name ← ok_or (guest_name d) BADF
  range memory path len
  guard (nat_le (length name) len) NAMETOOLONG
  Ok (with_result w path name)

-- ---- positions

abbrev pub last_position : ℕ
last_position = 2 ^ 63 - 1

-- the place a signed distance away, or None below 0
abbrev pub shifted : ℕ → ℕ → Option ℕ
shifted from delta = if nat_lt delta (2 ^ 63) then Some (from + delta)
    else (if nat_lt from (2 ^ 64 - delta) then None else Some (from - (2 ^ 64 - delta)))

-- whence: 0 the start, 1 the position, 2 the end
abbrev pub seek_from : World → Opened → ℕ → Checked ℕ
seek_from w o whence = if whence == 0 then Ok 0 else (if whence == 1 then Ok o.position
    else tree_call w (Ok (length (bytes_at w.tree o.serial))))

-- fd_seek(fd, delta, whence, result)
abbrev pub fd_seek : World → List ℕ → ℕ → ℕ → ℕ → ℕ → Checked Done
fd_seek w memory fd delta whence result = do
  d ← get w fd
  of_kind only_files d
  guard (has d FD_SEEK || ((delta == 0) && (whence == 1) && has d FD_TELL)) NOTCAPABLE
  guard (nat_le whence 2) INVAL
  range memory result 8
  o ← opened_entry d
  from ← seek_from w o whence
  at ← ok_or (shifted from delta) INVAL
  guard (nat_le at last_position) OVERFLOW
  Ok (with_result (with_descriptor fd (moved_to o at) w) result (little_bytes 8 at))

-- fd_tell(fd, result)
abbrev pub fd_tell : World → List ℕ → ℕ → ℕ → Checked Done
fd_tell w memory fd result = do
  d ← get w fd
  of_kind only_files d
  guard (has d FD_SEEK || has d FD_TELL) NOTCAPABLE
  range memory result 8
  o ← opened_entry d
  Ok (with_result w result (little_bytes 8 o.position))
