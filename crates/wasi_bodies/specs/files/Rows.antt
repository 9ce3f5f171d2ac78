-- Bytes of files and streams, and lists of directories (`fd_read`, `fd_pread`, `fd_write`, `fd_pwrite`,
-- `fd_filestat_set_size`, `fd_sync`, `fd_datasync`, `fd_readdir` of WASI preview 1; `docs/DECISIONS.md`, "WASI calls").
-- A write to a file is one call of the tree and takes at most `PIECE` bytes, while one to a stream takes all or fails.
use Rattle.std.specs.Prelude.{ℕ, ◌+◌, not, ◌==◌, ◌&&◌, ◌||◌, nat_lt, List, [], ◌∷◌, ◌++◌, length, take, drop, Ok, Err, if◌then◌else◌, min}
use Rattle.std.specs.Option.{option_map_or}
use Rattle.std.specs.List.{flat_map, enumerate_from}
use Rattle.byteorder.specs.Endian.{little_bytes}
use Rattle.vol_tree.specs.Tree.{Tree, Node, Directory, File, Entry as TreeEntry}
use Rattle.vol_tree.specs.Calls.{bytes_at, written, resized, read_bytes}
use Rattle.vol_body.specs.declared.writing.TheConstants.{PIECE}
use Rattle.wasi_fd.specs.declared.descriptor.Descriptor.{Descriptor}
use Rattle.wasi_fd.specs.declared.descriptor.Descriptor.TheVariants.{Stream, Entry}
use Rattle.wasi_fd.specs.declared.descriptor.Opened.{Opened}
use Rattle.wasi_bodies.specs.World.{World, with_descriptor, moved_to, unread, reads_short, most_read, least_read, pieces_after, has_stream_failed, with_output}
use Rattle.wasi_bodies.specs.Checks.{Checked, ◌>>=◌, ◌>>◌, guard, descriptor, entry_at, no_directories, only_directories, only_files, sized, no_streams, range, buffers, total, gathered, scattered, tree_call, Done, only_world, with_result}
use Rattle.wasi_bodies.specs.Errnos.{BADF, IO}
use Rattle.wasi_fd.specs.Rights.{FD_FILESTAT_SET_SIZE, FD_READ, FD_READDIR, FD_SEEK, FD_WRITE}

-- ---- reading

-- The input gives as many bytes as are asked for, and ends where it gives fewer. In an interactive run it gives as many of them as
-- it finds, and ends where that is none.
abbrev pub read_from : World → ℕ → Descriptor → ℕ → Checked (World × List ℕ)
read_from w fd (Stream s) len = do
  guard (not (has_stream_failed w s)) IO
  let bytes = take (most_read (reads_short w) w.pieces len) (unread w)
  Ok (
    record w {
      input = drop (length bytes) w.input;
      pieces = pieces_after (reads_short w) w.pieces;
      input_ended = w.input_ended || nat_lt (length bytes) (least_read (reads_short w) len);
    },
    bytes,
  )
read_from w fd (Entry o) len = do
  bytes ← tree_call w (Ok (read_bytes w.tree o.serial o.position len))
  Ok (with_descriptor fd (moved_to o (o.position + length bytes)) w, bytes)

-- fd_read(fd, iovs, count, result)
abbrev pub fd_read : World → List ℕ → ℕ → ℕ → ℕ → ℕ → Checked Done
fd_read w memory fd iovs count result = do
  d ← descriptor w fd no_directories FD_READ
  bs ← buffers memory iovs count
  range memory result 4
  r ← read_from w fd d (total bs)
  Ok (record { world = r.0; fills = scattered r.1 bs; results = (result, little_bytes 4 (length r.1)) ∷ [] })

-- fd_pread(fd, iovs, count, offset, result)
abbrev pub fd_pread : World → List ℕ → ℕ → ℕ → ℕ → ℕ → ℕ → Checked Done
fd_pread w memory fd iovs count offset result = do
  o ← entry_at w fd only_files (FD_READ + FD_SEEK)
  bs ← buffers memory iovs count
  range memory result 4
  bytes ← tree_call w (Ok (read_bytes w.tree o.serial offset (total bs)))
  Ok (record { world = w; fills = scattered bytes bs; results = (result, little_bytes 4 (length bytes)) ∷ [] })

-- ---- writing

-- all of the bytes to a stream
abbrev pub stream_write : World → Descriptor → List ℕ → Checked (World × ℕ)
stream_write w (Entry o) bytes = Err BADF
stream_write w (Stream s) bytes = do
  guard (not (has_stream_failed w s)) IO
  Ok (with_output w s bytes, length bytes)

-- at most `PIECE` bytes to a file; none change nothing
abbrev pub file_write : World → Opened → ℕ → List ℕ → Checked (World × ℕ)
file_write w o at bytes = do
  T ← tree_call w (written w.volume w.tree o.serial at (take PIECE bytes))
  Ok (record w { tree = T }, length (take PIECE bytes))

-- at the position, or with append at the size; the position moves after the bytes
abbrev pub write_to : World → ℕ → Descriptor → List ℕ → Checked (World × ℕ)
write_to w fd (Stream s) bytes = stream_write w (Stream s) bytes
write_to w fd (Entry o) bytes =
    let at = if o.append then length (bytes_at w.tree o.serial) else o.position in do
      r ← file_write w o at bytes
      Ok (if r.1 == 0 then r.0 else with_descriptor fd (moved_to o (at + r.1)) r.0, r.1)

-- fd_write(fd, iovs, count, result)
abbrev pub fd_write : World → List ℕ → ℕ → ℕ → ℕ → ℕ → Checked Done
fd_write w memory fd iovs count result = do
  d ← descriptor w fd no_directories FD_WRITE
  bs ← buffers memory iovs count
  range memory result 4
  r ← write_to w fd d (gathered memory bs)
  Ok (with_result r.0 result (little_bytes 4 r.1))

-- fd_pwrite(fd, iovs, count, offset, result): at the offset, also with append
abbrev pub fd_pwrite : World → List ℕ → ℕ → ℕ → ℕ → ℕ → ℕ → Checked Done
fd_pwrite w memory fd iovs count offset result = do
  o ← entry_at w fd only_files (FD_WRITE + FD_SEEK)
  bs ← buffers memory iovs count
  range memory result 4
  r ← file_write w o offset (gathered memory bs)
  Ok (with_result r.0 result (little_bytes 4 r.1))

-- fd_filestat_set_size(fd, size)
abbrev pub fd_filestat_set_size : World → ℕ → ℕ → Checked Done
fd_filestat_set_size w fd size = do
  o ← entry_at w fd sized FD_FILESTAT_SET_SIZE
  T ← tree_call w (resized w.volume w.tree o.serial size)
  Ok (only_world (record w { tree = T }))

-- fd_sync(fd), fd_datasync(fd): the whole volume
abbrev pub fd_sync : World → ℕ → ℕ → Checked Done
fd_sync w fd right = do
  o ← entry_at w fd no_streams right
  tree_call w (Ok tt)
  Ok (only_world w)

-- ---- lists of directories

-- `filetype`
abbrev pub type_of_node : Node → ℕ
type_of_node Directory = 3
type_of_node (File bytes) = 4

-- `dirent`: next cookie, ino, length of the name, type; then the name
abbrev pub dirent : ℕ → TreeEntry → List ℕ
dirent serial e = little_bytes 8 serial ++ little_bytes 8 serial ++ little_bytes 4 (length e.name)
    ++ (type_of_node e.node ∷ 0 ∷ 0 ∷ 0 ∷ []) ++ e.name

-- the entries of a directory with a serial over the cookie, in rising order
abbrev pub dirents : Tree → ℕ → ℕ → List ℕ
dirents T directory cookie = flat_map (λ s. option_map_or (λ (e : TreeEntry). if nat_lt cookie s.0 && (e.parent == directory) then dirent s.0 e else []) s.1 []) (enumerate_from 1 T)

-- fd_readdir(fd, buffer, length, cookie, used)
abbrev pub fd_readdir : World → List ℕ → ℕ → ℕ → ℕ → ℕ → ℕ → Checked Done
fd_readdir w memory fd buffer len cookie used = do
  o ← entry_at w fd only_directories FD_READDIR
  range memory buffer len
  range memory used 4
  all ← tree_call w (Ok (dirents w.tree o.serial cookie))
  Ok (record { world = w; fills = (buffer, take len all) ∷ []; results = (used, little_bytes 4 (min len (length all))) ∷ [] })
