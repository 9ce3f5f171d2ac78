-- Where a position is moved from, and to. `seekable` has the checks of `fd_seek` before it is asked where to move from,
-- and `sought` the rest; `TellsFrom` and `FailsFrom` are the two ways that asking for this place may end.
use Rattle.std.specs.Prelude.{◌≡◌, ◌≢◌, ℕ, ◌^◌, ◌==◌, ◌&&◌, ◌||◌, nat_le, true, false, List, Some, Ok, Err}
use Rattle.std.specs.Option.{ok_or}
use Rattle.byteorder.specs.Endian.{little_bytes}
use Rattle.vol_tree.specs.declared.errno.Errno.{Errno}
use Rattle.vol_tree.specs.declared.errno.Errno.TheVariants as errno
use Rattle.vol_tree.specs.Opened.{Opened}
use Rattle.wasi_fd.specs.declared.descriptor.Opened.{Opened as OpenedEntry}
use Rattle.wasi_fd.specs.declared.descriptor.Descriptor.TheVariants.{Entry}
use Rattle.wasi_fd.specs.Table.{Table}
use Rattle.wasi_bodies.specs.World.{World, with_volume_failed, with_descriptor, moved_to}
use Rattle.wasi_bodies.specs.Checks.{Checked, Done, ◌>>=◌, ◌>>◌, guard, get, of_kind, only_files, has, opened_entry, range, with_result}
use Rattle.wasi_bodies.specs.descriptors.Rows.{shifted, last_position, seek_from}
use Rattle.wasi_bodies.specs.internal.Entries.{with_volume}
use Rattle.wasi_bodies.specs.Errnos.{INVAL, IO, NOTCAPABLE, OVERFLOW}
use Rattle.wasi_fd.specs.Rights.{FD_SEEK, FD_TELL}

-- the checks of fd_seek before it is asked where to move from
abbrev pub seekable : World → List ℕ → ℕ → ℕ → ℕ → ℕ → Checked OpenedEntry
seekable w memory fd delta whence result = do
  d ← get w fd
  of_kind only_files d
  guard (has d FD_SEEK || ((delta == 0) && (whence == 1) && has d FD_TELL)) NOTCAPABLE
  guard (nat_le whence 2) INVAL
  range memory result 8
  opened_entry d

-- the place a signed distance away, where it is a position
abbrev pub position_at : ℕ → ℕ → Checked ℕ
position_at from delta = do
  at ← ok_or (shifted from delta) INVAL
  guard (nat_le at last_position) OVERFLOW
  Ok at

-- and its end from there on
abbrev pub sought : World → ℕ → ℕ → ℕ → ℕ → OpenedEntry → Checked Done
sought w fd delta whence result o = do
  from ← seek_from w o whence
  at ← position_at from delta
  Ok (with_result (with_descriptor fd (moved_to o at) w) result (little_bytes 8 at))

-- The place was told, and nothing has changed.
pub record TellsFrom {D : Type 0} (new : Opened D) (w : World) (o : OpenedEntry) (whence from : ℕ) : Type 0 where
  pub told : seek_from w o whence ≡ Ok from
  pub same : with_volume new w ≡ w

-- The volume has failed: only that keeps the place from being told.
pub record FailsFrom {D : Type 0} (old new : Opened D) (w : World) (o : OpenedEntry) (whence : ℕ) (e : Errno) : Type 0 where
  pub io : e ≡ errno.Io
  pub numbers : new.numbers ≡ old.numbers
  pub tree : new.tree ≡ old.tree
  pub failed : new.failed ≡ true
  pub gone : seek_from (with_volume_failed w) o whence ≡ Err IO
  pub never : w.volume_failed ≡ false → seek_from w o whence ≢ Err IO

-- a number stands for this entry, at whatever position
pub record IsOpenAs (table : Table) (fd : ℕ) (o : OpenedEntry) : Type 0 where
  pub open_as : OpenedEntry
  pub is : table fd ≡ Some (Entry open_as)
  pub moved : o ≡ record open_as { position = o.position }
