-- How the list of a directory is told, one `dirent` after another. `Lists` is the invariant of that loop: the buffer
-- has a first part of the list after the cookie, as far as there is room.
use Rattle.std.specs.Prelude.{◌≡◌, ◌≤◌, ◌^◌, ℕ, List, [], ◌∷◌, ◌++◌, length, take, drop, min, Option, Some, None, Ok}
use Rattle.byteorder.specs.Endian.{little_bytes}
use Rattle.vol_sector.specs.Disk.{Disk}
use Rattle.vol_tree.specs.Tree.{Tree}
use Rattle.vol_tree.specs.Opened.{Opened}
use Rattle.vol_tree.specs.declared.stat.Stat.{Stat}
use Rattle.wasi_fd.specs.declared.descriptor.Opened.{Opened as OpenedEntry}
use Rattle.wasi_bodies.specs.World.{World}
use Rattle.wasi_bodies.specs.Checks.{Checked, ◌>>=◌, ◌>>◌, entry_at, only_directories, range}
use Rattle.wasi_bodies.specs.files.Rows.{dirents}
use Rattle.wasi_bodies.specs.Calls.{word, long}
use Rattle.wasi_bodies.specs.declared.files.listing.ListCall.{ListCall}
use Rattle.wasi_bodies.specs.declared.files.listing.ToldEntry.{ToldEntry}
use Rattle.wasi_bodies.specs.internal.Entries.{type_of_entry}
use Rattle.wasi_bodies.specs.internal.paths.Walks.{StillWorks}

-- the arguments of the call
abbrev pub list_call : List ℕ → ListCall
list_call args = record {
  fd = word args 0;
  buffer = word args 1;
  len = word args 2;
  cookie = long args 3;
  used_at = word args 4;
}

-- the checks of the call before the volume is asked
abbrev pub listable : World → List ℕ → ListCall → Checked OpenedEntry
listable w memory a = do
  o ← entry_at w a.fd only_directories (2 ^ 14)
  range memory a.buffer a.len
  range memory a.used_at 4
  Ok o

-- a `dirent` before its name: next cookie, ino, length of the name, type
abbrev pub header : ℕ → ℕ → ℕ → List ℕ
header serial name_length type = little_bytes 8 serial ++ little_bytes 8 serial ++ little_bytes 4 name_length ++ (type ∷ 0 ∷ 0 ∷ 0 ∷ [])

-- the `dirent` of an entry that is so
abbrev pub dirent_of : ℕ → Stat → List ℕ
dirent_of serial s = header serial s.name_length (type_of_entry s.kind) ++ take s.name_length s.name

abbrev pub told_bytes : ToldEntry → List ℕ
told_bytes t = take t.len t.bytes

-- the entry that is told next, or the list's end
abbrev pub TellsNext : Tree → ℕ → ℕ → Option ToldEntry → Type 0
TellsNext T directory after None = dirents T directory after ≡ []
TellsNext T directory after (Some t) = dirents T directory after ≡ told_bytes t ++ dirents T directory t.serial

-- The list was told up to an entry, and stands in a part as far as there is room; after it is what stood there before.
pub record HasTold (T : Tree) (directory cookie after filled : ℕ) (before part : List ℕ) : Type 0 where
  pub told : List ℕ
  pub parts : dirents T directory cookie ≡ told ++ dirents T directory after
  pub count : filled ≡ min (length before) (length told)
  pub stands : part ≡ take filled told ++ drop filled before

-- so far, by a volume that still works
pub record Lists {D : Type 0} (honest : D → Type 0) (disk : D → Disk) (sectors_on failures : D → ℕ) (goes_on : ℕ → D → D → Type 0) (old new : Opened D) (directory cookie after filled : ℕ) (before part : List ℕ) : Type 0 where
  pub works : StillWorks honest disk sectors_on failures goes_on old new
  pub long : length part ≡ length before
  pub room : filled ≤ length before
  pub told : honest old.device → HasTold old.tree directory cookie after filled before part
