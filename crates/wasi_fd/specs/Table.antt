-- The map from numbers to descriptors (`fd` of WASI preview 1), each a stream or an open entry with its rights.
-- Contracts see `Descriptors` as this function (`table_of`); a call that changes it does so at one number (`with_at`).
use Rattle.std.specs.Prelude.{◌≡◌, ◌==◌, ◌+◌, ℕ, Option, Some, None, slice_index_or, if◌then◌else◌}
use Rattle.wasi_fd.specs.Rights.{bits_of, FD_READ, FD_WRITE, FD_FILESTAT_GET}
use Rattle.wasi_fd.specs.declared.descriptor.Stream.{Stream as StreamValue}
use Rattle.wasi_fd.specs.declared.descriptor.Stream.TheVariants.{Input, Output, Error}
use Rattle.wasi_fd.specs.declared.descriptor.Descriptor.{Descriptor}
use Rattle.wasi_fd.specs.declared.descriptor.Descriptor.TheVariants.{Stream, Entry}
use Rattle.wasi_fd.specs.declared.table.Descriptors.{Descriptors}

-- what each number stands for
abbrev pub Table : Type 0
Table = ℕ → Option Descriptor

-- the table that the places give; only numbers of places are open
abbrev pub table_of : Descriptors → Table
table_of d n = slice_index_or d.places.items n None

-- the streams of a new guest
abbrev pub streams : Table
streams n = if n == 0 then Some (Stream Input) else (if n == 1 then Some (Stream Output) else (if n == 2 then Some (Stream Error) else None))

-- the table in which one number stands for this
abbrev pub with_at : ℕ → Option Descriptor → Table → Table
with_at n place table k = if k == n then place else table k

-- the descriptor is one of the entry with this serial
abbrev pub IsOf : ℕ → Option Descriptor → Type 0
IsOf serial None = ⊥
IsOf serial (Some (Stream s)) = ⊥
IsOf serial (Some (Entry e)) = e.serial ≡ serial

-- what a stream can be asked for
abbrev pub base_of_stream : StreamValue → ℕ
base_of_stream Input = FD_READ + FD_FILESTAT_GET
base_of_stream Output = FD_WRITE + FD_FILESTAT_GET
base_of_stream Error = FD_WRITE + FD_FILESTAT_GET

-- what a descriptor itself allows
abbrev pub base_of : Descriptor → ℕ
base_of (Stream s) = base_of_stream s
base_of (Entry e) = bits_of e.base

-- what it allows those that are opened through it
abbrev pub inheriting_of : Descriptor → ℕ
inheriting_of (Stream s) = 0
inheriting_of (Entry e) = bits_of e.inheriting
