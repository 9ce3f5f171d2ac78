-- What `Dirs` keeps in memory of each entry beside its name: its directory, and whether it is one itself
-- (`docs/VOLUME.md`, "Entry"). A walk needs no more of an entry, so it reads no sector.
use Rattle.std.specs.Prelude.{◌≡◌, ◌-◌, ◌≤◌, ◌==◌, ℕ, Bool, true, false, if◌then◌else◌, slice_index_or}
use Rattle.vol_inode.specs.declared.entry.Entry.{Entry}
use Rattle.vol_inode.specs.declared.entry.Kind.{Kind}
use Rattle.vol_inode.specs.declared.entry.Kind.TheVariants.{Directory, File}
use Rattle.vol_dirs.specs.declared.dirs.Dirs.{Dirs}
use Rattle.vol_dirs.specs.declared.seat.Seat.{Seat}

abbrev pub is_directory : Kind → Bool
is_directory Directory = true
is_directory File = false

abbrev pub seat_of : Entry → Seat
seat_of e = record { parent = e.parent; directory = is_directory e.kind }

-- the seat of no entry
abbrev pub no_seat : Seat
no_seat = record { parent = 0; directory = false }

-- what is kept for a serial, which counts from 1
abbrev pub seat_at : Dirs → ℕ → Seat
seat_at dirs serial = slice_index_or dirs.seats.items (serial - 1) no_seat

-- this entry's seat is kept for the serial, and each other one is as it was
abbrev pub TakesSeat : Dirs → Dirs → ℕ → Entry → Type 0
TakesSeat old new serial e = (s : ℕ) → 1 ≤ s → seat_at new s ≡ (if s == serial then seat_of e else seat_at old s)

-- the seats are as they were
abbrev pub KeepSeats : Dirs → Dirs → Type 0
KeepSeats old new = (s : ℕ) → 1 ≤ s → seat_at new s ≡ seat_at old s
