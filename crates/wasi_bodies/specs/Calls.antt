-- What each call means (`docs/DECISIONS.md`, "WASI calls"): `proc_exit` ends the guest, and any other call answers by
-- its row, or fails as the volume or a stream does. `row` gives each call its row over a `World`, and `Calls` at the
-- end is the relation by which runs of the machine over worlds are stated.
use Rattle.std.specs.Prelude.{◌≡◌, ◌≢◌, ◌⊎◌, ℕ, ◌+◌, ◌≤◌, ◌^◌, ◌%◌, Bool, true, false, ◌&&◌, nat_lt, Option, Some, None, List, [], length, take, drop, get_or, Ok, Err, MatchResult}
use Rattle.wasm_store.specs.declared.call.HostCall.{HostCall}
use Rattle.wasm_store.specs.declared.call.HostCall.TheVariants as call
use Rattle.wasm_store.specs.declared.call.Errno.{Errno}
use Rattle.wasm_store.specs.declared.call.Answer.TheVariants.{Value as value, Exit as exit}
use Rattle.wasm_steps.specs.Steps.{CallsOf}
use Rattle.wasi_fd.specs.declared.descriptor.Descriptor.{Descriptor}
use Rattle.wasi_fd.specs.declared.descriptor.Descriptor.TheVariants.{Stream, Entry}
use Rattle.wasi_fd.specs.declared.descriptor.Stream.{Stream as StreamValue}
use Rattle.wasi_fd.specs.declared.descriptor.Stream.TheVariants.{Input, Output, Error}
use Rattle.wasi_fd.specs.Table.{Table}
use Rattle.wasi_bodies.specs.World.{World, with_volume_failed, with_stream_failed}
use Rattle.wasi_bodies.specs.Checks.{Checked, Done, put}
use Rattle.wasi_bodies.specs.supplies.Rows.{sizes_get, texts_get, clock_res_get, clock_time_get, random_get}
use Rattle.wasi_bodies.specs.descriptors.Rows.{fd_close, fd_fdstat_get, fd_filestat_get, fd_prestat_get, fd_prestat_dir_name, fd_seek, fd_tell}
use Rattle.wasi_bodies.specs.files.Rows.{fd_read, fd_pread, fd_write, fd_pwrite, fd_filestat_set_size, fd_sync, fd_readdir}
use Rattle.wasi_bodies.specs.paths.Rows.{path_create_directory, path_filestat_get, path_open, path_remove_directory, path_rename, path_unlink_file}
use Rattle.wasi_bodies.specs.Errnos.{IO, NOSYS, SUCCESS}
use Rattle.wasi_fd.specs.Rights.{FD_SYNC, FD_DATASYNC}

-- an i32 argument, read modulo 2 ^ 32, and an i64 one; a missing one is 0
abbrev pub word : List ℕ → ℕ → ℕ
word args i = get_or args i 0 % 2 ^ 32

abbrev pub long : List ℕ → ℕ → ℕ
long args i = get_or args i 0

-- The call's row, at its arguments. That of proc_exit is never read: the call ends the guest and answers nothing (`Calls`, at
-- the end).
abbrev pub row : HostCall → World → List ℕ → ℕ → List ℕ → Checked Done
row call.ArgsSizesGet w m units a = sizes_get w.given.args w m (word a 0) (word a 1)
row call.ArgsGet w m units a = texts_get w.given.args w m (word a 0) (word a 1)
row call.EnvironSizesGet w m units a = sizes_get w.given.env w m (word a 0) (word a 1)
row call.EnvironGet w m units a = texts_get w.given.env w m (word a 0) (word a 1)
row call.ClockResGet w m units a = clock_res_get w m (word a 0) (word a 1)
row call.ClockTimeGet w m units a = clock_time_get w m units (word a 0) (word a 2)
row call.RandomGet w m units a = random_get w m (word a 0) (word a 1)
row call.ProcExit w m units a = Err NOSYS  -- never read
row call.FdClose w m units a = fd_close w (word a 0)
row call.FdFdstatGet w m units a = fd_fdstat_get w m (word a 0) (word a 1)
row call.FdFilestatGet w m units a = fd_filestat_get w m (word a 0) (word a 1)
row call.FdFilestatSetSize w m units a = fd_filestat_set_size w (word a 0) (long a 1)
row call.FdPrestatGet w m units a = fd_prestat_get w m (word a 0) (word a 1)
row call.FdPrestatDirName w m units a = fd_prestat_dir_name w m (word a 0) (word a 1) (word a 2)
row call.FdRead w m units a = fd_read w m (word a 0) (word a 1) (word a 2) (word a 3)
row call.FdPread w m units a = fd_pread w m (word a 0) (word a 1) (word a 2) (long a 3) (word a 4)
row call.FdWrite w m units a = fd_write w m (word a 0) (word a 1) (word a 2) (word a 3)
row call.FdPwrite w m units a = fd_pwrite w m (word a 0) (word a 1) (word a 2) (long a 3) (word a 4)
row call.FdSeek w m units a = fd_seek w m (word a 0) (long a 1) (word a 2) (word a 3)
row call.FdTell w m units a = fd_tell w m (word a 0) (word a 1)
row call.FdSync w m units a = fd_sync w (word a 0) FD_SYNC
row call.FdDatasync w m units a = fd_sync w (word a 0) FD_DATASYNC
row call.FdReaddir w m units a = fd_readdir w m (word a 0) (word a 1) (word a 2) (long a 3) (word a 4)
row call.PathCreateDirectory w m units a = path_create_directory w m (word a 0) (word a 1) (word a 2)
row call.PathFilestatGet w m units a = path_filestat_get w m (word a 0) (word a 2) (word a 3) (word a 4)
row call.PathOpen w m units a = path_open w m (word a 0) (word a 2) (word a 3) (word a 4) (long a 5) (long a 6) (word a 7) (word a 8)
row call.PathRemoveDirectory w m units a = path_remove_directory w m (word a 0) (word a 1) (word a 2)
row call.PathRename w m units a = path_rename w m (word a 0) (word a 1) (word a 2) (word a 3) (word a 4) (word a 5)
row call.PathUnlinkFile w m units a = path_unlink_file w m (word a 0) (word a 1) (word a 2)
row call.Nosys w m units a = Err NOSYS

-- a file or a directory is open
abbrev pub is_entry : Option Descriptor → Bool
is_entry None = false
is_entry (Some (Stream s)) = false
is_entry (Some (Entry o)) = true

-- Whether a call may reach the volume. One that reads, writes or asks what is open does so only by the descriptor of
-- an entry; a position is moved without it, unless it is counted from the end.
abbrev pub reaches_volume : HostCall → Table → List ℕ → Bool
reaches_volume call.ArgsSizesGet table a = false
reaches_volume call.ArgsGet table a = false
reaches_volume call.EnvironSizesGet table a = false
reaches_volume call.EnvironGet table a = false
reaches_volume call.ClockResGet table a = false
reaches_volume call.ClockTimeGet table a = false
reaches_volume call.RandomGet table a = false
reaches_volume call.ProcExit table a = false
reaches_volume call.FdClose table a = false
reaches_volume call.FdFdstatGet table a = false
reaches_volume call.FdPrestatGet table a = false
reaches_volume call.FdPrestatDirName table a = false
reaches_volume call.FdTell table a = false
reaches_volume call.Nosys table a = false
reaches_volume call.FdRead table a = is_entry (table (word a 0))
reaches_volume call.FdWrite table a = is_entry (table (word a 0))
reaches_volume call.FdFilestatGet table a = is_entry (table (word a 0))
reaches_volume call.FdSeek table a = is_entry (table (word a 0)) && nat_lt 1 (word a 2)
reaches_volume other table a = true

-- By its row: at 0 what it leaves, else nothing is changed.
abbrev pub Answers : Checked Done → World → List ℕ → World → List ℕ → ℕ → Type 0
Answers result w memory w' memory' errno = MatchResult result
    (λ done. (errno ≡ SUCCESS) × (w' ≡ done.world) × (memory' ≡ put (put memory done.fills) done.results))
    (λ e. (errno ≡ e) × (w' ≡ w) × (memory' ≡ memory))

-- ---- where a device or a stream fails in the call: the row says where it is reached

-- only the mark turns the answer into 29
pub record Reaches (unmarked marked : Checked Done) : Type 0 where
  pub refused : marked ≡ Err IO
  pub only_so : unmarked ≢ Err IO

-- memory with the bytes that the row fills in; the same where it refuses
abbrev pub filled : Checked Done → List ℕ → List ℕ
filled (Ok done) memory = put memory done.fills
filled (Err e) memory = memory

-- each byte is that of one or of the other
pub record IsMixed (a b mixed : List ℕ) : Type 0 where
  pub as_long : length mixed ≡ length a
  pub each : (i : ℕ) → (get_or mixed i 0 ≡ get_or a i 0) ⊎ (get_or mixed i 0 ≡ get_or b i 0)

-- The volume failed: 29, the mark, neither tree nor descriptors are changed, and each byte is the old one or the row's.
pub record VolumeFails (run : World → Checked Done) (w : World) (memory : List ℕ) (w' : World) (memory' : List ℕ) (errno : ℕ) : Type 0 where
  pub reaches : Reaches (run w) (run (with_volume_failed w))
  pub answer : errno ≡ IO
  pub after : w' ≡ with_volume_failed w
  pub bytes : IsMixed memory (filled (run w) memory) memory'

-- what the input still has after the row
abbrev pub input_left : Checked Done → World → List ℕ
input_left (Ok done) w = done.world.input
input_left (Err e) w = w.input

-- The reader failed after `count` bytes: they are read as if no more had come, and then it is marked. After its end it
-- isn't asked.
pub record InputFails (run : World → Checked Done) (w : World) (memory : List ℕ) (w' : World) (memory' : List ℕ) (errno : ℕ) : Type 0 where
  pub reaches : Reaches (run w) (run (with_stream_failed Input w))
  pub goes_on : w.input_ended ≡ false
  pub answer : errno ≡ IO
  pub count : ℕ
  pub no_more : count + length (input_left (run w) w) ≤ length w.input
  pub after : w' ≡ with_stream_failed Input (record w { input = drop count w.input })
  pub bytes : memory' ≡ filled (run (record w { input = take count w.input })) memory

-- what was written to an output
abbrev pub output_of : StreamValue → World → List ℕ
output_of Input w = []
output_of Output w = w.output
output_of Error w = w.errors

-- the world in which these are all the bytes that were written to an output
abbrev pub with_all : StreamValue → World → List ℕ → World
with_all Input w bytes = w
with_all Output w bytes = record w { output = bytes }
with_all Error w bytes = record w { errors = bytes }

-- what has been written to an output after the row
abbrev pub output_after : StreamValue → Checked Done → World → List ℕ
output_after s (Ok done) w = output_of s done.world
output_after s (Err e) w = output_of s w

-- A writer failed: it has a beginning of what the row writes there, and then it is marked.
pub record OutputFails (s : StreamValue) (run : World → Checked Done) (w : World) (memory : List ℕ) (w' : World) (memory' : List ℕ) (errno : ℕ) : Type 0 where
  pub reaches : Reaches (run w) (run (with_stream_failed s w))
  pub answer : errno ≡ IO
  pub count : ℕ
  pub at_least : length (output_of s w) ≤ count
  pub after : w' ≡ with_stream_failed s (with_all s w (take count (output_after s (run w) w)))
  pub bytes : memory' ≡ memory

-- what a call may answer and leave
pub data Answered (run : World → Checked Done) (w : World) (memory : List ℕ) (w' : World) (memory' : List ℕ) (errno : ℕ) : Type 0 where
  by_row : Answers (run w) w memory w' memory' errno → Answered run w memory w' memory' errno
  volume_fails : VolumeFails run w memory w' memory' errno → Answered run w memory w' memory' errno
  input_fails : InputFails run w memory w' memory' errno → Answered run w memory w' memory' errno
  output_fails : OutputFails Output run w memory w' memory' errno → Answered run w memory w' memory' errno
  errors_fail : OutputFails Error run w memory w' memory' errno → Answered run w memory w' memory' errno

-- proc_exit(code) ends; every other call answers by its row
abbrev pub Calls : CallsOf World
Calls w memory used call.ProcExit args w' memory' answer = (answer ≡ exit (word args 0)) × (w' ≡ w) × (memory' ≡ memory)
Calls w memory used other args w' memory' answer =
    (e : Errno) × (answer ≡ value e) × Answered (λ v. row other v memory used args) w memory w' memory' e.0
