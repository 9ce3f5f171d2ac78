-- What the calls of a guest work on: its tree, descriptors, streams and supplies (WASI preview 1; `docs/DECISIONS.md`,
-- "WASI calls"). A row takes a world and gives the next one, or refuses; a mark of failure is set by the failing cases
-- of `Calls`, and by no row.
use Rattle.std.specs.Prelude.{ℕ, zero, suc, min, max, Bool, true, false, ◌||◌, ◌==◌, List, [], ◌++◌, drop, get_or, Option, Some, None, is_some, if◌then◌else◌}
use Rattle.std.specs.Option.{is_none}
use Rattle.vol_tree.specs.Tree.{Tree}
use Rattle.vol_tree.specs.Space.{Geometry}
use Rattle.wasi_fd.specs.declared.descriptor.Stream.{Stream as StreamValue}
use Rattle.wasi_fd.specs.declared.descriptor.Stream.TheVariants.{Input, Output, Error}
use Rattle.wasi_fd.specs.declared.descriptor.Descriptor.{Descriptor}
use Rattle.wasi_fd.specs.declared.descriptor.Descriptor.TheVariants.{Stream, Entry}
use Rattle.wasi_fd.specs.declared.descriptor.Opened.{Opened}
use Rattle.wasi_fd.specs.Table.{Table, with_at}
use Rattle.wasi_bodies.specs.declared.streams.Terminals.{Terminals}
use Rattle.wasi_bodies.specs.supplies.Random.{Supply}
use Rattle.wasi_fd.specs.declared.table.TheConstants.{PLACES}

-- what a guest is handed: its texts, and the moment in nanoseconds since 1970-01-01 00:00:00 UTC
pub record Given : Type 0 where
  pub args : List (List ℕ)
  pub env : List (List ℕ)
  pub moment : ℕ

-- Input and random are what is not taken yet, output and errors the bytes that were written. A run is interactive where it is
-- known of it which streams are terminals: then each read of the input gives what it finds, and `pieces` are how many bytes the
-- next reads find. Marks say that the input has ended, and that the volume or a stream has failed.
pub record World : Type 0 where
  pub volume : Geometry
  pub tree : Tree
  pub table : Table
  pub input : List ℕ
  pub pieces : List ℕ
  pub input_ended : Bool
  pub output : List ℕ
  pub errors : List ℕ
  pub random : Supply
  pub given : Given
  pub interactive : Option Terminals
  pub volume_failed : Bool
  pub input_failed : Bool
  pub output_failed : Bool
  pub errors_failed : Bool

-- ---- descriptors

-- the same world with another descriptor, or none, at one number
abbrev pub with_descriptor : ℕ → Option Descriptor → World → World
with_descriptor fd d w = record w { table = with_at fd d w.table }

-- the least number from n on that stands for nothing, among this many
abbrev pub least_closed : ℕ → ℕ → Table → Option ℕ
least_closed zero n table = None
least_closed (suc count) n table = if is_none (table n) then Some n else least_closed count (suc n) table

-- the descriptor is one of the entry with this serial
abbrev pub is_of : ℕ → Option Descriptor → Bool
is_of serial None = false
is_of serial (Some (Stream s)) = false
is_of serial (Some (Entry o)) = o.serial == serial

-- some number below this one stands for the entry
abbrev pub holds_below : ℕ → ℕ → Table → Bool
holds_below zero serial table = false
holds_below (suc n) serial table = is_of serial (table n) || holds_below n serial table

-- some descriptor has the entry
abbrev pub held_open : World → ℕ → Bool
held_open w serial = holds_below PLACES serial w.table

-- the same descriptor at another position
abbrev pub moved_to : Opened → ℕ → Option Descriptor
moved_to o position = Some (Entry (record o { position = position }))

-- ---- streams

-- the stream is a terminal
abbrev pub is_terminal : Terminals → StreamValue → Bool
is_terminal t Input = t.input
is_terminal t Output = t.output
is_terminal t Error = t.error

-- the bytes that the input still gives: none after its end
abbrev pub unread : World → List ℕ
unread w = if w.input_ended then [] else w.input

-- a read of the input gives what it finds
abbrev pub reads_short : World → Bool
reads_short w = is_some w.interactive

-- How many bytes a read of the input takes at most, of these asked for: all, or as many as it finds, which is one at least.
abbrev pub most_read : Bool → List ℕ → ℕ → ℕ
most_read short pieces len = if short then min len (max 1 (get_or pieces 0 0)) else len

-- how many it takes at least where the input goes on: all, or one
abbrev pub least_read : Bool → ℕ → ℕ
least_read short len = if short then min len 1 else len

-- what the reads after it find
abbrev pub pieces_after : Bool → List ℕ → List ℕ
pieces_after short pieces = if short then drop 1 pieces else pieces

-- a read of the stream, or a write, has failed
abbrev pub has_stream_failed : World → StreamValue → Bool
has_stream_failed w Input = w.input_failed
has_stream_failed w Output = w.output_failed
has_stream_failed w Error = w.errors_failed

-- the world in which these bytes were written to an output, too
abbrev pub with_output : World → StreamValue → List ℕ → World
with_output w Input bytes = w
with_output w Output bytes = record w { output = w.output ++ bytes }
with_output w Error bytes = record w { errors = w.errors ++ bytes }

-- ---- marks

-- the same world, whose volume has failed
abbrev pub with_volume_failed : World → World
with_volume_failed w = record w { volume_failed = true }

-- the same world, in which this stream has failed
abbrev pub with_stream_failed : StreamValue → World → World
with_stream_failed Input w = record w { input_failed = true }
with_stream_failed Output w = record w { output_failed = true }
with_stream_failed Error w = record w { errors_failed = true }
