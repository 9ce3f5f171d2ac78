-- Which failures of a task, or of formatting, are the device's (`docs/VOLUME.md`, "The device"). Their contracts count
-- one failed operation where `blames_device` is true, and none where it is false.
use Rattle.std.specs.Prelude.{◌≡◌, Bool, Result, Ok, Err, OnOk, true, false}
use Rattle.stream_answers.specs.Hearing.{Hears}
use Rattle.vol_sector.specs.Fault.{is_device}
use Rattle.vol_tree.specs.Clauses.{is_io}
use Rattle.vol_commands.specs.declared.failure.Failure.{Failure}
use Rattle.vol_commands.specs.declared.failure.Failure.TheVariants as failure

-- fault 33, and errno 29 of a call on the tree
abbrev pub blames_device : Result (Unit {0}) Failure → Bool
blames_device (Ok x) = false
blames_device (Err (failure.Volume fault)) = is_device fault
blames_device (Err (failure.Tree e)) = is_io {X = Unit {0}} (Err e)
blames_device (Err failure.Stream) = false

-- fault 41 is the failure of the input or of the output
abbrev pub is_stream : Failure → Bool
is_stream (failure.Volume fault) = false
is_stream (failure.Tree e) = false
is_stream failure.Stream = true

abbrev pub blames_stream : Result (Unit {0}) Failure → Bool
blames_stream (Ok x) = false
blames_stream (Err reason) = is_stream reason

-- Where fault 41 comes the stream was refused, and where a task succeeds it wasn't. (Behind a refusal of the input the device may
-- fail as well, while a new file is taken away again.)
pub record IsCause {S : Type 0} (went refused : S → S → Type 0) (result : Result (Unit {0}) Failure) (before after : S) : Type 0 where
  pub failed : Bool
  pub heard : Hears went refused failed before after
  pub blamed : blames_stream result ≡ true → failed ≡ true
  pub worked : OnOk result (failed ≡ false)
