-- What the traits `Places`, `Device`, `Read` and `Write` let contracts say of the files that a command names and of the
-- streams that it was given, in one record. A definition takes it as `on`, and a clause makes it of the traits' ghost
-- members: `around P.Places P.Input.Read P.Output.Write P.Volume.Device R.Read W1.Write W2.Write
-- (flushing P.Output.flushed P.Output.refuses W1.flushed W1.refuses W2.flushed W2.refuses)
-- (calling P.Input.gave P.Input.refused P.Output.took P.Output.refused R.gave R.refused W1.took W1.refused W2.took W2.refused)`.
use Rattle.std.specs.Prelude.{ℕ, List, length}
use Rattle.std.specs.declared.io.Read.{Ghosts as Reader}
use Rattle.std.specs.declared.io.Write.{Ghosts as Writer}
use Rattle.vol_sector.specs.declared.device.Device.{Ghosts as Known}
use Rattle.vol_sector.specs.Past.{LeavesPast}
use Rattle.wasi_bodies.specs.host.Worlds.{Hearing, StreamCalls, hearing}
use Rattle.sandbox_device.specs.declared.ram_device.RamDevice.{RamDevice}
use Rattle.sandbox_places.specs.declared.places.Places.{Ghosts}
use Rattle.sandbox_telling.specs.declared.streams.Streams.{Streams}
use Rattle.sandbox_command.specs.Beginning.{memory_disk}
use Rattle.sandbox_telling.specs.Streams.{AppendsSome}
pub use Rattle.sandbox_runs.specs.StreamCalling.{calls_of}

-- what is known of how outputs answer that are flushed: the files of `Places`, and those that were given
pub record Flushes (O W1 W2 : Type 0) : Type 1 where
  pub file_flushed : O → O → Type 0
  pub file_refuses : O → O → Type 0
  pub out_flushed : W1 → W1 → Type 0
  pub out_refuses : W1 → W1 → Type 0
  pub err_flushed : W2 → W2 → Type 0
  pub err_refuses : W2 → W2 → Type 0

abbrev pub flushing : {O W1 W2 : Type 0} → (O → O → Type 0) → (O → O → Type 0) → (W1 → W1 → Type 0) → (W1 → W1 → Type 0) → (W2 → W2 → Type 0) → (W2 → W2 → Type 0) → Flushes O W1 W2
flushing file_flushed file_refuses out_flushed out_refuses err_flushed err_refuses = record {
  file_flushed = file_flushed;
  file_refuses = file_refuses;
  out_flushed = out_flushed;
  out_refuses = out_refuses;
  err_flushed = err_flushed;
  err_refuses = err_refuses;
}

-- what is known of the calls on files that are read or written, and on the streams that were given
pub record Calling (I O R W1 W2 : Type 0) : Type 1 where
  pub reads : StreamCalls I
  pub writes : StreamCalls O
  pub given : Hearing R W1 W2

abbrev pub calling : {I O R W1 W2 : Type 0} → (I → List ℕ → I → Type 0) → (I → I → Type 0) → (O → List ℕ → O → Type 0) → (O → O → Type 0)
    → (R → List ℕ → R → Type 0) → (R → R → Type 0) → (W1 → List ℕ → W1 → Type 0) → (W1 → W1 → Type 0) → (W2 → List ℕ → W2 → Type 0) → (W2 → W2 → Type 0)
    → Calling I O R W1 W2
calling gave refused took file_refused given_gave given_refused out_took out_refused err_took err_refused = record {
  reads = calls_of gave refused;
  writes = calls_of took file_refused;
  given = hearing given_gave given_refused out_took out_refused err_took err_refused;
}

pub record Around (P I O V R W1 W2 : Type 0) : Type 1 where
  pub places : Ghosts P I O V
  pub read : Reader I
  pub written : Writer O
  pub volume : Known V
  pub input : Reader R
  pub out : Writer W1
  pub err : Writer W2
  pub flushes : Flushes O W1 W2
  pub calls : Calling I O R W1 W2

-- what is known of a device in memory
abbrev pub in_memory : Known RamDevice
in_memory = record { honest = λ d. Unit {0}; disk = memory_disk; size = λ d. length d.sectors; failures = λ d. 0; goes_on = λ end first later. LeavesPast end (memory_disk first) (memory_disk later) }

module _ {P I O V R W1 W2 : Type 0} where
  abbrev pub around : Ghosts P I O V → Reader I → Writer O → Known V → Reader R → Writer W1 → Writer W2 → Flushes O W1 W2 → Calling I O R W1 W2 → Around P I O V R W1 W2
  around places read written volume input out err flushes calls =
      record { places = places; read = read; written = written; volume = volume; input = input; out = out; err = err; flushes = flushes; calls = calls }

  -- The streams that were given are given up: nothing was read of them or printed on the output, and on the side of errors
  -- some lines of the program's own follow.
  abbrev pub EndsGiven : Around P I O V R W1 W2 → Streams R W1 W2 → P → P → Type 0
  EndsGiven on given p q = (err : W2) × AppendsSome (on.err.contents given.err) (on.err.contents err) × on.places.ended (record given { err = err }) p q
