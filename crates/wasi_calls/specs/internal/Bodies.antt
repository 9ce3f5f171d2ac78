-- What the bodies of calls say, whatever their subject. `Serves` is the main clause: each method that answers a call
-- has it, and the contract of `WasiHost::call` is proved by it.
use Rattle.std.specs.Prelude.{◌≡◌, ◌≤◌, IsTrue, ℕ, true, List, Option, Some, vec_capacity}
use Rattle.std.specs.Io.KnownBytes.{IsAtEnd}
use Rattle.vol_sector.specs.Disk.{Disk}
use Rattle.vol_tree.specs.Opened.{IsSerial}
use Rattle.wasi_fd.specs.declared.descriptor.Descriptor.TheVariants.{Entry}
use Rattle.wasi_fd.specs.declared.descriptor.Opened.{Opened as OpenedEntry}
use Rattle.wasi_fd.specs.Table.{table_of}
use Rattle.wasm_store.specs.declared.call.HostCall.{HostCall}
use Rattle.wasi_calls.specs.declared.host.inner.Inner.{Inner}
use Rattle.wasi_bodies.specs.host.Settings.{settings_fit}
use Rattle.wasi_bodies.specs.Calls.{row, reaches_volume, Answered}
use Rattle.wasi_bodies.specs.host.Worlds.{HostState, StreamBytes, world_of, HasFailed, StreamsMove, MayFollow, before_moving, after_moving, VolumeStep, Hearing, HearsStreams}
use Rattle.wasi_bodies.specs.declared.checks.buffers.TheConstants.{MOST_BUFFERS}
use Rattle.wasi_bodies.specs.declared.streams.inputs.TheConstants.{INPUT_PIECE}
pub use Rattle.wasi_bodies.specs.internal.Entries.{type_of_entry, errno_of, refusals_of, NoMoreEntries, with_volume, is_directory_kind, IsThere, AreThere, KnowsEntries, IsFileOf, with_table}

module _ {D R W1 W2 : Type 0} where
  -- what callers see
  abbrev pub state_of : Inner D R W1 W2 → HostState D R W1 W2
  state_of p = record { volume = p.volume; descriptors = p.descriptors; input = p.input; out = p.out; err = p.err; settings = p.settings; generator = p.generator; interactive = p.interactive }

  -- What holds on any device: the settings fit, there is room, after the input's end the reader has no bytes that it
  -- tells, and each open entry has a number of the volume.
  pub record IsSetUp (remaining : R → Option (List ℕ)) (p : Inner D R W1 W2) : Type 0 where
    pub settings : settings_fit p.settings ≡ true
    pub buffers : MOST_BUFFERS ≤ vec_capacity p.buffers
    pub piece : INPUT_PIECE ≤ vec_capacity p.piece
    pub ended : p.input.ended ≡ true → IsAtEnd (remaining p.input.reader)
    pub serials : (fd : ℕ) (o : OpenedEntry) → table_of p.descriptors fd ≡ Some (Entry o) → IsSerial p.volume.numbers o.serial

-- what a host keeps between its calls
pub record IsReadyForCalls {D R W1 W2 : Type 0} (honest : D → Type 0) (remaining : R → Option (List ℕ)) (p : Inner D R W1 W2) : Type 0 where
  pub set_up : IsSetUp remaining p
  pub known : KnowsEntries honest p.volume (table_of p.descriptors)

module _ {D R W1 W2 : Type 0} (honest : D → Type 0) (disk : D → Disk) (sectors_on failures : D → ℕ) (goes_on : ℕ → D → D → Type 0)
    (remaining : R → Option (List ℕ)) (out_contents : W1 → Option (List ℕ)) (err_contents : W2 → Option (List ℕ)) (ear : Hearing R W1 W2) where
  -- What the body of a call says: where the device keeps its model or the call reaches no volume, the call answers and
  -- leaves what its row says in a world that the host shows, or what its failing case allows.
  pub record Serves (c : HostCall) (used : ℕ) (args : List ℕ) (old : Inner D R W1 W2) (memory : List ℕ) (new : Inner D R W1 W2) (memory' : List ℕ) (errno : ℕ) : Type 0 where
    pub set_up : IsSetUp remaining new
    pub row : (IsTrue (reaches_volume c (table_of old.descriptors) args) → honest old.volume.device)
        → (moved : StreamBytes) × StreamsMove remaining out_contents err_contents (state_of old) (state_of new) moved
        × ((others : StreamBytes) → MayFollow (state_of new) others
        → Answered (λ w. row c w memory used args) (world_of (state_of old) (before_moving moved others)) memory (world_of (state_of new) (after_moving moved others)) memory' errno)
    pub volume : VolumeStep honest disk sectors_on failures goes_on old.volume new.volume
    pub settings : new.settings ≡ record old.settings { random = new.settings.random }
    pub io : errno ≡ 29 → HasFailed c (state_of new)
    pub heard : HearsStreams ear (state_of old) (state_of new)
