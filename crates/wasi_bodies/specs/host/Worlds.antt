-- A host over a volume and streams: what callers see of it, its world for given bytes of the streams, and what its
-- calls say. A stream needn't tell its bytes, so `row` of `HostCalls` names those that moved, whatever the others are.
use Rattle.std.specs.Prelude.{◌≡◌, ◌⊎◌, ◌||◌, ℕ, Bool, IsTrue, true, false, List, [], ◌++◌, Option, Some, None}
use Rattle.std.specs.Io.KnownBytes.{Consumes, Appends}
use Rattle.stream_answers.specs.Hearing.{Hears, Moves, Refuses}
use Rattle.vol_sector.specs.Disk.{Disk, Leaves}
use Rattle.vol_tree.specs.Opened.{Opened, Keeps, GoesOn, ReflectsOr, geometry}
use Rattle.rand_chacha.specs.ChaCha.{ChaCha}
use Rattle.wasi_fd.specs.declared.table.Descriptors.{Descriptors}
use Rattle.wasi_fd.specs.Table.{table_of}
use Rattle.wasm_store.specs.declared.call.HostCall.{HostCall}
use Rattle.wasm_store.specs.declared.call.HostCall.TheVariants as call
use Rattle.wasm_store.specs.declared.call.HostCall.TheVariants.{ProcExit}
use Rattle.wasm_store.specs.declared.call.Errno.{Errno}
use Rattle.wasm_store.specs.declared.call.Answer.{Answer}
use Rattle.wasm_store.specs.declared.call.Answer.TheVariants.{Value as value, Exit as exit}
use Rattle.wasi_bodies.specs.declared.streams.Input.{Input}
use Rattle.wasi_bodies.specs.declared.streams.Output.{Output}
use Rattle.wasi_bodies.specs.declared.streams.Terminals.{Terminals}
use Rattle.wasi_bodies.specs.declared.settings.Settings.{Settings}
use Rattle.wasi_bodies.specs.supplies.Texts.{texts_of}
use Rattle.wasi_bodies.specs.supplies.Random.{supply}
use Rattle.wasi_bodies.specs.World.{Given, World}
use Rattle.wasi_bodies.specs.Calls.{Calls, reaches_volume}
use Rattle.wasi_bodies.specs.laws.Moments.{IsSynced}

-- What callers see of a host: the random bytes of its settings are those that are left. One that is seeded has a generator,
-- and takes none of these. One that is interactive knows which streams are terminals.
pub record HostState (D R W1 W2 : Type 0) : Type 0 where
  pub volume : Opened D
  pub descriptors : Descriptors
  pub input : Input R
  pub out : Output W1
  pub err : Output W2
  pub settings : Settings
  pub generator : Option ChaCha
  pub interactive : Option Terminals

-- Bytes of the streams: of the input those that are not read yet, and of the outputs those that were written. In an interactive
-- run also how many bytes each read of the input finds.
pub record StreamBytes : Type 0 where
  pub input : List ℕ
  pub pieces : List ℕ
  pub output : List ℕ
  pub errors : List ℕ

-- the texts and the moment of the settings
abbrev pub given_of : Settings → Given
given_of s = record { args = texts_of s.args.now; env = texts_of s.env.now; moment = s.moment }

-- the world of a host whose streams have these bytes
abbrev pub world_of : {D R W1 W2 : Type 0} → HostState D R W1 W2 → StreamBytes → World
world_of h b = record {
  volume = geometry h.volume.numbers;
  tree = h.volume.tree;
  table = table_of h.descriptors;
  input = b.input;
  pieces = b.pieces;
  input_ended = h.input.ended;
  output = b.output;
  errors = b.errors;
  random = supply h.generator h.settings.random.now;
  given = given_of h.settings;
  interactive = h.interactive;
  volume_failed = h.volume.failed;
  input_failed = h.input.failed;
  output_failed = h.out.failed;
  errors_failed = h.err.failed;
}

-- a world that the host shows; what it says of the streams' bytes is said of each call
abbrev pub Shows : {D R W1 W2 : Type 0} → HostState D R W1 W2 → World → Type 0
Shows h w = (b : StreamBytes) × (w ≡ world_of h b)

-- The bytes of streams that move by some: before, when the input still has them, and after, when the outputs have them; with
-- whatever others.
abbrev pub before_moving : StreamBytes → StreamBytes → StreamBytes
before_moving moved others = record { input = moved.input ++ others.input; pieces = moved.pieces ++ others.pieces; output = others.output; errors = others.errors }

abbrev pub after_moving : StreamBytes → StreamBytes → StreamBytes
after_moving moved others = record { input = others.input; pieces = others.pieces; output = others.output ++ moved.output; errors = others.errors ++ moved.errors }

-- known bytes were all given
abbrev pub LeavesNone : Option (List ℕ) → Option (List ℕ) → Type 0
LeavesNone None new = Unit {0}
LeavesNone (Some xs) new = new ≡ Some []

-- no bytes may follow the end of the input
abbrev pub MayFollow : {D R W1 W2 : Type 0} → HostState D R W1 W2 → StreamBytes → Type 0
MayFollow h others = h.input.ended ≡ true → others.input ≡ []

-- a read or a write of a stream has failed
abbrev pub stream_failed : {D R W1 W2 : Type 0} → HostState D R W1 W2 → Bool
stream_failed h = (h.input.failed || h.out.failed) || h.err.failed

-- What 29 of a call comes from has failed: the volume, or a stream that it reads or writes.
abbrev pub HasFailed : {D R W1 W2 : Type 0} → HostCall → HostState D R W1 W2 → Type 0
HasFailed call.FdRead h = (h.volume.failed ≡ true) ⊎ (h.input.failed ≡ true)
HasFailed call.FdWrite h = (h.volume.failed ≡ true) ⊎ ((h.out.failed ≡ true) ⊎ (h.err.failed ≡ true))
HasFailed other h = h.volume.failed ≡ true

module _ {D R W1 W2 : Type 0} (remaining : R → Option (List ℕ)) (out_contents : W1 → Option (List ℕ)) (err_contents : W2 → Option (List ℕ)) where
  -- The streams moved by these bytes: the reader gave them, and each writer took its own, where they tell. The input ends only
  -- where a reader that tells its bytes has none left, and gives none then. Without an interactive run there are no pieces.
  pub record StreamsMove (old new : HostState D R W1 W2) (moved : StreamBytes) : Type 0 where
    pub input : Consumes (remaining old.input.reader) (remaining new.input.reader) moved.input
    pub output : Appends (out_contents old.out.writer) (out_contents new.out.writer) moved.output
    pub errors : Appends (err_contents old.err.writer) (err_contents new.err.writer) moved.errors
    pub ended : old.input.ended ≡ true → (moved.input ≡ []) × (new.input.ended ≡ true)
    pub end : new.input.ended ≡ true → (old.input.ended ≡ true) ⊎ LeavesNone (remaining old.input.reader) (remaining new.input.reader)
    pub pieces : old.interactive ≡ None → (moved.pieces ≡ []) × (new.interactive ≡ None)

-- What is told of the calls on a stream, as the traits `Inlet` and `Outlet` tell it: which bytes one moved between two states, and
-- between which it was refused.
pub record StreamCalls (S : Type 0) : Type 1 where
  pub moved : S → List ℕ → S → Type 0
  pub refused : S → S → Type 0

-- of the three streams
pub record Hearing (R W1 W2 : Type 0) : Type 1 where
  pub input : StreamCalls R
  pub out : StreamCalls W1
  pub err : StreamCalls W2

abbrev pub hearing : {R W1 W2 : Type 0} → (R → List ℕ → R → Type 0) → (R → R → Type 0)
    → (W1 → List ℕ → W1 → Type 0) → (W1 → W1 → Type 0) → (W2 → List ℕ → W2 → Type 0) → (W2 → W2 → Type 0) → Hearing R W1 W2
hearing gave refused out_took out_refused err_took err_refused = record {
  input = record { moved = gave; refused = refused };
  out = record { moved = out_took; refused = out_refused };
  err = record { moved = err_took; refused = err_refused };
}

-- A stream that had failed isn't asked. Else its calls went well, or the last of them was refused, and then it is marked as failed.
abbrev pub HearsInput : {R : Type 0} → StreamCalls R → Input R → Input R → Type 0
HearsInput calls old new = (old.failed ≡ true → new ≡ old)
    × (old.failed ≡ false → Hears (Moves calls.moved) calls.refused new.failed old.reader new.reader)

-- A writer that takes nothing of what it is offered has refused, too.
abbrev pub HearsOutput : {W : Type 0} → StreamCalls W → Output W → Output W → Type 0
HearsOutput calls old new = (old.failed ≡ true → new ≡ old)
    × (old.failed ≡ false → Hears (Moves calls.moved) (Refuses calls.moved calls.refused) new.failed old.writer new.writer)

-- so does each of the three
pub record HearsStreams {D R W1 W2 : Type 0} (ear : Hearing R W1 W2) (old new : HostState D R W1 W2) : Type 0 where
  pub input : HearsInput ear.input old.input new.input
  pub out : HearsOutput ear.out old.out new.out
  pub err : HearsOutput ear.err old.err new.err

module _ {D : Type 0} (honest : D → Type 0) (disk : D → Disk) (sectors_on failures : D → ℕ) (goes_on : ℕ → D → D → Type 0) where
  -- What a call leaves of the volume. On any device it fails by one operation that failed, and after that none is done; and
  -- the device goes on.
  -- Where the device keeps its model, each image that a crash may leave since could be left before, or stands for the
  -- tree of an image that could be, or for the tree before the call, under the volume's numbers.
  pub record VolumeStep (old new : Opened D) : Type 0 where
    pub kept : Keeps honest sectors_on failures old new new.failed
    pub crash : honest old.device → Leaves (disk old.device) (disk new.device) (ReflectsOr (disk old.device) old.numbers old.tree)
    pub goes : GoesOn goes_on old new

module _ {D R W1 W2 : Type 0} (honest : D → Type 0) (disk : D → Disk) (sectors_on failures : D → ℕ) (goes_on : ℕ → D → D → Type 0)
    (remaining : R → Option (List ℕ)) (out_contents : W1 → Option (List ℕ)) (err_contents : W2 → Option (List ℕ)) (ear : Hearing R W1 W2) where
  -- What a call of the host means: that call of a world that the host shows, whatever other bytes its streams have; where
  -- the device keeps its model, or the call reaches no volume. On any device it takes of the settings random bytes alone,
  -- and 29 has its cause.
  pub record HostCalls (old : HostState D R W1 W2) (memory : List ℕ) (used : ℕ) (call : HostCall) (args : List ℕ)
      (new : HostState D R W1 W2) (memory' : List ℕ) (answer : Answer) : Type 0 where
    pub row : (IsTrue (reaches_volume call (table_of old.descriptors) args) → honest old.volume.device)
        → (moved : StreamBytes) × StreamsMove remaining out_contents err_contents old new moved
        × ((others : StreamBytes) → MayFollow new others → Calls (world_of old (before_moving moved others)) memory used call args (world_of new (after_moving moved others)) memory' answer)
    pub volume : VolumeStep honest disk sectors_on failures goes_on old.volume new.volume
    pub settings : new.settings ≡ record old.settings { random = new.settings.random }
    pub io : (e : Errno) → answer ≡ value e → e.0 ≡ 29 → HasFailed call new
    pub synced : honest old.volume.device → (e : Errno) → answer ≡ value e → IsSynced call e.0 (disk new.volume.device) new.volume.numbers new.volume.tree
    pub exits : (status : ℕ) → answer ≡ exit status → new ≡ old
    -- no other call ends the guest
    pub ends : (status : ℕ) → answer ≡ exit status → call ≡ ProcExit
    pub heard : HearsStreams ear old new
