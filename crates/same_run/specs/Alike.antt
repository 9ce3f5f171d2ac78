-- When two runs are alike, each over devices and streams of its own: unless the host failed in one, both ended alike, with the
-- same units, answers, bytes and tree.
use Rattle.std.specs.Prelude.{◌≡◌, ℕ, ◌||◌, Bool, true, List, [], ◌++◌}
use Rattle.wasm_steps.specs.declared.pause.Outcome.{Outcome}
use Rattle.wasm_steps.specs.Configuration.{Instance, Configuration}
use Rattle.wasm_steps.specs.Steps.{Reach}
use Rattle.wasi_bodies.specs.World.{World}
use Rattle.wasi_bodies.specs.Calls as world
use Rattle.wasi_bodies.specs.host.Worlds.{HostState, StreamBytes, StreamsMove, MayFollow, before_moving, after_moving}
use Rattle.wasi_bodies.specs.host.Worlds.{stream_failed, world_of}
use Rattle.sandbox_core.specs.Devices.{Devices, Calls, tree_of}
use Rattle.sandbox_core.specs.Within.{RunsWithin}
use Rattle.same_run.specs.Growth.{WasRefusedMemory}
use Rattle.same_run.specs.Served.{IsServed}

-- the volume has failed, or a read or a write of a stream
abbrev pub host_failed : {D R W1 W2 : Type 0} → HostState D R W1 W2 → Bool
host_failed h = h.volume.failed || stream_failed h

-- The reader gave a beginning of these bytes, and all of them where the input has ended. In an interactive run its reads found
-- pieces of them that have a beginning of these lengths; without one there are none (`StreamsMove`).
pub record GaveOf {D R W1 W2 : Type 0} (input pieces : List ℕ) (last : HostState D R W1 W2) (moved : StreamBytes) : Type 0 where
  pub left : List ℕ
  pub bytes : input ≡ moved.input ++ left
  pub ended : last.input.ended ≡ true → left ≡ []
  pub later : List ℕ
  pub lengths : pieces ≡ moved.pieces ++ later

module _ {D R W1 W2 : Type 0} (on : Devices D R W1 W2) {i : Instance} {c : Configuration} {fuel : ℕ}
    {h last : HostState D R W1 W2} {outcome : Outcome} {used : ℕ} where
  -- The guest read and wrote these bytes in the run: each stream that tells its bytes moved by them, and whatever others
  -- the streams have, it is a run over a tree of paths, which is refused memory only where this one is.
  pub record ReadAndWrote (run : RunsWithin (Calls on) i h c fuel last outcome used) (moved : StreamBytes) : Type 0 where
    pub moves : StreamsMove on.input.remaining on.out.contents on.err.contents h last moved
    pub over_paths : (others : StreamBytes) → MayFollow last others
        → (over : Reach World world.Calls i (world_of h (before_moving moved others)) c run.answers
        (world_of last (after_moving moved others)) run.last)
        × (WasRefusedMemory over → WasRefusedMemory run.reach)

module _ {D R W1 W2 D' R' W1' W2' : Type 0} (on : Devices D R W1 W2) (on' : Devices D' R' W1' W2')
    {i i' : Instance} {c c' : Configuration} {fuel fuel' : ℕ} {h last : HostState D R W1 W2}
    {h' last' : HostState D' R' W1' W2'} {outcome outcome' : Outcome} {used used' : ℕ} where
  -- Both ended so, with the same units, memory, table and globals, answers of calls, tree, and bytes read and written.
  pub record AreTheSame (run : RunsWithin (Calls on) i h c fuel last outcome used)
      (run' : RunsWithin (Calls on') i' h' c' fuel' last' outcome' used') (moved moved' : StreamBytes) : Type 0 where
    pub ends : outcome ≡ outcome'
    pub units : used ≡ used'
    pub configuration : run.last ≡ run'.last
    pub calls : run.answers ≡ run'.answers
    pub tree : tree_of last ≡ tree_of last'
    pub bytes : moved ≡ moved'

  -- The guest read and wrote some bytes in each; and whichever they are, if both readers gave of the same input, both
  -- runs are the same.
  pub record RunAlike (run : RunsWithin (Calls on) i h c fuel last outcome used)
      (run' : RunsWithin (Calls on') i' h' c' fuel' last' outcome' used') : Type 0 where
    pub some : (moved : StreamBytes) × ReadAndWrote on run moved
    pub some' : (moved : StreamBytes) × ReadAndWrote on' run' moved
    pub same : (input pieces : List ℕ) (moved moved' : StreamBytes) → ReadAndWrote on run moved → ReadAndWrote on' run' moved'
        → GaveOf input pieces last moved → GaveOf input pieces last' moved' → AreTheSame run run' moved moved'

  -- The host failed in neither: no growth within the limit and no room for the stacks was refused, no stream failed, and
  -- no device.
  abbrev pub AreServed : RunsWithin (Calls on) i h c fuel last outcome used
      → RunsWithin (Calls on') i' h' c' fuel' last' outcome' used' → Type 0
  AreServed run run' = IsServed (Calls on) host_failed run × IsServed (Calls on') host_failed run'
