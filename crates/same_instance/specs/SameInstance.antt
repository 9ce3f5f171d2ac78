-- The same module, supplies, volume and actions give the same life of an instance, unless the host failed: memory, a stream or the device.
use Rattle.std.specs.Prelude.{◌≡◌, ℕ, false, List, ◌++◌, Option}
use Rattle.std.specs.Option.{option_to_list}
use Rattle.wasm_syntax.specs.declared.module.Module.{Module}
use Rattle.wasm_valid.specs.Validity.{IsValid}
use Rattle.wasm_steps.specs.Configuration.{Instance, Configuration, first_configuration, store_of}
use Rattle.wasm_store.specs.Allocation.{AllLinks}
use Rattle.wasm_operands.specs.Snapshots.{ShowsStore, Snapshot, StandsFor}
use Rattle.wasm_interp.specs.Invocations as machine
use Rattle.wasi_calls.specs.declared.host.wasi_host.HostParts.{HostParts}
use Rattle.wasi_bodies.specs.declared.streams.Terminals.{Terminals}
use Rattle.wasi_bodies.specs.World.{World}
use Rattle.wasi_bodies.specs.Calls as world
use Rattle.wasi_bodies.specs.host.Worlds.{HostState, MayFollow, StreamBytes, StreamsMove, after_moving, before_moving, world_of}
use Rattle.sandbox_core.specs.Devices.{Devices, Calls, tree_of}
use Rattle.sandbox_core.specs.Sessions.{Shares}
use Rattle.plugin_core.specs.Handling.{Act}
use Rattle.plugin_session.specs.States.{InstanceState, OpensBy, session_of}
use Rattle.plugin_session.specs.Headline.{History, acts_of}
use Rattle.same_run.specs.Alike.{GaveOf, host_failed}
use Rattle.same_run.specs.SameSupplies.{AreAlike}
use Rattle.same_instance.specs.Turns.{Action, Turns, WereRefusedMemory}
use Rattle.same_instance.specs.Doing.{FollowActions}

-- ---- turns

module _ {D R W1 W2 : Type 0} (on : Devices D R W1 W2) {m : Module} {i : Instance} {h last : HostState D R W1 W2} {c d : Configuration}
    {actions : List Action} {ks : List Act} where
  -- The guest read and wrote these bytes: each stream that tells its bytes moved by them, and whatever others the streams have, all that
  -- was done are turns over a tree of paths, which are refused memory only where these are.
  pub record ReadAndWrote (turns : Turns (HostState D R W1 W2) (Calls on) m i h c actions ks last d) (moved : StreamBytes) : Type 0 where
    pub moves : StreamsMove on.input.remaining on.out.contents on.err.contents h last moved
    pub over_paths : (others : StreamBytes) → MayFollow last others
        → (over : Turns World world.Calls m i (world_of h (before_moving moved others)) c actions ks (world_of last (after_moving moved others)) d)
        × (WereRefusedMemory over → WereRefusedMemory turns)

  -- the host failed nowhere in them
  pub record IsServed (turns : Turns (HostState D R W1 W2) (Calls on) m i h c actions ks last d) : Type 0 where
    pub memory : WereRefusedMemory turns → ⊥
    pub nothing_failed : host_failed last ≡ false

module _ {D R W1 W2 D' R' W1' W2' : Type 0} (on : Devices D R W1 W2) (on' : Devices D' R' W1' W2') {m : Module} {i i' : Instance}
    {h last : HostState D R W1 W2} {h' last' : HostState D' R' W1' W2'} {c d c' d' : Configuration} {actions : List Action} {ks ks' : List Act} where
  -- all that was told was the same, and so are the configuration, the tree, and the bytes read and written
  pub record EndAlike (turns : Turns (HostState D R W1 W2) (Calls on) m i h c actions ks last d)
      (turns' : Turns (HostState D' R' W1' W2') (Calls on') m i' h' c' actions ks' last' d') (moved moved' : StreamBytes) : Type 0 where
    pub told : ks ≡ ks'
    pub configuration : d ≡ d'
    pub tree : tree_of last ≡ tree_of last'
    pub bytes : moved ≡ moved'

  -- The guest read and wrote some bytes in each; and whichever they are, if both readers gave of the same input, both are the same.
  pub record TurnAlike (turns : Turns (HostState D R W1 W2) (Calls on) m i h c actions ks last d)
      (turns' : Turns (HostState D' R' W1' W2') (Calls on') m i' h' c' actions ks' last' d') : Type 0 where
    pub some : (moved : StreamBytes) × ReadAndWrote on turns moved
    pub some' : (moved : StreamBytes) × ReadAndWrote on' turns' moved
    pub same : (input pieces : List ℕ) (moved moved' : StreamBytes) → ReadAndWrote on turns moved → ReadAndWrote on' turns' moved'
        → GaveOf input pieces last moved → GaveOf input pieces last' moved' → EndAlike turns turns' moved moved'

-- ---- instances

-- The relation tells of the store: memory, table, globals and units are what the machine shows.
abbrev pub TellsAll : StandsFor → Type 0
TellsAll Stands = (s : Snapshot) (i : Instance) (c : Configuration) → Stands s i c → ShowsStore s (store_of c)

-- the configuration that an instance begins at
abbrev pub first_of : {Stands : StandsFor} {links : AllLinks} {pages : ℕ} {m : Module} {s : Snapshot} → machine.OpensBy Stands links pages m s → Configuration
first_of {m = m} opens = first_configuration (option_to_list m.start ++ option_to_list opens.initializer) opens.store

module _ {D R W1 W2 D' R' W1' W2' : Type 0} where
  -- the same memory, table, globals and units, and the same is allowed
  pub record ShowTheSame (s : InstanceState D R W1 W2) (s' : InstanceState D' R' W1' W2') : Type 0 where
    pub memory : s.machine.memory ≡ s'.machine.memory
    pub table : s.machine.table ≡ s'.machine.table
    pub globals : s.machine.globals ≡ s'.machine.globals
    pub used : s.machine.used ≡ s'.machine.used
    pub stage : s.stage ≡ s'.stage

module _ {D R W1 W2 D' R' W1' W2' : Type 0} (Stands : StandsFor) (on : Devices D R W1 W2) (on' : Devices D' R' W1' W2') {seed seed' : Option ℕ}
    {terminals terminals' : Option Terminals} {m : Module} {parts : HostParts D R W1 W2} {parts' : HostParts D' R' W1' W2'}
    {s : InstanceState D R W1 W2} {s' : InstanceState D' R' W1' W2'} where
  -- What was done with two instances by the same actions.
  pub record SameLives (opens : OpensBy Stands seed terminals m parts s) (opens' : OpensBy Stands seed' terminals' m parts' s') (actions : List Action)
      (rs : History (InstanceState D R W1 W2)) (rs' : History (InstanceState D' R' W1' W2')) (last : InstanceState D R W1 W2) (last' : InstanceState D' R' W1' W2') : Type 0 where
    -- both began at one configuration of one instance
    pub instance : opens.opens.instance ≡ opens'.opens.instance
    pub first : first_of opens.opens ≡ first_of opens'.opens
    -- from there on it is turns, to one that the machine stands for
    pub turned : (d : Configuration) × Stands last.machine opens.opens.instance d × Turns (HostState D R W1 W2) (Calls on) m opens.opens.instance s.host (first_of opens.opens) actions (acts_of rs) last.host d
    pub turned' : (d : Configuration) × Stands last'.machine opens'.opens.instance d × Turns (HostState D' R' W1' W2') (Calls on') m opens'.opens.instance s'.host (first_of opens'.opens) actions (acts_of rs') last'.host d
    -- whichever they are, they are alike, unless the host failed in one
    pub alike : (d d' : Configuration) (turns : Turns (HostState D R W1 W2) (Calls on) m opens.opens.instance s.host (first_of opens.opens) actions (acts_of rs) last.host d)
        (turns' : Turns (HostState D' R' W1' W2') (Calls on') m opens'.opens.instance s'.host (first_of opens'.opens) actions (acts_of rs') last'.host d')
        → IsServed on turns → IsServed on' turns' → TurnAlike on on' turns turns'
    -- where the same was told, and both stand for one configuration, they show the same
    pub shown : (d : Configuration) → Stands last.machine opens.opens.instance d → Stands last'.machine opens'.opens.instance d → acts_of rs ≡ acts_of rs' → ShowTheSame last last'

-- If the relation by which machines stand for configurations tells of the store: of two instances of a valid module, with the same supplies,
-- the same tree and the same seed or none, both interactive with the same terminals or neither, on devices that keep their models, whatever
-- the actions are, of which each first part is such a list, too.
module _ {D R W1 W2 D' R' W1' W2' : Type 0} (Stands : StandsFor) (on : Devices D R W1 W2) (on' : Devices D' R' W1' W2') where
  abbrev pub SameInstance : Type 0
  SameInstance = TellsAll Stands → (m : Module) (seed seed' : Option ℕ) (terminals terminals' : Option Terminals) (parts : HostParts D R W1 W2) (parts' : HostParts D' R' W1' W2')
      (s last : InstanceState D R W1 W2) (s' last' : InstanceState D' R' W1' W2') (actions : List Action) (rs : History (InstanceState D R W1 W2)) (rs' : History (InstanceState D' R' W1' W2'))
      → IsValid m → AreAlike on on' parts parts' → seed ≡ seed' → terminals ≡ terminals'
      → (opens : OpensBy Stands seed terminals m parts s) → (opens' : OpensBy Stands seed' terminals' m parts' s') → Shares on.device parts (session_of s) → Shares on'.device parts' (session_of s')
      → on.device.honest parts.volume.device → on'.device.honest parts'.volume.device
      → FollowActions Stands on s actions rs last → FollowActions Stands on' s' actions rs' last' → SameLives Stands on on' opens opens' actions rs rs' last last'
