-- The headline: what a guest does is a run of the reduction rules over a tree of paths. What a crash leaves of the
-- guest's volume is the tree after a first part of its calls, and what is outside its directories stays as it is
-- (`README.md`, "What is proved").
use Rattle.std.specs.Prelude.{◌≡◌, ℕ, List, [], ◌∷◌, Option, None}
use Rattle.vol_tree.specs.Tree.{Tree}
use Rattle.vol_tree.specs.Opened.{GoesOn}
use Rattle.wasm_syntax.specs.declared.module.Module.{Module}
use Rattle.wasm_store.specs.Instantiation.{Instantiates}
use Rattle.wasm_steps.specs.Configuration.{Instance, Store, Configuration, first_configuration}
use Rattle.wasm_steps.specs.Configuration as configuration
use Rattle.wasm_operands.specs.Snapshots.{StandsFor}
use Rattle.wasm_steps.specs.Steps.{Reach}
use Rattle.wasi_calls.specs.declared.host.wasi_host.HostParts.{HostParts}
use Rattle.wasi_bodies.specs.declared.streams.Terminals.{Terminals}
use Rattle.wasi_calls.specs.host.Links.{link}
use Rattle.wasi_bodies.specs.World.{World}
use Rattle.wasi_bodies.specs.Calls as world
use Rattle.wasi_bodies.specs.host.Worlds.{HostState, StreamBytes, StreamsMove, MayFollow, before_moving, after_moving}
use Rattle.wasi_bodies.specs.host.Worlds.{HearsStreams, Shows, world_of}
use Rattle.wasi_bodies.specs.laws.Moments.{Turn, AllKept}
use Rattle.wasi_bodies.specs.laws.Confined.{IsConfined, named_by}
use Rattle.sandbox_core.specs.Devices.{Devices, Calls, disk_of, numbers_of, tree_of}
use Rattle.sandbox_core.specs.Sessions.{SessionState, OpensBy, Shares, FollowBy, used_by, seeded_by}
use Rattle.sandbox_core.specs.Sessions.{History, pauses_of, is_synced}
use Rattle.sandbox_core.specs.Pauses.{answered, LastStopsAt}
use Rattle.sandbox_core.specs.SafeVolumes.{IsSafeVolume}

-- the host before and after each of some resumes, and whether it answered a sync
abbrev pub turns_of : {D R W1 W2 : Type 0} → SessionState D R W1 W2 → History (SessionState D R W1 W2)
    → List (Turn (HostState D R W1 W2))
turns_of s [] = []
turns_of s (r ∷ rs) = record { old = s.host; new = r.1.host; synced = is_synced r.0 } ∷ turns_of r.1 rs

-- By whichever relation the machine stands for configurations: what a session promises at its opening and at each resume is said by the
-- machine's own (`Session`), and the law holds of any.
module _ {D R W1 W2 : Type 0} (Stands : StandsFor) (on : Devices D R W1 W2) where
  abbrev pub Host : Type 0
  Host = HostState D R W1 W2

  abbrev pub Session : Type 0
  Session = SessionState D R W1 W2

  -- What holds after any list of resumes.
  pub record Upholds (m : Module) (pages : ℕ) (trees : List Tree) (from : ℕ) (s : Session) (rs : History Session)
      (s' : Session) : Type 0 where
    -- the module's first configuration
    pub instance : Instance
    pub store : Store
    pub entered : List ℕ
    pub instantiates : Instantiates link pages m instance store entered
    -- a run from there to the configuration that the session stands for, in which the host answered the calls that the
    -- pauses tell of, with the units used
    pub last : Configuration
    pub stands : Stands s'.machine instance last
    pub run : Reach Host (Calls on) instance s.host (first_configuration entered store) (answered (pauses_of rs))
        s'.host last
    pub units : configuration.used_by last ≡ used_by s'
    -- how it ended, where the last pause tells of an end
    pub ends : LastStopsAt (Calls on) instance (pauses_of rs) s'.host last
    -- The streams moved by some bytes, each that tells its bytes by those that it told. Whatever others they have, this
    -- is a run over a tree of paths.
    pub moved : StreamBytes
    pub moves : StreamsMove on.input.remaining on.out.contents on.err.contents s.host s'.host moved
    pub over_paths : (others : StreamBytes) → MayFollow s'.host others
        → Reach World world.Calls
        instance (world_of s.host (before_moving moved others)) (first_configuration entered store)
        (answered (pauses_of rs)) (world_of s'.host (after_moving moved others)) last
    -- each image in a resume stands for a tree of the run, from that of the last sync on, under the volume's numbers
    pub kept : AllKept (disk_of on) numbers_of tree_of (numbers_of s.host) trees from (turns_of s rs)
    -- on a device of the same size, which goes on
    pub size : on.device.size s'.host.volume.device ≡ on.device.size s.host.volume.device
    pub goes : GoesOn on.device.goes_on s.host.volume s'.host.volume
    -- a stream that refused is marked as failed and wasn't asked again, and one that is marked has refused
    pub heard : HearsStreams on.ear s.host s'.host
    -- entries outside the directories that were open at first stay as they are, and aren't reached
    pub confined : (w w' : World) → Shows s.host w → Shows s'.host w'
        → IsConfined w.tree (named_by w.table) w'.tree w'.table

  -- For a session over a volume whose device keeps its model, and whose images stand for trees so far (after
  -- `Volume::open`: for the one tree), whatever resumes follow.
  abbrev pub Headline : Type 0
  Headline = (m : Module) (parts : HostParts D R W1 W2) (trees : List Tree) (from : ℕ) (s s' : Session)
      (rs : History Session) → OpensBy Stands None None m parts s → Shares on.device parts s → on.device.honest parts.volume.device
      → IsSafeVolume on.device parts.volume trees from → FollowBy Stands on s rs s'
      → Upholds m parts.settings.pages trees from s rs s'

  -- The same of a session that was seeded before its first resume.
  abbrev pub SeededHeadline : Type 0
  SeededHeadline = (seed : ℕ) (m : Module) (parts : HostParts D R W1 W2) (trees : List Tree) (from : ℕ) (s s' : Session)
      (rs : History Session) → OpensBy Stands None None m parts s → Shares on.device parts s → on.device.honest parts.volume.device
      → IsSafeVolume on.device parts.volume trees from → FollowBy Stands on (seeded_by seed s) rs s'
      → Upholds m parts.settings.pages trees from (seeded_by seed s) rs s'

  -- The same of a session that opens with any seed or none, interactive or not.
  abbrev pub OpenedHeadline : Type 0
  OpenedHeadline = (seed : Option ℕ) (terminals : Option Terminals) (m : Module) (parts : HostParts D R W1 W2)
      (trees : List Tree) (from : ℕ) (s s' : Session) (rs : History Session)
      → OpensBy Stands seed terminals m parts s → Shares on.device parts s → on.device.honest parts.volume.device
      → IsSafeVolume on.device parts.volume trees from → FollowBy Stands on s rs s'
      → Upholds m parts.settings.pages trees from s rs s'
