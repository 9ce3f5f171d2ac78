-- The headline of an instance: whatever is done with it is a life of the module's instance by the standard's rules; what is outside its
-- directories stays as it is, and what a crash leaves of its volume at any moment is the tree after some of its answers.
use Rattle.std.specs.Prelude.{◌≡◌, ℕ, List, [], ◌∷◌, Option, map}
use Rattle.vol_tree.specs.Tree.{Tree}
use Rattle.wasm_syntax.specs.declared.module.Module.{Module}
use Rattle.wasm_steps.specs.Configuration.{Configuration, store_of}
use Rattle.wasm_operands.specs.Snapshots.{StandsFor}
use Rattle.wasm_interp.specs.Invocations.{TellsStores}
use Rattle.wasi_calls.specs.declared.host.wasi_host.HostParts.{HostParts}
use Rattle.wasi_bodies.specs.declared.streams.Terminals.{Terminals}
use Rattle.wasi_bodies.specs.World.{World}
use Rattle.wasi_bodies.specs.host.Worlds.{HostState, Shows}
use Rattle.wasi_bodies.specs.laws.Confined.{IsConfined, named_by}
use Rattle.sandbox_core.specs.Devices.{Devices, Calls, IsHonest, disk_of, numbers_of, tree_of}
use Rattle.sandbox_core.specs.Sessions.{Shares}
use Rattle.sandbox_core.specs.SafeVolumes.{IsSafeVolume}
use Rattle.plugin_steps.specs.Deeds.{Deed, invocations}
use Rattle.plugin_core.specs.Handling.{Act, AreTold}
use Rattle.plugin_core.specs.WholeLives.{Life, answered_in}
use Rattle.plugin_core.specs.Moments.{KeptIn}
use Rattle.plugin_session.specs.States.{DoesBy, InstanceState, OpensBy, links, session_of}

-- what each of some calls did, and the instance after it
abbrev pub History : Type 0 → Type 0
History S = List (Act × S)

abbrev pub acts_of : {S : Type 0} → History S → List Act
acts_of rs = map (λ r. r.0) rs

module _ {D R W1 W2 : Type 0} (on : Devices D R W1 W2) where
  abbrev pub Host : Type 0
  Host = HostState D R W1 W2

  -- What holds after any list of calls.
  pub record Upholds (m : Module) (pages : ℕ) (trees : List Tree) (from : ℕ) (s : InstanceState D R W1 W2) (rs : History (InstanceState D R W1 W2)) (s' : InstanceState D R W1 W2) : Type 0 where
    -- a life of the module's instance, whose deeds are what the calls told
    pub deeds : List Deed
    pub last : Configuration
    pub life : Life Host (Calls on) links pages m s.host (invocations deeds) s'.host (store_of last)
    pub told : AreTold life.instance (acts_of rs) deeds
    -- each image at any moment of it stands for a tree of the life, from that of the last sync on, under the volume's numbers
    pub kept : KeptIn (disk_of on) numbers_of tree_of (IsHonest on) trees from s.host (answered_in Host (Calls on) links pages m life) s'.host
    -- entries outside the directories that were open at first stay as they are, and aren't reached
    pub confined : (w w' : World) → Shows s.host w → Shows s'.host w' → IsConfined w.tree (named_by w.table) w'.tree w'.table

-- By whichever relation the machine stands for configurations.
module _ {D R W1 W2 : Type 0} (Stands : StandsFor) (on : Devices D R W1 W2) where
  -- one call after another, from an instance to another
  abbrev pub FollowBy : InstanceState D R W1 W2 → History (InstanceState D R W1 W2) → InstanceState D R W1 W2 → Type 0
  FollowBy s [] s' = s' ≡ s
  FollowBy s (r ∷ rs) s' = DoesBy Stands on s r.0 r.1 × FollowBy r.1 rs s'

  -- If that tells of stores: of an instance over a volume whose device keeps its model, and whose images stand for trees so far (after
  -- `Volume::open`: for the one tree), with any seed or none, interactive or not, whatever calls follow.
  abbrev pub InstanceHeadline : Type 0
  InstanceHeadline = TellsStores Stands
      → (seed : Option ℕ) (terminals : Option Terminals) (m : Module) (parts : HostParts D R W1 W2) (trees : List Tree) (from : ℕ) (s s' : InstanceState D R W1 W2) (rs : History (InstanceState D R W1 W2))
      → OpensBy Stands seed terminals m parts s → Shares on.device parts (session_of s) → on.device.honest parts.volume.device → IsSafeVolume on.device parts.volume trees from → FollowBy s rs s'
      → Upholds on m parts.settings.pages trees from s rs s'
