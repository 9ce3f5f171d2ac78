-- Whatever is done with an instance whose input goes on, however that is cut, is a life of the whole instance with all bytes of its input
-- there from the opening on.
use Rattle.std.specs.Prelude.{◌≡◌, ℕ, Bool, false, List, [], ◌∷◌, ◌++◌, Option}
use Rattle.vol_tree.specs.Tree.{Tree}
use Rattle.wasm_syntax.specs.declared.module.Module.{Module}
use Rattle.wasm_operands.specs.Snapshots.{StandsFor}
use Rattle.wasm_interp.specs.Invocations.{TellsStores}
use Rattle.wasi_bodies.specs.declared.streams.Terminals.{Terminals}
use Rattle.wasi_calls.specs.declared.host.wasi_host.HostParts.{HostParts}
use Rattle.sandbox_core.specs.Sessions.{Shares}
use Rattle.sandbox_core.specs.SafeVolumes.{IsSafeVolume}
use Rattle.plugin_core.specs.Handling.{Act}
use Rattle.plugin_session.specs.States.{DoesBy, InstanceState, OpensBy, session_of}
use Rattle.plugin_session.specs.Headline.{History, Upholds}
use Rattle.deferred_calls.specs.Machines.{StandsForWhole}
use Rattle.fed_input.specs.Feeding.{Fed}
use Rattle.fed_input.specs.Wholes.{MayCome, whole_host}
use Rattle.fed_session.specs.Waiting.{deferred_at}
use Rattle.fed_session.specs.Feeding.{Around, Ends, Feeds, fed_devices, whole_devices}

-- what is done with an instance: an act; or bytes of its input are handed over, or it is said that no more come
pub data Doing : Type 0 where
  acted : Act → Doing
  was_fed : List ℕ → Doing
  input_ended : Doing

-- ---- the whole: all bytes of the input are there from the opening on

module _ {D W1 W2 : Type 0} where
  abbrev pub whole_state : List ℕ → InstanceState D Fed W1 W2 → InstanceState D (List ℕ) W1 W2
  whole_state more s = record { machine = s.machine; host = whole_host more s.host; stage = s.stage }

  abbrev pub whole_parts : List ℕ → HostParts D Fed W1 W2 → HostParts D (List ℕ) W1 W2
  whole_parts more p = record { settings = p.settings; volume = p.volume; input = p.input.bytes ++ more; out = p.out; err = p.err }

  -- which bytes are handed over, all together
  abbrev pub fed_in : List (Doing × InstanceState D Fed W1 W2) → List ℕ
  fed_in [] = []
  fed_in ((was_fed bytes, s) ∷ rs) = bytes ++ fed_in rs
  fed_in ((acted k, s) ∷ rs) = fed_in rs
  fed_in ((input_ended, s) ∷ rs) = fed_in rs

  -- the same acts of the whole instance, in which more comes at the end
  abbrev pub acts_in : List ℕ → List (Doing × InstanceState D Fed W1 W2) → History (InstanceState D (List ℕ) W1 W2)
  acts_in rest [] = []
  acts_in rest ((acted k, s) ∷ rs) = (k, whole_state (fed_in rs ++ rest) s) ∷ acts_in rest rs
  acts_in rest ((was_fed bytes, s) ∷ rs) = acts_in rest rs
  acts_in rest ((input_ended, s) ∷ rs) = acts_in rest rs

-- By whichever relation the machine stands for configurations.
module _ {D W1 W2 : Type 0} (Stands : StandsFor) (a : Around D W1 W2) where
  abbrev pub DidBy : InstanceState D Fed W1 W2 → Doing → InstanceState D Fed W1 W2 → Type 0
  DidBy s (acted k) s' = DoesBy Stands (fed_devices a) s k s'
  DidBy s (was_fed bytes) s' = Feeds s s' bytes
  DidBy s input_ended s' = Ends s s'

  -- one after another
  abbrev pub FollowFed : InstanceState D Fed W1 W2 → List (Doing × InstanceState D Fed W1 W2) → InstanceState D Fed W1 W2 → Type 0
  FollowFed s [] s' = s' ≡ s
  FollowFed s (r ∷ rs) s' = DidBy s r.0 r.1 × FollowFed r.1 rs s'

-- Over any device and writers, with an input that goes on: unless a read was made that starved, all is as if what was handed over, and
-- whatever else may come later, had been there from the opening on.
abbrev pub FedHeadline : {D W1 W2 : Type 0} → StandsFor → Around D W1 W2 → Type 0
FedHeadline {D} {W1} {W2} Stands a = (seed : Option ℕ) (terminals : Option Terminals) (m : Module) (parts : HostParts D Fed W1 W2) (trees : List Tree) (from : ℕ)
    (s s' : InstanceState D Fed W1 W2) (rs : List (Doing × InstanceState D Fed W1 W2)) (rest : List ℕ)
    → OpensBy Stands seed terminals m parts s → Shares a.device parts (session_of s) → a.device.honest parts.volume.device → IsSafeVolume a.device parts.volume trees from
    → FollowFed Stands a s rs s' → s'.host.input.failed ≡ false → MayCome rest s'.host.input.reader
    → Upholds (whole_devices a) m parts.settings.pages trees from (whole_state (fed_in rs ++ rest) s) (acts_in rest rs) (whole_state rest s')

-- By whichever relation the machine stands for configurations of its own instance, this holds of the whole one.
abbrev pub AllHeadlines : {D W1 W2 : Type 0} → StandsFor → Around D W1 W2 → Type 0
AllHeadlines Stands a = TellsStores Stands → (goes_on : Bool) → FedHeadline (StandsForWhole (deferred_at goes_on) Stands) a
