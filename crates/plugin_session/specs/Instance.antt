-- An instance is a machine whose exported functions are called, the host that answers its guest's calls of WASI, and where it is. Here
-- stands how one is opened or refused, and what each call of it does (`States` says it of any relation by which machines stand for
-- configurations).
use Rattle.std.specs.Prelude.{◌≡◌, ◌≢◌, ◌≤◌, ◌+◌, ℕ, true, false, List, Contains, Option, Some, None}
use Rattle.wasm_syntax.specs.declared.module.ExportKind.TheVariants as exports
use Rattle.wasm_syntax.specs.declared.module.Module.{Module}
use Rattle.wasm_store.specs.declared.fault.InstanceFault.TheVariants.{Memory as NoMemory}
use Rattle.wasm_store.specs.Allocating.{NotAllocated}
use Rattle.wasm_places.specs.declared.invocable.Event.{Event}
use Rattle.wasm_places.specs.declared.invocable.Event.TheVariants as events
use Rattle.wasm_steps.specs.Outcomes.{UnitsRise}
use Rattle.wasm_interp.specs.Promises.{CallProgresses}
use Rattle.wasm_interp.specs.Machine.{Snapshot, Represents, limited}
use Rattle.wasm_interp.specs.Invoking as machine
use Rattle.wasi_bodies.specs.declared.streams.Terminals.{Terminals}
use Rattle.wasi_calls.specs.declared.host.wasi_host.HostParts.{HostParts}
use Rattle.wasi_bodies.specs.host.Settings.{settings_fit}
use Rattle.wasi_bodies.specs.supplies.Random.{seeded}
use Rattle.wasi_calls.specs.host.Making.{preopens_of}
use Rattle.sandbox_core.specs.Devices.{Devices}
use Rattle.sandbox_core.specs.declared.fault.SessionFault.{SessionFault}
use Rattle.sandbox_core.specs.declared.fault.SessionFault.TheVariants.{Setting, Device, Preopen, Memory}
use Rattle.sandbox_core.specs.declared.fault.SessionFault.TheVariants.{Instance as NoInstance}
use Rattle.plugin_core.specs.Handling.{Act, act_of, answered, invoked}
pub use Rattle.plugin_session.specs.States.{links, InstanceState, session_of, OpensBy, DoesBy}

module _ {D R W1 W2 : Type 0} where
  abbrev pub used_by : InstanceState D R W1 W2 → ℕ
  used_by s = s.machine.used

  -- the same instance, whose random bytes are those of a seed from now on
  abbrev pub seeded_by : ℕ → InstanceState D R W1 W2 → InstanceState D R W1 W2
  seeded_by seed s = record s { host = record s.host { generator = Some (seeded seed) } }

  -- the same instance, interactive from now on, with these terminals
  abbrev pub interactive_with : Terminals → InstanceState D R W1 W2 → InstanceState D R W1 W2
  interactive_with terminals s = record s { host = record s.host { interactive = Some terminals } }

  -- the same instance, whose guest's stack has this many values at most from now on, or as many as find room already
  abbrev pub limited_to : ℕ → InstanceState D R W1 W2 → InstanceState D R W1 W2
  limited_to most s = record s { machine = limited most s.machine }

  -- by the relation that the machine has
  abbrev pub OpensWith : Option ℕ → Option Terminals → Module → HostParts D R W1 W2 → InstanceState D R W1 W2 → Type 0
  OpensWith seed terminals m parts s = OpensBy Represents seed terminals m parts s

  -- as a new instance does
  abbrev pub Opens : Module → HostParts D R W1 W2 → InstanceState D R W1 W2 → Type 0
  Opens m parts s = OpensWith None None m parts s

-- how units rise until an event: all that were given are used where the next step would take one more
abbrev pub RisesBy : Event → ℕ → ℕ → ℕ → Type 0
RisesBy (events.Paused p) units before after = UnitsRise p units before after
RisesBy events.Returned units before after = (before ≤ after) × (after ≤ before + units)
RisesBy (events.Asked x) units before after = (before ≤ after) × (after ≤ before + units)

-- an answered call takes a unit, or enters a function that was to be entered: an instance that goes on and on comes to an end
abbrev pub Progresses : Event → Snapshot → Snapshot → Type 0
Progresses (events.Paused p) old new = CallProgresses p old new
Progresses events.Returned old new = Unit {0}
Progresses (events.Asked x) old new = Unit {0}

-- an instance of the module can be opened, with at most this many pages
abbrev pub IsOpenable : Module → ℕ → Type 0
IsOpenable m pages = (s : Snapshot) × machine.Opens links pages m s

-- The reason of a refusal, in this order: the settings exactly where they don't fit, the module exactly where it has no instance, the
-- volume where it has failed then, and a path exactly where it names no directory.
abbrev pub IsRefused : {D R W1 W2 : Type 0} → (D → Type 0) → SessionFault → Module → HostParts D R W1 W2 → Type 0
IsRefused honest Setting m parts = settings_fit parts.settings ≡ false
IsRefused honest (NoInstance f) m parts = (settings_fit parts.settings ≡ true) × (f ≢ NoMemory) × NotAllocated links parts.settings.pages m f
IsRefused honest Device m parts = (settings_fit parts.settings ≡ true) × IsOpenable m parts.settings.pages
IsRefused honest Preopen m parts = (settings_fit parts.settings ≡ true) × IsOpenable m parts.settings.pages
    × (honest parts.volume.device → preopens_of parts.volume.tree parts.settings.preopens.now ≡ None)
IsRefused honest Memory m parts = settings_fit parts.settings ≡ true

module _ {D R W1 W2 : Type 0} (on : Devices D R W1 W2) where
  -- what a call of an instance does, by the relation that its machine has
  abbrev pub Does : InstanceState D R W1 W2 → Act → InstanceState D R W1 W2 → Type 0
  Does old k new = DoesBy Represents on old k new

  -- a function that is exported by this name is entered next
  abbrev pub Invokes : InstanceState D R W1 W2 → InstanceState D R W1 W2 → List ℕ → List ℕ → Type 0
  Invokes old new name arguments = (x : ℕ) × Contains old.machine.valid.exports (record { name = name; kind = exports.Function x }) × Does old (invoked x arguments) new

  -- it went on for at most these units, until this event
  pub record Goes (old new : InstanceState D R W1 W2) (units : ℕ) (e : Event) : Type 0 where
    pub does : Does old (act_of e new.machine) new
    pub within : RisesBy e units (used_by old) (used_by new)
    pub progress : Progresses e old.machine new.machine

  -- the embedder has answered what it was asked for, with these results
  abbrev pub Answers : InstanceState D R W1 W2 → InstanceState D R W1 W2 → List ℕ → Type 0
  Answers old new results = (x : ℕ) × (arguments : List ℕ) × Does old (answered old.machine.memory x arguments results) new
