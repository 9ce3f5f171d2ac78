-- An instance whose input goes on, and what each call of it does: an act of the whole instance, whose host answers reads itself.
use Rattle.std.specs.Prelude.{◌≡◌, ◌≢◌, ◌⊎◌, ◌<◌, ◌≤◌, ◌+◌, ℕ, Bool, true, false, List, length, Contains, Option, None, Some}
use Rattle.std.specs.declared.io.Write.{Ghosts as Writer}
use Rattle.vol_sector.specs.declared.device.Device.{Ghosts}
use Rattle.wasm_syntax.specs.declared.module.ExportKind.TheVariants as exports
use Rattle.wasm_syntax.specs.declared.module.FuncType.{FuncType}
use Rattle.wasm_syntax.specs.declared.module.Module.{Module}
use Rattle.wasm_store.specs.declared.call.HostCall.TheVariants.{FdRead}
use Rattle.wasm_steps.specs.declared.pause.Pause.TheVariants.{Spent}
use Rattle.wasm_places.specs.declared.invocable.Event.{Event}
use Rattle.wasm_operands.specs.Snapshots.{Snapshot, StandsFor}
use Rattle.wasm_store.specs.declared.fault.InstanceFault.TheVariants.{Memory as NoMemory}
use Rattle.wasm_store.specs.Allocating.{NotAllocated}
use Rattle.wasm_interp.specs.Invocations as machine
use Rattle.wasm_interp.specs.Invocations.{IsAskedFor}
use Rattle.wasm_interp.specs.Machine.{Represents}
use Rattle.wasi_bodies.specs.host.Settings.{settings_fit}
use Rattle.wasi_bodies.specs.host.Worlds.{StreamCalls}
use Rattle.wasi_calls.specs.declared.host.wasi_host.HostParts.{HostParts}
use Rattle.wasi_calls.specs.host.Making.{preopens_of}
use Rattle.sandbox_core.specs.Devices.{Devices}
use Rattle.sandbox_core.specs.declared.fault.SessionFault.{SessionFault}
use Rattle.sandbox_core.specs.declared.fault.SessionFault.TheVariants as faults
use Rattle.plugin_core.specs.Handling.{Act, act_of, answered, invoked, paused}
use Rattle.plugin_session.specs.States.{DoesBy, InstanceState, OpensBy, links}
use Rattle.plugin_session.specs.Instance as instance
use Rattle.plugin_session.specs.Instance.{RisesBy}
use Rattle.plugin_session.specs.Refusals.{RefusesAnswer}
use Rattle.plugin_session.specs.Deferring.{Wants}
use Rattle.plugin_session.specs.declared.handling.Misuse.{Misuse}
use Rattle.plugin_session.specs.declared.handling.Misuse.TheVariants.{NotAsked}
use Rattle.deferred_calls.specs.Machines.{StandsForWhole}
use Rattle.fed_input.specs.Feeding.{Fed, fed, left_of}
use Rattle.fed_input.specs.Wholes.{going_on, in_memory}
use Rattle.fed_session.specs.Waiting.{deferred_at, parts_at}
use Rattle.fed_session.specs.declared.feeding.FedEvent.{FedEvent}
use Rattle.fed_session.specs.declared.feeding.FedEvent.TheVariants as events

-- what is known of the device and of the writers
pub record Around (D W1 W2 : Type 0) : Type 1 where
  pub device : Ghosts D
  pub out : Writer W1
  pub err : Writer W2
  pub out_calls : StreamCalls W1
  pub err_calls : StreamCalls W2

abbrev pub around : {D W1 W2 : Type 0} → Ghosts D → Writer W1 → Writer W2 → (W1 → List ℕ → W1 → Type 0) → (W1 → W1 → Type 0) → (W2 → List ℕ → W2 → Type 0) → (W2 → W2 → Type 0) → Around D W1 W2
around device out err out_took out_refused err_took err_refused = record {
  device = device;
  out = out;
  err = err;
  out_calls = record { moved = out_took; refused = out_refused };
  err_calls = record { moved = err_took; refused = err_refused };
}

module _ {D W1 W2 : Type 0} where
  -- with an input that goes on
  abbrev pub fed_devices : Around D W1 W2 → Devices D Fed W1 W2
  fed_devices a = record {
    device = a.device;
    input = record { remaining = λ f. Some (left_of f) };
    out = a.out;
    err = a.err;
    ear = record { input = going_on; out = a.out_calls; err = a.err_calls };
  }

  -- ...and with one that is bytes in memory
  abbrev pub whole_devices : Around D W1 W2 → Devices D (List ℕ) W1 W2
  whole_devices a = record {
    device = a.device;
    input = record { remaining = λ bytes. Some bytes };
    out = a.out;
    err = a.err;
    ear = record { input = in_memory; out = a.out_calls; err = a.err_calls };
  }

-- what callers see of it
pub record FedState (D W1 W2 : Type 0) : Type 0 where
  pub instance : InstanceState D Fed W1 W2
  -- whether reads wait
  pub goes_on : Bool

-- the machine stands for the whole instance
abbrev pub RepresentsWhole : Bool → StandsFor
RepresentsWhole goes_on = StandsForWhole (deferred_at goes_on) Represents

-- an instance of the module can be opened, with at most this many pages
abbrev pub IsOpenable : Bool → Module → ℕ → Type 0
IsOpenable goes_on m pages = (s : Snapshot) × machine.OpensBy (RepresentsWhole goes_on) links pages m s

module _ {D W1 W2 : Type 0} where
  abbrev pub used_by : FedState D W1 W2 → ℕ
  used_by s = s.instance.machine.used

  -- the same with another input
  abbrev pub with_input : InstanceState D Fed W1 W2 → Fed → InstanceState D Fed W1 W2
  with_input s f = record s { host = record s.host { input = record s.host.input { reader = f } } }

  -- bytes were handed over, before it was said that no more come
  pub record Feeds (old new : InstanceState D Fed W1 W2) (bytes : List ℕ) : Type 0 where
    pub goes_on : old.host.input.reader.ended ≡ false
    pub is : new ≡ with_input old (fed bytes old.host.input.reader)

  -- it was said that no more come
  abbrev pub Ends : InstanceState D Fed W1 W2 → InstanceState D Fed W1 W2 → Type 0
  Ends old new = new ≡ with_input old (record { bytes = old.host.input.reader.bytes; ended = true })

  -- as a new instance of the module does, with the links of the whole
  abbrev pub Opens : Bool → Module → HostParts D Fed W1 W2 → InstanceState D Fed W1 W2 → Type 0
  Opens goes_on m parts s = OpensBy (RepresentsWhole goes_on) None None m parts s

  -- Why none is opened: as for any instance (`IsRefused` of plugin_session), by the links that its machine has.
  abbrev pub IsRefused : Bool → (D → Type 0) → SessionFault → Module → HostParts D Fed W1 W2 → Type 0
  IsRefused goes_on honest faults.Setting m parts = settings_fit parts.settings ≡ false
  IsRefused goes_on honest (faults.Instance f) m parts = (settings_fit parts.settings ≡ true) × (f ≢ NoMemory) × NotAllocated (parts_at goes_on) parts.settings.pages m f
  IsRefused goes_on honest faults.Device m parts = (settings_fit parts.settings ≡ true) × IsOpenable goes_on m parts.settings.pages
  IsRefused goes_on honest faults.Preopen m parts = (settings_fit parts.settings ≡ true) × IsOpenable goes_on m parts.settings.pages
      × (honest parts.volume.device → preopens_of parts.volume.tree parts.settings.preopens.now ≡ None)
  IsRefused goes_on honest faults.Memory m parts = settings_fit parts.settings ≡ true

  -- the guest stands before a read of the input that asks for more bytes than are there, and more may come
  pub record Starves (s : InstanceState D Fed W1 W2) (count : ℕ) : Type 0 where
    pub wants : Wants s count
    pub too_few : length s.host.input.reader.bytes < count
    pub goes_on : s.host.input.reader.ended ≡ false

  -- the guest stands before a read that waits: it is the host's to answer, and not the embedder's
  abbrev pub Waits : FedState D W1 W2 → Type 0
  Waits s = (x : ℕ) × (f : FuncType) × (arguments : List ℕ) × IsAskedFor s.instance.machine x f arguments × (deferred_at s.goes_on s.instance.machine.valid x ≡ Some FdRead)

  -- an answer is refused as that of any instance is, or because the guest waits
  abbrev pub RefusesAnswerOf : FedState D W1 W2 → List ℕ → Misuse → Type 0
  RefusesAnswerOf s results e = ((e ≡ NotAsked) × Waits s) ⊎ RefusesAnswer s.instance results e

-- what an event tells: one that starves has merely used its units
abbrev pub told_act : FedEvent → Snapshot → Act
told_act (events.Event e) s = act_of e s
told_act (events.Starved count) s = paused Spent

-- how units rise until an event
abbrev pub Rises : FedEvent → ℕ → ℕ → ℕ → Type 0
Rises (events.Event e) units before after = RisesBy e units before after
Rises (events.Starved count) units before after = (before ≤ after) × (after < before + units)

-- an answered call took a unit, or entered a function that was to be entered: an instance that goes on and on comes to an end, or waits
abbrev pub Progresses : FedEvent → Snapshot → Snapshot → Type 0
Progresses (events.Event e) old new = (old.used < new.used) ⊎ instance.Progresses e old new
Progresses (events.Starved count) old new = Unit {0}

module _ {D W1 W2 : Type 0} (a : Around D W1 W2) where
  -- what a call does, by the relation that the machine has for the whole instance
  abbrev pub Does : FedState D W1 W2 → Act → FedState D W1 W2 → Type 0
  Does old k new = DoesBy (RepresentsWhole old.goes_on) (fed_devices a) old.instance k new.instance × (new.goes_on ≡ old.goes_on)

  -- a function that is exported by this name is entered next
  abbrev pub Invokes : FedState D W1 W2 → FedState D W1 W2 → List ℕ → List ℕ → Type 0
  Invokes old new name arguments = (x : ℕ) × Contains old.instance.machine.valid.exports (record { name = name; kind = exports.Function x }) × Does old (invoked x arguments) new

  -- it went on for at most these units, until this event
  pub record Goes (old new : FedState D W1 W2) (units : ℕ) (e : FedEvent) : Type 0 where
    pub does : Does old (told_act e new.instance.machine) new
    pub within : Rises e units (used_by old) (used_by new)
    pub progress : Progresses e old.instance.machine new.instance.machine
    pub starves : (count : ℕ) → e ≡ events.Starved count → Starves new.instance count

  -- the embedder has answered what it was asked for, with these results
  abbrev pub Answers : FedState D W1 W2 → FedState D W1 W2 → List ℕ → Type 0
  Answers old new results = (x : ℕ) × (arguments : List ℕ) × Does old (answered old.instance.machine.memory x arguments results) new
