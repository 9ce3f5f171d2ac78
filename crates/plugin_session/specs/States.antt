-- What callers see of an instance, how one is opened, and what each call of it does, by whichever relation machines stand for
-- configurations: `Instance` says it by the machine's own.
use Rattle.std.specs.Prelude.{◌≡◌, ℕ, true, false, codes, Option}
use Rattle.std.specs.Option.{option_map}
use Rattle.wasm_syntax.specs.declared.module.Module.{Module}
use Rattle.wasm_store.specs.Allocation.{AllLinks, with_embedder}
use Rattle.wasm_operands.specs.Snapshots.{Snapshot, StandsFor}
use Rattle.wasm_interp.specs.Invocations as machine
use Rattle.wasi_bodies.specs.declared.streams.Terminals.{Terminals}
use Rattle.wasi_calls.specs.declared.host.wasi_host.HostParts.{HostParts}
use Rattle.wasi_bodies.specs.host.Settings.{settings_fit}
use Rattle.wasi_calls.specs.host.Links.{link}
use Rattle.wasi_bodies.specs.supplies.Random.{seeded}
use Rattle.wasi_bodies.specs.host.Worlds.{HostState}
use Rattle.sandbox_core.specs.Devices.{Devices, Calls}
use Rattle.sandbox_core.specs.Sessions.{SessionState}
use Rattle.plugin_core.specs.declared.stage.Stage.{Stage}
use Rattle.plugin_core.specs.declared.stage.Stage.TheVariants.{Opening}
use Rattle.plugin_core.specs.Handling.{Act, Handled, MayDo, after}

-- who answers an import: the host, and else the embedder, but none of WASI's
abbrev pub links : AllLinks
links = with_embedder link (codes "wasi_snapshot_preview1")

-- what callers see of an instance
pub record InstanceState (D R W1 W2 : Type 0) : Type 0 where
  pub machine : Snapshot
  pub host : HostState D R W1 W2
  pub stage : Stage

-- its machine and its host alone
abbrev pub session_of : {D R W1 W2 : Type 0} → InstanceState D R W1 W2 → SessionState D R W1 W2
session_of s = record { machine = s.machine; host = s.host }

module _ {D R W1 W2 : Type 0} (Stands : StandsFor) where
  -- The settings fit, the machine stands for the module's first configuration, no stream has failed, and random bytes come from this
  -- seed; where there is none, from the settings. Where there are terminals, it is interactive with these.
  pub record OpensBy (seed : Option ℕ) (terminals : Option Terminals) (m : Module) (parts : HostParts D R W1 W2) (s : InstanceState D R W1 W2) : Type 0 where
    pub fits : settings_fit parts.settings ≡ true
    pub opens : machine.OpensBy Stands links parts.settings.pages m s.machine
    pub input : s.host.input ≡ record { reader = parts.input; failed = false; ended = false }
    pub out : s.host.out ≡ record { writer = parts.out; failed = false }
    pub err : s.host.err ≡ record { writer = parts.err; failed = false }
    pub settings : s.host.settings ≡ parts.settings
    pub supply : s.host.generator ≡ option_map seeded seed
    pub interactive : s.host.interactive ≡ terminals
    pub stage : s.stage ≡ Opening

module _ {D R W1 W2 : Type 0} (Stands : StandsFor) (on : Devices D R W1 W2) where
  -- what a call of an instance does with its machine and its host, where it is allowed
  pub record DoesBy (old : InstanceState D R W1 W2) (k : Act) (new : InstanceState D R W1 W2) : Type 0 where
    pub may : MayDo old.stage k
    pub handled : Handled Stands (HostState D R W1 W2) (Calls on) old.machine.valid old.host old.machine k new.host new.machine
    pub stage : new.stage ≡ after old.stage k
