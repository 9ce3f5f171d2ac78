-- What lets an embedder leave some calls of the guest to the instance's own host, and say when it answers them.
use Rattle.std.specs.Prelude.{◌≡◌, ℕ, List, [], ◌∷◌, reverse}
use Rattle.wasm_syntax.specs.declared.instruction.ValueType.TheVariants.{I32}
use Rattle.wasm_syntax.specs.declared.module.FuncType.{FuncType}
use Rattle.wasm_store.specs.declared.call.HostCall.{HostCall}
use Rattle.wasm_store.specs.declared.call.Errno.{Errno}
use Rattle.wasm_store.specs.declared.call.Answer.TheVariants.{Value as value}
use Rattle.wasm_steps.specs.declared.pause.Pause.{Pause}
use Rattle.wasm_places.specs.declared.invocable.Event.{Event}
use Rattle.wasm_places.specs.declared.invocable.Event.TheVariants.{Returned, Asked, Paused}
use Rattle.wasm_interp.specs.Machine.{Snapshot}
use Rattle.wasm_interp.specs.Promise.{Resumed}
use Rattle.wasm_interp.specs.Invoking as machine
use Rattle.wasi_fd.specs.Table.{table_of}
use Rattle.wasi_bodies.specs.host.Worlds.{HostState}
use Rattle.wasi_calls.specs.host.Wanting.{WantsInput}
use Rattle.sandbox_core.specs.Devices.{Devices, Calls}
use Rattle.plugin_core.specs.declared.stage.Stage.{Stage}
use Rattle.plugin_core.specs.Handling.{Goes, act_of, after}
use Rattle.plugin_session.specs.States.{InstanceState}

-- where an instance is after an event: where it was, while it isn't settled who answers what is asked
abbrev pub stage_to : Event → Stage → Snapshot → Stage
stage_to (Asked x) g s = g
stage_to Returned g s = after g (act_of Returned s)
stage_to (Paused p) g s = after g (act_of (Paused p) s)

-- if the embedder is asked, the import gives one i32
abbrev pub GivesErrno : Snapshot → Type 0
GivesErrno s = (x : ℕ) (f : FuncType) (arguments : List ℕ) → machine.IsAskedFor s x f arguments → f.results ≡ I32 ∷ []

module _ {D R W1 W2 : Type 0} (on : Devices D R W1 W2) where
  abbrev pub Host : Type 0
  Host = HostState D R W1 W2

  -- it went on for at most these units, until this event
  pub record GoesTo (old new : InstanceState D R W1 W2) (units : ℕ) (e : Event) : Type 0 where
    pub may : Goes old.stage
    pub returned : e ≡ Returned → machine.Returns Host (Calls on) old.host new.host old.machine new.machine units
    pub asked : (x : ℕ) → e ≡ Asked x → machine.IsAsked Host (Calls on) old.host new.host old.machine new.machine units x
    pub paused : (p : Pause) → e ≡ Paused p → Resumed Host (Calls on) old.host new.host old.machine new.machine units p
    pub stage : new.stage ≡ stage_to e old.stage new.machine

  -- the host has answered what the embedder was asked, with this number
  pub record Grants (old new : InstanceState D R W1 W2) (call : HostCall) (e : Errno) : Type 0 where
    pub offered : Snapshot
    pub offers : machine.IsOffered Host (Calls on) old.host new.host old.machine offered call (value e)
    pub answers : machine.Answers offered new.machine (e.0 ∷ [])
    pub stage : new.stage ≡ old.stage

module _ {D R W1 W2 : Type 0} where
  -- The guest stands before a call of the embedder's, and an `fd_read` with its arguments asks for so many bytes of the input.
  pub record Wants (s : InstanceState D R W1 W2) (count : ℕ) : Type 0 where
    pub function : ℕ
    pub func_type : FuncType
    pub arguments : List ℕ
    pub asked_for : machine.IsAskedFor s.machine function func_type (reverse arguments)
    pub wants : WantsInput (table_of s.host.descriptors) s.machine.memory arguments count
