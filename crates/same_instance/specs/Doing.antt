-- What an instance does by the actions of whoever embeds it, by whichever relation machines stand for configurations: as its calls promise.
use Rattle.std.specs.Prelude.{◌≡◌, ℕ, List, [], ◌∷◌, Contains}
use Rattle.wasm_syntax.specs.declared.module.ExportKind.TheVariants as exports
use Rattle.wasm_store.specs.Bytes.{written}
use Rattle.wasm_steps.specs.declared.pause.Outcome.TheVariants.{Exited}
use Rattle.wasm_steps.specs.declared.pause.Pause.TheVariants.{Ended}
use Rattle.wasm_steps.specs.Configuration.{Instance, stopped, exited, Configuration, code_of}
use Rattle.wasm_places.specs.declared.invocable.Event.{Event}
use Rattle.wasm_operands.specs.Snapshots.{StandsFor}
use Rattle.sandbox_core.specs.Devices.{Devices}
use Rattle.plugin_core.specs.Handling.{Act, abandoned, act_of, answered, asked, invoked, paused, wrote, IsEmbedders}
use Rattle.plugin_session.specs.States.{DoesBy, InstanceState}
use Rattle.plugin_session.specs.Headline.{History}
use Rattle.same_instance.specs.Turns.{Action, go, answer, write, invoke, abandon, TakesUnits}

module _ {D R W1 W2 : Type 0} (Stands : StandsFor) (on : Devices D R W1 W2) where
  abbrev pub State : Type 0
  State = InstanceState D R W1 W2

  -- Where the embedder is asked, it is for a function of its own; and what is told to have exited has called `proc_exit`.
  abbrev pub IsClear : Act → State → Type 0
  IsClear (asked x) new = (i : Instance) (c : Configuration) → Stands new.machine i c → (k : ℕ) × IsEmbedders i x k
  IsClear (paused (Ended (Exited n))) new = (i : Instance) (c : Configuration) → Stands new.machine i c → code_of c ≡ stopped (exited n)
  IsClear k new = Unit {0}

  -- What is told of each action. No clause of `go` says that it is clear, and that an ask leaves the unit of its call.
  abbrev pub IsToldOf : Action → Act → State → State → Type 0
  IsToldOf (go units) k old new = ((e : Event) × (k ≡ act_of e new.machine)) × TakesUnits k units old.machine.used new.machine.used × IsClear k new
  IsToldOf (answer results) k old new = (x : ℕ) × (arguments : List ℕ) × (k ≡ answered old.machine.memory x arguments results)
  IsToldOf (write address bytes) k old new = k ≡ wrote (written old.machine.memory address bytes)
  IsToldOf (invoke name arguments) k old new = (x : ℕ) × Contains old.machine.valid.exports (record { name = name; kind = exports.Function x }) × (k ≡ invoked x arguments)
  IsToldOf abandon k old new = k ≡ abandoned

  pub record DoneBy (old : State) (a : Action) (k : Act) (new : State) : Type 0 where
    pub does : DoesBy Stands on old k new
    pub told : IsToldOf a k old new

  -- one action after another, each told so
  abbrev pub FollowActions : State → List Action → History State → State → Type 0
  FollowActions s [] [] s' = s' ≡ s
  FollowActions s (a ∷ actions) (r ∷ rs) s' = DoneBy s a r.0 r.1 × FollowActions r.1 actions rs s'
  FollowActions s actions rs s' = ⊥
