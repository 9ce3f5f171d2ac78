-- What is done with an instance through its machine, one call of it after another: what these calls promise makes it a life of the
-- instance. What is said of each call stands at `InvokedMachine` of wasm_interp.
use Rattle.std.specs.Prelude.{◌≡◌, ℕ, List, [], ◌∷◌, length, reverse, slice_get, Some, Contains}
use Rattle.wasm_syntax.specs.declared.instruction.ValueType.{ValueType}
use Rattle.wasm_syntax.specs.declared.module.ExportKind.TheVariants as exports
use Rattle.wasm_syntax.specs.declared.module.FuncType.{FuncType}
use Rattle.wasm_syntax.specs.declared.module.Module.{Module}
use Rattle.wasm_steps.specs.declared.pause.Outcome.{Outcome}
use Rattle.wasm_steps.specs.declared.pause.Outcome.TheVariants.{Exited, Trapped, OutOfMemory}
use Rattle.wasm_steps.specs.declared.pause.Pause.{Pause}
use Rattle.wasm_steps.specs.declared.pause.Pause.TheVariants.{Called, Spent, Ended}
use Rattle.wasm_num.specs.declared.trap.Trap.{Trap}
use Rattle.wasm_store.specs.declared.call.HostCall.{HostCall}
use Rattle.wasm_store.specs.declared.call.Errno.{Errno}
use Rattle.wasm_store.specs.Allocation.{AllLinks}
use Rattle.wasm_store.specs.Instances.{outside}
use Rattle.wasm_steps.specs.Configuration.{Val, numbers, Instance, Configuration, store_of}
use Rattle.wasm_steps.specs.Steps.{CallsOf}
use Rattle.wasm_places.specs.declared.invocable.Event.{Event}
use Rattle.wasm_places.specs.declared.invocable.Event.TheVariants as event
use Rattle.wasm_operands.specs.Snapshots.{Snapshot, StandsFor}
use Rattle.wasm_interp.specs.Promises.{PausesBy}
use Rattle.wasm_interp.specs.Invocations.{AnswersBy, AsksBy, InvokesBy, LetsGoBy, OpensBy, ReturnsBy, TellsStores, WritesBy, results_of, values_of}
use Rattle.plugin_steps.specs.Serving.{Exchange}
use Rattle.plugin_steps.specs.Lives.{returns, traps, exits, is_abandoned}
use Rattle.plugin_steps.specs.Deeds.{Deed, went, ended, invocations}
use Rattle.plugin_steps.specs.Deeds as deeds
use Rattle.plugin_core.specs.declared.stage.Stage.{Stage}
use Rattle.plugin_core.specs.declared.stage.Stage.TheVariants.{Opening, AskedOpening, Ready, Running, Asked, Stopped, Over}
use Rattle.plugin_core.specs.WholeLives.{Life}

-- what was done, and what was told of it
pub data Act : Type 0 where
  -- an exported function is entered with these arguments
  invoked : ℕ → List ℕ → Act
  -- memory was left so by the embedder
  wrote : List ℕ → Act
  -- what was at work is let go
  abandoned : Act
  -- the machine went on: it paused, what was invoked returned with these results, or the embedder was asked for an import
  paused : Pause → Act
  returned : List ℕ → Act
  asked : ℕ → Act
  -- with this memory the embedder's function for an import, which got these arguments, the last one first, gave these results
  answered : List ℕ → ℕ → List ℕ → List ℕ → Act

-- what an event tells
abbrev pub act_of : Event → Snapshot → Act
act_of event.Returned s = returned (results_of s)
act_of (event.Asked x) s = asked x
act_of (event.Paused p) s = paused p

-- ---- in what order

abbrev pub ended_at : Stage → Outcome → Stage
ended_at Running (Exited n) = Over
ended_at Running o = Stopped
ended_at g o = Over

-- the opening gives no result
abbrev pub returned_at : Stage → List ℕ → Stage
returned_at Running ns = Ready
returned_at g [] = Ready
returned_at g (n ∷ ns) = Over

abbrev pub asked_at : Stage → Stage
asked_at Opening = AskedOpening
asked_at g = Asked

abbrev pub answered_at : Stage → Stage
answered_at AskedOpening = Opening
answered_at g = Running

abbrev pub let_go_at : Stage → Stage
let_go_at Opening = Over
let_go_at AskedOpening = Over
let_go_at g = Ready

abbrev pub after : Stage → Act → Stage
after g (invoked x args) = Running
after g (wrote memory) = g
after g abandoned = let_go_at g
after g (paused (Called call e)) = g
after g (paused Spent) = g
after g (paused (Ended o)) = ended_at g o
after g (returned ns) = returned_at g ns
after g (asked x) = asked_at g
after g (answered memory x args results) = answered_at g

-- nothing runs
abbrev pub Rests : Stage → Type 0
Rests Ready = Unit {0}
Rests Stopped = Unit {0}
Rests g = ⊥

-- a function is at work
abbrev pub Goes : Stage → Type 0
Goes Opening = Unit {0}
Goes Running = Unit {0}
Goes g = ⊥

-- the embedder is asked
abbrev pub Asks : Stage → Type 0
Asks AskedOpening = Unit {0}
Asks Asked = Unit {0}
Asks g = ⊥

-- nothing runs, and nothing has stopped; or the embedder is asked
abbrev pub IsWritable : Stage → Type 0
IsWritable Ready = Unit {0}
IsWritable g = Asks g

abbrev pub IsOpen : Stage → Type 0
IsOpen Over = ⊥
IsOpen g = Unit {0}

abbrev pub MayDo : Stage → Act → Type 0
MayDo g (invoked x args) = Rests g
MayDo g (wrote memory) = IsWritable g
MayDo g abandoned = IsOpen g
MayDo g (paused p) = Goes g
MayDo g (returned ns) = Goes g
MayDo g (asked x) = Goes g
MayDo g (answered memory x args results) = Asks g

-- ---- by what the calls of the machine promise, whichever relation it stands for configurations by

module _ (Stands : StandsFor) (H : Type 0) (Calls : CallsOf H) (m : Module) where
  pub data Handled : H → Snapshot → Act → H → Snapshot → Type 0 where
    invokes : {h : H} {s t : Snapshot} (x : ℕ) (args name : List ℕ) → Contains m.exports (record { name = name; kind = exports.Function x }) → InvokesBy Stands s t x args → Handled h s (invoked x args) h t
    writes : {h : H} {s t : Snapshot} (memory : List ℕ) → length memory ≡ length s.memory → WritesBy Stands s t memory → Handled h s (wrote memory) h t
    lets_go : {h : H} {s t : Snapshot} → LetsGoBy Stands s t → Handled h s abandoned h t
    pauses : {h h' : H} {s t : Snapshot} (units : ℕ) (p : Pause) → PausesBy Stands H Calls h h' s t units p → Handled h s (paused p) h' t
    has_returned : {h h' : H} {s t : Snapshot} (units : ℕ) → ReturnsBy Stands H Calls h h' s t units → Handled h s (returned (results_of t)) h' t
    asks : {h h' : H} {s t : Snapshot} (units x : ℕ) → AsksBy Stands H Calls h h' s t units x → Handled h s (asked x) h' t
    answers : {h : H} {s t : Snapshot} (results : List ℕ) → (a : AnswersBy Stands s t results) → Handled h s (answered s.memory a.function a.arguments results) h t

  -- act after act, where each is allowed
  pub data Handles : Stage → H → Snapshot → List Act → H → Snapshot → Type 0 where
    stops : {g : Stage} {h : H} {s : Snapshot} → Handles g h s [] h s
    does : {g : Stage} {h h' h'' : H} {s t u : Snapshot} {ks : List Act} (k : Act) → MayDo g k → Handled h s k h' t → Handles (after g k) h' t ks h'' u → Handles g h s (k ∷ ks) h'' u

-- ---- what is told

-- import x of the instance is the embedder's function of this number
abbrev pub IsEmbedders : Instance → ℕ → ℕ → Type 0
IsEmbedders i x number = (f : FuncType) × (slice_get i.callees x ≡ Some (outside f number))

-- The deeds are what was told of an instance: the same functions with numbers as values of some types, the same calls of the host, the
-- same answers, and the same ends.
pub data AreTold (i : Instance) : List Act → List Deed → Type 0 where
  nothing : AreTold i [] []
  entered : {ks : List Act} {ds : List Deed} (ts : List ValueType) (x : ℕ) (args : List ℕ) → AreTold i ks ds → AreTold i (invoked x args ∷ ks) (deeds.invoked x (reverse (values_of ts args)) ∷ ds)
  written : {ks : List Act} {ds : List Deed} (memory : List ℕ) → AreTold i ks ds → AreTold i (wrote memory ∷ ks) ds
  let_go : {ks : List Act} {ds : List Deed} → AreTold i ks ds → AreTold i (abandoned ∷ ks) ds
  called : {ks : List Act} {ds : List Deed} (call : HostCall) (e : Errno) → AreTold i ks ds → AreTold i (paused (Called call e) ∷ ks) (went ((call, e) ∷ []) [] ∷ ds)
  spent : {ks : List Act} {ds : List Deed} → AreTold i ks ds → AreTold i (paused Spent ∷ ks) (went [] [] ∷ ds)
  exited : {ks : List Act} {ds : List Deed} (n : ℕ) → AreTold i ks ds → AreTold i (paused (Ended (Exited n)) ∷ ks) (went [] [] ∷ (ended (exits n) ∷ ds))
  -- nothing was left to enter
  came_to_an_end : {ks : List Act} {ds : List Deed} → AreTold i ks ds → AreTold i (paused (Ended (Exited 0)) ∷ ks) (went [] [] ∷ (ended (returns []) ∷ ds))
  trapped : {ks : List Act} {ds : List Deed} (t : Trap) → AreTold i ks ds → AreTold i (paused (Ended (Trapped t)) ∷ ks) (went [] [] ∷ (ended (traps t) ∷ ds))
  -- memory was refused
  refused : {ks : List Act} {ds : List Deed} → AreTold i ks ds → AreTold i (paused (Ended OutOfMemory) ∷ ks) (went [] [] ∷ (ended is_abandoned ∷ ds))
  came_back : {ks : List Act} {ds : List Deed} (ns : List ℕ) (vs : List Val) → numbers vs ≡ ns → AreTold i ks ds → AreTold i (returned ns ∷ ks) (went [] [] ∷ (ended (returns vs) ∷ ds))
  was_asked : {ks : List Act} {ds : List Deed} (x : ℕ) → AreTold i ks ds → AreTold i (asked x ∷ ks) (went [] [] ∷ ds)
  served : {ks : List Act} {ds : List Deed} (memory : List ℕ) (x : ℕ) (arguments results : List ℕ) (e : Exchange) → IsEmbedders i x e.function → numbers e.arguments ≡ arguments → numbers e.results ≡ results → e.left ≡ memory → AreTold i ks ds
      → AreTold i (answered memory x arguments results ∷ ks) (went [] (e ∷ []) ∷ ds)

-- From the opening on, whatever is done with the machine of an instance is its life, in which just that happened which was told: by
-- whichever relation that tells of stores the machine stands for configurations.
abbrev pub HandlingIsALife : StandsFor → (H : Type 0) → CallsOf H → Type 0
HandlingIsALife Stands H Calls = TellsStores Stands → (links : AllLinks) (pages : ℕ) (m : Module) (h h' : H) (s s' : Snapshot) (ks : List Act)
    → OpensBy Stands links pages m s → Handles Stands H Calls m Opening h s ks h' s'
    → (ds : List Deed) × (last : Configuration) × (life : Life H Calls links pages m h (invocations ds) h' (store_of last)) × AreTold life.instance ks ds
