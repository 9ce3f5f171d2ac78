-- The steps of an instance that defers calls are those of the whole one, and a deferred call that the host answers is a step of it.
use Rattle.std.specs.Prelude.{◌≡◌, ℕ, List, [], reverse, slice_get, Option, Some, None}
use Rattle.wasm_syntax.specs.declared.module.FuncType.{FuncType}
use Rattle.wasm_store.specs.declared.call.HostCall.{HostCall}
use Rattle.wasm_store.specs.declared.call.Errno.{Errno}
use Rattle.wasm_store.specs.declared.call.Answer.TheVariants.{Value as value}
use Rattle.wasm_store.specs.Instances.{outside}
use Rattle.wasm_steps.specs.declared.pause.Pause.TheVariants.{Called}
use Rattle.wasm_steps.specs.Configuration.{Val, numbers, Instance, Store, Code, Configuration, at}
use Rattle.wasm_steps.specs.Outcomes.{Paused}
use Rattle.wasm_steps.specs.Steps.{CallsOf, Reach, given, tick}
use Rattle.plugin_steps.specs.Serving.{Exchange, ServeStep}
use Rattle.plugin_steps.specs.Asking.{Asks}
use Rattle.deferred_calls.specs.Whole.{whole}

abbrev pub StepsOfTheWhole : (H : Type 0) → CallsOf H → Type 0
StepsOfTheWhole H Calls = (deferred : ℕ → Option HostCall) (i : Instance) (h h' : H) (c d : Configuration) (es : List (HostCall × Errno))
    → Reach H Calls i h c es h' d → Reach H Calls (whole deferred i) h c es h' d

-- Stopped before a deferred call, the embedder lets the host answer it: over the memory that is there, with the unit of the call and its
-- arguments. Then it leaves the memory that the host left, and gives what the host answered.
pub record Grants (H : Type 0) (Calls : CallsOf H) (deferred : ℕ → Option HostCall) (i : Instance) (h : H) (s : Store) (f : List Val) (c : Code) (call : HostCall) (e : Errno) (h' : H) (d : Configuration) : Type 0 where
  pub function : ℕ
  pub func_type : FuncType
  pub asked : Code
  pub asks : Asks i function s c asked
  pub exchange : Exchange
  pub is_callee : slice_get i.callees function ≡ Some (outside func_type exchange.function)
  pub is_deferred : deferred exchange.function ≡ Some call
  pub answered : Calls h s.memory (tick s).used call (numbers (reverse exchange.arguments)) h' exchange.left (value e)
  pub serves : ServeStep i (at (record (tick s) { memory = exchange.left }) f asked) exchange d
  pub results_are : exchange.results ≡ given func_type.results e

-- that is the call of the whole instance, and its answer
abbrev pub GrantIsTheCall : (H : Type 0) → CallsOf H → Type 0
GrantIsTheCall H Calls = (deferred : ℕ → Option HostCall) (i : Instance) (h h' : H) (s : Store) (f : List Val) (c : Code) (call : HostCall) (e : Errno) (d : Configuration)
    → Grants H Calls deferred i h s f c call e h' d → Paused H Calls (whole deferred i) (Called call e) h (at s f c) h' d

-- where a function is asked for, it is in the whole instance
abbrev pub AsksInTheWhole : Type 0
AsksInTheWhole = (deferred : ℕ → Option HostCall) (i : Instance) (x : ℕ) (s : Store) (c asked : Code) → Asks i x s c asked → Asks (whole deferred i) x s c asked

-- an answer of another function of the embedder is one in the whole instance
abbrev pub ServesTheWhole : Type 0
ServesTheWhole = (deferred : ℕ → Option HostCall) (i : Instance) (c d : Configuration) (e : Exchange) → deferred e.function ≡ None → ServeStep i c e d → ServeStep (whole deferred i) c e d
