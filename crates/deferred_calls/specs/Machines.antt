-- A machine that leaves calls to its embedder stands for the whole instance, too: what it promises over whichever relation it has, it
-- promises over this one.
use Rattle.std.specs.Prelude.{◌≡◌, ℕ, suc, ◌+◌, ◌-◌, ◌<◌, List, [], ◌∷◌, reverse, slice_get, Option, Some, None}
use Rattle.wasm_syntax.specs.declared.module.FuncType.{FuncType}
use Rattle.wasm_syntax.specs.declared.module.Module.{Module}
use Rattle.wasm_store.specs.declared.call.HostCall.{HostCall}
use Rattle.wasm_store.specs.declared.call.Errno.{Errno}
use Rattle.wasm_store.specs.declared.call.Answer.TheVariants.{Value as value}
use Rattle.wasm_store.specs.declared.linked.Linked.{Linked}
use Rattle.wasm_store.specs.declared.linked.Linked.TheVariants.{Host, Embedder}
use Rattle.wasm_store.specs.Allocation.{AllLinks}
use Rattle.wasm_store.specs.Instances.{outside}
use Rattle.wasm_steps.specs.declared.pause.Pause.{Pause}
use Rattle.wasm_steps.specs.declared.pause.Pause.TheVariants.{Called, Spent}
use Rattle.wasm_steps.specs.Configuration.{Instance, Configuration}
use Rattle.wasm_steps.specs.Steps.{CallsOf}
use Rattle.wasm_operands.specs.Snapshots.{Snapshot, StandsFor}
use Rattle.wasm_places.specs.FunctionTypes.{IsImportType}
use Rattle.wasm_interp.specs.Invocations.{AnswersBy, AsksBy, InvokesBy, LetsGoBy, OpensBy, ReturnsBy, TellsStores, WritesBy}
use Rattle.wasm_interp.specs.Promises.{PausesBy, ResumedBy}
use Rattle.deferred_calls.specs.Whole.{whole}

-- the call that a module's import is deferred from, by its index
abbrev pub Deferring : Type 0
Deferring = Module → ℕ → Option HostCall

-- who answers an import of the whole instance
abbrev pub whole_link : Option HostCall → Linked → Linked
whole_link o (Host call) = Host call
whole_link None (Embedder k) = Embedder k
whole_link (Some call) (Embedder k) = Host call

-- these links leave to the embedder what is deferred of the others, each import of the module under its index
pub record AreParts (deferred : Deferring) (m : Module) (links parts : AllLinks) : Type 0 where
  pub whole : (n : ℕ) (f : FuncType) (t : IsImportType m n f) (l : Linked) → parts n t.import.module_name t.import.name f ≡ Some l
      → links n t.import.module_name t.import.name f ≡ Some (whole_link (deferred m n) l)
  pub numbered : (n : ℕ) (f : FuncType) (t : IsImportType m n f) (number : ℕ) → parts n t.import.module_name t.import.name f ≡ Some (Embedder number) → number ≡ n

module _ (deferred : Deferring) (Stands : StandsFor) where
  -- it stands for a configuration of an instance whose functions of the embedder are numbered by their imports, and this is the whole one
  pub record StandsForWhole (s : Snapshot) (i : Instance) (c : Configuration) : Type 0 where
    pub part : Instance
    pub is_whole : i ≡ whole (deferred s.valid) part
    pub numbered : (x number : ℕ) (f : FuncType) → slice_get part.callees x ≡ Some (outside f number) → number ≡ x
    pub stands : Stands s part c

  -- A deferred call that the host answered: the machine asked for it with a unit left, the host answered over its memory, which was left so,
  -- and the embedder gave that number.
  pub record GrantsBy (H : Type 0) (Calls : CallsOf H) (h h' h'' : H) (old new : Snapshot) (units : ℕ) (call : HostCall) (e : Errno) : Type 0 where
    pub asking : Snapshot
    pub function : ℕ
    pub asks : AsksBy Stands H Calls h h' old asking units function
    pub unit_left : asking.used < old.used + units
    pub memory : List ℕ
    pub written : Snapshot
    pub writes : WritesBy Stands asking written memory
    pub answers : AnswersBy Stands written new (e.0 ∷ [])
    pub is_deferred : deferred old.valid answers.function ≡ Some call
    pub answered : Calls h' asking.memory (suc asking.used) call (reverse answers.arguments) h'' memory (value e)

module _ (deferred : Deferring) (Stands : StandsFor) (H : Type 0) (Calls : CallsOf H) where
  abbrev pub Whole : StandsFor
  Whole = StandsForWhole deferred Stands

  -- whatever is done with the machine is done with a machine of the whole instance
  pub record MachinesDefer : Type 0 where
    pub tells : TellsStores Stands → TellsStores Whole
    pub opens : (links parts : AllLinks) (pages : ℕ) (m : Module) (new : Snapshot) → AreParts deferred m links parts → OpensBy Stands parts pages m new → OpensBy Whole links pages m new
    pub invokes : (old new : Snapshot) (x : ℕ) (args : List ℕ) → InvokesBy Stands old new x args → InvokesBy Whole old new x args
    pub writes : (old new : Snapshot) (memory : List ℕ) → WritesBy Stands old new memory → WritesBy Whole old new memory
    pub lets_go : (old new : Snapshot) → LetsGoBy Stands old new → LetsGoBy Whole old new
    pub returns : (h h' : H) (old new : Snapshot) (units : ℕ) → ReturnsBy Stands H Calls h h' old new units → ReturnsBy Whole H Calls h h' old new units
    pub resumes : (h h' : H) (old new : Snapshot) (units : ℕ) (p : Pause) → ResumedBy Stands H Calls h h' old new units p → ResumedBy Whole H Calls h h' old new units p
    pub asks : (h h' : H) (old new : Snapshot) (units x : ℕ) → AsksBy Stands H Calls h h' old new units x → AsksBy Whole H Calls h h' old new units x
    -- the answer of a function that isn't deferred
    pub answers : (old new : Snapshot) (results : List ℕ) → (a : AnswersBy Stands old new results) → deferred old.valid a.function ≡ None → AnswersBy Whole old new results
    -- asked for one it stands where the units that it has used are used up
    pub waits : (h h' : H) (old new : Snapshot) (units x : ℕ) → AsksBy Stands H Calls h h' old new units x → PausesBy Whole H Calls h h' old new (new.used - old.used) Spent
    -- and with the host's answer the call was answered
    pub grants : TellsStores Stands → (h h' h'' : H) (old new : Snapshot) (units : ℕ) (call : HostCall) (e : Errno) → GrantsBy deferred Stands H Calls h h' h'' old new units call e
        → PausesBy Whole H Calls h h'' old new units (Called call e)
