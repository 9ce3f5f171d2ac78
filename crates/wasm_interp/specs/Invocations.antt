-- What a machine promises whose exported functions are called one after another, each over the store that is there then (section 4.5.5),
-- by whichever relation its snapshots stand for configurations: `Invoking` says it by the machine's own.
use Rattle.std.specs.Prelude.{◌≡◌, ◌⊎◌, ℕ, suc, ◌+◌, ◌<◌, ◌≤◌, ◌^◌, List, [], ◌∷◌, ◌++◌, length, take, drop, reverse, Option, Some, None, slice_get}
use Rattle.std.specs.List.{AllByRecursion}
use Rattle.std.specs.Option.{option_to_list}
use Rattle.wasm_syntax.specs.declared.instruction.ValueType.{ValueType}
use Rattle.wasm_syntax.specs.declared.module.FuncType.{FuncType}
use Rattle.wasm_syntax.specs.declared.module.Module.{Module}
use Rattle.wasm_syntax.specs.Nested.{done, invoke}
use Rattle.wasm_steps.specs.Operators.{width}
use Rattle.wasm_steps.specs.Configuration.{Val, val, numbers, Callee, signature_of, Instance, Store, first_configuration, Code, code, code_of, Configuration, at, store_of, used_by}
use Rattle.wasm_steps.specs.Steps.{CallsOf, Reach, tick}
use Rattle.wasm_store.specs.Allocation.{AllLinks, Allocates, HasInitializer}
use Rattle.wasm_store.specs.Instances.{outside}
use Rattle.wasm_store.specs.declared.call.Answer.{Answer}
use Rattle.wasm_store.specs.declared.call.HostCall.{HostCall}
use Rattle.wasm_store.specs.Values.{IsInType}
use Rattle.plugin_steps.specs.Serving.{Exchange, ServeStep, with_memory}
use Rattle.plugin_steps.specs.Asking.{Asks}
use Rattle.wasm_operands.specs.declared.phase.Phase.TheVariants.{Asking}
use Rattle.wasm_operands.specs.Snapshots.{Snapshot, StandsFor, outcome_of}
pub use Rattle.wasm_places.specs.FunctionTypes.{IsOwnType, IsImportType}

-- as many numbers as types, each in the range of its type
pub record Fit (ts : List ValueType) (ns : List ℕ) : Type 0 where
  pub count : length ns ≡ length ts
  pub each : (k : ℕ) (t : ValueType) (n : ℕ) → slice_get ts k ≡ Some t → slice_get ns k ≡ Some n → n < 2 ^ width t

-- numbers as values of these types
abbrev pub values_of : List ValueType → List ℕ → List Val
values_of [] ns = []
values_of (t ∷ ts) [] = []
values_of (t ∷ ts) (n ∷ ns) = val t n ∷ values_of ts ns

-- function x is entered with these arguments, over the store of a configuration
abbrev pub invocation_over : Configuration → List Val → ℕ → Configuration
invocation_over c args x = at (store_of c) [] (code (reverse args) (invoke x done))

-- The results of the function that has returned, the last one first: a function has one at most.
abbrev pub results_of : Snapshot → List ℕ
results_of s = s.state.values

-- the embedder is asked for import x, of this type, with these arguments, the last one first
pub record IsAskedFor (s : Snapshot) (x : ℕ) (f : FuncType) (arguments : List ℕ) : Type 0 where
  pub above : ℕ
  pub asks : s.state.phase ≡ Asking (record { function = x; above = above })
  pub is_import : IsImportType s.valid x f
  pub arguments_are : arguments ≡ take (length f.params) (drop above s.state.values)

-- How an answer of the embedder leads from one configuration to another: the call of import x takes its unit, and then its function, which
-- is the embedder's and got these arguments, gives these results and leaves memory as it is.
pub record AnswersAt (i : Instance) (c d : Configuration) (x : ℕ) (f : FuncType) (arguments results : List ℕ) : Type 0 where
  pub asked : Code
  pub exchange : Exchange
  pub is_callee : slice_get i.callees x ≡ Some (outside f exchange.function)
  pub bare : c ≡ at (store_of c) [] (code_of c)
  pub asks : Asks i x (store_of c) (code_of c) asked
  pub serves : ServeStep i (at (tick (store_of c)) [] asked) exchange d
  pub arguments_are : numbers exchange.arguments ≡ arguments
  pub results_are : exchange.results ≡ values_of f.results results
  pub left : exchange.left ≡ (store_of c).memory

module _ (Stands : StandsFor) where
  -- Whatever the machine stood for, it stands for the invocation over that store: what was at work is gone.
  pub record InvokesBy (old new : Snapshot) (x : ℕ) (args : List ℕ) : Type 0 where
    pub module_is : new.valid ≡ old.valid
    pub used : new.used ≡ old.used
    pub most_values : new.most_values ≡ old.most_values
    pub func_type : FuncType
    pub is_own : IsOwnType old.valid x func_type
    pub fit : Fit func_type.params args
    -- in every instance it has this type
    pub has_type : (i : Instance) (c : Configuration) → Stands old i c → (d : Callee) × (slice_get i.callees x ≡ Some d) × (signature_of d ≡ func_type)
    pub run : (i : Instance) (c : Configuration) → Stands old i c → Stands new i (invocation_over c (values_of func_type.params args) x)

  -- The function has returned: whatever the machine stood for, steps lead from there to values alone, which ask no host.
  pub record ReturnsBy (H : Type 0) (Calls : CallsOf H) (h h' : H) (old new : Snapshot) (units : ℕ) : Type 0 where
    pub module_is : new.valid ≡ old.valid
    pub most_values : new.most_values ≡ old.most_values
    pub host : h' ≡ h
    pub units_rise : (old.used ≤ new.used) × (new.used ≤ old.used + units)
    pub runs : outcome_of new ≡ None
    pub run : (i : Instance) (c : Configuration) → Stands old i c → (d : Configuration) × Stands new i d × Reach H Calls i h c [] h d × (used_by c ≡ old.used) × (used_by d ≡ new.used)
        × (vs : List Val) × (d ≡ at (store_of d) [] (code vs done)) × (numbers vs ≡ results_of new)

  -- The call of import x comes next, and the embedder is asked: whatever the machine stood for, steps lead from there to where it comes,
  -- which ask no host. Where the machine hadn't asked already, the unit of the call is left.
  pub record AsksBy (H : Type 0) (Calls : CallsOf H) (h h' : H) (old new : Snapshot) (units x : ℕ) : Type 0 where
    pub module_is : new.valid ≡ old.valid
    pub most_values : new.most_values ≡ old.most_values
    pub host : h' ≡ h
    pub units_rise : (old.used ≤ new.used) × (new.used ≤ old.used + units)
    pub left : (new ≡ old) ⊎ (new.used < old.used + units)
    pub runs : outcome_of new ≡ None
    pub run : (i : Instance) (c : Configuration) → Stands old i c → (d : Configuration) × Stands new i d × Reach H Calls i h c [] h d × (used_by c ≡ old.used) × (used_by d ≡ new.used)
        × (asked : Code) × Asks i x (store_of d) (code_of d) asked

  -- The embedder has answered what it was asked for.
  pub record AnswersBy (old new : Snapshot) (results : List ℕ) : Type 0 where
    pub module_is : new.valid ≡ old.valid
    pub most_values : new.most_values ≡ old.most_values
    pub used : new.used ≡ suc old.used
    pub function : ℕ
    pub func_type : FuncType
    pub arguments : List ℕ
    pub asked_for : IsAskedFor old function func_type arguments
    pub fit : Fit func_type.results results
    pub run : (i : Instance) (c : Configuration) → Stands old i c → (d : Configuration) × Stands new i d × AnswersAt i c d function func_type arguments results

  -- What was at work is gone, over the store that is there.
  pub record LetsGoBy (old new : Snapshot) : Type 0 where
    pub module_is : new.valid ≡ old.valid
    pub most_values : new.most_values ≡ old.most_values
    pub used : new.used ≡ old.used
    pub runs : outcome_of new ≡ None
    pub run : (i : Instance) (c : Configuration) → Stands old i c → Stands new i (at (store_of c) [] (code [] done))

  -- Memory is this now, and nothing else has changed.
  pub record WritesBy (old new : Snapshot) (memory : List ℕ) : Type 0 where
    pub is : new ≡ record old { memory = memory }
    pub run : (i : Instance) (c : Configuration) → Stands old i c → Stands new i (with_memory memory c)

  -- A host has answered what the embedder is asked for, over the machine's memory and with the unit of the call: memory is what it left, and
  -- nothing else has changed. The embedder still owes its guest the answer.
  pub record OffersBy (H : Type 0) (Calls : CallsOf H) (h h' : H) (old new : Snapshot) (call : HostCall) (answer : Answer) : Type 0 where
    pub function : ℕ
    pub func_type : FuncType
    pub arguments : List ℕ
    pub asked_for : IsAskedFor old function func_type arguments
    pub memory : List ℕ
    pub answered : Calls h old.memory (suc old.used) call (reverse arguments) h' memory answer
    pub left : WritesBy old new memory

  -- An instance that has just been opened stands for its first configuration: its start function and its initializer are entered next,
  -- and once they have returned its exports can be called.
  pub record OpensBy (links : AllLinks) (pages : ℕ) (m : Module) (new : Snapshot) : Type 0 where
    pub instance : Instance
    pub store : Store
    pub initializer : Option ℕ
    pub allocates : Allocates links pages m instance store
    pub has_initializer : HasInitializer m initializer
    pub stands : Stands new instance (first_configuration (option_to_list m.start ++ option_to_list initializer) store)
    pub module_is : new.valid ≡ m
    pub used : new.used ≡ 0
    pub runs : outcome_of new ≡ None
    pub room : new.room ≡ 4097

-- The relation tells of the store: its memory is what the machine shows, and its globals are in the ranges of their types.
abbrev pub TellsStores : StandsFor → Type 0
TellsStores Stands = (s : Snapshot) (i : Instance) (c : Configuration) → Stands s i c
    → ((store_of c).memory ≡ s.memory) × AllByRecursion IsInType (store_of c).globals
