-- What whoever embeds an instance does, action after action, over any host. Each leads from one configuration to another, and what is told
-- of it is told by where it leads.
use Rattle.std.specs.Prelude.{◌≡◌, ◌⊎◌, ℕ, ◌+◌, ◌<◌, ◌≤◌, List, [], ◌∷◌, Contains, Some, slice_get}
use Rattle.wasm_syntax.specs.declared.module.ExportKind.TheVariants as exports
use Rattle.wasm_syntax.specs.declared.module.FuncType.{FuncType}
use Rattle.wasm_syntax.specs.declared.module.Module.{Module}
use Rattle.wasm_syntax.specs.Nested.{done}
use Rattle.wasm_store.specs.Bytes.{written}
use Rattle.wasm_store.specs.Instances.{Callee, signature_of}
use Rattle.wasm_steps.specs.declared.pause.Outcome.{Outcome}
use Rattle.wasm_steps.specs.declared.pause.Outcome.TheVariants.{Exited, Trapped, OutOfFuel, OutOfMemory}
use Rattle.wasm_steps.specs.declared.pause.Pause.TheVariants.{Called, Spent, Ended}
use Rattle.wasm_steps.specs.Configuration.{Val, numbers, Instance, Code, code, stopped, trapped, exited, Configuration, at, code_of, store_of, used_by, NextIsPlain}
use Rattle.wasm_steps.specs.Steps.{CallsOf, answers, Step, Reach}
use Rattle.wasm_steps.specs.Outcomes.{UnitsRise}
use Rattle.plugin_steps.specs.Asking.{Asks}
use Rattle.plugin_steps.specs.Serving.{with_memory}
use Rattle.wasm_interp.specs.Invocations.{AnswersAt, invocation_over, values_of}
use Rattle.plugin_core.specs.Handling.{Act, abandoned, answered, asked, invoked, paused, returned, wrote, IsEmbedders}
use Rattle.same_run.specs.Growth.{WasRefusedMemory}

-- what whoever embeds an instance does
pub data Action : Type 0 where
  -- it goes on for at most these units
  go : ℕ → Action
  -- what it asks for has these results
  answer : List ℕ → Action
  -- memory has these bytes from this address on
  write : ℕ → List ℕ → Action
  -- the function that is exported by this name is entered with these arguments
  invoke : List ℕ → List ℕ → Action
  -- what is at work is let go
  abandon : Action

-- how a function ended that returned no result
abbrev pub IsEnd : Outcome → Code → Type 0
IsEnd (Exited n) c = c ≡ stopped (exited n)
IsEnd (Trapped t) c = c ≡ stopped (trapped t)
IsEnd OutOfFuel c = ⊥
IsEnd OutOfMemory c = Unit {0}

-- how many units were used, of so many that were given
abbrev pub TakesUnits : Act → ℕ → ℕ → ℕ → Type 0
TakesUnits (paused p) units before after = UnitsRise p units before after
-- the call's unit is left
TakesUnits (asked x) units before after = after < before + units
TakesUnits k units before after = after ≤ before + units

-- function x is entered with these numbers, over the store that is there
pub record EntersAt (i : Instance) (c d : Configuration) (x : ℕ) (arguments : List ℕ) : Type 0 where
  pub func_type : FuncType
  pub callee : Callee
  pub is_callee : slice_get i.callees x ≡ Some callee
  pub type_is : signature_of callee ≡ func_type
  pub is : d ≡ invocation_over c (values_of func_type.params arguments) x

-- what is told where an instance halts: the units are used up, what was invoked has ended or returned, or the embedder is asked
abbrev pub IsTold : Instance → Act → Configuration → Type 0
IsTold i (paused Spent) c = NextIsPlain (code_of c)
IsTold i (paused (Ended o)) c = IsEnd o (code_of c)
IsTold i (returned ns) c = (vs : List Val) × (code_of c ≡ code vs done) × (numbers vs ≡ ns)
IsTold i (asked x) c = (k : ℕ) × IsEmbedders i x k × (later : Code) × Asks i x (store_of c) (code_of c) later
IsTold i k c = ⊥

-- what the other actions do, and what is told of them
abbrev pub ChangesBy : Module → Instance → Action → Act → Configuration → Configuration → Type 0
ChangesBy m i (answer results) (answered memory x arguments given) c d = (given ≡ results) × (memory ≡ (store_of c).memory) × (f : FuncType) × AnswersAt i c d x f arguments results
ChangesBy m i (write address bytes) (wrote memory) c d = (memory ≡ written (store_of c).memory address bytes) × (d ≡ with_memory memory c)
ChangesBy m i (invoke name arguments) (invoked x given) c d = (given ≡ arguments) × Contains m.exports (record { name = name; kind = exports.Function x }) × EntersAt i c d x arguments
ChangesBy m i abandon abandoned c d = d ≡ at (store_of c) [] (code [] done)
ChangesBy m i a k c d = ⊥

module _ (H : Type 0) (Calls : CallsOf H) (i : Instance) where
  -- an instance that came here halts: an answered call is one step more
  abbrev pub HaltsAs : Act → H → Configuration → H → Configuration → Type 0
  HaltsAs (paused (Called call e)) g b h' d = Step H Calls i 0 g b (answers call e) h' d
  HaltsAs k g b h' d = (h' ≡ g) × (d ≡ b) × IsTold i k b

module _ (H : Type 0) (Calls : CallsOf H) (m : Module) (i : Instance) where
  -- one action, and what was told of it
  pub data Turn : H → Configuration → Action → Act → H → Configuration → Type 0 where
    -- steps that no host sees, and a halt
    goes : {h g h' : H} {c b d : Configuration} (units : ℕ) (k : Act) → Reach H Calls i h c [] g b → HaltsAs H Calls i k g b h' d → TakesUnits k units (used_by c) (used_by d) → Turn h c (go units) k h' d
    changes : {h : H} {c d : Configuration} (a : Action) (k : Act) → ChangesBy m i a k c d → Turn h c a k h d

  pub data Turns : H → Configuration → List Action → List Act → H → Configuration → Type 0 where
    rests : {h : H} {c : Configuration} → Turns h c [] [] h c
    takes : {h h' h'' : H} {c d e : Configuration} {later : List Action} {ks : List Act} (a : Action) (k : Act) → Turn h c a k h' d → Turns h' d later ks h'' e → Turns h c (a ∷ later) (k ∷ ks) h'' e

-- memory was refused to what would need more of it than is reserved
abbrev pub IsRefusal : Act → Type 0
IsRefusal (paused (Ended OutOfMemory)) = Unit {0}
IsRefusal other = ⊥

module _ {H : Type 0} {Calls : CallsOf H} {m : Module} {i : Instance} where
  -- so it was, or a growth within the limit
  abbrev pub RefusesMemory : {h h' : H} {c d : Configuration} {a : Action} {k : Act} → Turn H Calls m i h c a k h' d → Type 0
  RefusesMemory (goes units k run halts rise) = WasRefusedMemory run ⊎ IsRefusal k
  RefusesMemory (changes a k change) = ⊥

  -- in one of these
  abbrev pub WereRefusedMemory : {h h' : H} {c d : Configuration} {actions : List Action} {ks : List Act} → Turns H Calls m i h c actions ks h' d → Type 0
  WereRefusedMemory rests = ⊥
  WereRefusedMemory (takes a k turn rest) = RefusesMemory turn ⊎ WereRefusedMemory rest
