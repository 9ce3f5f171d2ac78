-- The life of an instance: one invocation of an exported function after another (section 4.5.5), each on the store that the
-- one before it left, with what the embedder writes between.
use Rattle.std.specs.Prelude.{◌≡◌, ℕ, List, [], ◌∷◌, length, slice_get, Some, Contains}
use Rattle.std.specs.List.{AllByRecursion}
use Rattle.wasm_num.specs.declared.trap.Trap.{Trap}
use Rattle.wasm_syntax.specs.declared.module.ExportKind.TheVariants as exports
use Rattle.wasm_syntax.specs.declared.module.Module.{Module}
use Rattle.wasm_syntax.specs.declared.module.FuncType.{FuncType}
use Rattle.wasm_syntax.specs.Nested.{done, invoke}
use Rattle.wasm_store.specs.declared.call.HostCall.{HostCall}
use Rattle.wasm_store.specs.declared.call.Errno.{Errno}
use Rattle.wasm_store.specs.Values.{IsInType}
use Rattle.wasm_steps.specs.Configuration.{Val, types, Callee, signature_of, Instance, Store, code, stopped, trapped, exited, Configuration, at, store_of}
use Rattle.wasm_steps.specs.Steps.{CallsOf}
use Rattle.plugin_steps.specs.Serving.{Exchange, AreOf}

-- a function is entered with these arguments, the last one first
abbrev pub invocation : Store → List Val → ℕ → Configuration
invocation s args x = at s [] (code args (invoke x done))

pub data Ending : Type 0 where
  returns : List Val → Ending
  traps : Trap → Ending
  exits : ℕ → Ending
  -- the embedder went no further with it
  is_abandoned : Ending

abbrev pub EndsWith : Ending → Configuration → Type 0
EndsWith (returns vs) (at s f c) = c ≡ code vs done
EndsWith (traps t) (at s f c) = c ≡ stopped (trapped t)
EndsWith (exits n) (at s f c) = c ≡ stopped (exited n)
EndsWith is_abandoned c = Unit {0}

-- what the embedder may write while nothing runs: bytes of memory, and globals of their types
pub record Writes (s s' : Store) : Type 0 where
  pub is : s' ≡ record s { memory = s'.memory; globals = s'.globals }
  pub memory : length s'.memory ≡ length s.memory
  pub globals : types s'.globals ≡ types s.globals
  pub in_range : AllByRecursion IsInType s'.globals

pub record Invocation : Type 0 where
  pub function : ℕ
  pub arguments : List Val
  pub calls : List (HostCall × Errno)
  pub exchanges : List Exchange
  pub ending : Ending

-- the module exports this function, of this type
pub record IsExported (m : Module) (i : Instance) (x : ℕ) (f : FuncType) : Type 0 where
  pub name : List ℕ
  pub exported : Contains m.exports (record { name = name; kind = exports.Function x })
  pub callee : Callee
  pub is_callee : slice_get i.callees x ≡ Some callee
  pub type_is : signature_of callee ≡ f

module _ (H : Type 0) (Calls : CallsOf H) (m : Module) (i : Instance) where
  -- each invocation is by this relation of a run
  pub data LivesBy (Runs : H → Configuration → List (HostCall × Errno) → List Exchange → H → Configuration → Type 0) : H → Store → List Invocation → H → Store → Type 0 where
    rests : {h : H} {s : Store} → LivesBy Runs h s [] h s
    invokes : {h h' h'' : H} {s s' s'' : Store} {d : Configuration} {f : FuncType} {vs : List Invocation} (v : Invocation) → Writes s s' → IsExported m i v.function f → AreOf v.arguments f.params
        → Runs h (invocation s' v.arguments v.function) v.calls v.exchanges h' d → EndsWith v.ending d → LivesBy Runs h' (store_of d) vs h'' s'' → LivesBy Runs h s (v ∷ vs) h'' s''
