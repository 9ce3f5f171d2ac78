-- What is done with a machine that stands for configurations of an instance: it is let go on, asked and answered, and told to enter
-- exported functions. All of it is a life of the instance, whatever machine it is.
use Rattle.std.specs.Prelude.{ℕ, Bool, true, false, List, [], ◌∷◌}
use Rattle.wasm_syntax.specs.declared.module.Module.{Module}
use Rattle.wasm_syntax.specs.declared.module.FuncType.{FuncType}
use Rattle.wasm_store.specs.declared.call.HostCall.{HostCall}
use Rattle.wasm_store.specs.declared.call.Errno.{Errno}
use Rattle.wasm_steps.specs.Configuration.{Val, Instance, Store, Configuration, store_of}
use Rattle.wasm_steps.specs.Steps.{CallsOf}
use Rattle.plugin_steps.specs.Serving.{Exchange, AreOf}
use Rattle.plugin_steps.specs.Talks.{Talk}
use Rattle.plugin_steps.specs.Embedding.{Does}
use Rattle.plugin_steps.specs.Lives.{invocation, Ending, EndsWith, Writes, IsExported, LivesBy}
pub use Rattle.plugin_steps.specs.Deeds.{Deed, invoked, went, ended, Part, at_work, invocations}

module _ (H : Type 0) (Calls : CallsOf H) (m : Module) (i : Instance) {S : Type 0} (Stands : S → Configuration → Type 0) where
  -- whatever the machine stood for, it stands for the invocation of an exported function, over a store with what was written
  pub record Enters (s s' : S) (x : ℕ) (args : List Val) : Type 0 where
    pub func_type : FuncType
    pub exported : IsExported m i x func_type
    pub typed : AreOf args func_type.params
    pub run : (c : Configuration) → Stands s c → (w : Store) × Writes (store_of c) w × Stands s' (invocation w args x)

  -- What is done, while a function may be at work (true), or once its invocation has ended (false): then only another one is entered.
  pub data Acts : Bool → H → S → List Deed → H → S → Type 0 where
    stops : {b : Bool} {h : H} {s : S} → Acts b h s [] h s
    goes : {h h' h'' : H} {s s' s'' : S} {ds : List Deed} (es : List (HostCall × Errno)) (xs : List Exchange)
        → ((c : Configuration) → Stands s c → (d : Configuration) × Stands s' d × Does H Calls i h c es xs h' d)
        → Acts true h' s' ds h'' s'' → Acts true h s (went es xs ∷ ds) h'' s''
    ends : {h h' : H} {s s' : S} {ds : List Deed} (e : Ending) → ((c : Configuration) → Stands s c → EndsWith e c) → Acts false h s ds h' s' → Acts true h s (ended e ∷ ds) h' s'
    invokes : {b : Bool} {h h' : H} {s s' s'' : S} {ds : List Deed} (x : ℕ) (args : List Val) → Enters s s' x args → Acts true h s' ds h' s'' → Acts b h s (invoked x args ∷ ds) h' s''

  -- from a configuration that the machine stood for: what was at work went on, and then came these invocations
  pub record Lived (h : H) (c : Configuration) (ds : List Deed) (h' : H) (s' : S) : Type 0 where
    pub between : H
    pub reached : Configuration
    pub goes_on : Talk H Calls i h c (at_work ds).calls (at_work ds).exchanges between reached
    pub ends_so : EndsWith (at_work ds).ending reached
    pub last : Configuration
    pub stands : Stands s' last
    pub lives : LivesBy H Calls m i (Talk H Calls i) between (store_of reached) (invocations ds) h' (store_of last)

-- for each instance, of a machine that stands for configurations of instances
abbrev pub ActsAreALife : (H : Type 0) → CallsOf H → (S : Type 0) → (S → Instance → Configuration → Type 0) → Type 0
ActsAreALife H Calls S Stands = (m : Module) (i : Instance) (h h' : H) (s s' : S) (c : Configuration) (ds : List Deed)
    → Stands s i c → Acts H Calls m i (λ t d. Stands t i d) true h s ds h' s' → Lived H Calls m i (λ t d. Stands t i d) h c ds h' s'
