-- The whole life of a module's instance: it is allocated, its start function and its `_initialize` are run, and then exports are
-- called, one invocation after another, each on the store that the one before it left.
use Rattle.std.specs.Prelude.{◌≢◌, ℕ, List, [], ◌∷◌, ◌++◌, Option}
use Rattle.std.specs.Option.{option_to_list}
use Rattle.wasm_syntax.specs.declared.module.Module.{Module}
use Rattle.wasm_store.specs.declared.call.HostCall.{HostCall}
use Rattle.wasm_store.specs.declared.call.Errno.{Errno}
use Rattle.wasm_steps.specs.Configuration.{Instance, Store, Configuration, store_of, first_configuration}
use Rattle.wasm_steps.specs.Steps.{CallsOf}
use Rattle.plugin_steps.specs.Serving.{Exchange}
use Rattle.plugin_steps.specs.Talks.{Talk}
use Rattle.plugin_steps.specs.Lives.{Ending, returns, exits, EndsWith, Invocation, LivesBy}
use Rattle.wasm_store.specs.Allocation.{AllLinks, Allocates, HasInitializer}

-- what an invocation ends with after which others may come
abbrev pub MayGoOn : Ending → Type 0
MayGoOn (exits n) = ⊥
MayGoOn other = Unit {0}

-- only the last invocation ends the instance, by `proc_exit`
abbrev pub OnlyLastExits : List Invocation → Type 0
OnlyLastExits [] = Unit {0}
OnlyLastExits (v ∷ vs) = (vs ≢ [] → MayGoOn v.ending) × OnlyLastExits vs

-- the answers of the host in these invocations
abbrev pub calls_in : List Invocation → List (HostCall × Errno)
calls_in [] = []
calls_in (v ∷ vs) = v.calls ++ calls_in vs

module _ (H : Type 0) (Calls : CallsOf H) (links : AllLinks) (pages : ℕ) (m : Module) where
  -- From the host h to the host h' and the store s by these invocations. Where the start function or `_initialize` didn't return,
  -- there is none.
  pub record Life (h : H) (vs : List Invocation) (h' : H) (s : Store) : Type 0 where
    pub instance : Instance
    pub first : Store
    pub allocates : Allocates links pages m instance first
    pub initializer : Option ℕ
    pub has_initializer : HasInitializer m initializer
    -- the opening: which calls the host answered in it, what the embedder was asked, and where it ended
    pub calls : List (HostCall × Errno)
    pub exchanges : List Exchange
    pub opened : H
    pub ready : Configuration
    pub opens : Talk H Calls instance h (first_configuration (option_to_list m.start ++ option_to_list initializer) first) calls exchanges opened ready
    pub returned : vs ≢ [] → EndsWith (returns []) ready
    pub lives : LivesBy H Calls m instance (Talk H Calls instance) opened (store_of ready) vs h' s
    pub only_last_exits : OnlyLastExits vs

  -- all that the host answered
  abbrev pub answered_in : {h h' : H} {vs : List Invocation} {s : Store} → Life h vs h' s → List (HostCall × Errno)
  answered_in {h} {h'} {vs} life = life.calls ++ calls_in vs
