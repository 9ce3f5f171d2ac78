-- What each answered call keeps is kept over a life: the embedder's answers and writes leave the host as it is.
use Rattle.std.proofs.Common.{List, [], ◌++◌}
use Rattle.wasm_syntax.specs.declared.module.Module.{Module}
use Rattle.wasm_store.specs.declared.call.HostCall.{HostCall}
use Rattle.wasm_store.specs.declared.call.Errno.{Errno}
use Rattle.wasm_steps.specs.Configuration.{Instance, Store, Configuration, store_of}
use Rattle.wasm_steps.specs.Steps.{CallsOf, Reach}
use Rattle.plugin_steps.specs.Serving.{Exchange}
use Rattle.plugin_steps.specs.Talks.{Talk}
use Rattle.plugin_steps.specs.Talks as talks
use Rattle.plugin_steps.specs.Lives.{Invocation, LivesBy, invocation}
use Rattle.plugin_steps.specs.Lives as lives
use Rattle.plugin_core.specs.WholeLives.{calls_in}

-- what holds from one host to another, of these answers
abbrev pub Holds : Type 0 → Type 1
Holds H = H → List (HostCall × Errno) → H → Type 0

module _ {H : Type 0} (Calls : CallsOf H) (P : Holds H)
    (rests : (h : H) → P h [] h)
    (joins : (h g h' : H) (es fs : List (HostCall × Errno)) → P h es g → P g fs h' → P h (es ++ fs) h') where
  abbrev pub Carries : Instance → Type 0
  Carries i = (h : H) (c : Configuration) (es : List (HostCall × Errno)) (h' : H) (c' : Configuration) → Reach H Calls i h c es h' c' → P h es h'

  pub talk_carries : (i : Instance) → Carries i → (h : H) (c : Configuration) (es : List (HostCall × Errno)) (xs : List Exchange) (h' : H) (c' : Configuration) → Talk H Calls i h c es xs h' c' → P h es h'
  talk_carries i reach h c _ _ h' c' talks.ends = rests h
  talk_carries i reach h c _ _ h' c' (talks.runs {h' = g} {d = d} {es = es} {fs = fs} {xs = xs} run rest) =
      joins h g h' es fs (reach h c es g d run) (talk_carries i reach g d fs xs h' c' rest)
  talk_carries i reach h c _ _ h' c' (talks.serves {d = d} {es = es} {xs = xs} x step rest) = talk_carries i reach h d es xs h' c' rest

  pub lives_carry : (m : Module) (i : Instance) → Carries i → (h : H) (s : Store) (vs : List Invocation) (h' : H) (s' : Store) → LivesBy H Calls m i (Talk H Calls i) h s vs h' s' → P h (calls_in vs) h'
  lives_carry m i reach h s _ h' s' lives.rests = rests h
  lives_carry m i reach h s _ h' s' (lives.invokes {h' = g} {s' = t} {d = d} {vs = vs} v writes exported typed run ends rest) =
      joins h g h' v.calls (calls_in vs) (talk_carries i reach h (invocation t v.arguments v.function) v.calls v.exchanges g d run) (lives_carry m i reach g (store_of d) vs h' s' rest)
