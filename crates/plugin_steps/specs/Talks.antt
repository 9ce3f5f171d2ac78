-- The run that one invocation is, in which an embedder answers.
use Rattle.std.specs.Prelude.{List, [], ◌∷◌, ◌++◌}
use Rattle.wasm_store.specs.declared.call.HostCall.{HostCall}
use Rattle.wasm_store.specs.declared.call.Errno.{Errno}
use Rattle.wasm_steps.specs.Configuration.{Instance, Configuration}
use Rattle.wasm_steps.specs.Steps.{CallsOf, Reach}
use Rattle.plugin_steps.specs.Serving.{Exchange, ServeStep}

module _ (H : Type 0) (Calls : CallsOf H) (i : Instance) where
  -- a run in which the WASI host and the embedder answered these
  pub data Talk : H → Configuration → List (HostCall × Errno) → List Exchange → H → Configuration → Type 0 where
    ends : {h : H} {c : Configuration} → Talk h c [] [] h c
    runs : {h h' h'' : H} {c d e : Configuration} {es fs : List (HostCall × Errno)} {xs : List Exchange} → Reach H Calls i h c es h' d → Talk h' d fs xs h'' e → Talk h c (es ++ fs) xs h'' e
    serves : {h h' : H} {c d e : Configuration} {es : List (HostCall × Errno)} {xs : List Exchange} (x : Exchange) → ServeStep i c x d → Talk h d es xs h' e → Talk h c es (x ∷ xs) h' e
