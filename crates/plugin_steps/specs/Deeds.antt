-- What is done with a machine that stands for configurations of an instance, one deed after another, and the invocations that these are.
use Rattle.std.specs.Prelude.{ℕ, List, [], ◌∷◌, ◌++◌}
use Rattle.wasm_store.specs.declared.call.HostCall.{HostCall}
use Rattle.wasm_store.specs.declared.call.Errno.{Errno}
use Rattle.wasm_steps.specs.Configuration.{Val}
use Rattle.plugin_steps.specs.Serving.{Exchange}
use Rattle.plugin_steps.specs.Lives.{Ending, is_abandoned, Invocation}

pub data Deed : Type 0 where
  -- a function is entered with these arguments, the last one first, after what was written
  invoked : ℕ → List Val → Deed
  -- the machine went on: the WASI host answered these calls, and the embedder was asked these
  went : List (HostCall × Errno) → List Exchange → Deed
  -- it told that the invocation at work has ended so
  ended : Ending → Deed

-- what became of the invocation at work, until another function is entered
pub record Part : Type 0 where
  pub calls : List (HostCall × Errno)
  pub exchanges : List Exchange
  pub ending : Ending

abbrev pub at_work : List Deed → Part
at_work [] = record { calls = []; exchanges = []; ending = is_abandoned }
at_work (invoked x args ∷ ds) = record { calls = []; exchanges = []; ending = is_abandoned }
at_work (went es xs ∷ ds) = record { calls = es ++ (at_work ds).calls; exchanges = xs ++ (at_work ds).exchanges; ending = (at_work ds).ending }
at_work (ended e ∷ ds) = record { calls = []; exchanges = []; ending = e }

-- the invocations, with what became of each
abbrev pub invocations : List Deed → List Invocation
invocations [] = []
invocations (invoked x args ∷ ds) = record { function = x; arguments = args; calls = (at_work ds).calls; exchanges = (at_work ds).exchanges; ending = (at_work ds).ending } ∷ invocations ds
invocations (went es xs ∷ ds) = invocations ds
invocations (ended e ∷ ds) = invocations ds
