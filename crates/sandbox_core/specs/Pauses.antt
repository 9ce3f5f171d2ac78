-- What the pauses of some resumes tell of a run: which calls were answered in it, and where the last of them stops.
use Rattle.std.specs.Prelude.{List, [], ◌∷◌}
use Rattle.wasm_store.specs.declared.call.HostCall.{HostCall}
use Rattle.wasm_store.specs.declared.call.Errno.{Errno}
use Rattle.wasm_steps.specs.declared.pause.Pause.{Pause}
use Rattle.wasm_steps.specs.declared.pause.Pause.TheVariants.{Called, Spent, Ended}
use Rattle.wasm_steps.specs.Configuration.{Instance, Configuration, code_of, NextIsPlain}
use Rattle.wasm_steps.specs.Steps.{CallsOf}
use Rattle.wasm_steps.specs.Outcomes.{EndsAs}

-- the calls that pauses tell of, with what each answered
abbrev pub answered : List Pause → List (HostCall × Errno)
answered [] = []
answered (Called call e ∷ ps) = (call, e) ∷ answered ps
answered (other ∷ ps) = answered ps

module _ {H : Type 0} (Calls : CallsOf H) where
  -- what a pause says of the configuration that it leaves: it has ended so, or its next step takes a unit
  abbrev pub StopsAt : Instance → Pause → H → Configuration → Type 0
  StopsAt i (Called call e) h c = Unit {0}
  StopsAt i Spent h c = NextIsPlain (code_of c)
  StopsAt i (Ended o) h c = EndsAs H Calls i o h c

  -- and what the last of some pauses says
  abbrev pub LastStopsAt : Instance → List Pause → H → Configuration → Type 0
  LastStopsAt i [] h c = Unit {0}
  LastStopsAt i (p ∷ []) h c = StopsAt i p h c
  LastStopsAt i (p ∷ (q ∷ ps)) h c = LastStopsAt i (q ∷ ps) h c
