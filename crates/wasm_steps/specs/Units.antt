-- Which steps take a unit of fuel: those that rewrite a plain instruction (here a block, a loop or an if is one, too),
-- and no others. The law `steps_take_their_units` says so of every step over every host.
use Rattle.std.specs.Prelude.{◌≡◌, ◌⊎◌, ℕ, suc}
use Rattle.wasm_steps.specs.Configuration.{Instance, Configuration, code_of, used_by, NextIsPlain}
use Rattle.wasm_steps.specs.Steps.{CallsOf, Event, Step}

-- One unit more is used where the next step rewrites a plain instruction, and else none.
abbrev pub TakesItsUnit : Configuration → Configuration → Type 0
TakesItsUnit c d = (NextIsPlain (code_of c) × (used_by d ≡ suc (used_by c))) ⊎ ((NextIsPlain (code_of c) → ⊥) × (used_by d ≡ used_by c))

-- Each step takes its unit, whatever the host's calls mean.
abbrev pub StepsTakeTheirUnits : (H : Type 0) → CallsOf H → Type 0
StepsTakeTheirUnits H Calls = (i : Instance) (n : ℕ) (h h' : H) (c d : Configuration) (ev : Event)
    → Step H Calls i n h c ev h' d → TakesItsUnit c d
