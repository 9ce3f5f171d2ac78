-- Where steps refuse memory. `memory.grow` may fail at any time (section 4.4.4): it is the one rule that leaves a choice.
-- Past the limit it must fail, so that is no refusal here.
use Rattle.std.specs.Prelude.{ℕ, ◌+◌, ◌/◌, ◌≤◌, ◌⊎◌, List, length}
use Rattle.wasm_store.specs.declared.call.HostCall.{HostCall}
use Rattle.wasm_store.specs.declared.call.Errno.{Errno}
use Rattle.wasm_steps.specs.Configuration.{Val, Instance, Store, Code, Configuration}
use Rattle.wasm_steps.specs.Steps.{CallsOf, Event, Reduces, grows_not, Step, plain_step, free_step, host_answers, host_exits, in_label, in_frame, Reach, stays, goes}

-- a growth that the limit would take is refused
abbrev pub RefusesGrowth : {i : Instance} {s s' : Store} {f f' : List Val} {c c' : Code}
    → Reduces i s f c s' f' c' → Type 0
RefusesGrowth {i = i} {s = s} (grows_not {n = n} why) = length s.memory / 65536 + n ≤ i.page_limit
RefusesGrowth other = ⊥

module _ {H : Type 0} {Calls : CallsOf H} {i : Instance} where
  -- in a step, however deep it is
  abbrev pub RefusesMemory : {n : ℕ} {h h' : H} {c c' : Configuration} {ev : Event}
      → Step H Calls i n h c ev h' c' → Type 0
  RefusesMemory (plain_step rule) = RefusesGrowth rule
  RefusesMemory (free_step rule) = ⊥
  RefusesMemory (host_answers args vs callee is count call) = ⊥
  RefusesMemory (host_exits args vs callee is count call) = ⊥
  RefusesMemory (in_label step) = RefusesMemory step
  RefusesMemory (in_frame step) = RefusesMemory step

  -- in some step of a run
  abbrev pub WasRefusedMemory : {h h' : H} {c c' : Configuration} {es : List (HostCall × Errno)}
      → Reach H Calls i h c es h' c' → Type 0
  WasRefusedMemory stays = ⊥
  WasRefusedMemory (goes ev es step rest) = RefusesMemory step ⊎ WasRefusedMemory rest
