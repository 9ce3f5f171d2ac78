-- A step is the only one. `OneNextStep` says so of every two steps of the standard over a host whose answer is settled by
-- what it is asked.
use Rattle.std.specs.Prelude.{◌≡◌, ℕ, Bool, false, List}
use Rattle.wasm_store.specs.declared.call.HostCall.{HostCall}
use Rattle.wasm_store.specs.declared.call.Answer.{Answer}
use Rattle.wasm_steps.specs.Configuration.{Instance, Configuration}
use Rattle.wasm_steps.specs.Steps.{CallsOf, Event, Step}
use Rattle.same_run.specs.Growth.{RefusesMemory}

-- Where nothing has failed afterwards, the host answers the same to the same question: with the same memory and units used
-- the same call and arguments.
abbrev pub AnswersOnce : (H : Type 0) → CallsOf H → (H → Bool) → Type 0
AnswersOnce H Calls failed = (h h1 h2 : H) (memory memory1 memory2 : List ℕ) (used : ℕ) (call : HostCall) (args : List ℕ)
    (answer1 answer2 : Answer)
    → Calls h memory used call args h1 memory1 answer1 → Calls h memory used call args h2 memory2 answer2
    → failed h1 ≡ false → failed h2 ≡ false
    → (h1 ≡ h2) × (memory1 ≡ memory2) × (answer1 ≡ answer2)

-- Two steps from the same configuration and host, of which none refuses memory and after which nothing has failed, are seen
-- the same and lead to the same.
abbrev pub OneNextStep : (H : Type 0) → CallsOf H → Type 0
OneNextStep H Calls = (failed : H → Bool) (i : Instance) (n : ℕ) (h h1 h2 : H) (c c1 c2 : Configuration) (ev1 ev2 : Event)
    → AnswersOnce H Calls failed
    → (one : Step H Calls i n h c ev1 h1 c1) → (other : Step H Calls i n h c ev2 h2 c2)
    → (RefusesMemory one → ⊥) → (RefusesMemory other → ⊥) → failed h1 ≡ false → failed h2 ≡ false
    → (ev1 ≡ ev2) × (h1 ≡ h2) × (c1 ≡ c2)
