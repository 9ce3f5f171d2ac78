-- What a machine promises whose exported functions are called one after another, by the relation that it has, and why it refuses.
use Rattle.std.specs.Prelude.{◌≡◌, ℕ, ◌+◌, ◌<◌, ◌≤◌, List, [], length}
use Rattle.wasm_syntax.specs.declared.module.FuncType.{FuncType}
use Rattle.wasm_syntax.specs.declared.module.Module.{Module}
use Rattle.wasm_steps.specs.Steps.{CallsOf}
use Rattle.wasm_store.specs.Allocation.{AllLinks}
use Rattle.wasm_store.specs.declared.call.Answer.{Answer}
use Rattle.wasm_store.specs.declared.call.HostCall.{HostCall}
use Rattle.wasm_places.specs.declared.invocable.NotAnswered.{NotAnswered}
use Rattle.wasm_places.specs.declared.invocable.NotAnswered.TheVariants.{NotAsked}
use Rattle.wasm_places.specs.declared.invocable.NotAnswered.TheVariants as notAnswered
use Rattle.wasm_places.specs.declared.invocable.NotInvoked.{NotInvoked}
use Rattle.wasm_places.specs.declared.invocable.NotInvoked.TheVariants.{Absent}
use Rattle.wasm_places.specs.declared.invocable.NotInvoked.TheVariants as notInvoked
use Rattle.wasm_places.specs.declared.invocable.NotWritten.{NotWritten}
use Rattle.wasm_places.specs.declared.invocable.NotWritten.TheVariants.{AtWork, PastEnd}
use Rattle.wasm_operands.specs.declared.phase.Phase.TheVariants.{Between}
use Rattle.wasm_interp.specs.Machine.{Snapshot, Represents}
use Rattle.wasm_interp.specs.Invocations.{InvokesBy, ReturnsBy, AsksBy, AnswersBy, LetsGoBy, OffersBy, OpensBy, WritesBy}
pub use Rattle.wasm_places.specs.FunctionTypes.{IsOwnType, IsImportType}
pub use Rattle.wasm_interp.specs.Invocations.{Fit, values_of, invocation_over, results_of, IsAskedFor, AnswersAt, TellsStores}

abbrev pub Opens : AllLinks → ℕ → Module → Snapshot → Type 0
Opens = OpensBy Represents

abbrev pub Invokes : Snapshot → Snapshot → ℕ → List ℕ → Type 0
Invokes = InvokesBy Represents

abbrev pub Returns : (H : Type 0) → CallsOf H → H → H → Snapshot → Snapshot → ℕ → Type 0
Returns = ReturnsBy Represents

abbrev pub IsAsked : (H : Type 0) → CallsOf H → H → H → Snapshot → Snapshot → ℕ → ℕ → Type 0
IsAsked = AsksBy Represents

abbrev pub Answers : Snapshot → Snapshot → List ℕ → Type 0
Answers = AnswersBy Represents

abbrev pub IsLetGo : Snapshot → Snapshot → Type 0
IsLetGo = LetsGoBy Represents

abbrev pub IsWritten : Snapshot → Snapshot → List ℕ → Type 0
IsWritten = WritesBy Represents

abbrev pub IsOffered : (H : Type 0) → CallsOf H → H → H → Snapshot → Snapshot → HostCall → Answer → Type 0
IsOffered = OffersBy Represents

-- Why a function isn't invoked: none of the module's own has this number and at most 16 arguments; or these aren't of its types.
abbrev pub IsNotInvoked : Module → ℕ → List ℕ → NotInvoked → Type 0
IsNotInvoked m x args Absent = (f : FuncType) → IsOwnType m x f → length f.params ≤ 16 → ⊥
IsNotInvoked m x args notInvoked.Mistyped = (f : FuncType) × IsOwnType m x f × (Fit f.params args → ⊥)

-- the embedder is asked
abbrev pub IsAsking : Snapshot → Type 0
IsAsking s = (x : ℕ) × (f : FuncType) × (arguments : List ℕ) × IsAskedFor s x f arguments

-- Why an answer isn't taken: the embedder isn't asked, or this is no result of the function.
abbrev pub IsNotAnswered : Snapshot → List ℕ → NotAnswered → Type 0
IsNotAnswered s results NotAsked = IsAsking s → ⊥
IsNotAnswered s results notAnswered.Mistyped = (x : ℕ) × (f : FuncType) × (arguments : List ℕ) × IsAskedFor s x f arguments × (Fit f.results results → ⊥)

-- nothing is at work and nothing is entered next
abbrev pub IsIdle : Snapshot → Type 0
IsIdle s = (s.state.phase ≡ Between) × (s.state.pending.functions ≡ [])

-- Why so many bytes aren't written there: it neither rests nor asks, or they would pass the end of memory.
abbrev pub IsNotWritten : Snapshot → ℕ → ℕ → NotWritten → Type 0
IsNotWritten s address count AtWork = (IsIdle s → ⊥) × (IsAsking s → ⊥)
IsNotWritten s address count PastEnd = length s.memory < address + count
