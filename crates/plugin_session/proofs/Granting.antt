-- A call that the embedder was asked for, and that the host answers.
use Rattle.std.proofs.Common.{◌≡◌, ℕ, zero, suc, ◌<◌, ◌^◌, List, [], ◌∷◌, reverse, slice_get, Option, None, Some, refl, sym, subst}
use Rattle.wasm_syntax.specs.declared.instruction.ValueType.{ValueType}
use Rattle.wasm_syntax.specs.declared.instruction.ValueType.TheVariants.{I32}
use Rattle.wasm_syntax.specs.declared.module.FuncType.{FuncType}
use Rattle.wasm_operands.proofs.PlainSteps.Moving.{some_same}
use Rattle.wasm_steps.specs.Operators.{width}
use Rattle.wasm_places.specs.declared.invocable.NotAnswered.{NotAnswered}
use Rattle.wasm_places.specs.declared.invocable.NotAnswered.TheVariants.{Mistyped, NotAsked}
use Rattle.wasm_interp.specs.Machine.{Snapshot}
use Rattle.wasm_interp.specs.Invoking.{Fit, IsAsking, IsAskedFor, IsNotAnswered}
use Rattle.std.specs.Prelude.{IfSome}
use Rattle.wasm_places.specs.declared.invocable.Event.{Event}
use Rattle.wasm_places.specs.declared.invocable.Event.TheVariants.{Asked, Paused, Returned}
use Rattle.wasi_fd.specs.Table.{table_of}
use Rattle.wasi_calls.specs.host.Wanting.{WantsInput}
use Rattle.plugin_core.specs.declared.stage.Stage.{Stage}
use Rattle.plugin_core.specs.Handling.{act_of, after}
use Rattle.plugin_session.specs.States.{InstanceState}
use Rattle.plugin_session.specs.Deferring.{GivesErrno, Wants, stage_to}

-- memory doesn't change what is asked
over_memory : (s : Snapshot) (memory : List ℕ) (x : ℕ) (f : FuncType) (args : List ℕ) → IsAskedFor (record s { memory = memory }) x f args → IsAskedFor s x f args
over_memory s memory x f args k = record { above = k.above; asks = k.asks; is_import = k.is_import; arguments_are = k.arguments_are }

with_memory : (s : Snapshot) (memory : List ℕ) (x : ℕ) (f : FuncType) (args : List ℕ) → IsAskedFor s x f args → IsAskedFor (record s { memory = memory }) x f args
with_memory s memory x f args k = record { above = k.above; asks = k.asks; is_import = k.is_import; arguments_are = k.arguments_are }

-- an i32 is one result
fits : (n : ℕ) → n < 2 ^ 32 → Fit (I32 ∷ []) (n ∷ [])
fits n small = record { count = refl; each = each } where
  each : (k : ℕ) (t : ValueType) (m : ℕ) → slice_get (I32 ∷ []) k ≡ Some t → slice_get (n ∷ []) k ≡ Some m → m < 2 ^ width t
  each zero t m is_type is =
      subst (λ (u : ValueType). m < 2 ^ width u) (some_same is_type) (subst (λ (v : ℕ). v < 2 ^ 32) (some_same is) small)
  each (suc k) t m is_type is = cc

-- so it is taken
pub taken : (s t : Snapshot) (memory : List ℕ) (n : ℕ) (e : NotAnswered) → t ≡ record s { memory = memory } → n < 2 ^ 32 → IsAsking s → GivesErrno s → IsNotAnswered t (n ∷ []) e → ⊥
taken s t memory n NotAsked is small (x, f, args, asked) typed wrong = wrong (subst IsAsking (sym is) (x, f, args, with_memory s memory x f args asked))
taken s t memory n Mistyped is small asking typed (x, f, args, asked, wrong) =
    let here = over_memory s memory x f args (subst (λ (z : Snapshot). IsAskedFor z x f args) is asked) in
    wrong (subst (λ (types : List ValueType). Fit types (n ∷ [])) (sym (typed x f args here)) (fits n small))

-- it is settled who answers, where nobody is asked
pub settled : (e : Event) (g : Stage) (s : Snapshot) → ((x : ℕ) → e ≡ Asked x → ⊥) → after g (act_of e s) ≡ stage_to e g s
settled Returned g s none = refl
settled (Paused p) g s none = refl
settled (Asked x) g s none = absurd (none x refl)

-- what is wanted of the input
pub wants_of : {D R W1 W2 : Type 0} (s : InstanceState D R W1 W2) (o : Option ℕ) (memory : List ℕ) (x : ℕ) (f : FuncType) (args : List ℕ) → memory ≡ s.machine.memory → IsAskedFor s.machine x f (reverse args)
    → IfSome o (WantsInput (table_of s.host.descriptors) memory args) → IfSome o (Wants s)
wants_of s None memory x f args same asked k = tt
wants_of s (Some n) memory x f args same asked k =
    record { function = x; func_type = f; arguments = args; asked_for = asked; wants = subst (λ (m : List ℕ). WantsInput (table_of s.host.descriptors) m args n) same k }
