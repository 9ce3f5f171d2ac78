use Rattle.std.proofs.Common.{◌≡◌, ◌++◌, length, reverse, None, Some, sym, ap, ◌∙◌, arith, length-append}
use Rattle.std.proofs.lemmas.List.{length-reverse}
use Rattle.wasm_steps.specs.declared.pause.Outcome.TheVariants as ends
use Rattle.wasm_steps.specs.Configuration.{Configuration, code, code_of, store_of, values_in}
use Rattle.wasm_operands.specs.declared.phase.Phase.{Phase}
use Rattle.wasm_operands.specs.declared.phase.Phase.TheVariants.{Within as within, Between as between, Refused as refused, Over as over, Asking as asking}
use Rattle.wasm_interp.specs.Machine.{Represents}
use Rattle.wasm_operands.specs.internal.Standing.{Flat, Program, Stands, inside, labelled, under}
use Rattle.wasm_operands.specs.internal.Driving.{outcome_at, StandsAt}
use Rattle.wasm_interp.specs.internal.HeldState.{machine_over}
use Rattle.wasm_interp.specs.internal.Programs.{program_of}
use Rattle.wasm_operands.proofs.Values.{length-numbers}
use Rattle.wasm_interp.proofs.PlainSteps.Large.{values_framed, values_inside}
use Rattle.wasm_interp.proofs.laws.machines_keep_to_their_values.Goals as goal
use Rattle.wasm_operands.specs.internal.Awaited.{Awaited}

-- the values of a configuration are those on the stack: inside a function
counted_within : (p : Program) (s : Flat) (pending : Awaited) (c : Configuration) → Stands p pending s c → values_in (code_of c) ≡ length s.stack
counted_within p s pending c st =
    let work = inside st.labels (code st.vs st.body) in
    let rest = reverse st.locals ++ under st.callers in
    ap (λ (y : Configuration). values_in (code_of y)) st.is
    ∙ omega (
      arith,
      values_framed pending st.callers st.arity st.locals work,
      values_inside st.labels (code st.vs st.body),
      ap length st.stack,
      length-numbers (st.vs ++ (labelled st.labels ++ rest)),
      length-append st.vs (labelled st.labels ++ rest),
      length-append (labelled st.labels) rest,
      length-append (reverse st.locals) (under st.callers),
      length-reverse st.locals,
    )

-- and wherever a machine that hasn't ended is
counted : (p : Program) (s : Flat) (pending : Awaited) (f : Phase) (c : Configuration) → outcome_at f ≡ None → StandsAt p s pending f c → values_in (code_of c) ≡ length s.stack
counted p s pending within c e st = counted_within p s pending c st
counted p s pending (asking a) c e st = counted_within p s pending c st.stands
counted p s pending between c e st = ap (λ (y : Configuration). values_in (code_of y)) st.is ∙ sym (length-numbers st.vs) ∙ ap length (sym st.stack)
counted p s pending refused c e st = let z : Some ends.OutOfMemory ≡ None = e in absurd (cc)
counted p s pending (over o) c e st = let z : Some o ≡ None = e in absurd (cc)

pub returns : goal.returns
unfolding Represents
returns c = λ s i d stands runs.
    let held = stands.1 in
    let p = program_of s.valid s.state.calls i held.valid held.instance in
    let count = counted p (machine_over (store_of d) s.state).flat s.state.pending s.state.phase d runs held.stands.0 in
    omega (arith, count, stands.2.values, stands.2.most)
