use Rattle.std.proofs.Common.{◌≡◌, ◌∙◌, ℕ, ◌+◌, suc, List, ◌++◌, drop, ap, arith}
use Rattle.std.specs.Option.{option_to_list}
use Rattle.wasm_operands.specs.declared.phase.Phase.TheVariants.{Within}
use Rattle.wasm_interp.specs.declared.state.State.{State}
use Rattle.wasm_interp.proofs.state.State.answer.Goals as goal

pub returns : goal.returns
returns c =
    let old : State = c.args.self.now in
    let new : State = record old { values = c.put_result.new.values; current = record old.current { pc = old.current.pc + 1 }; phase = Within; used = old.used + 1 } in
    let one : old.used + 1 ≡ suc old.used = omega arith in
    record {
      is = ap (λ (u : ℕ). record new { used = u }) one;
      values = c.put_result.ensures.put ∙ ap (λ (xs : List ℕ). option_to_list c.args.value ++ drop c.args.params xs) c.remove.ensures.removed;
      room = c.put_result.ensures.room ∙ c.remove.ensures.room;
    }
