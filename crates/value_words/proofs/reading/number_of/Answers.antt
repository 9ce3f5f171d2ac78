use Rattle.std.proofs.Common.{ℕ, sym, subst}
use Rattle.std.specs.Prelude.{MatchOption}
use Rattle.wasm_syntax.specs.declared.instruction.ValueType.{ValueType}
use Rattle.value_words.specs.Numbers.{IsNumberOf}
use Rattle.value_words.proofs.reading.number_of.Goals as goal

pub returns-in-I32 : goal.returns-in-I32
returns-in-I32 c = subst (λ (t : ValueType). MatchOption c.integer.result ((n : ℕ) → IsNumberOf t c.args.word.now n → ⊥) (IsNumberOf t c.args.word.now)) (sym c.in-I32.is) c.integer.ensures

pub returns-in-I64 : goal.returns-in-I64
returns-in-I64 c = subst (λ (t : ValueType). MatchOption c.integer-in-I64.result ((n : ℕ) → IsNumberOf t c.args.word.now n → ⊥) (IsNumberOf t c.args.word.now)) (sym c.in-I64.is) c.integer-in-I64.ensures

pub returns-in-F32 : goal.returns-in-F32
returns-in-F32 c = subst (λ (t : ValueType). MatchOption c.unsigned.result ((n : ℕ) → IsNumberOf t c.args.word.now n → ⊥) (IsNumberOf t c.args.word.now)) (sym c.in-F32.is) c.unsigned.ensures

pub returns-in-F64 : goal.returns-in-F64
returns-in-F64 c = subst (λ (t : ValueType). MatchOption c.magnitude.result ((n : ℕ) → IsNumberOf t c.args.word.now n → ⊥) (IsNumberOf t c.args.word.now)) (sym c.in-F64.is) c.magnitude.ensures
