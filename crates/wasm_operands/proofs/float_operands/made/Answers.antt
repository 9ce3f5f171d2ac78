use Rattle.std.proofs.Common.{◌≡◌, ℕ, ◌<◌, ◌^◌, List, reverse, Result, Ok, IfOk, sym, ap, ◌∙◌, subst, arith}
use Rattle.std.specs.Prelude.{from_bits}
use Rattle.std.proofs.lemmas.List.{length-reverse}
use Rattle.wasm_syntax.specs.ValueTypes.{float, integer}
use Rattle.wasm_syntax.specs.declared.instruction.FloatOperator.{FloatOperator}
use Rattle.wasm_num.specs.declared.trap.Trap.{Trap}
use Rattle.wasm_valid.specs.Arities.{float_gives}
use Rattle.wasm_float.specs.Floats.{demoted, promoted}
use Rattle.wasm_steps.specs.Operators.{width}
use Rattle.wasm_steps.specs.FloatOperators.{converted, float_number, float_unary, format, saturated, whole_part}
use Rattle.wasm_operands.proofs.PlainSteps.FloatOperands.{has_one, has_two, on_top_of, one_there}
use Rattle.wasm_operands.proofs.float_operands.made.Goals as goal

-- what is ensured of the number
abbrev Made : FloatOperator → List ℕ → Result ℕ Trap → Type 0
Made o vs r = record {
  number : r ≡ float_number o vs;
  fits : IfOk r (λ x. x < 2 ^ width (float_gives o));
}

-- of the operator that it is
made : {o k : FloatOperator} (vs : List ℕ) (r : Result ℕ Trap) → o ≡ k → r ≡ float_number k vs → IfOk r (λ x. x < 2 ^ width (float_gives k)) → Made o vs r
made vs r is number fits = record {
  number = number ∙ sym (ap (λ (y : FloatOperator). float_number y vs) is);
  fits = subst (λ (y : FloatOperator). IfOk r (λ x. x < 2 ^ width (float_gives y))) (sym is) fits;
}

-- the number on top is of its type
topmost : (n m x : ℕ) → x ≡ m → m < n → x < n
topmost n m x is fits = omega (arith, is, fits)

pub operand-top-requires : goal.operand-top-requires
operand-top-requires c = omega (arith, one_there c.args.operator (reverse c.args.values.now) c.requires, length-reverse c.args.values.now)

pub compared-requires : goal.compared-requires
compared-requires c = has_two (float c.in-Compare.of) (reverse c.args.values.now) (on_top_of (reverse c.args.values.now) c.in-Compare.is c.requires)

pub joined-requires : goal.joined-requires
joined-requires c = has_two (float c.in-Binary.of) (reverse c.args.values.now) (on_top_of (reverse c.args.values.now) c.in-Binary.is c.requires)

pub unary-requires : goal.unary-requires
unary-requires c = record {
  number = topmost _ _ _ c.operand-top.ensures (has_one (float c.in-Unary.of) (reverse c.args.values.now) (on_top_of (reverse c.args.values.now) c.in-Unary.is c.requires)).1;
}

pub whole_part-requires : goal.whole_part-requires
whole_part-requires c = topmost _ _ _ c.operand-top.ensures (has_one (float c.in-Truncate.of) (reverse c.args.values.now) (on_top_of (reverse c.args.values.now) c.in-Truncate.is c.requires)).1

pub saturate-requires : goal.saturate-requires
saturate-requires c = topmost _ _ _ c.operand-top.ensures (has_one (float c.in-Saturate.of) (reverse c.args.values.now) (on_top_of (reverse c.args.values.now) c.in-Saturate.is c.requires)).1

pub convert-requires : goal.convert-requires
convert-requires c = topmost _ _ _ c.operand-top.ensures (has_one (integer c.in-Convert.of) (reverse c.args.values.now) (on_top_of (reverse c.args.values.now) c.in-Convert.is c.requires)).1

pub returns-in-Compare : goal.returns-in-Compare
returns-in-Compare c = made (reverse c.args.values.now) _ c.in-Compare.is (ap Ok c.compared.ensures.number) c.compared.ensures.fits

pub returns-in-Unary : goal.returns-in-Unary
returns-in-Unary c =
    let of = c.in-Unary.of in
    made (reverse c.args.values.now) _ c.in-Unary.is (ap Ok (c.unary.ensures.number ∙ ap (λ (x : ℕ). float_unary (format of) c.in-Unary.operator x) c.operand-top.ensures)) c.unary.ensures.fits

pub returns-in-Binary : goal.returns-in-Binary
returns-in-Binary c = made (reverse c.args.values.now) _ c.in-Binary.is (ap Ok c.joined.ensures.number) c.joined.ensures.fits

pub returns-in-Truncate : goal.returns-in-Truncate
returns-in-Truncate c =
    let w = c.in-Truncate in
    made (reverse c.args.values.now) _ w.is (c.whole_part.ensures.number ∙ ap (λ (x : ℕ). whole_part (width (integer w.to)) w.sign (from_bits (format w.of) x)) c.operand-top.ensures) c.whole_part.ensures.fits

pub returns-in-Saturate : goal.returns-in-Saturate
returns-in-Saturate c =
    let w = c.in-Saturate in
    made (reverse c.args.values.now) _ w.is (ap Ok (c.saturate.ensures.number ∙ ap (λ (x : ℕ). saturated (width (integer w.to)) w.sign (from_bits (format w.of) x)) c.operand-top.ensures)) c.saturate.ensures.fits

pub returns-in-Convert : goal.returns-in-Convert
returns-in-Convert c =
    let w = c.in-Convert in
    made (reverse c.args.values.now) _ w.is (ap Ok (c.convert.ensures.number ∙ ap (λ (x : ℕ). converted (format w.to) (width (integer w.of)) w.sign x) c.operand-top.ensures)) c.convert.ensures.fits

pub returns-in-Demote : goal.returns-in-Demote
returns-in-Demote c = made (reverse c.args.values.now) _ c.in-Demote.is (ap Ok (c.from.ensures ∙ (c.f32_demote_f64.ensures.value ∙ ap demoted c.operand-top.ensures))) (omega (arith, c.from.ensures))

pub returns-in-Promote : goal.returns-in-Promote
returns-in-Promote c = made (reverse c.args.values.now) _ c.in-Promote.is (ap Ok (c.f64_promote_f32.ensures.value ∙ ap promoted c.operand-top.ensures)) (omega arith)
