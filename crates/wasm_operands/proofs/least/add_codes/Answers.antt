use Rattle.std.proofs.Common.{◌≡◌, ℕ, ◌+◌, ◌<◌, List, [], ◌∷◌, ◌++◌, length, map, take, get_or, sym, ap, ◌∙◌, arith}
use Rattle.std.proofs.lemmas.List.{append_assoc, append-nil, map_more, take_all}
use Rattle.std.proofs.lemmas.Result.{IfOk-from_err}
use Rattle.wasm_syntax.specs.declared.instruction.ValueType.{ValueType}
use Rattle.wasm_operands.specs.internal.Keys.{type_code}
use Rattle.wasm_operands.proofs.least.add_codes.Goals as goal

-- one more number is added
adds_one : (old key new : List ℕ) (types : List ValueType) (i n : ℕ) (d : ValueType) → i < length types → key ≡ old ++ map type_code (take i types) → new ≡ key ++ n ∷ [] → n ≡ type_code (get_or types i d)
    → new ≡ old ++ map type_code (take (i + 1) types)
adds_one old key new types i n d lt so_far pushed is =
    pushed ∙ ap (λ (l : List ℕ). l ++ n ∷ []) so_far ∙ append_assoc old (map type_code (take i types)) (n ∷ [])
    ∙ ap (λ (m : ℕ). old ++ (map type_code (take i types) ++ m ∷ [])) is ∙ ap (λ (l : List ℕ). old ++ l) (sym (map_more type_code types i d lt))

pub loop-value_type-init : goal.loop-value_type-init
loop-value_type-init c = sym (append-nil c.args.key.now.items)

pub returns-in_err-push : goal.returns-in_err-push
returns-in_err-push c = IfOk-from_err c.from_residual.result _ c.from_residual.ensures.0

pub loop-value_type-preserved : goal.loop-value_type-preserved
loop-value_type-preserved c =
    adds_one c.args.key.now.items c.loop-value_type.key.items c.push.new.self.items c.args.types.now c.loop-value_type.value_type-index c.code.result _ c.loop-value_type-test.true c.loop-value_type.invariant c.in_ok-push.ensures.items c.code.ensures

pub returns : goal.returns
returns c =
    c.loop-value_type.invariant
    ∙ ap (λ (l : List ValueType). c.args.key.now.items ++ map type_code l) (take_all c.loop-value_type.value_type-index c.args.types.now (omega (arith, c.loop-value_type-test.false)))
