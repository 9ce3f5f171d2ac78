use Rattle.std.proofs.Common.{◌≡◌, ℕ, List, refl, arith}
use Rattle.std.proofs.lemmas.Bool.{false≢true}
use Rattle.std.proofs.lemmas.Grind.{common_steps}
use Rattle.wasm_syntax.specs.declared.instruction.ValueType.{ValueType}
use Rattle.wasm_syntax.specs.declared.instruction.Instruction.{Instruction}
use Rattle.wasm_syntax.specs.declared.instruction.Instruction.TheVariants as op
use Rattle.wasm_syntax.specs.declared.module.GlobalType.{GlobalType}
use Rattle.wasm_valid.specs.internal.Rules.{IsConstantInstruction}
use Rattle.wasm_valid.proofs.module_rules.is_constant_instruction.Goals as goal

-- no other instruction is constant
no_constant : (globals : List GlobalType) (t : ValueType) (i : Instruction) → ((x : ℕ) → i ≡ op.GlobalGet x → ⊥) → ((n : ℕ) → i ≡ op.I32Const n → ⊥) → ((n : ℕ) → i ≡ op.I64Const n → ⊥) → ((n : ℕ) → i ≡ op.F32Const n → ⊥) → ((n : ℕ) → i ≡ op.F64Const n → ⊥) → IsConstantInstruction globals t i → ⊥
no_constant globals t (op.GlobalGet x) not_get not_32 not_64 not_f32 not_f64 h = not_get x refl
no_constant globals t (op.I32Const n) not_get not_32 not_64 not_f32 not_f64 h = not_32 n refl
no_constant globals t (op.I64Const n) not_get not_32 not_64 not_f32 not_f64 h = not_64 n refl
no_constant globals t (op.F32Const n) not_get not_32 not_64 not_f32 not_f64 h = not_f32 n refl
no_constant globals t (op.F64Const n) not_get not_32 not_64 not_f32 not_f64 h = not_f64 n refl
no_constant globals t i not_get not_32 not_64 not_f32 not_f64 h = h

pub returns-in-GlobalGet : goal.returns-in-GlobalGet
returns-in-GlobalGet c = rw c.in-GlobalGet.is c.is_constant_global.ensures

pub returns-in_default : goal.returns-in_default
returns-in_default c =
    (λ yes. absurd (false≢true yes), λ h. absurd (no_constant c.args.globals.now c.args.value_type c.args.instruction.now c.in_default.not-GlobalGet c.in_default.not-I32Const c.in_default.not-I64Const c.in_default.not-F32Const c.in_default.not-F64Const h))

pub returns-in-I32Const : goal.returns-in-I32Const
returns-in-I32Const c = grind (arith, common_steps)

pub returns-in-I64Const : goal.returns-in-I64Const
returns-in-I64Const c = grind (arith, common_steps)

pub returns-in-F32Const : goal.returns-in-F32Const
returns-in-F32Const c = grind (arith, common_steps)

pub returns-in-F64Const : goal.returns-in-F64Const
returns-in-F64Const c = grind (arith, common_steps)
