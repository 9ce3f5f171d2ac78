-- The laws of the operators on floats.
use Rattle.std.proofs.Common.{◌≡◌, ℕ, ◌+◌, ◌-◌, ◌≤◌, List, ◌∷◌, Some, refl, subst, arith}
use Rattle.wasm_syntax.specs.declared.profile.Profile.TheVariants.{Floats}
use Rattle.wasm_syntax.specs.declared.number.Sign.{Sign}
use Rattle.wasm_syntax.specs.declared.number.Sign.TheVariants.{Unsigned, Signed}
use Rattle.wasm_syntax.specs.declared.instruction.IntegerType.{IntegerType}
use Rattle.wasm_syntax.specs.declared.instruction.IntegerType.TheVariants.{I32, I64}
use Rattle.wasm_syntax.specs.declared.instruction.FloatType.{FloatType}
use Rattle.wasm_syntax.specs.declared.instruction.FloatType.TheVariants as float_type
use Rattle.wasm_syntax.specs.declared.instruction.FloatComparison.{FloatComparison}
use Rattle.wasm_syntax.specs.declared.instruction.FloatComparison.TheVariants as float_comparison
use Rattle.wasm_syntax.specs.declared.instruction.FloatUnaryOperator.{FloatUnaryOperator}
use Rattle.wasm_syntax.specs.declared.instruction.FloatUnaryOperator.TheVariants as float_unary
use Rattle.wasm_syntax.specs.declared.instruction.FloatBinaryOperator.{FloatBinaryOperator}
use Rattle.wasm_syntax.specs.declared.instruction.FloatBinaryOperator.TheVariants as float_binary
use Rattle.wasm_syntax.specs.declared.instruction.FloatOperator.{FloatOperator}
use Rattle.wasm_syntax.specs.declared.instruction.FloatOperator.TheVariants as float_op
use Rattle.wasm_syntax.specs.declared.instruction.Instruction.TheVariants as op
use Rattle.wasm_syntax.specs.Instructions.{float_comparison_number, float_unary_number, float_binary_number, float_opcode, saturation_number}
use Rattle.wasm_syntax.specs.internal.CodeReading.{float_comparison_of, float_unary_of, float_binary_of, float_compared, float_of_one, float_of_two, conversion_of, saturation_of, float_operator_of, float_after, operator_after, bulk_after, instruction_after, instruction_at}
use Rattle.wasm_module.proofs.Laws.{bind_some, some_is, picked, ended, ranged}

-- ---- operators by their numbers

-- a comparison has its number
comparison_takes : (n : ℕ) (o : FloatComparison) → float_comparison_of n ≡ Some o → n ≡ float_comparison_number o
unfolding float_comparison_of
comparison_takes n o =
    picked (λ (o : FloatComparison). n ≡ float_comparison_number o) n 0 _ o _ (λ is. is) (
    picked (λ (o : FloatComparison). n ≡ float_comparison_number o) n 1 _ o _ (λ is. is) (
    picked (λ (o : FloatComparison). n ≡ float_comparison_number o) n 2 _ o _ (λ is. is) (
    picked (λ (o : FloatComparison). n ≡ float_comparison_number o) n 3 _ o _ (λ is. is) (
    picked (λ (o : FloatComparison). n ≡ float_comparison_number o) n 4 _ o _ (λ is. is) (
    picked (λ (o : FloatComparison). n ≡ float_comparison_number o) n 5 _ o _ (λ is. is) (
    ended))))))

-- an operator on one float has its number
unary_takes : (n : ℕ) (o : FloatUnaryOperator) → float_unary_of n ≡ Some o → n ≡ float_unary_number o
unfolding float_unary_of
unary_takes n o =
    picked (λ (o : FloatUnaryOperator). n ≡ float_unary_number o) n 0 _ o _ (λ is. is) (
    picked (λ (o : FloatUnaryOperator). n ≡ float_unary_number o) n 1 _ o _ (λ is. is) (
    picked (λ (o : FloatUnaryOperator). n ≡ float_unary_number o) n 2 _ o _ (λ is. is) (
    picked (λ (o : FloatUnaryOperator). n ≡ float_unary_number o) n 3 _ o _ (λ is. is) (
    picked (λ (o : FloatUnaryOperator). n ≡ float_unary_number o) n 4 _ o _ (λ is. is) (
    picked (λ (o : FloatUnaryOperator). n ≡ float_unary_number o) n 5 _ o _ (λ is. is) (
    picked (λ (o : FloatUnaryOperator). n ≡ float_unary_number o) n 6 _ o _ (λ is. is) (
    ended)))))))

-- an operator on two floats has its number
binary_takes : (n : ℕ) (o : FloatBinaryOperator) → float_binary_of n ≡ Some o → n ≡ float_binary_number o
unfolding float_binary_of
binary_takes n o =
    picked (λ (o : FloatBinaryOperator). n ≡ float_binary_number o) n 0 _ o _ (λ is. is) (
    picked (λ (o : FloatBinaryOperator). n ≡ float_binary_number o) n 1 _ o _ (λ is. is) (
    picked (λ (o : FloatBinaryOperator). n ≡ float_binary_number o) n 2 _ o _ (λ is. is) (
    picked (λ (o : FloatBinaryOperator). n ≡ float_binary_number o) n 3 _ o _ (λ is. is) (
    picked (λ (o : FloatBinaryOperator). n ≡ float_binary_number o) n 4 _ o _ (λ is. is) (
    picked (λ (o : FloatBinaryOperator). n ≡ float_binary_number o) n 5 _ o _ (λ is. is) (
    picked (λ (o : FloatBinaryOperator). n ≡ float_binary_number o) n 6 _ o _ (λ is. is) (
    ended)))))))

-- ---- operators by their opcodes

-- what is known of an operator that is alone behind an opcode
abbrev pub Coded : ℕ → FloatOperator → Type 0
Coded b (float_op.Saturate t f s) = ⊥
Coded b o = b ≡ float_opcode o

-- an operator that is all in its opcode
abbrev pub IsOneByte : FloatOperator → Type 0
IsOneByte (float_op.Saturate t f s) = ⊥
IsOneByte o = Unit {0}

-- a change of format, or none of the bits
abbrev IsAlone : FloatOperator → Type 0
IsAlone (float_op.Compare f o) = ⊥
IsAlone (float_op.Unary f o) = ⊥
IsAlone (float_op.Binary f o) = ⊥
IsAlone (float_op.Truncate t f s) = ⊥
IsAlone (float_op.Saturate t f s) = ⊥
IsAlone (float_op.Convert f t s) = ⊥
IsAlone o = Unit {0}

-- the comparisons of one type
compared_takes : (b base : ℕ) (f : FloatType) (o : FloatOperator) → ((c : FloatComparison) → b ≡ base + float_comparison_number c → Coded b (float_op.Compare f c)) → base ≤ b → float_compared f (b - base) ≡ Some o → Coded b o
compared_takes b base f o codes le e =
    let s = bind_some (float_comparison_of (b - base)) (λ c. Some (float_op.Compare f c)) o e in
    let n : b - base ≡ float_comparison_number s.0 = comparison_takes (b - base) s.0 s.1 in
    subst (Coded b) (some_is (float_op.Compare f s.0) o s.2) (codes s.0 (omega arith))

-- the operators on one float of one type
of_one_takes : (b base : ℕ) (f : FloatType) (o : FloatOperator) → ((c : FloatUnaryOperator) → b ≡ base + float_unary_number c → Coded b (float_op.Unary f c)) → base ≤ b → float_of_one f (b - base) ≡ Some o → Coded b o
of_one_takes b base f o codes le e =
    let s = bind_some (float_unary_of (b - base)) (λ c. Some (float_op.Unary f c)) o e in
    let n : b - base ≡ float_unary_number s.0 = unary_takes (b - base) s.0 s.1 in
    subst (Coded b) (some_is (float_op.Unary f s.0) o s.2) (codes s.0 (omega arith))

-- the operators on two floats of one type
of_two_takes : (b base : ℕ) (f : FloatType) (o : FloatOperator) → ((c : FloatBinaryOperator) → b ≡ base + float_binary_number c → Coded b (float_op.Binary f c)) → base ≤ b → float_of_two f (b - base) ≡ Some o → Coded b o
of_two_takes b base f o codes le e =
    let s = bind_some (float_binary_of (b - base)) (λ c. Some (float_op.Binary f c)) o e in
    let n : b - base ≡ float_binary_number s.0 = binary_takes (b - base) s.0 s.1 in
    subst (Coded b) (some_is (float_op.Binary f s.0) o s.2) (codes s.0 (omega arith))

-- the conversions
conversion_takes : (b : ℕ) (o : FloatOperator) → conversion_of b ≡ Some o → Coded b o
unfolding conversion_of
conversion_takes b o =
    picked (Coded b) b 0xA8 (float_op.Truncate I32 float_type.F32 Signed) o _ (λ is. is) (
    picked (Coded b) b 0xA9 (float_op.Truncate I32 float_type.F32 Unsigned) o _ (λ is. is) (
    picked (Coded b) b 0xAA (float_op.Truncate I32 float_type.F64 Signed) o _ (λ is. is) (
    picked (Coded b) b 0xAB (float_op.Truncate I32 float_type.F64 Unsigned) o _ (λ is. is) (
    picked (Coded b) b 0xAE (float_op.Truncate I64 float_type.F32 Signed) o _ (λ is. is) (
    picked (Coded b) b 0xAF (float_op.Truncate I64 float_type.F32 Unsigned) o _ (λ is. is) (
    picked (Coded b) b 0xB0 (float_op.Truncate I64 float_type.F64 Signed) o _ (λ is. is) (
    picked (Coded b) b 0xB1 (float_op.Truncate I64 float_type.F64 Unsigned) o _ (λ is. is) (
    picked (Coded b) b 0xB2 (float_op.Convert float_type.F32 I32 Signed) o _ (λ is. is) (
    picked (Coded b) b 0xB3 (float_op.Convert float_type.F32 I32 Unsigned) o _ (λ is. is) (
    picked (Coded b) b 0xB4 (float_op.Convert float_type.F32 I64 Signed) o _ (λ is. is) (
    picked (Coded b) b 0xB5 (float_op.Convert float_type.F32 I64 Unsigned) o _ (λ is. is) (
    picked (Coded b) b 0xB6 float_op.Demote o _ (λ is. is) (
    picked (Coded b) b 0xB7 (float_op.Convert float_type.F64 I32 Signed) o _ (λ is. is) (
    picked (Coded b) b 0xB8 (float_op.Convert float_type.F64 I32 Unsigned) o _ (λ is. is) (
    picked (Coded b) b 0xB9 (float_op.Convert float_type.F64 I64 Signed) o _ (λ is. is) (
    picked (Coded b) b 0xBA (float_op.Convert float_type.F64 I64 Unsigned) o _ (λ is. is) (
    picked (Coded b) b 0xBB float_op.Promote o _ (λ is. is) (
    picked (Coded b) b 0xBC (float_op.ToBits float_type.F32) o _ (λ is. is) (
    picked (Coded b) b 0xBD (float_op.ToBits float_type.F64) o _ (λ is. is) (
    picked (Coded b) b 0xBE (float_op.FromBits float_type.F32) o _ (λ is. is) (
    picked (Coded b) b 0xBF (float_op.FromBits float_type.F64) o _ (λ is. is) (
    ended))))))))))))))))))))))

-- an operator that is read has its opcode
pub operator_takes : (b : ℕ) (o : FloatOperator) → float_operator_of b ≡ Some o → Coded b o
unfolding float_operator_of
operator_takes b o =
    ranged (Coded b) 0x5B 0x60 b o _ _ (compared_takes b 0x5B float_type.F32 o (λ c is. is)) (
    ranged (Coded b) 0x61 0x66 b o _ _ (compared_takes b 0x61 float_type.F64 o (λ c is. is)) (
    ranged (Coded b) 0x8B 0x91 b o _ _ (of_one_takes b 0x8B float_type.F32 o (λ c is. is)) (
    ranged (Coded b) 0x92 0x98 b o _ _ (of_two_takes b 0x92 float_type.F32 o (λ c is. is)) (
    ranged (Coded b) 0x99 0x9F b o _ _ (of_one_takes b 0x99 float_type.F64 o (λ c is. is)) (
    ranged (Coded b) 0xA0 0xA6 b o _ _ (of_two_takes b 0xA0 float_type.F64 o (λ c is. is)) (
    conversion_takes b o))))))

-- what is known of a conversion by its number after FC
abbrev pub Numbered : ℕ → FloatOperator → Type 0
Numbered n (float_op.Saturate t f s) = n ≡ saturation_number t f s
Numbered n o = ⊥

-- a saturating conversion has its number
pub saturation_takes : (n : ℕ) (o : FloatOperator) → saturation_of n ≡ Some o → Numbered n o
unfolding saturation_of
saturation_takes n o =
    picked (Numbered n) n 0 (float_op.Saturate I32 float_type.F32 Signed) o _ (λ is. is) (
    picked (Numbered n) n 1 (float_op.Saturate I32 float_type.F32 Unsigned) o _ (λ is. is) (
    picked (Numbered n) n 2 (float_op.Saturate I32 float_type.F64 Signed) o _ (λ is. is) (
    picked (Numbered n) n 3 (float_op.Saturate I32 float_type.F64 Unsigned) o _ (λ is. is) (
    picked (Numbered n) n 4 (float_op.Saturate I64 float_type.F32 Signed) o _ (λ is. is) (
    picked (Numbered n) n 5 (float_op.Saturate I64 float_type.F32 Unsigned) o _ (λ is. is) (
    picked (Numbered n) n 6 (float_op.Saturate I64 float_type.F64 Signed) o _ (λ is. is) (
    picked (Numbered n) n 7 (float_op.Saturate I64 float_type.F64 Unsigned) o _ (λ is. is) (
    ended))))))))

-- ---- they are read again

-- an opcode is read as its operator, whatever follows
abbrev ReadsAgain : FloatOperator → Type 0
ReadsAgain o = (rest : List ℕ) → instruction_at Floats (float_opcode o ∷ rest) ≡ Some (op.Float o, rest)

compare_again : (f : FloatType) (o : FloatComparison) → ReadsAgain (float_op.Compare f o)
unfolding instruction_at instruction_after operator_after float_after float_operator_of float_comparison_of
compare_again float_type.F32 float_comparison.Eq rest = refl
compare_again float_type.F32 o rest = refl
compare_again float_type.F64 float_comparison.Eq rest = refl
compare_again float_type.F64 o rest = refl

unary_again : (f : FloatType) (o : FloatUnaryOperator) → ReadsAgain (float_op.Unary f o)
unfolding instruction_at instruction_after operator_after float_after float_operator_of float_unary_of
unary_again float_type.F32 float_unary.Abs rest = refl
unary_again float_type.F32 o rest = refl
unary_again float_type.F64 float_unary.Abs rest = refl
unary_again float_type.F64 o rest = refl

binary_again : (f : FloatType) (o : FloatBinaryOperator) → ReadsAgain (float_op.Binary f o)
unfolding instruction_at instruction_after operator_after float_after float_operator_of float_binary_of
binary_again float_type.F32 float_binary.Add rest = refl
binary_again float_type.F32 o rest = refl
binary_again float_type.F64 float_binary.Add rest = refl
binary_again float_type.F64 o rest = refl

truncate_again : (t : IntegerType) (f : FloatType) (s : Sign) → ReadsAgain (float_op.Truncate t f s)
unfolding instruction_at instruction_after operator_after float_after float_operator_of conversion_of
truncate_again I32 float_type.F32 Signed rest = refl
truncate_again I32 float_type.F32 Unsigned rest = refl
truncate_again I32 float_type.F64 Signed rest = refl
truncate_again I32 float_type.F64 Unsigned rest = refl
truncate_again I64 float_type.F32 Signed rest = refl
truncate_again I64 float_type.F32 Unsigned rest = refl
truncate_again I64 float_type.F64 Signed rest = refl
truncate_again I64 float_type.F64 Unsigned rest = refl

convert_again : (f : FloatType) (t : IntegerType) (s : Sign) → ReadsAgain (float_op.Convert f t s)
unfolding instruction_at instruction_after operator_after float_after float_operator_of conversion_of
convert_again float_type.F32 I32 Signed rest = refl
convert_again float_type.F32 I32 Unsigned rest = refl
convert_again float_type.F32 I64 Signed rest = refl
convert_again float_type.F32 I64 Unsigned rest = refl
convert_again float_type.F64 I32 Signed rest = refl
convert_again float_type.F64 I32 Unsigned rest = refl
convert_again float_type.F64 I64 Signed rest = refl
convert_again float_type.F64 I64 Unsigned rest = refl

reinterpret_again : (o : FloatOperator) → IsAlone o → ReadsAgain o
unfolding instruction_at instruction_after operator_after float_after float_operator_of conversion_of
reinterpret_again float_op.Demote is rest = refl
reinterpret_again float_op.Promote is rest = refl
reinterpret_again (float_op.ToBits float_type.F32) is rest = refl
reinterpret_again (float_op.ToBits float_type.F64) is rest = refl
reinterpret_again (float_op.FromBits float_type.F32) is rest = refl
reinterpret_again (float_op.FromBits float_type.F64) is rest = refl
reinterpret_again o is rest = absurd is

-- an operator is read by its opcode
pub operator_again : (o : FloatOperator) → IsOneByte o → ReadsAgain o
operator_again (float_op.Compare f o) is = compare_again f o
operator_again (float_op.Unary f o) is = unary_again f o
operator_again (float_op.Binary f o) is = binary_again f o
operator_again (float_op.Truncate t f s) is = truncate_again t f s
operator_again (float_op.Convert f t s) is = convert_again f t s
operator_again (float_op.Saturate t f s) is = absurd is
operator_again o is = reinterpret_again o tt

-- a saturating conversion is read by its number after FC
pub saturation_again : (t : IntegerType) (f : FloatType) (s : Sign) (rest : List ℕ) → bulk_after Floats (saturation_number t f s) rest ≡ Some (op.Float (float_op.Saturate t f s), rest)
unfolding bulk_after saturation_of
saturation_again I32 float_type.F32 Signed rest = refl
saturation_again I32 float_type.F32 Unsigned rest = refl
saturation_again I32 float_type.F64 Signed rest = refl
saturation_again I32 float_type.F64 Unsigned rest = refl
saturation_again I64 float_type.F32 Signed rest = refl
saturation_again I64 float_type.F32 Unsigned rest = refl
saturation_again I64 float_type.F64 Signed rest = refl
saturation_again I64 float_type.F64 Unsigned rest = refl
