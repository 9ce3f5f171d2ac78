-- What an operator on floats gives (sections 4.3.3 and 4.4.1), by the bits of its operands. `wasm_float` has the values;
-- a NaN that is computed is always the positive canonical one, which the standard allows (`Allowed` of `wasm_float`).
use Rattle.std.specs.Prelude.{ℕ, ◌-◌, List, slice_index, Bool, Result, Ok, Err, pos, to_bits, from_bits}
use Rattle.std.specs.Float as floats
use Rattle.std.specs.Float.Ieee as ieee
use Rattle.std.specs.Float.Ieee.{Float, Format, binary32, binary64}
use Rattle.wasm_syntax.specs.declared.number.Sign.{Sign}
use Rattle.wasm_syntax.specs.declared.number.Sign.TheVariants.{Unsigned, Signed}
use Rattle.wasm_syntax.specs.declared.instruction.FloatType.{FloatType}
use Rattle.wasm_syntax.specs.declared.instruction.FloatType.TheVariants as float_type
use Rattle.wasm_syntax.specs.declared.instruction.FloatComparison.{FloatComparison}
use Rattle.wasm_syntax.specs.declared.instruction.FloatComparison.TheVariants.{Eq, Ne, Lt, Gt, Le, Ge}
use Rattle.wasm_syntax.specs.declared.instruction.FloatUnaryOperator.{FloatUnaryOperator}
use Rattle.wasm_syntax.specs.declared.instruction.FloatUnaryOperator.TheVariants.{Abs, Neg, Ceil, Floor, Trunc, Nearest, Sqrt}
use Rattle.wasm_syntax.specs.declared.instruction.FloatBinaryOperator.{FloatBinaryOperator}
use Rattle.wasm_syntax.specs.declared.instruction.FloatBinaryOperator.TheVariants.{Add, Sub, Mul, Div, Min, Max, Copysign}
use Rattle.wasm_syntax.specs.declared.instruction.FloatOperator.{FloatOperator}
use Rattle.wasm_syntax.specs.declared.instruction.FloatOperator.TheVariants as float_op
use Rattle.wasm_syntax.specs.ValueTypes.{integer}
use Rattle.wasm_num.specs.declared.trap.Trap.{Trap}
use Rattle.wasm_num.specs.declared.trap.Trap.TheVariants.{InvalidConversion, IntegerOverflow}
use Rattle.wasm_num.specs.Numbers.{signed, wrapped, bool_number}
use Rattle.wasm_float.specs.declared.untruncated.Untruncated.{Untruncated}
use Rattle.wasm_float.specs.declared.untruncated.Untruncated.TheVariants.{NotANumber, OutOfRange}
use Rattle.wasm_float.specs.Floats.{on_bits, on_two, least, greatest, size_bits, negated, signed_as, test, truncated, truncated_signed, demoted, promoted}
use Rattle.wasm_steps.specs.Operators.{width}

abbrev pub format : FloatType → Format
format float_type.F32 = binary32
format float_type.F64 = binary64

abbrev pub float_test : FloatComparison → Float → Float → Bool
float_test Eq x y = ieee.eq x y
float_test Ne x y = ieee.ne x y
float_test Lt x y = ieee.lt x y
float_test Gt x y = ieee.lt y x
float_test Le x y = ieee.le x y
float_test Ge x y = ieee.le y x

abbrev pub float_unary : Format → FloatUnaryOperator → ℕ → ℕ
float_unary f Abs a = size_bits f a
float_unary f Neg a = negated f a
float_unary f Ceil a = on_bits f (floats.ceil f) a
float_unary f Floor a = on_bits f (floats.floor f) a
float_unary f Trunc a = on_bits f (floats.trunc f) a
float_unary f Nearest a = on_bits f (floats.round_ties_even f) a
float_unary f Sqrt a = on_bits f (ieee.sqrt f) a

abbrev pub float_binary : Format → FloatBinaryOperator → ℕ → ℕ → ℕ
float_binary f Add a b = on_two f (ieee.add f) a b
float_binary f Sub a b = on_two f (ieee.sub f) a b
float_binary f Mul a b = on_two f (ieee.mul f) a b
float_binary f Div a b = on_two f (ieee.div f) a b
float_binary f Min a b = on_two f least a b
float_binary f Max a b = on_two f greatest a b
float_binary f Copysign a b = signed_as f a b

abbrev pub untruncated : Untruncated → Trap
untruncated NotANumber = InvalidConversion
untruncated OutOfRange = IntegerOverflow

-- a number, or a trap
abbrev pub or_trap : {X : Type 0} → (X → ℕ) → Result X Untruncated → Result ℕ Trap
or_trap number (Ok x) = Ok (number x)
or_trap number (Err e) = Err (untruncated e)

-- the whole part as an integer of n bits
abbrev pub whole_part : ℕ → Sign → Float → Result ℕ Trap
whole_part n Unsigned x = or_trap (λ m. m) (truncated n x)
whole_part n Signed x = or_trap (wrapped n) (truncated_signed n x)

-- the same, or the integer of n bits that is nearest to it; 0 for a NaN
abbrev pub saturated : ℕ → Sign → Float → ℕ
saturated n Unsigned x = ieee.to_unsigned n x
saturated n Signed x = wrapped n (ieee.to_signed (n - 1) x)

-- the float nearest to an integer of n bits
abbrev pub converted : Format → ℕ → Sign → ℕ → ℕ
converted f n Unsigned m = to_bits f (ieee.of_int f (pos m))
converted f n Signed m = to_bits f (ieee.of_int f (signed n m))

-- What it gives, of the numbers on top: the last operand is the first of them.
abbrev pub float_number : FloatOperator → List ℕ → Result ℕ Trap
float_number (float_op.Compare f o) vs = Ok (bool_number (test (format f) (float_test o) (slice_index vs 1) (slice_index vs 0)))
float_number (float_op.Unary f o) vs = Ok (float_unary (format f) o (slice_index vs 0))
float_number (float_op.Binary f o) vs = Ok (float_binary (format f) o (slice_index vs 1) (slice_index vs 0))
float_number (float_op.Truncate t f s) vs = whole_part (width (integer t)) s (from_bits (format f) (slice_index vs 0))
float_number (float_op.Saturate t f s) vs = Ok (saturated (width (integer t)) s (from_bits (format f) (slice_index vs 0)))
float_number (float_op.Convert f t s) vs = Ok (converted (format f) (width (integer t)) s (slice_index vs 0))
float_number float_op.Demote vs = Ok (demoted (slice_index vs 0))
float_number float_op.Promote vs = Ok (promoted (slice_index vs 0))
float_number (float_op.ToBits f) vs = Ok (slice_index vs 0)
float_number (float_op.FromBits f) vs = Ok (slice_index vs 0)
