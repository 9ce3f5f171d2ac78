-- Numbers that fit types, as values.
use Rattle.std.proofs.Common.{◌≡◌, ℕ, suc, List, [], ◌∷◌, length, refl, ap, arith}
use Rattle.std.specs.List.{AllByRecursion}
use Rattle.wasm_syntax.specs.declared.instruction.ValueType.{ValueType}
use Rattle.wasm_steps.specs.Configuration.{numbers, types}
use Rattle.wasm_interp.specs.Invoking.{Fit, values_of}
use Rattle.wasm_operands.specs.internal.Standing.{IsInRange}

pub types_given : (ts : List ValueType) (ns : List ℕ) → length ns ≡ length ts → types (values_of ts ns) ≡ ts
types_given [] ns e = refl
types_given (t ∷ ts) [] e = absurd (omega (arith, e))
types_given (t ∷ ts) (n ∷ ns) e = ap (λ zs. t ∷ zs) (types_given ts ns (omega (arith, e)))

pub numbers_given : (ts : List ValueType) (ns : List ℕ) → length ns ≡ length ts → numbers (values_of ts ns) ≡ ns
numbers_given [] [] e = refl
numbers_given [] (n ∷ ns) e = absurd (omega (arith, e))
numbers_given (t ∷ ts) [] e = refl
numbers_given (t ∷ ts) (n ∷ ns) e = ap (λ zs. n ∷ zs) (numbers_given ts ns (omega (arith, e)))

pub given_in_range : (ts : List ValueType) (ns : List ℕ) → Fit ts ns → AllByRecursion IsInRange (values_of ts ns)
given_in_range [] ns f = tt
given_in_range (t ∷ ts) [] f = tt
given_in_range (t ∷ ts) (n ∷ ns) f = (f.each 0 t n refl refl, given_in_range ts ns (record { count = omega (arith, f.count); each = λ k u m a b. f.each (suc k) u m a b }))
