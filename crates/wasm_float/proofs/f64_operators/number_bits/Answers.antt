-- The kit's bits of a float, which fits its format.
use Rattle.std.proofs.Common.{rules}
use Rattle.wasm_float.proofs.Standard.{allowed_bits}
use Rattle.wasm_float.proofs.f64_operators.number_bits.Goals as goal

pub returns-clause-allowed : goal.returns-clause-allowed
returns-clause-allowed c = search (rules, allowed_bits)
