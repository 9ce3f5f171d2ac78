-- Of finite numbers it is a number.
use Rattle.std.proofs.Common.{sym, ◌∙◌}
use Rattle.std.specs.Float.Ieee.{binary32}
use Rattle.wasm_float.proofs.Finites.{both, no_nans, add_number}
use Rattle.wasm_float.proofs.f32_operators.f32_add.Goals as goal

pub float_from_bits-a : goal.float_from_bits-a
float_from_bits-a c = (no_nans binary32 c.args.a c.args.b (sym c.both_finite.ensures ∙ c.if-both_finite.true)).0

pub float_from_bits-b : goal.float_from_bits-b
float_from_bits-b c = (no_nans binary32 c.args.a c.args.b (sym c.both_finite.ensures ∙ c.if-both_finite.true)).1

pub number_bits-requires : goal.number_bits-requires
number_bits-requires c =
    let finite = both binary32 c.args.a c.args.b (sym c.both_finite.ensures ∙ c.if-both_finite.true) in
    add_number binary32 _ _ finite.0 finite.1
