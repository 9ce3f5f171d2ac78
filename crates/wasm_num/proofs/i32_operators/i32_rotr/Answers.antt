use Rattle.std.proofs.Common.{◌%◌, ◌∙◌, arith}
use Rattle.wasm_num.proofs.Rotations.{rotates_down}
use Rattle.wasm_num.proofs.i32_operators.i32_rotr.Goals as goal

pub returns : goal.returns
returns c = c.rotate_right.ensures ∙ rotates_down 32 c.args.x (c.args.y % 32) (omega arith) (omega arith)
