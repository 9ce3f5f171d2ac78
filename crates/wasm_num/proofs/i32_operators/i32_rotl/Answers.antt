use Rattle.std.proofs.Common.{◌%◌, ◌∙◌, arith}
use Rattle.wasm_num.proofs.Rotations.{rotates_up}
use Rattle.wasm_num.proofs.i32_operators.i32_rotl.Goals as goal

pub returns : goal.returns
returns c = c.rotate_left.ensures ∙ rotates_up 32 c.args.x (c.args.y % 32) (omega arith) (omega arith)
