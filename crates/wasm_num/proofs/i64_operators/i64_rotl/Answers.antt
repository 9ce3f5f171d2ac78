use Rattle.std.proofs.Common.{◌≡◌, ◌%◌, ◌∙◌, arith}
use Rattle.wasm_num.proofs.Rotations.{rotates_up}
use Rattle.wasm_num.proofs.i64_operators.i64_rotl.Goals as goal

pub returns : goal.returns
returns c =
    let once : c.args.y % 64 % 64 ≡ c.args.y % 64 = omega arith in
    c.rotate_left.ensures ∙ rw once (rotates_up 64 c.args.x (c.args.y % 64) (omega arith) (omega arith))
