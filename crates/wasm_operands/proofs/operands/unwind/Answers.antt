use Rattle.std.proofs.Common.{arith, ap, ◌∙◌, reverse}
use Rattle.wasm_operands.proofs.PlainSteps.AtRest.{unwound_moved}
use Rattle.wasm_operands.proofs.operands.unwind.Goals as goal

pub returns-clause-unwound : goal.returns-clause-unwound
returns-clause-unwound c =
    ap reverse c.truncate.ensures.items
    ∙ unwound_moved c.args.kept c.args.height c.args.values.now.items c.move_down.new.values.items (omega (arith, c.requires, c.args.values.now.ok.0)) c.move_down.ensures.moved
