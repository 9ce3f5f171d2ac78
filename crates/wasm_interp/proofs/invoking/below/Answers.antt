use Rattle.wasm_operands.proofs.PlainSteps.AtRest.{taken_between}
use Rattle.wasm_interp.proofs.invoking.below.Goals as goal

pub returns : goal.returns
returns c = taken_between c.args.values.now c.args.count c.args.above c.requires
