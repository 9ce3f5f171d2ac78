use Rattle.wasm_lowering.proofs.Making.{ok_weaker}
use Rattle.wasm_operands.proofs.least.least_of.Goals as goal

pub returns : goal.returns
returns c = ok_weaker c.first_seen.result c.first_seen.ensures (λ k s. (c.in_ok-key.key, c.in_ok-key.ensures, s))
