use Rattle.std.proofs.Common.{refl, sym, inr}
use Rattle.wasm_operands.proofs.least.first_seen.Goals as goal

pub returns : goal.returns
returns c = inr (sym c.in_default.ensures.value, refl, λ q. c.in_ok-insert.ensures.updates.0 q)
