use Rattle.std.proofs.Common.{refl}
use Rattle.wasm_module.proofs.code.branch_table.Goals as goal

pub returns : goal.returns
returns c = rw (c.in_ok-labels.ensures, c.in_ok-new.ensures) refl
