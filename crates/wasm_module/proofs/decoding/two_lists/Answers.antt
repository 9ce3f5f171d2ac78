use Rattle.std.proofs.Common.{refl}
use Rattle.wasm_module.proofs.decoding.two_lists.Goals as goal

pub returns : goal.returns
returns g c = rw (c.in_ok-first.ensures, c.in_ok-second.ensures) refl
