use Rattle.std.proofs.Common.{refl}
use Rattle.wasm_module.specs.internal.ModuleReading.{list_at}
use Rattle.wasm_syntax.proofs.Exits.{handed_on}
use Rattle.wasm_module.proofs.decoding.list.Goals as goal

pub returns-in_err-items : goal.returns-in_err-items
unfolding list_at
returns-in_err-items g c = handed_on _ _ c.from_residual.result _ c.from_residual.ensures.1 (λ other. rw (c.in_err-items.ensures other) refl)

pub returns-in-Some : goal.returns-in-Some
unfolding list_at
returns-in-Some g c = rw (c.in_ok-items.ensures, c.in-Some.is) refl

pub returns-in-None : goal.returns-in-None
unfolding list_at
returns-in-None g c = rw (c.in_ok-items.ensures, c.in-None.is, c.new.ensures) refl
