use Rattle.std.proofs.Common.{refl}
use Rattle.wasm_module.specs.internal.ModuleReading.{list_at}
use Rattle.wasm_syntax.proofs.Exits.{handed_on}
use Rattle.wasm_module.proofs.decoding.tables.Goals as goal

pub returns-in_err-section : goal.returns-in_err-section
unfolding list_at
returns-in_err-section c = handed_on _ _ c.from_residual.result _ c.from_residual.ensures.1 (λ other. rw (c.in_err-section.ensures other) refl)

pub returns-in-Some : goal.returns-in-Some
unfolding list_at
returns-in-Some c = rw (c.in_ok-section.ensures, c.in-Some.is, c.tables.view_is) refl

pub returns-in-None : goal.returns-in-None
unfolding list_at
returns-in-None c = rw (c.in_ok-section.ensures, c.in-None.is, c.new.ensures) refl
