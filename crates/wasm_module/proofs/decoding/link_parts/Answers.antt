use Rattle.std.proofs.Common.{refl}
use Rattle.wasm_module.specs.internal.ModuleReading.{link_parts_at}
use Rattle.wasm_syntax.proofs.Exits.{handed_on}
use Rattle.wasm_module.proofs.decoding.link_parts.Goals as goal

pub returns-in_err-exports : goal.returns-in_err-exports
unfolding link_parts_at
returns-in_err-exports c = handed_on _ _ c.from_residual.result _ c.from_residual.ensures.1 (λ other. rw (c.in_err-exports.ensures other) refl)

pub returns-in_err-rest : goal.returns-in_err-rest
unfolding link_parts_at
returns-in_err-rest c = handed_on _ _ c.from_residual-in_err-rest.result _ c.from_residual-in_err-rest.ensures.1 (λ other. rw (c.in_ok-exports.ensures, c.in_err-rest.ensures other) refl)

pub returns : goal.returns
unfolding link_parts_at
returns c = rw (c.in_ok-exports.ensures, c.in_ok-rest.ensures) refl
