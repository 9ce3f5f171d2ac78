use Rattle.std.proofs.Common.{refl}
use Rattle.wasm_module.specs.internal.ModuleReading.{code_parts_at}
use Rattle.wasm_syntax.proofs.Exits.{handed_on}
use Rattle.wasm_module.proofs.decoding.code_parts.Goals as goal

pub returns-in_err-data_count : goal.returns-in_err-data_count
unfolding code_parts_at
returns-in_err-data_count c = handed_on _ _ c.from_residual.result _ c.from_residual.ensures.1 (λ other. rw (c.in_err-data_count.ensures other) refl)

pub returns-in_err-bodies : goal.returns-in_err-bodies
unfolding code_parts_at
returns-in_err-bodies c = handed_on _ _ c.from_residual-in_err-bodies.result _ c.from_residual-in_err-bodies.ensures.1 (λ other. rw (c.in_ok-data_count.ensures, c.in_err-bodies.ensures other) refl)

pub returns : goal.returns
unfolding code_parts_at
returns c = rw (c.in_ok-data_count.ensures, c.in_ok-bodies.ensures) refl
