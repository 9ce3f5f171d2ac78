use Rattle.std.proofs.Common.{refl}
use Rattle.wasm_module.specs.internal.ModuleReading.{start_parts_at}
use Rattle.wasm_syntax.proofs.Exits.{handed_on}
use Rattle.wasm_module.proofs.decoding.start_parts.Goals as goal

pub returns-in_err-start : goal.returns-in_err-start
unfolding start_parts_at
returns-in_err-start c = handed_on _ _ c.from_residual.result _ c.from_residual.ensures.1 (λ other. rw (c.in_err-start.ensures other) refl)

pub returns-in_err-element_segments : goal.returns-in_err-element_segments
unfolding start_parts_at
returns-in_err-element_segments c = handed_on _ _ c.from_residual-in_err-element_segments.result _ c.from_residual-in_err-element_segments.ensures.1 (λ other. rw (c.in_ok-start.ensures, c.in_err-element_segments.ensures other) refl)

pub returns-in_err-code : goal.returns-in_err-code
unfolding start_parts_at
returns-in_err-code c = handed_on _ _ c.from_residual-in_err-code.result _ c.from_residual-in_err-code.ensures.1 (λ other. rw (c.in_ok-start.ensures, c.in_ok-element_segments.ensures, c.in_err-code.ensures other) refl)

pub returns : goal.returns
unfolding start_parts_at
returns c = rw (c.in_ok-start.ensures, c.in_ok-element_segments.ensures, c.in_ok-code.ensures) refl
