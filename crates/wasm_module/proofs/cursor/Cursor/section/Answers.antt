use Rattle.std.proofs.Common.{refl}
use Rattle.wasm_syntax.specs.Reading.{section_at}
use Rattle.wasm_syntax.proofs.Exits.{handed_on}
use Rattle.wasm_module.proofs.cursor.Cursor.section.Goals as goal

pub returns-then-not-begins : goal.returns-then-not-begins
unfolding section_at
returns-then-not-begins g c = rw (← c.if-not-begins.ensures) refl

pub returns-in_err-byte : goal.returns-in_err-byte
unfolding section_at
returns-in_err-byte g c = handed_on _ _ c.from_residual.result _ c.from_residual.ensures.1 (λ other. rw (← c.if-not-begins.ensures, c.in_err-byte.ensures other) refl)

pub returns-in_err-value : goal.returns-in_err-value
unfolding section_at
returns-in_err-value g c = handed_on _ _ c.from_residual-in_err-value.result _ c.from_residual-in_err-value.ensures.1 (λ other. rw (← c.if-not-begins.ensures, c.in_ok-byte.ensures, c.in_err-value.ensures other) refl)

pub returns-in_err-customs : goal.returns-in_err-customs
unfolding section_at
returns-in_err-customs g c = handed_on _ _ c.from_residual-in_err-customs.result _ c.from_residual-in_err-customs.ensures.1 (λ other. rw (← c.if-not-begins.ensures, c.in_ok-byte.ensures, c.in_ok-value.ensures, c.in_err-customs.ensures other) refl)

pub returns : goal.returns
unfolding section_at
returns g c = rw (← c.if-not-begins.ensures, c.in_ok-byte.ensures, c.in_ok-value.ensures, c.in_ok-customs.ensures) refl
