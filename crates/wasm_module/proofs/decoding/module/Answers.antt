use Rattle.std.proofs.Common.{refl}
use Rattle.std.proofs.lemmas.Bool.{le-leb}
use Rattle.wasm_module.specs.internal.ModuleReading.{module_from}
use Rattle.wasm_syntax.proofs.Exits.{handed_on}
use Rattle.wasm_module.proofs.decoding.module.Goals as goal

pub returns-in_err-preamble : goal.returns-in_err-preamble
unfolding module_from
returns-in_err-preamble c = handed_on _ _ c.from_residual.result _ c.from_residual.ensures.1 (λ other. rw (le-leb _ _ c.if-bytes.false, ← c.new-cursor.ensures, c.in_err-preamble.ensures other) refl)

pub returns-in_err-decoded : goal.returns-in_err-decoded
unfolding module_from
returns-in_err-decoded c = handed_on _ _ c.from_residual-in_err-decoded.result _ c.from_residual-in_err-decoded.ensures.1 (λ other. rw (le-leb _ _ c.if-bytes.false, ← c.new-cursor.ensures, c.in_ok-preamble.ensures, c.in_err-decoded.ensures other) refl)

pub returns-then-not-is_empty : goal.returns-then-not-is_empty
unfolding module_from
returns-then-not-is_empty c = λ other. rw (le-leb _ _ c.if-bytes.false, ← c.new-cursor.ensures, c.in_ok-preamble.ensures, c.in_ok-decoded.ensures, ← c.if-not-is_empty.ensures) refl

pub returns-in-Err : goal.returns-in-Err
unfolding module_from
returns-in-Err c = λ other. rw (le-leb _ _ c.if-bytes.false, ← c.new-cursor.ensures, c.in_ok-preamble.ensures, c.in_ok-decoded.ensures, ← c.if-not-is_empty.ensures, c.in-Err.ensures other) refl

pub returns-in-Ok : goal.returns-in-Ok
unfolding module_from
returns-in-Ok c = rw (le-leb _ _ c.if-bytes.false, ← c.new-cursor.ensures, c.in_ok-preamble.ensures, c.in_ok-decoded.ensures, ← c.if-not-is_empty.ensures, c.in-Ok.ensures) refl
