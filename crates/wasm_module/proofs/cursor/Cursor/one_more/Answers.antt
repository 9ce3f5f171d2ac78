use Rattle.std.proofs.Common.{refl}
use Rattle.wasm_syntax.specs.internal.CodeReading.{one_more_at}
use Rattle.wasm_module.proofs.cursor.Cursor.one_more.Goals as goal

pub returns : goal.returns
unfolding one_more_at
returns c = rw (c.in_ok-instruction.ensures, c.in_ok-step.ensures, c.in_ok-push.ensures.items) refl
