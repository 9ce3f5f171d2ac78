use Rattle.std.proofs.Common.{◌≡◌, ◌-◌, ◌∷◌, []}
use Rattle.wasm_syntax.specs.declared.open_blocks.OpenBlock.TheVariants.{Plain}
use Rattle.wasm_syntax.specs.internal.CodeReading.{code_from}
use Rattle.wasm_module.proofs.Loop.{with_front}
use Rattle.wasm_module.proofs.cursor.Cursor.code.Given as goal

abbrev pub invariant-loop : goal.invariant-loop
invariant-loop l = with_front l.code.items (code_from l.profile (l.end - l.counter) l.blocks l.self) ≡ code_from l.profile l.end (Plain ∷ []) l.fn.self
