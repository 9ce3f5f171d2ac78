use Rattle.std.proofs.Common.{◌∷◌, []}
use Rattle.wasm_valid.specs.declared.control_frames.BlockKind.TheVariants.{Block}
use Rattle.wasm_valid.specs.internal.Blocks.{new_block}
use Rattle.wasm_valid.proofs.Going.{GoesOn}
use Rattle.wasm_valid.proofs.function_context.FunctionContext.untyped.Given as goal

abbrev pub invariant-loop-i : goal.invariant-loop-i
invariant-loop-i l = GoesOn l.self (new_block Block l.self.returns ∷ []) l.inner l.i l.walk
