use Rattle.std.proofs.Common.{◌≡◌, length, reverse}
use Rattle.wasm_valid.specs.internal.Stack.{pops}
use Rattle.wasm_valid.proofs.operands.OperandStack.take_all.Given as goal

abbrev pub invariant-loop-last : goal.invariant-loop-last
invariant-loop-last l = record {
  below : l.self.below ≡ l.initial.self.below;
  rest : pops (reverse l.left) l.self.stack ≡ pops (reverse l.fn.types) l.initial.self.stack;
}

abbrev pub decreases-loop-last : goal.decreases-loop-last
decreases-loop-last l = length l.left
