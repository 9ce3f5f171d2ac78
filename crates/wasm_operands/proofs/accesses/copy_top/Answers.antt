use Rattle.std.proofs.Common.{ℕ, List, reverse, ap, arith}
use Rattle.std.specs.Prelude.{slice_index}
use Rattle.std.proofs.lemmas.Grind.{common_steps}
use Rattle.wasm_operands.proofs.accesses.copy_top.Goals as goal

pub overflow_cast-len : goal.overflow_cast-len
overflow_cast-len c = omega (arith, c.operand-len.ensures, ap (λ (xs : List ℕ). slice_index (reverse xs) 0) c.deref.ensures.value, c.requires.1)

pub overflow_cast-source : goal.overflow_cast-source
overflow_cast-source c = omega (arith, c.operand-source.ensures, ap (λ (xs : List ℕ). slice_index (reverse xs) 1) c.deref-2.ensures.value, c.requires.2)

pub overflow_cast-target : goal.overflow_cast-target
overflow_cast-target c = omega (arith, c.operand-target.ensures, ap (λ (xs : List ℕ). slice_index (reverse xs) 2) c.deref-3.ensures.value, c.requires.3)

pub operand-len-requires : goal.operand-len-requires
operand-len-requires c = grind (arith, common_steps)

pub operand-source-requires : goal.operand-source-requires
operand-source-requires c = grind (arith, common_steps)

pub operand-target-requires : goal.operand-target-requires
operand-target-requires c = grind (arith, common_steps)

pub remove-requires : goal.remove-requires
remove-requires c = grind (arith, common_steps)
