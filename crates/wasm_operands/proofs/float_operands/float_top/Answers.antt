use Rattle.std.proofs.Common.{ℕ, List, length, reverse, sym, subst, arith}
use Rattle.std.proofs.lemmas.List.{length-reverse}
use Rattle.wasm_valid.specs.Arities.{float_takes}
use Rattle.wasm_operands.specs.internal.Plain.Performing.{AreOnTop}
use Rattle.wasm_operands.proofs.PlainSteps.FloatOperands.{are_there, some_taken}
use Rattle.wasm_operands.proofs.float_operands.float_top.Goals as goal

pub made-requires : goal.made-requires
made-requires c = subst (λ (xs : List ℕ). AreOnTop (float_takes c.args.operator) (reverse xs)) (sym c.as_slice.ensures.value) c.requires

pub replace-requires-clause-some : goal.replace-requires-clause-some
replace-requires-clause-some c = omega (arith, c.taken.ensures, some_taken c.args.operator)

pub replace-requires-clause-there : goal.replace-requires-clause-there
replace-requires-clause-there c =
    omega (arith, c.taken.ensures, are_there (float_takes c.args.operator) (reverse c.args.values.now.items) c.requires, length-reverse c.args.values.now.items, c.args.values.now.ok.0)
