use Rattle.std.proofs.Common.{List, IsTrue, ◌↔◌, subst}
use Rattle.wasm_syntax.specs.declared.instruction.Instruction.{Instruction}
use Rattle.wasm_valid.specs.Validity.{IsConstant}
use Rattle.wasm_valid.proofs.module_rules.is_initial.Goals as goal

pub returns : goal.returns
returns c =
    subst (λ (code : List Instruction). IsTrue c.is_constant.result ↔ IsConstant c.args.imported.now c.args.global.now.global_type.value_type code) c.as_slice.ensures c.is_constant.ensures
