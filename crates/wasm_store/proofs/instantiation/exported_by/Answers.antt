use Rattle.std.proofs.Common.{arith}
use Rattle.std.proofs.lemmas.Grind.{common_steps}
use Rattle.wasm_store.proofs.Starting.{is_export}
use Rattle.wasm_store.proofs.instantiation.exported_by.Goals as goal

pub returns-clause-found : goal.returns-clause-found
returns-clause-found c =
    is_export _ _ _ _ _ _ c.as_str.ensures c.if-ne.ensures c.in-Function.is c.function_type-func_type.ensures c.if-not-is_empty.ensures c.if-not-is_empty-2.ensures

pub function_type-func_type-requires-clause-fits : goal.function_type-func_type-requires-clause-fits
function_type-func_type-requires-clause-fits c = grind (arith, common_steps)
