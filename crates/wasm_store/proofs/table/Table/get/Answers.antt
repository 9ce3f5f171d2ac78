use Rattle.std.proofs.Common.{arith}
use Rattle.std.proofs.lemmas.Grind.{elements}
use Rattle.wasm_store.proofs.table.Table.get.Goals as goal

pub returns : goal.returns
returns c = grind (arith, elements)
