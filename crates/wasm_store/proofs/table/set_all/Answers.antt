use Rattle.std.proofs.Common.{arith, rules}
use Rattle.wasm_store.proofs.Setting.{one_set, all_set}
use Rattle.wasm_store.proofs.table.set_all.Goals as goal

pub loop-i-preserved : goal.loop-i-preserved
loop-i-preserved c = one_set _ _ _ _ (omega arith) (omega arith) (search rules) c.loop-i.invariant

pub returns : goal.returns
returns c = all_set _ _ _ (omega arith) (omega arith) c.loop-i.invariant
