use Rattle.std.proofs.Common.{◌≤◌, length, subst}
use Rattle.wasm_store.proofs.Starting.{none_next, no_export, item_at}
use Rattle.wasm_store.proofs.instantiation.exported_function.Goals as goal

pub loop-export-preserved : goal.loop-export-preserved
loop-export-preserved c =
    none_next c.args.name.now c.args.guest.now c.loop-export.export-index c.export-item.result
    (item_at _ _ _ _ c.as_slice-export-items.ensures c.loop-export-test.true c.export-item.is)
    c.in_default.ensures.other c.loop-export.invariant

pub returns-clause-missing : goal.returns-clause-missing
returns-clause-missing c =
    no_export c.args.name.now c.args.guest.now c.loop-export.export-index (subst (λ y. length y ≤ c.loop-export.export-index) c.as_slice-export-items.ensures c.loop-export-test.false) c.loop-export.invariant
