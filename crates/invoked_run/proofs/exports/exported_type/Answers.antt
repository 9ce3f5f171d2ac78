use Rattle.std.proofs.Common.{List, ◌≤◌, ◌≡◌, length, subst, sym}
use Rattle.wasm_syntax.specs.declared.module.Export.{Export}
use Rattle.invoked_run.proofs.Finding.{none_first, none_next, no_export, item_at}
use Rattle.invoked_run.proofs.exports.exported_type.Goals as goal

pub loop-export-init : goal.loop-export-init
loop-export-init c = none_first c.args.guest.now c.args.name.now

pub loop-export-preserved : goal.loop-export-preserved
loop-export-preserved c =
    none_next c.args.guest.now c.args.name.now c.loop-export.export-index c.export-item.result
    (item_at _ _ _ _ c.as_slice-export-items.ensures c.loop-export-test.true c.export-item.is)
    c.in_default.ensures.other c.loop-export.invariant

pub returns-clause-missing : goal.returns-clause-missing
returns-clause-missing c =
    no_export c.args.guest.now c.args.name.now c.loop-export.export-index
    (subst (λ (es : List Export). length es ≤ c.loop-export.export-index) c.as_slice-export-items.ensures c.loop-export-test.false) c.loop-export.invariant
