use Rattle.std.proofs.Common.{sym, ◌∙◌}
use Rattle.sandbox_inspect.specs.internal.Views.{found_export}
use Rattle.sandbox_inspect.proofs.Finding.{export_on}
use Rattle.sandbox_inspect.proofs.naming.exported_among.Goals as goal

pub loop-preserved : goal.loop-preserved
loop-preserved c =
    sym (export_on c.args.count c.loop.counter c.args.index c.loop.rest.now (found_export c.in_ok-export.export) c.loop-test.true (sym c.in_ok-export.ensures)
    (sym c.exports_function.ensures ∙ c.if-exports_function.false)) ∙ c.loop.invariant
