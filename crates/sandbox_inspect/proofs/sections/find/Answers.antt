use Rattle.std.proofs.Common.{sym, ◌∙◌}
use Rattle.sandbox_inspect.specs.internal.Views.{found}
use Rattle.sandbox_inspect.proofs.Finding.{find_on}
use Rattle.sandbox_inspect.proofs.sections.find.Goals as goal

pub loop-preserved : goal.loop-preserved
loop-preserved c =
    sym (find_on c.args.wanted c.args.most c.loop.counter c.loop.rest.now (found c.in_ok-section.section) c.loop-test.true (sym c.in_ok-section.ensures)
    (sym c.is_wanted.ensures ∙ c.if-is_wanted.false)) ∙ c.loop.invariant
