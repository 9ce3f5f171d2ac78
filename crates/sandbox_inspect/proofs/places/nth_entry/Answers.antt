use Rattle.std.proofs.Common.{sym, ◌∙◌}
use Rattle.sandbox_inspect.proofs.Finding.{nth_on}
use Rattle.sandbox_inspect.proofs.places.nth_entry.Goals as goal

pub loop-preserved : goal.loop-preserved
loop-preserved c =
    let turn = c.in_ok-after in
    sym (nth_on c.args.before c.loop.counter c.loop.rest.now turn.field-0-0.now turn.after.now c.loop-test.true (sym turn.ensures)) ∙ c.loop.invariant
