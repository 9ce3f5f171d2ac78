use Rattle.std.proofs.Common.{sym, ◌∙◌}
use Rattle.std.proofs.lemmas.Bool.{ne_eqb}
use Rattle.sandbox_inspect.proofs.Finding.{name_on}
use Rattle.sandbox_inspect.proofs.places.name_among.Goals as goal

pub loop-preserved : goal.loop-preserved
loop-preserved c =
    let found = c.in_ok-found in
    let named = c.in_ok-name in
    sym (name_on c.args.count c.loop.counter c.args.index c.loop.rest.now found.found found.sized_name.now named.name.now named.after.now c.loop-test.true (sym found.ensures) (sym named.ensures)
    (ne_eqb found.found c.args.index (λ e. c.if-from-index.false (c.from.ensures ∙ e)))) ∙ c.loop.invariant
