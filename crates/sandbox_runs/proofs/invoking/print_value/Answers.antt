use Rattle.std.proofs.Common.{List, ℕ, subst, ◌∙◌}
use Rattle.sandbox_runs.specs.Invoking.{PrintsLine}
use Rattle.sandbox_runs.proofs.invoking.print_value.Goals as goal

pub returns-in-Ok : goal.returns-in-Ok
returns-in-Ok g c = subst (λ (line : List ℕ). PrintsLine line (g.W.Write.contents c.args.out.now) (g.W.Write.contents c.print_line.new.out) c.print_line.result)
    (c.as_slice.ensures.value ∙ c.in-Ok.ensures) c.print_line.ensures
