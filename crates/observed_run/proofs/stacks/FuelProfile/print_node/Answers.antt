use Rattle.std.proofs.Common.{List, ℕ, subst, ◌∙◌}
use Rattle.stream_answers.specs.Printing.{IsPrinted}
use Rattle.observed_run.proofs.Refused.{told}
use Rattle.observed_run.proofs.stacks.FuelProfile.print_node.Goals as goal

-- the line, or what refused it
pub returns : goal.returns
returns g c =
    let took = g.W.Outlet.took in
    let out = g.W.Write.contents in
    let line = c.in_ok-line.ensures in
    told took g.W.Outlet.refused out _ c.args.out.now c.print_all.new.out _ c.print_all.result c.print_all.ensures.all c.print_all.ensures.took c.print_all.ensures.heard
    (λ x printed. (line.0, line.1, subst (λ (text : List ℕ). IsPrinted took out c.args.out.now text c.print_all.new.out) (c.as_slice.ensures.value ∙ line.2) printed))
