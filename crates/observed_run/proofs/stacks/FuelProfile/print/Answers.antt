use Rattle.std.proofs.Common.{◌≡◌, ◌++◌, List, ℕ, ap, subst, ◌∙◌}
use Rattle.stream_answers.specs.Printing.{IsPrinted}
use Rattle.stream_answers.proofs.Pieces.{printed_then}
use Rattle.observed_run.specs.Folded.{cut_text}
use Rattle.observed_run.proofs.Refused.{passed, told_then}
use Rattle.observed_run.proofs.stacks.FuelProfile.print.Goals as goal

-- a line that wasn't printed
pub returns-in_err-print_stacks : goal.returns-in_err-print_stacks
returns-in_err-print_stacks g c =
    passed g.W.Outlet.took g.W.Outlet.refused g.W.Write.contents _ c.from_residual.result c.in_err-print_stacks.field-0.0 c.args.out.now c.print_stacks.new.out
    c.from_residual.ensures.1 c.in_err-print_stacks.ensures

-- the lines, and behind them the last one
pub returns : goal.returns
returns g c =
    let took = g.W.Outlet.took in
    let out = g.W.Write.contents in
    let lines = c.in_ok-print_stacks.ensures in
    let last : c.cut_line.result.now ≡ cut_text c.args.self.now.is_cut = c.cut_line.ensures ∙ ap cut_text c.is_cut.ensures in
    told_then took g.W.Outlet.refused out _ c.args.out.now c.print_stacks.new.out c.print_all.new.out lines.0 c.cut_line.result.now c.print_all.result lines.2
    c.print_all.ensures.all c.print_all.ensures.took c.print_all.ensures.heard
    (λ x printed. (
      lines.0,
      lines.1,
      subst (λ (tail : List ℕ). IsPrinted took out c.args.out.now (lines.0 ++ tail) c.print_all.new.out) last
          (printed_then took out c.args.out.now c.print_stacks.new.out c.print_all.new.out lines.0 c.cut_line.result.now lines.2 printed),
    ))
