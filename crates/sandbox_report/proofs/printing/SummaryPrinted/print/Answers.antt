use Rattle.std.proofs.Common.{◌≡◌, ◌∙◌, List, ℕ, OnOk, subst}
use Rattle.stream_answers.specs.Printing.{IsPrinted}
use Rattle.stream_answers.proofs.Pieces.{all_printed}
use Rattle.sandbox_report.specs.Reporting.{report_text}
use Rattle.sandbox_report.proofs.printing.SummaryPrinted.print.Goals as goal

-- the text that was put together
pub returns : goal.returns
returns g c =
    let is : c.as_slice.result.now ≡ report_text c.args.self.now = c.as_slice.ensures.value ∙ c.in_ok-text.ensures in
    subst (λ (text : List ℕ). OnOk c.print_all.result (IsPrinted g.W.Outlet.took g.W.Write.contents c.args.out.now text c.print_all.new.out)) is
    (all_printed g.W.Outlet.took g.W.Write.contents c.args.out.now c.as_slice.result.now c.print_all.new.out c.print_all.result c.print_all.ensures.all c.print_all.ensures.took)
