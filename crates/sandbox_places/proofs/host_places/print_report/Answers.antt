use Rattle.std.proofs.lemmas.Result.{on_ok_weaker}
use Rattle.sandbox_report.specs.Reporting.{report_text}
use Rattle.stream_answers.proofs.Pieces.{all_printed, printed_then}
use Rattle.sandbox_places.proofs.host_places.print_report.Goals as goal

-- the report, and behind it the lines
pub returns : goal.returns
returns g c =
    on_ok_weaker c.print_all.result
    (λ printed. printed_then g.W.Outlet.took g.W.Write.contents c.args.out.now c.print.new.out c.print_all.new.out (report_text c.args.summary.now) c.args.lines.now c.in_ok-print.ensures printed)
    (all_printed g.W.Outlet.took g.W.Write.contents c.print.new.out c.args.lines.now c.print_all.new.out c.print_all.result c.print_all.ensures.all c.print_all.ensures.took)
