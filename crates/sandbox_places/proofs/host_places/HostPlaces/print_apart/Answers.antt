use Rattle.std.proofs.lemmas.Result.{on_ok_weaker}
use Rattle.sandbox_places.proofs.host_places.HostPlaces.print_apart.Goals as goal

-- what the file took
pub returns : goal.returns
returns c = on_ok_weaker c.print_report.result (λ printed. (c.args.file.now, c.requires, c.print_report.new.out, printed.1)) c.print_report.ensures
