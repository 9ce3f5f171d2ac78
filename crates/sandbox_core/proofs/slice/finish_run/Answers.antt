use Rattle.sandbox_core.specs.Devices.{devices}
use Rattle.sandbox_core.proofs.Stopping.{reports_stop}
use Rattle.sandbox_core.proofs.slice.finish_run.Goals as goal

-- the report has what the run and the commit left
pub returns-clause-reports : goal.returns-clause-reports
returns-clause-reports g c =
    reports_stop (devices g.D.Device g.R.Read g.W1.Write g.W2.Write g.R.Inlet.gave g.R.Inlet.refused g.W1.Outlet.took g.W1.Outlet.refused g.W2.Outlet.took g.W2.Outlet.refused) (g.S.Resumable.state c.args.session) c.args.outcome c.used-used.result c.pages-pages.result c.has_failed_stream-broken.result _
    c.used-used.ensures c.pages-pages.ensures c.has_failed_stream-broken.ensures c.finish-kept.ensures.finishes
