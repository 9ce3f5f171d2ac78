use Rattle.std.proofs.Common.{[], refl, subst}
use Rattle.sandbox_core.specs.Devices.{devices}
use Rattle.sandbox_core.proofs.Following.{none_tallied}
use Rattle.sandbox_core.proofs.Stopping.{module_follow, slice_follows}
use Rattle.observed_run.proofs.Ending.{stops_in_one, told_after}
use Rattle.observed_run.proofs.telling.run_told.Goals as goal

-- the run kept its module
pub returns-clause-kept : goal.returns-clause-kept
returns-clause-kept g c =
    let on = devices g.D.Device g.R.Read g.W1.Write g.W2.Write g.R.Inlet.gave g.R.Inlet.refused g.W1.Outlet.took g.W1.Outlet.refused g.W2.Outlet.took g.W2.Outlet.refused in
    subst (λ m. g.S.Resumable.gives_back m c.finish_run-kept.result.0) (module_follow on _ _ _ (slice_follows on _ _ _ _ _ _ c.run_slice-end.ensures)) c.finish_run-kept.ensures.kept

-- the report and the frames are of the session that it stopped with
pub returns-clause-told : goal.returns-clause-told
returns-clause-told g c =
    let on = devices g.D.Device g.R.Read g.W1.Write g.W2.Write g.R.Inlet.gave g.R.Inlet.refused g.W1.Outlet.took g.W1.Outlet.refused g.W2.Outlet.took g.W2.Outlet.refused in
    let slice = c.run_slice-end.ensures in
    told_after on _ _ _ _ _ _ _ _ _ (stops_in_one on _ _ _ _ _ _ _ c.outcome_of.ensures slice) (slice.tallies [] (none_tallied _ c.none.ensures)) c.finish_run-kept.ensures.reports c.tell_frames-depth.ensures
