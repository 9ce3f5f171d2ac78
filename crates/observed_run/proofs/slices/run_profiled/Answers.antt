use Rattle.std.proofs.Common.{subst, ◌∙◌}
use Rattle.sandbox_core.specs.Devices.{devices}
use Rattle.sandbox_core.proofs.Stopping.{module_follow}
use Rattle.observed_run.proofs.Ending.{profiled_after}
use Rattle.observed_run.proofs.slices.run_profiled.Goals as goal

-- the run kept its module
pub returns-clause-kept : goal.returns-clause-kept
returns-clause-kept g c =
    let stops = c.run_in_slices-outcome.ensures.stops in
    subst (λ m. g.S.Resumable.gives_back m c.finish_run-kept.result.0)
    (stops.resume.run.module_is ∙ module_follow (devices g.D.Device g.R.Read g.W1.Write g.W2.Write g.R.Inlet.gave g.R.Inlet.refused g.W1.Outlet.took g.W1.Outlet.refused g.W2.Outlet.took g.W2.Outlet.refused) _ _ _ stops.follow) c.finish_run-kept.ensures.kept

-- the report, the frames and the profile are of the session that it stopped with
pub returns-clause-profiled : goal.returns-clause-profiled
returns-clause-profiled g c =
    let ran = c.run_in_slices-outcome.ensures in
    profiled_after (devices g.D.Device g.R.Read g.W1.Write g.W2.Write g.R.Inlet.gave g.R.Inlet.refused g.W1.Outlet.took g.W1.Outlet.refused g.W2.Outlet.took g.W2.Outlet.refused) _ _ _ _ _ _ _ _ _ ran.stops ran.tallies c.finish_run-kept.ensures.reports c.tell_frames-depth.ensures _ _ _ c.requires.unused ran.charges
