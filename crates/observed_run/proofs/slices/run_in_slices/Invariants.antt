use Rattle.std.proofs.Common.{◌-◌, ◌≤◌, max}
use Rattle.sandbox_core.specs.Devices.{devices}
use Rattle.sandbox_core.specs.Session.{used_by}
use Rattle.observed_run.specs.internal.Going.{GoesInSlices}
use Rattle.observed_run.proofs.slices.run_in_slices.Given as goal

-- a slice begins, and has some of the fuel
abbrev pub invariant-loop-outcome : goal.invariant-loop-outcome
invariant-loop-outcome g l = record {
  started : used_by (g.S.Resumable.state l.session) ≤ l.until;
  within : l.until ≤ l.fuel;
  short : l.until - used_by (g.S.Resumable.state l.session) ≤ max l.every 1;
  goes : GoesInSlices (devices g.D.Device g.R.Read g.W1.Write g.W2.Write g.R.Inlet.gave g.R.Inlet.refused g.W1.Outlet.took g.W1.Outlet.refused g.W2.Outlet.took g.W2.Outlet.refused) l.every (g.S.Resumable.state l.initial.session) (g.S.Resumable.state l.session) l.tally l.initial.profile l.profile;
}

abbrev pub decreases-loop-outcome : goal.decreases-loop-outcome
decreases-loop-outcome g l = l.fuel - l.until
