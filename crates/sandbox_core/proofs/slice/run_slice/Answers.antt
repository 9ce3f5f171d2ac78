use Rattle.std.proofs.Common.{refl, arith, ap, ◌-◌}
use Rattle.sandbox_core.specs.Devices.{devices}
use Rattle.sandbox_core.proofs.Slicing.{none_since, one_since, slice_ends}
use Rattle.sandbox_core.proofs.slice.run_slice.Goals as goal

-- nothing has run yet
pub running-init : goal.running-init
running-init g c = record { within = c.requires; since = none_since (devices g.D.Device g.R.Read g.W1.Write g.W2.Write g.R.Inlet.gave g.R.Inlet.refused g.W1.Outlet.took g.W1.Outlet.refused g.W2.Outlet.took g.W2.Outlet.refused) _ _ }

-- one answered call more
pub running-preserved : goal.running-preserved
running-preserved g c = record {
  within = let rise = c.in-Called.ensures.run.units_rise in omega (arith, rise, c.used.ensures, c.running.invariant.within);
  since = one_since (devices g.D.Device g.R.Read g.W1.Write g.W2.Write g.R.Inlet.gave g.R.Inlet.refused g.W1.Outlet.took g.W1.Outlet.refused g.W2.Outlet.took g.W2.Outlet.refused) _ _ _ _ _ _ _ _ _ c.running.invariant.since c.in-Called.ensures c.add.ensures;
}

-- the units were used
pub returns-in-Spent : goal.returns-in-Spent
returns-in-Spent g c = slice_ends (devices g.D.Device g.R.Read g.W1.Write g.W2.Write g.R.Inlet.gave g.R.Inlet.refused g.W1.Outlet.took g.W1.Outlet.refused g.W2.Outlet.took g.W2.Outlet.refused) _ _ _ _ _ _ _ _ c.running.invariant.since c.running.invariant.within c.in-Spent.ensures (ap (λ n. c.args.until - n) c.used.ensures) refl refl

-- the run ended
pub returns-in-Ended : goal.returns-in-Ended
returns-in-Ended g c = slice_ends (devices g.D.Device g.R.Read g.W1.Write g.W2.Write g.R.Inlet.gave g.R.Inlet.refused g.W1.Outlet.took g.W1.Outlet.refused g.W2.Outlet.took g.W2.Outlet.refused) _ _ _ _ _ _ _ _ c.running.invariant.since c.running.invariant.within c.in-Ended.ensures (ap (λ n. c.args.until - n) c.used.ensures) refl refl
