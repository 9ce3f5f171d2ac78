use Rattle.std.proofs.Common.{arith}
use Rattle.sandbox_core.specs.Devices.{devices}
use Rattle.sandbox_core.proofs.Stopping.{slice_rises}
use Rattle.observed_run.proofs.Charging.{units_fit}
use Rattle.observed_run.proofs.Going.{charges_slice}
use Rattle.observed_run.proofs.slices.run_charged.Goals as goal

pub overflow_sub-used : goal.overflow_sub-used
overflow_sub-used g c =
    let rises = slice_rises (devices g.D.Device g.R.Read g.W1.Write g.W2.Write g.R.Inlet.gave g.R.Inlet.refused g.W1.Outlet.took g.W1.Outlet.refused g.W2.Outlet.took g.W2.Outlet.refused) _ _ _ _ _ _ c.run_slice-end.ensures in
    omega (arith, c.used-began.ensures, c.used.ensures, rises.0)

pub add-requires-clause-few : goal.add-requires-clause-few
add-requires-clause-few g c =
    let rises = slice_rises (devices g.D.Device g.R.Read g.W1.Write g.W2.Write g.R.Inlet.gave g.R.Inlet.refused g.W1.Outlet.took g.W1.Outlet.refused g.W2.Outlet.took g.W2.Outlet.refused) _ _ _ _ _ _ c.run_slice-end.ensures in
    units_fit c.args.profile.now c.enter-node.new.profile c.used-began.result c.args.until c.used.result c.enter-node.ensures.grows
    (omega (arith, c.requires.few, c.used-began.ensures)) (omega (arith, c.used.ensures, rises.1))

pub returns-clause-charged : goal.returns-clause-charged
returns-clause-charged g c = charges_slice _ _ _ c.enter-node.new.profile _ c.enter-node.result c.used-began.result c.used.result c.enter-node.ensures.grows c.enter-node.ensures.node c.add.ensures c.used-began.ensures c.used.ensures
