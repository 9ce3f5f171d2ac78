use Rattle.std.proofs.Common.{◌≡◌, ◌+◌, ◌-◌, ◌≤◌, None}
use Rattle.wasm_interp.specs.Machine.{entries_left, outcome_of}
use Rattle.vol_tree.specs.Opened.{GoesOn}
use Rattle.sandbox_core.specs.Devices.{Calls, devices, disk_of, numbers_of, tree_of}
use Rattle.sandbox_core.specs.internal.Running.{Followed}
use Rattle.sandbox_core.proofs.Reaching.{SafeSoFar}
use Rattle.sandbox_core.proofs.report.run_out.Given as goal

abbrev pub invariant-running : goal.invariant-running
invariant-running g l = record {
  within : l.session.machine.used ≤ l.fuel;
  same : l.session.machine.valid ≡ l.initial.session.machine.valid;
  going : outcome_of l.initial.session.machine ≡ None → outcome_of l.session.machine ≡ None;
  size : g.D.Device.size l.session.host.volume.device ≡ g.D.Device.size l.initial.session.host.volume.device;
  goes : GoesOn g.D.Device.goes_on l.initial.session.host.volume l.session.host.volume;
  followed : Followed (devices g.D.Device g.R.Read g.W1.Write g.W2.Write g.R.Inlet.gave g.R.Inlet.refused g.W1.Outlet.took g.W1.Outlet.refused g.W2.Outlet.took g.W2.Outlet.refused) l.initial.session l.session l.tally;
  so_far : SafeSoFar _ (Calls (devices g.D.Device g.R.Read g.W1.Write g.W2.Write g.R.Inlet.gave g.R.Inlet.refused g.W1.Outlet.took g.W1.Outlet.refused g.W2.Outlet.took g.W2.Outlet.refused))
      (disk_of (devices g.D.Device g.R.Read g.W1.Write g.W2.Write g.R.Inlet.gave g.R.Inlet.refused g.W1.Outlet.took g.W1.Outlet.refused g.W2.Outlet.took g.W2.Outlet.refused))
      numbers_of
      tree_of
      (λ h. g.D.Device.honest h.volume.device)
      l.initial.session.host l.initial.session.machine l.session.host l.session.machine;
}

abbrev pub decreases-running : goal.decreases-running
decreases-running g l = l.fuel - l.session.machine.used + entries_left l.session.machine
