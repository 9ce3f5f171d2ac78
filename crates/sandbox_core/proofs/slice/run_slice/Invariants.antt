use Rattle.std.proofs.Common.{◌+◌, ◌-◌, ◌≤◌}
use Rattle.wasm_interp.specs.Machine.{entries_left}
use Rattle.sandbox_core.specs.Devices.{devices}
use Rattle.sandbox_core.specs.internal.Slicing.{AnsweredSince}
use Rattle.sandbox_core.proofs.slice.run_slice.Given as goal

abbrev pub invariant-running : goal.invariant-running
invariant-running g l = record {
  within : (g.S.Resumable.state l.session).machine.used ≤ l.until;
  since : AnsweredSince (devices g.D.Device g.R.Read g.W1.Write g.W2.Write g.R.Inlet.gave g.R.Inlet.refused g.W1.Outlet.took g.W1.Outlet.refused g.W2.Outlet.took g.W2.Outlet.refused) (g.S.Resumable.state l.initial.session) (g.S.Resumable.state l.session) l.initial.tally l.tally;
}

abbrev pub decreases-running : goal.decreases-running
decreases-running g l = l.until - (g.S.Resumable.state l.session).machine.used + entries_left (g.S.Resumable.state l.session).machine
