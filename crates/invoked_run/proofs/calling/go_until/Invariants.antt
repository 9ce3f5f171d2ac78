use Rattle.std.proofs.Common.{◌+◌, ◌-◌}
use Rattle.wasm_interp.specs.Machine.{entries_left}
use Rattle.sandbox_core.specs.Devices.{devices}
use Rattle.invoked_run.specs.internal.Going.{HasGone}
use Rattle.invoked_run.proofs.calling.go_until.Given as goal

-- calls were answered, and it goes on
abbrev pub invariant-going : goal.invariant-going
invariant-going g l = HasGone (devices g.D.Device g.R.Read g.W1.Write g.W2.Write g.R.Inlet.gave g.R.Inlet.refused g.W1.Outlet.took g.W1.Outlet.refused g.W2.Outlet.took g.W2.Outlet.refused) l.initial.instance l.instance l.fuel

abbrev pub decreases-going : goal.decreases-going
decreases-going g l = l.fuel - l.instance.machine.used + entries_left l.instance.machine
