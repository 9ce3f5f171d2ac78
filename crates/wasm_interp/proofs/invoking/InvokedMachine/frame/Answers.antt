use Rattle.std.specs.Arc.{arc_value}
use Rattle.wasm_interp.proofs.invoking.InvokedMachine.frame.Goals as goal

pub returns : goal.returns
returns c = rw (← c.self.view_is) (c.frame.ensures (arc_value c.self.inside.prepared))
