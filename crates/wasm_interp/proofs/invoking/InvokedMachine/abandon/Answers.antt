use Rattle.std.specs.Arc.{arc_value}
use Rattle.wasm_interp.proofs.PlainSteps.Invoking.{let_go_invocable, lets_go}
use Rattle.wasm_interp.proofs.invoking.InvokedMachine.abandon.Goals as goal

pub invariant_of-self : goal.invariant_of-self
invariant_of-self c = let_go_invocable (arc_value c.self.inside.prepared) c.self.inside.state c.let_go.new.self c.let_go.ensures c.self.invariant

pub returns : goal.returns
returns c = rw (← c.self.view_is) (lets_go (arc_value c.self.inside.prepared) c.self.inside.state c.let_go.new.self c.let_go.ensures c.self.invariant)
