use Rattle.wasm_interp.proofs.machine.Machine.frame.Goals as goal

pub returns : goal.returns
returns c = rw (← c.self.view_is) (c.frame.ensures c.self.inside.prepared)
