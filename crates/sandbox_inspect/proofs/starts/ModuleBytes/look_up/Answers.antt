use Rattle.sandbox_inspect.proofs.starts.ModuleBytes.look_up.Goals as goal

pub invariant_of-self : goal.invariant_of-self
invariant_of-self c = (c.in-Ok.ensures, c.self.invariant.1)
