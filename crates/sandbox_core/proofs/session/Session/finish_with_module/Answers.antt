use Rattle.sandbox_core.proofs.session.Session.finish_with_module.Goals as goal

pub returns-clause-finishes : goal.returns-clause-finishes
returns-clause-finishes g c = rw (← c.self.view_is) (c.give_back-finished.ensures c.self.inside.machine)
