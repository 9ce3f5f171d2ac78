use Rattle.plugin_session.proofs.instance.Instance.finish.Goals as goal

pub returns : goal.returns
returns g c = rw (← c.self.view_is) (c.give_back.ensures c.self.inside.machine)
