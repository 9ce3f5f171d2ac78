use Rattle.sandbox_tests.proofs.worked.resumed_twice_on.Goals as goal

pub resumed_twice-requires : goal.resumed_twice-requires
resumed_twice-requires g c = λ is. c.in-Ok.ensures.opens.durable (c.in-Ok.ensures.kept.honest.1 is)

pub returns-in-Ok-resumed_twice : goal.returns-in-Ok-resumed_twice
returns-in-Ok-resumed_twice g c = λ is. (c.in-Ok.volume, c.in-Ok.ensures.opens.stands is, c.in-Ok-resumed_twice.ensures (c.in-Ok.ensures.kept.honest.0 is))
