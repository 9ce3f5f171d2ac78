use Rattle.plugin_session.proofs.Granting.{wants_of}
use Rattle.plugin_session.proofs.instance.Instance.wanted_input.Goals as goal

pub returns-clause-wanted : goal.returns-clause-wanted
returns-clause-wanted g c =
    let call = c.in_ok-call.call in
    let asked = c.in_ok-call.ensures.asked in
    rw (← c.self.view_is) (wants_of _ c.wanted_input.result c.guest_memory-memory.result.now call.import asked.0 call.arguments.now c.guest_memory-memory.ensures asked.1 c.wanted_input.ensures.wanted)
