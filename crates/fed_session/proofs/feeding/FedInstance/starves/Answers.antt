use Rattle.fed_session.proofs.Pieces.{starved}
use Rattle.fed_session.proofs.feeding.FedInstance.starves.Goals as goal

pub returns-clause-starves : goal.returns-clause-starves
returns-clause-starves g c =
    rw (← c.self.view_is) (starved c.self.inside.instance c.wanted_input.new.self c.input-input.result.now c.in_ok-wanted.wanted c.held-held.result c.has_ended-ended.result
    c.wanted_input.ensures.kept c.input-input.ensures c.in_ok-wanted.ensures.wanted c.has_ended-ended.ensures c.held-held.ensures c.if-ended.false c.if-wanted-held.false)
