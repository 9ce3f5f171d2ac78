use Rattle.fed_session.proofs.Waiting.{all_answered, answered_first, answered_next, ended}
use Rattle.fed_session.proofs.linking.are_answered.Goals as goal

pub loop-index-init : goal.loop-index-init
loop-index-init c = answered_first c.args.guest.now

pub loop-index-preserved : goal.loop-index-preserved
loop-index-preserved c = answered_next c.args.guest.now c.loop-index.index c.if-is_unanswered.ensures.no c.loop-index.invariant

pub returns-clause-yes : goal.returns-clause-yes
returns-clause-yes c = all_answered c.args.guest.now c.loop-index.index (ended c.args.guest.now.imports c.loop-index.index _ c.len-index-end.ensures c.loop-index-test.false) c.loop-index.invariant
