use Rattle.fed_session.proofs.Waiting.{AnsweredBefore}
use Rattle.fed_session.proofs.linking.are_answered.Given as goal

abbrev pub invariant-loop-index : goal.invariant-loop-index
invariant-loop-index l = AnsweredBefore l.fn.guest l.index
