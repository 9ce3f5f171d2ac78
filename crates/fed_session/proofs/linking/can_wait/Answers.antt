use Rattle.fed_session.proofs.Waiting.{all_parts, not_parts_if, parts_if}
use Rattle.fed_session.proofs.linking.can_wait.Goals as goal

pub returns-then-not-goes_on-clause-yes : goal.returns-then-not-goes_on-clause-yes
returns-then-not-goes_on-clause-yes c = all_parts c.args.goes_on c.args.guest.now c.if-not-goes_on.true

pub returns-clause-yes : goal.returns-clause-yes
returns-clause-yes c = parts_if c.args.goes_on c.args.guest.now c.are_answered.result c.are_answered.ensures.yes c.if-not-goes_on.false

pub returns-clause-no : goal.returns-clause-no
returns-clause-no c = not_parts_if c.args.goes_on c.args.guest.now c.are_answered.result c.are_answered.ensures.no c.if-not-goes_on.false
