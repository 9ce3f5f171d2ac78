use Rattle.value_words.proofs.Words.{signed, signless, unwritten}
use Rattle.value_words.proofs.reading.integer.Goals as goal

pub returns-in_default : goal.returns-in_default
returns-in_default c = signless c.args.word.now c.args.half c.unsigned.result c.in_default.ensures c.unsigned.ensures

pub returns-in-Some-magnitude : goal.returns-in-Some-magnitude
returns-in-Some-magnitude c = signed c.args.word.now c.in-Some.rest.now c.args.half c.in-Some-magnitude.number c.negated.result c.in-Some.ensures c.in-Some-magnitude.ensures c.negated.ensures

pub returns-in-None : goal.returns-in-None
returns-in-None c = unwritten c.args.word.now c.in-Some.rest.now c.args.half c.in-Some.ensures c.in-None.ensures
