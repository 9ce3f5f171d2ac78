use Rattle.value_words.proofs.Words.{fits, none_fits}
use Rattle.value_words.proofs.reading.unsigned.Goals as goal

pub returns-in-Some : goal.returns-in-Some
returns-in-Some c = fits c.args.word.now c.args.half c.in-Some.number c.fitting.result c.in-Some.ensures c.fitting.ensures

pub returns-in-None : goal.returns-in-None
returns-in-None c = none_fits c.args.word.now c.args.half c.in-None.ensures
