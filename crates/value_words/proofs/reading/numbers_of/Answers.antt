use Rattle.std.proofs.Common.{rules, sym}
use Rattle.value_words.proofs.Words.{none_yet, not_written, written_more}
use Rattle.value_words.proofs.reading.numbers_of.Goals as goal

-- this word writes none
pub returns-in_default : goal.returns-in_default
returns-in_default c = not_written c.args.types.now c.args.words.now c.loop-index.index _ _ (search rules) (search rules) c.in_default.ensures

-- one number more
pub loop-index-preserved : goal.loop-index-preserved
loop-index-preserved c =
    written_more c.args.types.now c.args.words.now c.loop-index.index _ _ c.loop-index.numbers.items _ c.in-Some.number _ (search rules) (search rules) c.loop-index.invariant c.in-Some.ensures c.push.ensures.items (search rules)
