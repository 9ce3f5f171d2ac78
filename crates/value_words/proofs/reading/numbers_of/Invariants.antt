use Rattle.value_words.specs.Numbers.{texts}
use Rattle.value_words.proofs.Words.{SoFar}
use Rattle.value_words.proofs.reading.numbers_of.Given as goal

-- the numbers of the words so far
abbrev pub invariant-loop-index : goal.invariant-loop-index
invariant-loop-index l = SoFar l.types (texts l.words) l.numbers.items l.index
