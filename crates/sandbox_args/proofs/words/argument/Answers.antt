use Rattle.std.proofs.Common.{arith}
use Rattle.std.proofs.lemmas.Grind.{common_steps}
use Rattle.sandbox_args.proofs.words.argument.Goals as goal

pub returns-in-Text : goal.returns-in-Text
returns-in-Text c = grind (arith, common_steps)

pub returns-in-Texts : goal.returns-in-Texts
returns-in-Texts c = grind (arith, common_steps)

pub returns-in-Long : goal.returns-in-Long
returns-in-Long c = grind (arith, common_steps)

pub returns-in-Number : goal.returns-in-Number
returns-in-Number c = grind (arith, common_steps)

pub returns-in-Flag : goal.returns-in-Flag
returns-in-Flag c = grind (arith, common_steps)

pub returns-in-ShortFlag : goal.returns-in-ShortFlag
returns-in-ShortFlag c = grind (arith, common_steps)

pub returns-in-Word : goal.returns-in-Word
returns-in-Word c = grind (arith, common_steps)

pub returns-in-NumberWord : goal.returns-in-NumberWord
returns-in-NumberWord c = grind (arith, common_steps)

pub returns-in-Words : goal.returns-in-Words
returns-in-Words c = grind (arith, common_steps)
