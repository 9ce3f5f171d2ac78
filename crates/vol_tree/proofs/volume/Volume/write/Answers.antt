use Rattle.vol_tree.proofs.volume.Volume.write.Goals as goal

pub returns-clause-answer : goal.returns-clause-answer
returns-clause-answer g c = let r = c.write_from.ensures.answer in rw (← c.of.ensures) r
