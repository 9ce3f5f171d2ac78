use Rattle.vol_log.specs.Log.{view}
use Rattle.vol_tree.proofs.Finding.{length_tree}
use Rattle.vol_tree.proofs.volume.Volume.is_a_tree.Goals as goal

pub returns-clause-tree : goal.returns-clause-tree
returns-clause-tree g c = rw (← c.self.view_is) (λ h. (c.self.invariant.content h).volume.tree)

pub returns-clause-count : goal.returns-clause-count
returns-clause-count g c = rw (← c.self.view_is) (length_tree (view c.self.inside.parts.log) c.self.inside.parts.numbers)
