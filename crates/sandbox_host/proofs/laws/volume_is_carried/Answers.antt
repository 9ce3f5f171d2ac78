use Rattle.sandbox_host.proofs.Carrying.{carried, carried_on}
use Rattle.sandbox_host.proofs.laws.volume_is_carried.Goals as goal

pub returns-clause-at_the_end : goal.returns-clause-at_the_end
returns-clause-at_the_end g c = carried c.one_tree.ensures

pub returns-clause-from_the_opening : goal.returns-clause-from_the_opening
returns-clause-from_the_opening g c = carried_on g.M.SnapshotMeaning.stands c.one_tree.ensures
