use Rattle.sandbox_host.proofs.Settling.{settled, settled_so_far, sync_settled}
use Rattle.sandbox_host.proofs.laws.record_is_settled.Goals as goal

pub returns-clause-at_the_end : goal.returns-clause-at_the_end
returns-clause-at_the_end g c = settled g.M.SnapshotMeaning.stands c.one_tree.ensures c.record_is_followed.ensures

pub returns-clause-so_far : goal.returns-clause-so_far
returns-clause-so_far g c = settled_so_far g.M.SnapshotMeaning.stands c.one_tree.ensures c.record_is_followed.ensures

pub returns-clause-synced : goal.returns-clause-synced
returns-clause-synced g c = sync_settled g.M.SnapshotMeaning.stands
