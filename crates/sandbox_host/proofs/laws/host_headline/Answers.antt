use Rattle.sandbox_host.proofs.Resuming.{host_headline}
use Rattle.sandbox_host.proofs.laws.host_headline.Goals as goal

pub returns : goal.returns
returns g c = host_headline g.M.SnapshotMeaning.stands c.headline.ensures c.turns_are_safe.ensures
