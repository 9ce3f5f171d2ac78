use Rattle.sandbox_host.proofs.RecordKept.{kept, kept_so_far}
use Rattle.sandbox_host.proofs.laws.record_is_kept.Goals as goal

pub returns : goal.returns
returns g c = record { at_the_end = kept g.M.SnapshotMeaning.stands; so_far = kept_so_far g.M.SnapshotMeaning.stands }
