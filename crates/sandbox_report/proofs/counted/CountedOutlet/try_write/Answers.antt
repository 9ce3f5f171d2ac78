use Rattle.std.proofs.Common.{◌≡◌, true}
use Rattle.sandbox_report.proofs.Noted.{noted_part}
use Rattle.sandbox_report.proofs.counted.CountedOutlet.try_write.Goals as goal

pub returns-clause-told : goal.returns-clause-told
returns-clause-told g c =
    let before = c.args.self.now in
    let after = c.note.new.self in
    let moved = c.try_write-moved in
    noted_part moved.new.self after.stream c.note.ensures.rest.0 c.note.result moved.result c.note.ensures.result before.failed after.failed c.note.ensures.failed
    c.args.buf.now c.fitting.result.now c.saturating_sub-room.result c.fitting.ensures
    (λ bytes now. g.W.Outlet.took before.stream bytes now) (λ now. g.W.Outlet.refused before.stream now)
    ((after.stream ≡ before.stream) × (after.full ≡ true) × (after.failed ≡ before.failed)) moved.ensures.bound moved.ensures.told
