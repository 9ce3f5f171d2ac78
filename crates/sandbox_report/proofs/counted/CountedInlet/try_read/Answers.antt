use Rattle.std.proofs.Common.{take}
use Rattle.sandbox_report.proofs.Noted.{noted}
use Rattle.sandbox_report.proofs.counted.CountedInlet.try_read.Goals as goal

pub returns-clause-told : goal.returns-clause-told
returns-clause-told g c =
    let before = c.args.self.now.stream in
    let moved = c.try_read-moved in
    noted moved.new.self c.note.new.self.stream c.note.ensures.rest.0 c.note.result moved.result c.note.ensures.result c.args.self.now.failed c.note.new.self.failed c.note.ensures.failed
    (λ n after. g.R.Inlet.gave before (take n moved.new.buf) after) (λ after. g.R.Inlet.refused before after) moved.ensures.told
