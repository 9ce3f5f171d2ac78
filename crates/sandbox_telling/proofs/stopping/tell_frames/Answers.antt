use Rattle.sandbox_telling.proofs.Lines.{lines_then}
use Rattle.sandbox_telling.proofs.stopping.tell_frames.Goals as goal

-- the lines, and what is said of the others
pub returns-in-Some-Ok : goal.returns-in-Some-Ok
returns-in-Some-Ok g c =
    let errs = g.W.Write.contents in
    lines_then (errs c.args.err.now) (errs c.tell_lines.new.err) (errs c.tell_others.new.err) c.tell_lines.ensures c.tell_others.ensures
