use Rattle.sandbox_telling.proofs.Lines.{lines_then}
use Rattle.sandbox_runs.proofs.program.tell_end.Goals as goal

-- one line, and then the other
pub returns : goal.returns
returns g c =
    let errs = g.W.Write.contents in
    lines_then (errs c.args.err.now) (errs c.tell_reason.new.err) (errs c.tell_after.new.err) c.tell_reason.ensures c.tell_after.ensures
