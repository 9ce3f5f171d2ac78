use Rattle.sandbox_telling.proofs.Lines.{lines_then}
use Rattle.sandbox_runs.proofs.ending.refuse_why.Goals as goal

pub returns-clause-line : goal.returns-clause-line
returns-clause-line g c =
    let errs = g.W.Write.contents in
    lines_then (errs c.args.err.now) (errs c.say_why-status.new.err) (errs c.tell_of_archive.new.err) c.say_why-status.ensures.line c.tell_of_archive.ensures
