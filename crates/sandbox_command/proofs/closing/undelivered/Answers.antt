use Rattle.sandbox_telling.proofs.Lines.{lines_then}
use Rattle.sandbox_command.proofs.closing.undelivered.Goals as goal

pub returns-clause-lines : goal.returns-clause-lines
returns-clause-lines g c =
    let errs = g.W.Write.contents in
    lines_then (errs c.args.err.now) (errs c.refuse_file-status.new.err) (errs c.tell_of_kind.new.err) c.refuse_file-status.ensures.line c.tell_of_kind.ensures
