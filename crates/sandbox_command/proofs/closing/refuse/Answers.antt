use Rattle.sandbox_telling.proofs.Lines.{lines_then}
use Rattle.sandbox_command.proofs.closing.refuse.Goals as goal

pub returns-then-eq-clause-line : goal.returns-then-eq-clause-line
returns-then-eq-clause-line g c =
    let errs = g.W.Write.contents in
    lines_then (errs c.args.err.now) (errs c.out_of_memory-status.new.err) (errs c.tell_refused.new.err) c.out_of_memory-status.ensures.line c.tell_refused.ensures

pub returns-clause-line : goal.returns-clause-line
returns-clause-line g c =
    let errs = g.W.Write.contents in
    lines_then (errs c.args.err.now) (errs c.refuse_file-status.new.err) (errs c.tell_refused-2.new.err) c.refuse_file-status.ensures.line c.tell_refused-2.ensures
