use Rattle.sandbox_telling.proofs.Lines.{lines_then}
use Rattle.sandbox_command.proofs.closing.tell_ending.Goals as goal

pub returns-in-Refused : goal.returns-in-Refused
returns-in-Refused g c =
    let errs = g.W.Write.contents in
    lines_then (errs c.args.err.now) (errs c.tell_end.new.err) (errs c.tell_of_refusal.new.err) c.tell_end.ensures c.tell_of_refusal.ensures

pub returns-in-Ran : goal.returns-in-Ran
returns-in-Ran g c =
    let errs = g.W.Write.contents in
    lines_then (errs c.args.err.now) (errs c.tell_end.new.err) (errs c.tell_of_outcome.new.err) c.tell_end.ensures c.tell_of_outcome.ensures
