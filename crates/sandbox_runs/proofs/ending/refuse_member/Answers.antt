use Rattle.sandbox_telling.proofs.Lines.{lines_then}
use Rattle.sandbox_runs.proofs.ending.refuse_member.Goals as goal

pub returns-in-Some-default-clause-line : goal.returns-in-Some-default-clause-line
returns-in-Some-default-clause-line g c =
    let errs = g.W.Write.contents in
    lines_then (errs c.args.err.now) (errs c.tell_of_member.new.err) (errs c.tell_of_refused_member.new.err) c.tell_of_member.ensures c.tell_of_refused_member.ensures
