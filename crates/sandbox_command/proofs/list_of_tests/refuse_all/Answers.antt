use Rattle.sandbox_telling.proofs.Lines.{lines_then}
use Rattle.sandbox_command.proofs.list_of_tests.refuse_all.Goals as goal

pub returns : goal.returns
returns g c =
    let errs = g.W.Write.contents in
    lines_then (errs c.args.err.now) (errs c.tell_fault.new.err) (errs c.tell_of_refusal.new.err) c.tell_fault.ensures c.tell_of_refusal.ensures
