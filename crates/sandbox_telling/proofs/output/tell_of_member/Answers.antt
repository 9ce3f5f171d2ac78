use Rattle.sandbox_telling.proofs.Lines.{lines_then}
use Rattle.sandbox_telling.proofs.output.tell_of_member.Goals as goal

-- three pieces
pub returns : goal.returns
returns g c =
    let errs = g.W.Write.contents in
    lines_then (errs c.args.err.now) (errs c.say_name.new.err) (errs c.say-2.new.err)
    (lines_then (errs c.args.err.now) (errs c.say.new.err) (errs c.say_name.new.err) c.say.ensures c.say_name.ensures) c.say-2.ensures
