use Rattle.sandbox_telling.proofs.Lines.{lines_then}
use Rattle.sandbox_telling.proofs.explaining.tell_bytes.Goals as goal

-- three pieces
pub returns : goal.returns
returns g c =
    let errs = g.W.Write.contents in
    lines_then (errs c.args.err.now) (errs c.say_name.new.err) (errs c.say_meaning.new.err)
    (lines_then (errs c.args.err.now) (errs c.say.new.err) (errs c.say_name.new.err) c.say.ensures c.say_name.ensures) c.say_meaning.ensures
