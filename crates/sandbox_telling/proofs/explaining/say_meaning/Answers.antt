use Rattle.sandbox_telling.proofs.Lines.{lines_then}
use Rattle.sandbox_telling.proofs.explaining.say_meaning.Goals as goal

-- three pieces
pub returns : goal.returns
returns g c =
    let errs = g.W.Write.contents in
    lines_then (errs c.args.err.now) (errs c.say_part-2.new.err) (errs c.say.new.err)
    (lines_then (errs c.args.err.now) (errs c.say_part.new.err) (errs c.say_part-2.new.err) c.say_part.ensures c.say_part-2.ensures) c.say.ensures
