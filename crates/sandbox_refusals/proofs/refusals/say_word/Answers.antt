use Rattle.sandbox_telling.proofs.Lines.{lines_then}
use Rattle.sandbox_refusals.proofs.refusals.say_word.Goals as goal

-- two pieces
pub returns : goal.returns
returns g c =
    let errs = g.W.Write.contents in
    lines_then (errs c.args.err.now) (errs c.say.new.err) (errs c.say_name.new.err) c.say.ensures c.say_name.ensures
