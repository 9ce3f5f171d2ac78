use Rattle.sandbox_telling.proofs.Lines.{lines_then}
use Rattle.sandbox_refusals.proofs.refusals.tell_of_word.Goals as goal

-- four pieces
pub returns : goal.returns
returns g c =
    let errs = g.W.Write.contents in
    let first = errs c.args.err.now in
    let named = lines_then first (errs c.say.new.err) (errs c.say_name.new.err) c.say.ensures c.say_name.ensures in
    let worded = lines_then first (errs c.say_name.new.err) (errs c.say_word.new.err) named c.say_word.ensures in
    lines_then first (errs c.say_word.new.err) (errs c.say_meaning.new.err) worded c.say_meaning.ensures
