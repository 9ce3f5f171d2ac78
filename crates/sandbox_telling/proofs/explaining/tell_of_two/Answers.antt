use Rattle.sandbox_telling.proofs.Lines.{lines_then}
use Rattle.sandbox_telling.proofs.explaining.tell_of_two.Goals as goal

-- five pieces
pub returns : goal.returns
returns g c =
    let errs = g.W.Write.contents in
    let first = errs c.args.err.now in
    let named = lines_then first (errs c.say.new.err) (errs c.say_name.new.err) c.say.ensures c.say_name.ensures in
    let parted = lines_then first (errs c.say_name.new.err) (errs c.say-2.new.err) named c.say-2.ensures in
    let told = lines_then first (errs c.say-2.new.err) (errs c.say_name-2.new.err) parted c.say_name-2.ensures in
    lines_then first (errs c.say_name-2.new.err) (errs c.say_meaning.new.err) told c.say_meaning.ensures
