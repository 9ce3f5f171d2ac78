use Rattle.std.proofs.Common.{[]}
use Rattle.std.proofs.KnownBytes.{Appends-nil}
use Rattle.sandbox_telling.proofs.Lines.{lines_then}
use Rattle.sandbox_telling.proofs.output.say_name.Goals as goal

pub loop-byte-init : goal.loop-byte-init
loop-byte-init g c = ([], Appends-nil (g.W.Write.contents c.args.err.now))

-- one byte more
pub loop-byte-preserved : goal.loop-byte-preserved
loop-byte-preserved g c =
    let errs = g.W.Write.contents in
    lines_then (errs c.args.err.now) (errs c.loop-byte.err) (errs c.say_byte-is_led.new.err) c.loop-byte.invariant c.say_byte-is_led.ensures

pub returns : goal.returns
returns g c = c.loop-byte.invariant
