use Rattle.std.proofs.Common.{[]}
use Rattle.std.proofs.KnownBytes.{Appends-nil}
use Rattle.sandbox_telling.proofs.Lines.{lines_then}
use Rattle.sandbox_telling.proofs.stopping.tell_lines.Goals as goal

pub loop-line-init : goal.loop-line-init
loop-line-init g c = ([], Appends-nil (g.W.Write.contents c.args.err.now))

-- one line more
pub loop-line-preserved : goal.loop-line-preserved
loop-line-preserved g c =
    let errs = g.W.Write.contents in
    lines_then (errs c.args.err.now) (errs c.loop-line.err) (errs c.tell_site.new.err) c.loop-line.invariant c.tell_site.ensures

pub returns : goal.returns
returns g c = c.loop-line.invariant
