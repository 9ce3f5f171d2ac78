use Rattle.std.proofs.Common.{[], subst, List}
use Rattle.wasm_interp.specs.declared.frames.Frame.{Frame}
use Rattle.sandbox_telling.specs.Stopping.{AreFrameLines, none}
use Rattle.sandbox_telling.proofs.Frames.{nothing_more, one_line_more, taken_all}
use Rattle.sandbox_telling.proofs.stopping.add_frames.Goals as goal

-- none is told yet
pub loop-inside-init : goal.loop-inside-init
loop-inside-init c = ([], none, nothing_more c.args.text.now.items)

-- one line more
pub loop-inside-preserved : goal.loop-inside-preserved
loop-inside-preserved c =
    let so_far = c.loop-inside.invariant in
    let more = c.in_ok-add_frame.ensures {u = tt} in
    one_line_more c.args.bytes.now c.args.«module».now c.args.frames.now c.loop-inside.inside _ c.args.text.now.items c.loop-inside.text.items c.add_frame.new.text.items
    so_far.0 more.0 c.loop-inside-test.true so_far.1 so_far.2 more.1 more.2

pub returns : goal.returns
returns c =
    let so_far = c.loop-inside.invariant in
    (so_far.0, subst (λ (frames : List Frame). AreFrameLines c.args.bytes.now c.args.«module».now frames so_far.0) (taken_all c.args.frames.now c.loop-inside.inside c.loop-inside-test.false) so_far.1, so_far.2)
