use Rattle.std.proofs.Common.{◌≡◌, ◌++◌, take}
use Rattle.sandbox_args.specs.Request.{Text}
use Rattle.sandbox_telling.specs.Stopping.{AreFrameLines}
use Rattle.sandbox_telling.proofs.stopping.add_frames.Given as goal

-- the lines of the innermost so far are added
abbrev pub invariant-loop-inside : goal.invariant-loop-inside
invariant-loop-inside l = (lines : Text) × AreFrameLines l.bytes l.«module» (take l.inside l.frames) lines × (l.text.items ≡ l.initial.text.items ++ lines)
