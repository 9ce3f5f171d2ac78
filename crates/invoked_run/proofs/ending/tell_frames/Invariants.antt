use Rattle.wasm_interp.specs.Frames.{frames_of}
use Rattle.observed_run.proofs.Room.{ToldSoFar}
use Rattle.invoked_run.proofs.ending.tell_frames.Given as goal

abbrev pub invariant-loop-index : goal.invariant-loop-index
invariant-loop-index g l = ToldSoFar (frames_of l.instance.machine) l.room l.index
