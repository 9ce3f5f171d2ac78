use Rattle.vol_dirs.specs.internal.Blocks.{HasNoneBefore}
use Rattle.vol_dirs.specs.SlotMarks.{flags_of}
use Rattle.vol_dirs.proofs.slot_marks.SlotMarks.first_in.Given as goal

abbrev pub invariant-loop-slot : goal.invariant-loop-slot
invariant-loop-slot l = HasNoneBefore (flags_of l.self) l.slot
