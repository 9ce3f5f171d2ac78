use Rattle.std.proofs.Common.{◌*◌}
use Rattle.vol_dirs.specs.internal.Blocks.{HasNoneBefore}
use Rattle.vol_dirs.specs.SlotMarks.{flags_of}
use Rattle.vol_dirs.proofs.slot_marks.SlotMarks.least_unmarked.Given as goal

abbrev pub invariant-loop-block : goal.invariant-loop-block
invariant-loop-block l = HasNoneBefore (flags_of l.self) (512 * l.block)
