use Rattle.std.proofs.Common.{◌≡◌, ◌<◌, ◌≤◌, ◌+◌, ◌*◌, ℕ, length, get_or, false, true}
use Rattle.vol_dirs.specs.SlotMarks.{flags_of}
use Rattle.vol_dirs.proofs.slot_marks.SlotMarks.is_full.Given as goal

-- those from here on are marked
abbrev pub invariant-loop-end : goal.invariant-loop-end
invariant-loop-end l = record {
  within : l.end ≤ length (flags_of l.self);
  marked : (k : ℕ) → l.end ≤ k → k < 512 * l.block + 512 → k < length (flags_of l.self) → get_or (flags_of l.self) k false ≡ true;
}

abbrev pub decreases-loop-end : goal.decreases-loop-end
decreases-loop-end l = l.end
