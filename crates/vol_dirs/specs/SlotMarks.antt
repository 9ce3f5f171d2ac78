-- What callers see of `SlotMarks`, the flags that `Dirs` keeps of used slots (`docs/VOLUME.md`, "Entry"). The invariant of
-- `Dirs` says of `flags_of` which serials are held.
use Rattle.std.specs.Prelude.{List, Bool}
use Rattle.vol_dirs.specs.declared.slot_marks.SlotMarks.{SlotMarks}

-- a flag for each slot: is it marked?
abbrev pub flags_of : SlotMarks → List Bool
flags_of m = m.flags.items
