use Rattle.std.proofs.Common.{◌≤◌, length}
use Rattle.std.specs.Prelude.{vec_capacity}
use Rattle.vol_dirs.proofs.Merging.{HasMerged}
use Rattle.vol_dirs.proofs.serials.merge.Given as goal

-- what stands before `from` in the long list, and the late ones before this one
abbrev pub invariant-loop-i : goal.invariant-loop-i
invariant-loop-i g l = record {
  done : HasMerged l.keys l.long l.late l.from l.i l.merged.items;
  within : l.from ≤ length l.long;
  capacity : vec_capacity l.initial.merged ≤ vec_capacity l.merged;
}
