-- A volume in the midst of a task. Most private functions on an open volume require `IsWorking`: no operation has
-- failed on it, and the sectors and slots that its superblock says are in their ranges.
use Rattle.std.specs.Prelude.{◌≡◌, false}
use Rattle.vol_tree.specs.Superblock.{HasRanges}
use Rattle.vol_tree.specs.Opened.{Opened}

-- a volume that is open and works
pub record IsWorking {D : Type 0} (v : Opened D) : Type 0 where
  pub working : v.failed ≡ false
  pub ranges : HasRanges v.numbers
