use Rattle.std.proofs.Common.{◌≡◌, ◌≤◌, take}
use Rattle.vol_log.specs.Log.{device_of}
use Rattle.vol_tree.specs.Parts.{opened}
use Rattle.vol_tree.specs.Stats.{entries_of}
use Rattle.vol_tree.proofs.parts.Parts.entries.Given as goal

abbrev pub invariant-loop-slot : goal.invariant-loop-slot
invariant-loop-slot g l = record { few : l.count ≤ l.slot; counted : g.D.Device.honest (device_of l.self.log) → l.count ≡ entries_of (take l.slot (opened l.self).tree) }
