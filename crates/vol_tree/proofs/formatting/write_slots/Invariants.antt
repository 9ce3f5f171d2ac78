use Rattle.std.proofs.Common.{◌≡◌, ◌↔◌, ℕ, ◌+◌, ◌≤◌}
use Rattle.vol_log.specs.declared.layout.TheConstants.{FIRST_AFTER_LOG}
use Rattle.vol_sector.specs.Past.{StillGoesOn}
use Rattle.vol_sector.specs.Disk.{After, Leaves}
use Rattle.vol_tree.specs.internal.Formatting.{HasFreshSlots, OnlyAfterLogChanges}
use Rattle.vol_tree.proofs.formatting.write_slots.Given as goal

abbrev pub invariant-loop-s : goal.invariant-loop-s
invariant-loop-s g l = record {
  written : g.D.Device.honest l.fn.device → HasFreshSlots l.s (g.D.Device.disk l.device).seen;
  beside : g.D.Device.honest l.fn.device → OnlyAfterLogChanges (g.D.Device.disk l.fn.device).seen (g.D.Device.disk l.device).seen;
  crash : g.D.Device.honest l.fn.device → Leaves (g.D.Device.disk l.fn.device) (g.D.Device.disk l.device) (After OnlyAfterLogChanges (g.D.Device.disk l.fn.device).may_leave);
  goes_on : (end : ℕ) → FIRST_AFTER_LOG + l.slots ≤ end → StillGoesOn (g.D.Device.goes_on end) l.fn.device l.device;
  honest : g.D.Device.honest l.fn.device ↔ g.D.Device.honest l.device;
  size : g.D.Device.size l.device ≡ g.D.Device.size l.fn.device;
  failures : g.D.Device.failures l.device ≡ g.D.Device.failures l.fn.device;
}
