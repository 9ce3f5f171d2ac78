use Rattle.std.proofs.Common.{◌≡◌, ◌↔◌, ◌≤◌, ℕ, take}
use Rattle.vol_sector.specs.Disk.{After, Leaves}
use Rattle.vol_sector.specs.Past.{StillGoesOn}
use Rattle.vol_log.specs.declared.layout.TheConstants.{FIRST_AFTER_LOG}
use Rattle.vol_log.specs.Batch.{logged}
use Rattle.vol_log.specs.internal.Batch.{numbers}
use Rattle.vol_log.specs.internal.Steps.{OnlyImagesChange}
use Rattle.vol_log.proofs.steps.write_images.Given as goal

abbrev pub invariant-loop-i : goal.invariant-loop-i
invariant-loop-i g l = record {
  logged : g.D.Device.honest l.fn.device → logged (numbers (take l.i l.batch)) 2 (g.D.Device.disk l.device).seen ≡ take l.i l.batch;
  beside : g.D.Device.honest l.fn.device → OnlyImagesChange (g.D.Device.disk l.fn.device).seen (g.D.Device.disk l.device).seen;
  crash : g.D.Device.honest l.fn.device → Leaves (g.D.Device.disk l.fn.device) (g.D.Device.disk l.device) (After OnlyImagesChange (g.D.Device.disk l.fn.device).may_leave);
  honest : g.D.Device.honest l.fn.device ↔ g.D.Device.honest l.device;
  goes_on : (end : ℕ) → FIRST_AFTER_LOG ≤ end → StillGoesOn (g.D.Device.goes_on end) l.fn.device l.device;
  size : g.D.Device.size l.device ≡ g.D.Device.size l.fn.device;
  failures : g.D.Device.failures l.device ≡ g.D.Device.failures l.fn.device;
}
