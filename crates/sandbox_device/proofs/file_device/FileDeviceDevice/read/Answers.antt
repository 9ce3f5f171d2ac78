use Rattle.std.proofs.Common.{List, sym, subst}
use Rattle.vol_sector.specs.Disk.{Keeps}
use Rattle.sandbox_device.specs.Ram.{Sectors}
use Rattle.sandbox_device.specs.File.{kept}
use Rattle.sandbox_device.proofs.File.{keeps_more}
use Rattle.std.proofs.Common.{refl}
use Rattle.vol_sector.specs.internal.PastLaws.{past_then, past_quiet}
use Rattle.sandbox_device.proofs.File.{leaves_kept}
use Rattle.sandbox_device.proofs.file_device.FileDeviceDevice.read.Goals as goal

pub returns-clause-keeps : goal.returns-clause-keeps
returns-clause-keeps g c h =
    let d = c.args.self.now in
    let after = c.after_reading-self.result in
    subst (λ (times : List (List Sectors)). Keeps (kept d.sectors d.moments.unsynced d.moments.times) (kept d.sectors after.unsynced times))
    (sym c.after_reading-self.ensures.1) (keeps_more d.sectors d.sectors after.unsynced d.moments.unsynced d.moments.times)

pub returns-clause-goes_on : goal.returns-clause-goes_on
returns-clause-goes_on g c end first from =
    let d = c.args.self.now in
    let is = c.after_reading-self.ensures in
    past_then end _ _ _ from (rw (is.0, is.1) (past_quiet end _ _ refl (leaves_kept d.sectors d.moments.unsynced d.moments.times)))
