use Rattle.std.proofs.Common.{List, sym, subst}
use Rattle.vol_sector.specs.Disk.{Leaves}
use Rattle.sandbox_device.specs.Ram.{Sectors, held}
use Rattle.sandbox_device.proofs.Ram.{leaves_held}
use Rattle.std.proofs.Common.{refl}
use Rattle.vol_sector.specs.internal.PastLaws.{past_then, past_quiet}
use Rattle.sandbox_device.proofs.ram_device.RamDeviceDevice.read.Goals as goal

-- nothing is written
pub returns-clause-crash : goal.returns-clause-crash
returns-clause-crash c h =
    let d = c.args.self.now in
    subst (λ (images : List Sectors). Leaves (held d.sectors d.past.images) (held d.sectors images) (λ m. ⊥)) (sym c.next_past-self.ensures)
    (leaves_held d.sectors d.past.images)

pub returns-clause-goes_on : goal.returns-clause-goes_on
returns-clause-goes_on c end first from = past_then end _ _ _ from (past_quiet end _ _ refl (returns-clause-crash c tt))
