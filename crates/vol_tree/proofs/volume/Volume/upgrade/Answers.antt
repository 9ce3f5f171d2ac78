use Rattle.std.proofs.Common.{OnOk, subst}
use Rattle.vol_sector.specs.Disk.{Image, Leaves}
use Rattle.vol_tree.specs.Clauses.{MayUpgrade}
use Rattle.vol_tree.specs.Opened.{Opened, GoesOn}
use Rattle.vol_tree.specs.Stands.{StandsAs}
use Rattle.vol_tree.specs.Parts.{opened}
use Rattle.vol_tree.proofs.Raising.{upgrade_open, upgrade_crash, upgrade_lasts, upgrade_goes_on}
use Rattle.vol_tree.proofs.volume.Volume.upgrade.Goals as goal

pub invariant_of-self : goal.invariant_of-self
invariant_of-self g c = upgrade_open c.args.to c.self.inside.parts c.upgrade.new.self c.upgrade.result c.upgrade.ensures.newest c.upgrade.ensures.upgrades c.self.invariant

pub returns-clause-crash : goal.returns-clause-crash
returns-clause-crash g c h =
    let new = c.upgrade.new.self in
    subst (λ (o : Opened _). g.D.Device.honest o.device → Leaves (g.D.Device.disk o.device) (g.D.Device.disk (opened new).device) (MayUpgrade (g.D.Device.disk o.device) o.numbers c.args.to o.tree)) c.self.view_is
    (upgrade_crash c.args.to c.self.inside.parts new c.upgrade.result c.upgrade.ensures.newest c.upgrade.ensures.upgrades) h

pub returns-clause-durable : goal.returns-clause-durable
returns-clause-durable g c h =
    let new = c.upgrade.new.self in
    subst (λ (o : Opened _). g.D.Device.honest o.device → OnOk c.upgrade.result ((m : Image) → (g.D.Device.disk (opened new).device).may_leave m → StandsAs m new.numbers (opened new).tree)) c.self.view_is
    (upgrade_lasts c.args.to c.self.inside.parts new c.upgrade.result c.upgrade.ensures.newest c.upgrade.ensures.upgrades) h

pub returns-clause-goes_on : goal.returns-clause-goes_on
returns-clause-goes_on g c =
    let new = c.upgrade.new.self in
    subst (λ (o : Opened _). GoesOn g.D.Device.goes_on o (opened new)) c.self.view_is
    (upgrade_goes_on c.args.to c.self.inside.parts new c.upgrade.result c.upgrade.ensures.newest c.upgrade.ensures.upgrades)
