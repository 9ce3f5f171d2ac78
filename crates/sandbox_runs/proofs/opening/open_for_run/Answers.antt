use Rattle.std.proofs.Common.{Option, IfErr, sym, subst, rules}
use Rattle.std.specs.Borrow.{Bor}
use Rattle.sandbox_args.specs.Request.{Text}
use Rattle.vol_tree.specs.Handing.{device_opened}
use Rattle.vol_commands.specs.Going.{OpensWithin}
use Rattle.vol_commands.specs.Volumes.{IsRefusedFor}
use Rattle.vol_commands.proofs.Going.{opening_goes}
use Rattle.vol_commands.proofs.FreshVolume.{refused_open}
use Rattle.sandbox_runs.proofs.opening.open_for_run.Goals as goal

-- the file's volume was refused
pub returns-in-Some-clause-refused : goal.returns-in-Some-clause-refused
returns-in-Some-clause-refused g c =
    let told = c.open.ensures in
    subst (λ (file : Option (Bor Text)). IfErr c.open.result (IsRefusedFor g.D.Device.honest g.D.Device.disk g.D.Device.size g.D.Device.failures file c.args.device)) (sym c.in-Some.is)
    (refused_open g.D.Device.honest g.D.Device.disk g.D.Device.size g.D.Device.failures c.args.device c.open.result told.why told.crash told.left told.kept)

pub returns-in-None-clause-opens : goal.returns-in-None-clause-opens
returns-in-None-clause-opens g c = search rules

pub returns-in-None-clause-refused : goal.returns-in-None-clause-refused
returns-in-None-clause-refused g c = search rules

-- ---- the sectors past the volume

pub returns-in-Some-clause-goes_on : goal.returns-in-Some-clause-goes_on
returns-in-Some-clause-goes_on g c =
    let told = c.open.ensures in
    subst (λ (file : Option (Bor Text)). OpensWithin g.D.Device.honest g.D.Device.disk g.D.Device.size g.D.Device.goes_on 202 file c.args.device (device_opened c.open.result)) (sym c.in-Some.is)
    (λ end past. opening_goes g.D.Device.honest g.D.Device.disk g.D.Device.size g.D.Device.goes_on c.args.device c.open.result end past told.opens told.goes_on_ok (told.goes_on_err end past))

pub returns-in-None-clause-goes_on : goal.returns-in-None-clause-goes_on
returns-in-None-clause-goes_on g c =
    subst (λ (file : Option (Bor Text)). OpensWithin g.D.Device.honest g.D.Device.disk g.D.Device.size g.D.Device.goes_on 202 file c.args.device (device_opened c.open_fresh.result)) (sym c.in-None.is) c.open_fresh.ensures.goes_on
