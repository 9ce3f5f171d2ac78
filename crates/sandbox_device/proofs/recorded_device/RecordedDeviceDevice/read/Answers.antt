use Rattle.sandbox_device.proofs.Recorded.{keeps_quiet, leaves_quiet}
use Rattle.std.proofs.Common.{refl, [], ◌∙◌}
use Rattle.vol_sector.specs.internal.PastLaws.{past_quiet}
use Rattle.vol_sector.specs.internal.RecordLaws.{begins_itself}
use Rattle.sandbox_device.proofs.Recorded.{goes_on}
use Rattle.sandbox_device.proofs.recorded_device.RecordedDeviceDevice.read.Goals as goal

pub returns-clause-keeps : goal.returns-clause-keeps
returns-clause-keeps c h =
    let past = c.args.self.now.history in
    let is = c.quiet-self.ensures in
    rw (is.0, is.1, is.2) (keeps_quiet c.args.self.now.sectors past.first past.done past.outcomes)

pub returns-clause-crash : goal.returns-clause-crash
returns-clause-crash c h =
    let past = c.args.self.now.history in
    let is = c.quiet-self.ensures in
    rw (is.0, is.1, is.2) (leaves_quiet c.args.self.now.sectors past.first past.done past.outcomes)

pub returns-clause-goes_on : goal.returns-clause-goes_on
returns-clause-goes_on c end =
    let m = c.args.self.now in
    let is = c.quiet-self.ensures in
    goes_on end m _ [] is.0 refl (is.1 ∙ begins_itself m.history.done) (past_quiet end _ _ refl (returns-clause-crash c tt))
