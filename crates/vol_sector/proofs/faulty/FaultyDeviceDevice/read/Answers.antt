use Rattle.std.proofs.Common.{true, false}
use Rattle.vol_sector.specs.Faulty.{device_of}
use Rattle.vol_sector.proofs.Counting.{leaves_passed, keeps_passed, leaves_kept, keeps_kept, counts_one}
use Rattle.std.proofs.Common.{refl}
use Rattle.vol_sector.specs.internal.PastLaws.{past_then, past_quiet}
use Rattle.vol_sector.proofs.faulty.FaultyDeviceDevice.read.Goals as goal

pub returns-clause-crash : goal.returns-clause-crash
returns-clause-crash g c h = leaves_passed _ _ _ _ _ c.if-not-passes.ensures.operations (c.read.ensures.operation_count h) (c.read.ensures.crash h)

pub returns-clause-keeps : goal.returns-clause-keeps
returns-clause-keeps g c h = keeps_passed _ _ (g.D.Device.disk (device_of c.args.self.now)) (g.D.Device.disk c.read.new.self) c.if-not-passes.ensures.operations (c.read.ensures.operation_count h) (c.read.ensures.keeps h)

pub returns-clause-operation_count : goal.returns-clause-operation_count
returns-clause-operation_count g c h = counts_one _ _ true c.if-not-passes.ensures.operations

pub returns-clause-passes_on : goal.returns-clause-passes_on
returns-clause-passes_on g c on h = (c.read.ensures.crash h, c.read.ensures.keeps h, c.read.ensures.operation_count h)

pub returns-then-not-passes-clause-crash : goal.returns-then-not-passes-clause-crash
returns-then-not-passes-clause-crash g c h = leaves_kept _ _ (g.D.Device.disk (device_of c.args.self.now)) _ c.if-not-passes.ensures.operations

pub returns-then-not-passes-clause-keeps : goal.returns-then-not-passes-clause-keeps
returns-then-not-passes-clause-keeps g c h = keeps_kept _ _ (g.D.Device.disk (device_of c.args.self.now)) c.if-not-passes.ensures.operations

pub returns-then-not-passes-clause-operation_count : goal.returns-then-not-passes-clause-operation_count
returns-then-not-passes-clause-operation_count g c h = counts_one _ _ false c.if-not-passes.ensures.operations

pub returns-clause-goes_on : goal.returns-clause-goes_on
returns-clause-goes_on g c end first from = record {
  device = c.read.ensures.goes_on end (device_of first) from.device;
  honest = λ h. c.read.ensures.honest.0 (from.honest h);
  past = λ h. past_then end _ _ _ (from.past h) (past_quiet end _ _ (c.read.ensures.seen (from.honest h)) (returns-clause-crash g c (from.honest h)));
}

pub returns-then-not-passes-clause-goes_on : goal.returns-then-not-passes-clause-goes_on
returns-then-not-passes-clause-goes_on g c end first from = record {
  device = from.device;
  honest = from.honest;
  past = λ h. past_then end _ _ _ (from.past h) (past_quiet end _ _ refl (returns-then-not-passes-clause-crash g c (from.honest h)));
}
