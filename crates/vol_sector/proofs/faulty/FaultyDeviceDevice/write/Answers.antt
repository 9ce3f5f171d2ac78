use Rattle.std.proofs.Common.{true, false}
use Rattle.vol_sector.specs.Faulty.{device_of}
use Rattle.vol_sector.proofs.Counting.{leaves_passed, keeps_passed, leaves_kept, keeps_kept, counts_one}
use Rattle.std.proofs.Common.{refl, inl}
use Rattle.vol_sector.specs.internal.PastLaws.{past_then, past_wrote}
use Rattle.vol_sector.proofs.faulty.FaultyDeviceDevice.write.Goals as goal

pub returns-clause-crash : goal.returns-clause-crash
returns-clause-crash g c h = leaves_passed _ _ _ _ _ c.if-not-passes.ensures.operations (c.write.ensures.operation_count h) (c.write.ensures.crash h)

pub returns-clause-keeps : goal.returns-clause-keeps
returns-clause-keeps g c h = keeps_passed _ _ (g.D.Device.disk (device_of c.args.self.now)) (g.D.Device.disk c.write.new.self) c.if-not-passes.ensures.operations (c.write.ensures.operation_count h) (c.write.ensures.keeps h)

pub returns-clause-operation_count : goal.returns-clause-operation_count
returns-clause-operation_count g c h = counts_one _ _ true c.if-not-passes.ensures.operations

pub returns-clause-passes_on : goal.returns-clause-passes_on
returns-clause-passes_on g c on h = (c.write.ensures.crash h, c.write.ensures.keeps h, c.write.ensures.operation_count h)

pub returns-then-not-passes-clause-crash : goal.returns-then-not-passes-clause-crash
returns-then-not-passes-clause-crash g c h = leaves_kept _ _ (g.D.Device.disk (device_of c.args.self.now)) _ c.if-not-passes.ensures.operations

pub returns-then-not-passes-clause-keeps : goal.returns-then-not-passes-clause-keeps
returns-then-not-passes-clause-keeps g c h = keeps_kept _ _ (g.D.Device.disk (device_of c.args.self.now)) c.if-not-passes.ensures.operations

pub returns-then-not-passes-clause-operation_count : goal.returns-then-not-passes-clause-operation_count
returns-then-not-passes-clause-operation_count g c h = counts_one _ _ false c.if-not-passes.ensures.operations

pub returns-clause-goes_on : goal.returns-clause-goes_on
returns-clause-goes_on g c end lt first from = record {
  device = c.write.ensures.goes_on end lt (device_of first) from.device;
  honest = λ h. c.write.ensures.honest.0 (from.honest h);
  past = λ h. past_then end _ _ _ (from.past h) (past_wrote end c.args.n c.args.image.now _ _ lt (c.write.ensures.seen (from.honest h)) (returns-clause-crash g c (from.honest h)));
}

pub returns-then-not-passes-clause-goes_on : goal.returns-then-not-passes-clause-goes_on
returns-then-not-passes-clause-goes_on g c end lt first from = record {
  device = from.device;
  honest = from.honest;
  past = λ h. past_then end _ _ _ (from.past h) (past_wrote end c.args.n c.args.image.now _ _ lt (inl refl) (returns-then-not-passes-clause-crash g c (from.honest h)));
}
