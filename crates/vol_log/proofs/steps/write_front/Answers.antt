use Rattle.std.proofs.Common.{◌∙◌, refl, is_err, ap, arith}
use Rattle.std.proofs.lemmas.Grind.{common_steps}
use Rattle.vol_sector.specs.Disk.{counted}
use Rattle.vol_log.proofs.Moments.{both_then, counts_one, at_ok}
use Rattle.vol_log.proofs.steps.write_front.Goals as goal

pub returns-in_err-write-clause-durable : goal.returns-in_err-write-clause-durable
returns-in_err-write-clause-durable g c h = at_ok c.from_residual.result _ c.from_residual.ensures.0

pub returns-in_err-write-clause-written : goal.returns-in_err-write-clause-written
returns-in_err-write-clause-written g c h = at_ok c.from_residual.result _ c.from_residual.ensures.0

pub returns-in_err-write-clause-honest : goal.returns-in_err-write-clause-honest
returns-in_err-write-clause-honest g c = c.write.ensures.honest

pub returns-in_err-write-clause-size : goal.returns-in_err-write-clause-size
returns-in_err-write-clause-size g c = c.write.ensures.size

pub returns-in_err-write-clause-failures : goal.returns-in_err-write-clause-failures
returns-in_err-write-clause-failures g c = counts_one c.from_residual.result (g.D.Device.failures c.args.device.now) (g.D.Device.failures c.args.device.now) (g.D.Device.failures c.write.new.self) c.from_residual.ensures.0 refl c.in_err-write.ensures.failures

pub returns-clause-honest : goal.returns-clause-honest
returns-clause-honest g c = both_then c.write.ensures.honest c.sync.ensures.honest

pub returns-clause-size : goal.returns-clause-size
returns-clause-size g c = c.sync.ensures.size ∙ c.write.ensures.size

pub returns-clause-failures : goal.returns-clause-failures
returns-clause-failures g c = c.sync.ensures.failures ∙ ap (counted (is_err c.sync.result)) c.in_ok-write.ensures.failures

pub returns-clause-crash : goal.returns-clause-crash
returns-clause-crash c = grind (arith, common_steps)
