use Rattle.std.proofs.Common.{arith}
use Rattle.std.proofs.lemmas.Grind.{common_steps}
use Rattle.vol_sector.specs.Memory.{initial_image, record_of, operations_of}
use Rattle.vol_sector.specs.Record.{recorded}
use Rattle.vol_sector.proofs.Counting.{leaves_kept, keeps_kept}
use Rattle.std.proofs.Common.{refl, []}
use Rattle.vol_sector.specs.internal.PastLaws.{past_quiet}
use Rattle.vol_sector.specs.internal.RecordLaws.{begins_itself}
use Rattle.vol_sector.proofs.GoingOn.{goes_on}
use Rattle.vol_sector.proofs.memory.MemoryDeviceDevice.read.Goals as goal

pub returns-clause-crash : goal.returns-clause-crash
returns-clause-crash c h = let m = c.args.self.now in leaves_kept (operations_of m) c.and-self.result.outcomes (recorded (initial_image m) (record_of m)) (λ x. ⊥) c.and-self.ensures

pub returns-clause-keeps : goal.returns-clause-keeps
returns-clause-keeps c h = let m = c.args.self.now in keeps_kept (operations_of m) c.and-self.result.outcomes (recorded (initial_image m) (record_of m)) c.and-self.ensures

pub returns-clause-bytes : goal.returns-clause-bytes
returns-clause-bytes c = grind (arith, common_steps)

pub returns-clause-goes_on : goal.returns-clause-goes_on
returns-clause-goes_on c end = goes_on end c.args.self.now _ [] refl (begins_itself (record_of c.args.self.now)) (past_quiet end _ _ refl (returns-clause-crash c tt))
