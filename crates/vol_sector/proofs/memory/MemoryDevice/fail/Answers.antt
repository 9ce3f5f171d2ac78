use Rattle.vol_sector.specs.Memory.{initial_image, record_of, operations_of}
use Rattle.vol_sector.specs.Record.{recorded}
use Rattle.vol_sector.proofs.Counting.{leaves_kept, keeps_kept}
use Rattle.vol_sector.proofs.memory.MemoryDevice.fail.Goals as goal

pub returns-clause-crash : goal.returns-clause-crash
returns-clause-crash c = let m = c.args.self.now in leaves_kept (operations_of m) c.and-self.result.outcomes (recorded (initial_image m) (record_of m)) (λ x. ⊥) c.and-self.ensures

pub returns-clause-keeps : goal.returns-clause-keeps
returns-clause-keeps c = let m = c.args.self.now in keeps_kept (operations_of m) c.and-self.result.outcomes (recorded (initial_image m) (record_of m)) c.and-self.ensures
