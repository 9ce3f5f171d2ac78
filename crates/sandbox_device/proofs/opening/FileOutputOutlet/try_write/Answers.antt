use Rattle.std.proofs.Common.{take}
use Rattle.sandbox_device.specs.Written.{Puts, WasCut, WasPut}
use Rattle.sandbox_device.proofs.Told.{told_both}
use Rattle.sandbox_device.proofs.opening.FileOutputOutlet.try_write.Goals as goal

pub returns-clause-told : goal.returns-clause-told
returns-clause-told c =
    told_both (λ n. Puts WasCut WasPut c.args.self.now.on (take n c.args.buf.now) c.write.new.self.on) _ c.write.result c.write.ensures.puts c.write.ensures.refused
