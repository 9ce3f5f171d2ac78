use Rattle.std.proofs.Common.{◌∙◌, ap, length}
use Rattle.std.proofs.lemmas.List.{length-replicate}
use Rattle.sandbox_device.specs.internal.Packing.{zeros}
use Rattle.sandbox_device.proofs.ram_device.RamDevice.new.Goals as goal

pub returns-clause-sectors : goal.returns-clause-sectors
returns-clause-sectors c = ap length c.in_ok-zeros.ensures ∙ length-replicate c.args.sectors zeros

pub returns-clause-zeros : goal.returns-clause-zeros
returns-clause-zeros c = c.in_ok-zeros.ensures
