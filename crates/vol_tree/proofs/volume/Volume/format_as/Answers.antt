use Rattle.std.proofs.Common.{rules, arith}
use Rattle.vol_tree.proofs.volume.Volume.format_as.Goals as goal

pub returns-in-Ok-clause-durable : goal.returns-in-Ok-clause-durable
returns-in-Ok-clause-durable g c = search rules

pub returns-in-Ok-clause-empty : goal.returns-in-Ok-clause-empty
returns-in-Ok-clause-empty g c = search rules

pub returns-in-Ok-clause-past : goal.returns-in-Ok-clause-past
returns-in-Ok-clause-past g c h =
    g.met.D.Device.leaves_past c.args.sectors c.args.device c.lay_out.new.device h (c.lay_out.ensures.goes_on c.args.sectors (omega arith) c.args.device (g.met.D.Device.begins c.args.sectors c.args.device))

pub returns-in-Err-clause-past : goal.returns-in-Err-clause-past
returns-in-Err-clause-past g c h =
    g.met.D.Device.leaves_past c.args.sectors c.args.device c.lay_out.new.device h (c.lay_out.ensures.goes_on c.args.sectors (omega arith) c.args.device (g.met.D.Device.begins c.args.sectors c.args.device))
