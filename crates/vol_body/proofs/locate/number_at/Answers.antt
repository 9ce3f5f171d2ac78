use Rattle.std.proofs.Common.{◌∙◌, ◌*◌, ◌-◌, drop, arith}
use Rattle.byteorder.specs.Numbers.{little_from-take}
use Rattle.vol_body.proofs.locate.number_at.Goals as goal

pub returns : goal.returns
returns c = c.read_u32.ensures ∙ little_from-take 0 4 (512 - 4 * c.args.i) (drop (4 * c.args.i) c.args.image.now) (omega (arith, c.requires))
