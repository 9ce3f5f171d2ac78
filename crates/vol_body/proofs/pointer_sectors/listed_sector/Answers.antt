use Rattle.std.proofs.Common.{◌∙◌}
use Rattle.vol_alloc.specs.Alloc.{taken_of}
use Rattle.vol_body.specs.Body.{data_block}
use Rattle.vol_body.proofs.Places.{known_at}
use Rattle.vol_body.proofs.Steps.{part_mirrored}
use Rattle.vol_body.proofs.pointer_sectors.listed_sector.Goals as goal

pub returns-clause-number : goal.returns-clause-number
returns-clause-number c content e q j at lt names mirror =
    c.taken_or_zero.ensures
    ∙ known_at (taken_of c.args.sectors.now) content e names (data_block j) lt c.number_at.result
    (c.number_at.ensures ∙ part_mirrored content e q c.args.i j c.args.above.now.number c.args.above.now.image at c.requires mirror)
