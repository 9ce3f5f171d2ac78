use Rattle.std.proofs.Common.{◌∙◌, ap, min}
use Rattle.sandbox_telling.proofs.formatting.room_for.Goals as goal

pub returns : goal.returns
returns c = c.min.ensures ∙ ap (min c.args.sectors) c.most_sectors.ensures
