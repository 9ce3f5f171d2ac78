use Rattle.vol_dirs.proofs.Shown.{same_shown}
use Rattle.vol_dirs.proofs.laws.other_sectors_are_not_shown.Goals as goal

pub returns : goal.returns
returns c v one other slots shown same = same_shown v one other slots c.args.dirs.now shown same
