use Rattle.vol_alloc.proofs.Covers.{taken_in_list}
use Rattle.vol_alloc.proofs.laws.listed_sectors_are_taken.Goals as goal

pub returns : goal.returns
returns c = taken_in_list
