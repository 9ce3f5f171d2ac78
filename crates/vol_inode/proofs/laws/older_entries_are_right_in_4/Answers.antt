use Rattle.vol_inode.proofs.LastPointer.{right_in_4}
use Rattle.vol_inode.proofs.laws.older_entries_are_right_in_4.Goals as goal

pub returns : goal.returns
returns c = right_in_4
