use Rattle.vol_inode.proofs.LastPointer.{ends_in_zeros}
use Rattle.vol_inode.proofs.laws.older_entries_end_in_zeros.Goals as goal

pub returns : goal.returns
returns c = ends_in_zeros
