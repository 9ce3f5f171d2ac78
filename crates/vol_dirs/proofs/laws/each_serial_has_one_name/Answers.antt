use Rattle.vol_dirs.specs.SerialOrder.{keys_of}
use Rattle.vol_dirs.specs.Key.{key_of}
use Rattle.vol_dirs.proofs.Listings.{one_name}
use Rattle.vol_dirs.proofs.laws.each_serial_has_one_name.Goals as goal

pub returns-clause-first : goal.returns-clause-first
returns-clause-first c p n s held = let bounds = c.args.dirs.now.listing.numbered (key_of p n) s held.held in bounds.0

pub returns-clause-last : goal.returns-clause-last
returns-clause-last c p n s held = let bounds = c.args.dirs.now.listing.numbered (key_of p n) s held.held in bounds.1

pub returns-clause-parent : goal.returns-clause-parent
returns-clause-parent c p q n m s one other =
    let dirs = c.args.dirs.now in
    let same = one_name dirs.slots (keys_of dirs.keys) (keys_of dirs.children) dirs.listing p q n m s one other in
    same.0

pub returns-clause-name : goal.returns-clause-name
returns-clause-name c p q n m s one other =
    let dirs = c.args.dirs.now in
    let same = one_name dirs.slots (keys_of dirs.keys) (keys_of dirs.children) dirs.listing p q n m s one other in
    same.1
