use Rattle.std.proofs.Common.{◌<◌, length, sym, arith}
use Rattle.vol_dirs.specs.Serials.{key_at, keys_in}
use Rattle.vol_dirs.proofs.Orders.{key_total}
use Rattle.vol_dirs.proofs.Places.{as_many, key_there}
use Rattle.vol_dirs.proofs.Search.{least_of_first}
use Rattle.std.proofs.Common.{slice_index_or}
use Rattle.vol_dirs.proofs.serials.least_over.Goals as goal

pub returns-then-at-serials-clause-found : goal.returns-then-at-serials-clause-found
returns-then-at-serials-clause-found g c =
    let keys = c.args.keys.now in
    let serials = c.args.serials.now in
    let at = c.first_over-at.result in
    let lt : at < length serials = omega arith in
    let item = key_at keys (slice_index_or serials at 0) in
    least_of_first key_total (keys_in keys serials) c.requires.rises (c.args.key.now, c.args.serial) at item c.first_over-at.ensures.first (omega (arith, lt, as_many keys serials)) (sym (key_there keys serials at item lt))
