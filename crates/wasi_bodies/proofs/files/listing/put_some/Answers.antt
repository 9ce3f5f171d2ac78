use Rattle.std.proofs.Common.{◌+◌, ◌-◌, arith}
use Rattle.std.proofs.lemmas.Slice.{drop-put_mid}
use Rattle.std.proofs.lemmas.Grind.{common_steps}
use Rattle.wasi_bodies.proofs.files.listing.put_some.Goals as goal

pub returns-clause-rest : goal.returns-clause-rest
returns-clause-rest c =
    let place = c.args.place in
    let count = c.min-count.result in
    drop-put_mid place (place + count - place) c.args.part.now c.copy_from_slice.new.self (place + count) (omega arith) (omega (arith, c.requires)) (omega arith)

pub returns-clause-filled : goal.returns-clause-filled
returns-clause-filled c = grind (arith, common_steps)
