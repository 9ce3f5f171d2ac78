use Rattle.std.proofs.Common.{inr}
use Rattle.sandbox_device.proofs.Told.{if_told, err_told}
use Rattle.sandbox_device.proofs.opening.OutputOnWrite.write.Goals as goal

pub returns-clause-puts : goal.returns-clause-puts
returns-clause-puts g c =
    let cuts = c.in_ok-cut.ensures in
    if_told _ c.put.result c.put.ensures.told (λ n writes. record { cut_first = c.cut.new.self; cuts = cuts; writes = writes; is_cut = cuts.is_cut; same = cuts.same })

pub returns-clause-refused : goal.returns-clause-refused
returns-clause-refused g c =
    let cuts = c.in_ok-cut.ensures in
    err_told _ c.put.result c.put.ensures.told (λ refuses. inr (record { cut_first = c.cut.new.self; cuts = cuts; refuses = refuses; is_cut = cuts.is_cut; same = cuts.same }))
