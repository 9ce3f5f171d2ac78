use Rattle.std.proofs.Common.{inr}
use Rattle.sandbox_device.proofs.Told.{err_told, ok_told}
use Rattle.sandbox_device.proofs.opening.OutputOnWrite.flush.Goals as goal

pub returns-clause-flushes : goal.returns-clause-flushes
returns-clause-flushes g c =
    let cuts = c.in_ok-cut.ensures in
    ok_told _ c.flush_all.result c.flush_all.ensures (λ flushes. record { cut_first = c.cut.new.self; cuts = cuts; flushes = flushes; is_cut = cuts.is_cut; same = cuts.same })

pub returns-clause-refused : goal.returns-clause-refused
returns-clause-refused g c =
    let cuts = c.in_ok-cut.ensures in
    err_told _ c.flush_all.result c.flush_all.ensures (λ refuses. inr (record { cut_first = c.cut.new.self; cuts = cuts; refuses = refuses; is_cut = cuts.is_cut; same = cuts.same }))
