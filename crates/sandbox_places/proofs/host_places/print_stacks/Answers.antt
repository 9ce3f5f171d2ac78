use Rattle.std.proofs.Common.{◌++◌, Result, Ok, Err, OnOk, refl}
use Rattle.observed_run.specs.Folded.{cut_text}
use Rattle.sandbox_places.proofs.host_places.print_stacks.Goals as goal

on_any : {U E X : Type 0} (r : Result U E) → X → OnOk r X
on_any (Ok u) x = x
on_any (Err e) x = tt

pub returns : goal.returns
returns g c =
    let printed = c.in_ok-print.ensures in
    on_any c.flush.result (printed.0 ++ cut_text c.args.stacks.now.is_cut, (printed.0, printed.1, refl), (c.args.file.now, c.requires, c.print.new.out, printed.2.1))
