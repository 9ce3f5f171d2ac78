use Rattle.wasi_fd.specs.Table.{table_of}
use Rattle.wasi_calls.specs.internal.host.Preopening.{AreOpen}
use Rattle.wasi_calls.proofs.host.preopening.open_all.Given as goal

abbrev pub invariant-loop-i : goal.invariant-loop-i
invariant-loop-i l = AreOpen l.preopens l.serials l.i (table_of l.descriptors)
