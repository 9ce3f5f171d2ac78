use Rattle.invoked_run.proofs.Finding.{NoneBefore}
use Rattle.invoked_run.proofs.exports.exported_type.Given as goal

abbrev pub invariant-loop-export : goal.invariant-loop-export
invariant-loop-export l = NoneBefore l.fn.guest l.fn.name l.export-index
