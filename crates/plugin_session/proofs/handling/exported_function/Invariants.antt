use Rattle.plugin_session.proofs.Finding.{NoneBefore}
use Rattle.plugin_session.proofs.handling.exported_function.Given as goal

abbrev pub invariant-loop-export : goal.invariant-loop-export
invariant-loop-export l = NoneBefore l.fn.name l.fn.guest.exports l.export-index
