use Rattle.sandbox_telling.proofs.Lines.{lines_then}
use Rattle.sandbox_command.proofs.files.end_clashing.Goals as goal

pub returns-clause-ends : goal.returns-clause-ends
returns-clause-ends g c = (c.tell_of_clash.new.err, lines_then _ _ _ c.refuse_setting-status.ensures.line c.tell_of_clash.ensures, c.end.ensures)
