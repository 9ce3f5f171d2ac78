use Rattle.std.proofs.Common.{rules}
use Rattle.meanings.specs.Tables.{text_in}
use Rattle.meanings.proofs.tables.text_of.Goals as goal

pub returns-in-Some : goal.returns-in-Some
unfolding text_in
returns-in-Some c = search rules

pub returns-in-None : goal.returns-in-None
unfolding text_in
returns-in-None c = search rules
