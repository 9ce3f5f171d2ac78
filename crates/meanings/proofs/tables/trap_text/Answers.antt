use Rattle.std.proofs.Common.{refl}
use Rattle.meanings.specs.Tables.{trap_text, traps}
use Rattle.meanings.proofs.Rows.{text_of_table}
use Rattle.meanings.proofs.tables.trap_text.Goals as goal

pub returns : goal.returns
unfolding trap_text traps
returns c = text_of_table _ _ c.args.number _ c.text_of.ensures refl
