use Rattle.std.proofs.Common.{refl}
use Rattle.meanings.specs.Tables.{errno_text, errnos}
use Rattle.meanings.proofs.Rows.{text_of_table}
use Rattle.meanings.proofs.tables.errno_text.Goals as goal

pub returns : goal.returns
unfolding errno_text errnos
returns c = text_of_table _ _ c.args.number _ c.text_of.ensures refl
