use Rattle.std.proofs.Common.{refl}
use Rattle.meanings.specs.Tables.{end_label, ends}
use Rattle.meanings.proofs.Rows.{text_of_table}
use Rattle.meanings.proofs.tables.end_label.Goals as goal

pub returns : goal.returns
unfolding end_label ends
returns c = text_of_table _ _ c.args.number _ c.text_of.ensures refl
