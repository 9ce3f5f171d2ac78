use Rattle.std.proofs.Common.{refl}
use Rattle.meanings.specs.Tables.{fault_text, faults}
use Rattle.meanings.proofs.Rows.{text_of_table}
use Rattle.meanings.proofs.tables.fault_text.Goals as goal

pub returns : goal.returns
unfolding fault_text faults
returns c = text_of_table _ _ c.args.number _ c.text_of.ensures refl
