use Rattle.std.proofs.Common.{refl}
use Rattle.sandbox_host.specs.Texts.{mistake_text, mistakes}
use Rattle.sandbox_host.proofs.Rows.{text_of_table}
use Rattle.sandbox_host.proofs.texts.mistake_text.Goals as goal

pub returns : goal.returns
unfolding mistake_text mistakes
returns c = text_of_table _ _ c.args.number _ c.text_of.ensures refl
