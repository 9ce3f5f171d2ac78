use Rattle.wasm_syntax.proofs.Exits.{handed_on}
use Rattle.wasm_module.proofs.Words.{no_magic, then_version}
use Rattle.wasm_module.proofs.decoding.preamble.Goals as goal

pub returns-in_err-word : goal.returns-in_err-word
returns-in_err-word c = handed_on _ _ c.from_residual.result _ c.from_residual.ensures.1 (λ other. no_magic c.args.cursor.now (c.in_err-word.ensures other))

pub returns : goal.returns
returns c = then_version c.args.cursor.now _ _ _ c.in_ok-word.ensures c.word-2.ensures
