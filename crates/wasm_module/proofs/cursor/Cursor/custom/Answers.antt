use Rattle.wasm_syntax.specs.Reading.{custom_of}
use Rattle.wasm_syntax.proofs.Exits.{handed_on, given_within, none_within}
use Rattle.wasm_module.proofs.cursor.Cursor.custom.Goals as goal

pub returns-in_err-sized_piece : goal.returns-in_err-sized_piece
returns-in_err-sized_piece c = handed_on _ _ c.from_residual.result _ c.from_residual.ensures.1 (λ other. none_within custom_of c.args.self.now (c.in_err-sized_piece.ensures other))

pub returns : goal.returns
returns c = given_within (λ (x : Unit {0}). x) custom_of c.args.self.now _ _ c.custom_content.result c.in_ok-sized_piece.ensures c.custom_content.ensures
