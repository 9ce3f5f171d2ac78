use Rattle.std.proofs.Common.{ℕ, List}
use Rattle.wasm_syntax.specs.Reading.{utf8_text_of, name_at}
use Rattle.wasm_syntax.proofs.Exits.{handed_on, given_within, none_within}
use Rattle.wasm_module.proofs.cursor.Cursor.name.Goals as goal

pub returns-in_err-sized_piece : goal.returns-in_err-sized_piece
unfolding name_at
returns-in_err-sized_piece c = handed_on _ _ c.from_residual.result _ c.from_residual.ensures.1 (λ other. none_within utf8_text_of c.args.self.now (c.in_err-sized_piece.ensures other))

pub returns : goal.returns
unfolding name_at
returns c = given_within (λ (x : List ℕ). x) utf8_text_of c.args.self.now _ _ c.text.result c.in_ok-sized_piece.ensures c.text.ensures
