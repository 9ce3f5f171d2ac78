use Rattle.std.proofs.Common.{refl, ◌∙◌}
use Rattle.wasm_syntax.specs.Reading.{whole}
use Rattle.wasm_syntax.proofs.Exits.{handed_on, none_within, sized_piece}
use Rattle.wasm_module.proofs.cursor.Cursor.sized.Goals as goal

pub returns-in_err-sized_piece : goal.returns-in_err-sized_piece
returns-in_err-sized_piece g c = handed_on _ _ c.from_residual.result _ c.from_residual.ensures.1 (λ other. none_within (whole (g.T.Decode.at c.args.profile)) c.args.self.now (c.in_err-sized_piece.ensures other))

pub returns-in-Ok : goal.returns-in-Ok
returns-in-Ok g c = sized_piece (whole (g.T.Decode.at c.args.profile)) c.args.self.now ∙ rw (c.in_ok-sized_piece.ensures, c.in-Ok.ensures) refl

pub returns-in-Err : goal.returns-in-Err
returns-in-Err g c = λ other. sized_piece (whole (g.T.Decode.at c.args.profile)) c.args.self.now ∙ rw (c.in_ok-sized_piece.ensures, c.in-Err.ensures (λ refused. other (c.inside.ensures refused))) refl
