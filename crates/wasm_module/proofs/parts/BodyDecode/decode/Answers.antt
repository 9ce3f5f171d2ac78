use Rattle.std.proofs.Common.{refl, ◌∙◌}
use Rattle.wasm_module.specs.internal.ModuleReading.{body_of, body_at}
use Rattle.wasm_syntax.proofs.Exits.{handed_on, none_within, sized_piece}
use Rattle.wasm_module.proofs.parts.BodyDecode.decode.Goals as goal

pub returns-in_err-sized_piece : goal.returns-in_err-sized_piece
unfolding body_at
returns-in_err-sized_piece c = handed_on _ _ c.from_residual.result _ c.from_residual.ensures.1 (λ other. none_within (body_of c.args.profile) c.args.cursor.now (c.in_err-sized_piece.ensures other))

pub returns-in-Ok : goal.returns-in-Ok
unfolding body_at
returns-in-Ok c = sized_piece (body_of c.args.profile) c.args.cursor.now ∙ rw (c.in_ok-sized_piece.ensures, c.in-Ok.ensures) refl

pub returns-in-Err : goal.returns-in-Err
unfolding body_at
returns-in-Err c = λ other. sized_piece (body_of c.args.profile) c.args.cursor.now ∙ rw (c.in_ok-sized_piece.ensures, c.in-Err.ensures (λ refused. other (c.inside.ensures refused))) refl
