use Rattle.std.proofs.lemmas.Result.{IfOk-from_err}
use Rattle.std.proofs.Common.{◌∙◌}
use Rattle.wasi_bodies.proofs.bodies.Answering.{refusal_told}
use Rattle.wasi_bodies.proofs.checks.Chains.{goes_on, stops}
use Rattle.wasi_paths.proofs.paths.enter.Goals as goal

pub returns-in-Some : goal.returns-in-Some
returns-in-Some c = record {
  row = λ w is. goes_on _ _ c.in_ok-opened.opened (c.in_ok-opened.ensures w is) ∙ goes_on _ _ tt c.in_ok-check_range.ensures.range;
  text = c.in-Some.ensures.inside.1;
}

pub returns-in_err-check_range : goal.returns-in_err-check_range
returns-in_err-check_range c = record {
  row = λ w is.
      let r = c.from_residual-in_err-check_range.result in
      let x = c.in_err-check_range.field-0.0 in
      let is_x = c.from_residual-in_err-check_range.ensures.1 in
      refusal_told r x _ _ is_x (goes_on _ _ c.in_ok-opened.opened (c.in_ok-opened.ensures w is) ∙ stops _ _ _ c.in_err-check_range.ensures.range);
  text = IfOk-from_err c.from_residual-in_err-check_range.result _ c.from_residual-in_err-check_range.ensures.0;
}

pub returns-in_err-opened : goal.returns-in_err-opened
returns-in_err-opened c = record {
  row = λ w is.
      let r = c.from_residual.result in
      let x = c.in_err-opened.field-0.0 in
      let is_x = c.from_residual.ensures.1 in
      refusal_told r x _ _ is_x (stops _ _ _ (c.in_err-opened.ensures w is));
  text = IfOk-from_err c.from_residual.result _ c.from_residual.ensures.0;
}
