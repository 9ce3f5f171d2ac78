use Rattle.std.proofs.Common.{◌∙◌}
use Rattle.wasi_bodies.proofs.bodies.Answering.{refusal_told, no_ok}
use Rattle.wasi_bodies.proofs.checks.Chains.{goes_on, stops}
use Rattle.wasi_bodies.proofs.files.listing.directory_to_list.Goals as goal

pub returns-in-Err : goal.returns-in-Err
returns-in-Err c = record {
  buffer = tt;
  used = tt;
  checked = λ w is. goes_on _ _ c.in_ok-opened.opened (c.in_ok-opened.ensures w is) ∙ (goes_on _ _ tt c.in_ok-check_range.ensures.range ∙ stops _ _ _ c.in-Err.ensures.range);
}

pub returns-in-Ok : goal.returns-in-Ok
returns-in-Ok c = record {
  buffer = c.in_ok-check_range.ensures.inside;
  used = c.in-Ok.ensures.inside;
  checked = λ w is. goes_on _ _ c.in_ok-opened.opened (c.in_ok-opened.ensures w is) ∙ (goes_on _ _ tt c.in_ok-check_range.ensures.range ∙ goes_on _ _ tt c.in-Ok.ensures.range);
}

pub returns-in_err-check_range : goal.returns-in_err-check_range
returns-in_err-check_range c = record {
  buffer = no_ok _ c.from_residual-in_err-check_range.result c.from_residual-in_err-check_range.ensures.0;
  used = no_ok _ c.from_residual-in_err-check_range.result c.from_residual-in_err-check_range.ensures.0;
  checked = λ w is.
      let r = c.from_residual-in_err-check_range.result in
      let x = c.in_err-check_range.field-0.0 in
      let is_x = c.from_residual-in_err-check_range.ensures.1 in
      refusal_told r x _ _ is_x (goes_on _ _ c.in_ok-opened.opened (c.in_ok-opened.ensures w is) ∙ stops _ _ _ c.in_err-check_range.ensures.range);
}

pub returns-in_err-opened : goal.returns-in_err-opened
returns-in_err-opened c = record {
  buffer = no_ok _ c.from_residual.result c.from_residual.ensures.0;
  used = no_ok _ c.from_residual.result c.from_residual.ensures.0;
  checked = λ w is.
      let r = c.from_residual.result in
      let x = c.in_err-opened.field-0.0 in
      let is_x = c.from_residual.ensures.1 in
      refusal_told r x _ _ is_x (stops _ _ _ (c.in_err-opened.ensures w is));
}
