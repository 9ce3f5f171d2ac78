use Rattle.std.proofs.lemmas.Result.{IfOk-from_err}
use Rattle.std.proofs.Common.{◌∙◌, ap, sym, arith}
use Rattle.wasi_bodies.proofs.bodies.Answering.{refusal_told, no_ok}
use Rattle.wasi_bodies.proofs.checks.Chains.{goes_on, stops}
use Rattle.wasi_bodies.specs.Checks.{entry_at, only_directories}
use Rattle.wasi_paths.proofs.paths.opening.enter_open.Goals as goal

pub returns-in-Some : goal.returns-in-Some
returns-in-Some c = record {
  row = λ w is. goes_on _ _ c.in_ok-opened.opened (ap (entry_at w c.args.asked.now.fd only_directories) (sym c.open_rights-rights.ensures) ∙ c.in_ok-opened.ensures w is) ∙ (goes_on _ _ tt c.in_ok-check_flags.ensures ∙ (goes_on _ _ tt c.in_ok-check_range.ensures.range ∙ goes_on _ _ tt c.in_ok-check_range-2.ensures.range));
  text = c.in-Some.ensures.inside.1;
  inside = c.in_ok-check_range-2.ensures.inside;
}

pub returns-in_err-check_range-2 : goal.returns-in_err-check_range-2
returns-in_err-check_range-2 c = record {
  row = λ w is.
      let r = c.from_residual-in_err-check_range-2.result in
      let x = c.in_err-check_range-2.field-0.0 in
      let is_x = c.from_residual-in_err-check_range-2.ensures.1 in
      refusal_told r x _ _ is_x (goes_on _ _ c.in_ok-opened.opened (ap (entry_at w c.args.asked.now.fd only_directories) (sym c.open_rights-rights.ensures) ∙ c.in_ok-opened.ensures w is) ∙ (goes_on _ _ tt c.in_ok-check_flags.ensures ∙ (goes_on _ _ tt c.in_ok-check_range.ensures.range ∙ stops _ _ _ c.in_err-check_range-2.ensures.range)));
  text = IfOk-from_err c.from_residual-in_err-check_range-2.result _ c.from_residual-in_err-check_range-2.ensures.0;
  inside = no_ok _ c.from_residual-in_err-check_range-2.result c.from_residual-in_err-check_range-2.ensures.0;
}

pub returns-in_err-check_range : goal.returns-in_err-check_range
returns-in_err-check_range c = record {
  row = λ w is.
      let r = c.from_residual-in_err-check_range.result in
      let x = c.in_err-check_range.field-0.0 in
      let is_x = c.from_residual-in_err-check_range.ensures.1 in
      refusal_told r x _ _ is_x (goes_on _ _ c.in_ok-opened.opened (ap (entry_at w c.args.asked.now.fd only_directories) (sym c.open_rights-rights.ensures) ∙ c.in_ok-opened.ensures w is) ∙ (goes_on _ _ tt c.in_ok-check_flags.ensures ∙ stops _ _ _ c.in_err-check_range.ensures.range));
  text = IfOk-from_err c.from_residual-in_err-check_range.result _ c.from_residual-in_err-check_range.ensures.0;
  inside = no_ok _ c.from_residual-in_err-check_range.result c.from_residual-in_err-check_range.ensures.0;
}

pub returns-in_err-check_flags : goal.returns-in_err-check_flags
returns-in_err-check_flags c = record {
  row = λ w is.
      let r = c.from_residual-in_err-check_flags.result in
      let x = c.in_err-check_flags.field-0.0 in
      let is_x = c.from_residual-in_err-check_flags.ensures.1 in
      refusal_told r x _ _ is_x (goes_on _ _ c.in_ok-opened.opened (ap (entry_at w c.args.asked.now.fd only_directories) (sym c.open_rights-rights.ensures) ∙ c.in_ok-opened.ensures w is) ∙ stops _ _ _ c.in_err-check_flags.ensures);
  text = IfOk-from_err c.from_residual-in_err-check_flags.result _ c.from_residual-in_err-check_flags.ensures.0;
  inside = no_ok _ c.from_residual-in_err-check_flags.result c.from_residual-in_err-check_flags.ensures.0;
}

pub returns-in_err-opened : goal.returns-in_err-opened
returns-in_err-opened c = record {
  row = λ w is.
      let r = c.from_residual.result in
      let x = c.in_err-opened.field-0.0 in
      let is_x = c.from_residual.ensures.1 in
      refusal_told r x _ _ is_x (stops _ _ _ (ap (entry_at w c.args.asked.now.fd only_directories) (sym c.open_rights-rights.ensures) ∙ c.in_err-opened.ensures w is));
  text = IfOk-from_err c.from_residual.result _ c.from_residual.ensures.0;
  inside = no_ok _ c.from_residual.result c.from_residual.ensures.0;
}

pub returns-in-None : goal.returns-in-None
returns-in-None c = record {
  row = λ w is. absurd (omega (arith, c.in-None.ensures.outside, c.in_ok-check_range.ensures.inside));
  text = tt;
  inside = tt;
}
