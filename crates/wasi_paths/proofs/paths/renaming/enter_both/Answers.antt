use Rattle.std.proofs.lemmas.Result.{IfOk-from_err}
use Rattle.std.proofs.Common.{◌∙◌, arith}
use Rattle.wasi_fd.specs.declared.descriptor.Descriptor.{Descriptor}
use Rattle.wasi_bodies.proofs.checks.Chains.{goes_on, stops}
use Rattle.wasi_bodies.proofs.bodies.Answering.{refusal_told}
use Rattle.wasi_paths.proofs.paths.renaming.enter_both.Goals as goal

pub returns-in-Err : goal.returns-in-Err
returns-in-Err c = record {
  row = λ w table.
      let both : Descriptor × Descriptor = (c.in_ok-source.source, c.in_ok-source.target) in
      goes_on _ _ both (c.in_ok-source.ensures w table) ∙ (goes_on _ _ tt c.in_ok-check_range.ensures.range ∙ (goes_on _ _ tt c.in_ok-check_range-2.ensures.range
      ∙ (goes_on _ _ c.in_ok-from.from c.in_ok-from.ensures ∙ stops _ _ _ c.in-Err.ensures)));
  from = tt;
  to = tt;
}

pub returns-clause-row : goal.returns-clause-row
returns-clause-row c = λ w table.
    let both : Descriptor × Descriptor = (c.in_ok-source.source, c.in_ok-source.target) in
    goes_on _ _ both (c.in_ok-source.ensures w table) ∙ (goes_on _ _ tt c.in_ok-check_range.ensures.range ∙ (goes_on _ _ tt c.in_ok-check_range-2.ensures.range
    ∙ (goes_on _ _ c.in_ok-from.from c.in_ok-from.ensures ∙ goes_on _ _ c.in-Ok.to c.in-Ok.ensures)))

pub returns-in_err-from : goal.returns-in_err-from
returns-in_err-from c = record {
  row = λ w is.
      let r = c.from_residual-in_err-from.result in
      let x = c.in_err-from.field-0.0 in
      let is_x = c.from_residual-in_err-from.ensures.1 in
      refusal_told r x _ _ is_x (goes_on _ _ (c.in_ok-source.source, c.in_ok-source.target) (c.in_ok-source.ensures w is) ∙ (goes_on _ _ tt c.in_ok-check_range.ensures.range ∙ (goes_on _ _ tt c.in_ok-check_range-2.ensures.range ∙ stops _ _ _ c.in_err-from.ensures)));
  from = IfOk-from_err c.from_residual-in_err-from.result _ c.from_residual-in_err-from.ensures.0;
  to = IfOk-from_err c.from_residual-in_err-from.result _ c.from_residual-in_err-from.ensures.0;
}

pub returns-in_err-check_range-2 : goal.returns-in_err-check_range-2
returns-in_err-check_range-2 c = record {
  row = λ w is.
      let r = c.from_residual-in_err-check_range-2.result in
      let x = c.in_err-check_range-2.field-0.0 in
      let is_x = c.from_residual-in_err-check_range-2.ensures.1 in
      refusal_told r x _ _ is_x (goes_on _ _ (c.in_ok-source.source, c.in_ok-source.target) (c.in_ok-source.ensures w is) ∙ (goes_on _ _ tt c.in_ok-check_range.ensures.range ∙ stops _ _ _ c.in_err-check_range-2.ensures.range));
  from = IfOk-from_err c.from_residual-in_err-check_range-2.result _ c.from_residual-in_err-check_range-2.ensures.0;
  to = IfOk-from_err c.from_residual-in_err-check_range-2.result _ c.from_residual-in_err-check_range-2.ensures.0;
}

pub returns-in_err-check_range : goal.returns-in_err-check_range
returns-in_err-check_range c = record {
  row = λ w is.
      let r = c.from_residual-in_err-check_range.result in
      let x = c.in_err-check_range.field-0.0 in
      let is_x = c.from_residual-in_err-check_range.ensures.1 in
      refusal_told r x _ _ is_x (goes_on _ _ (c.in_ok-source.source, c.in_ok-source.target) (c.in_ok-source.ensures w is) ∙ stops _ _ _ c.in_err-check_range.ensures.range);
  from = IfOk-from_err c.from_residual-in_err-check_range.result _ c.from_residual-in_err-check_range.ensures.0;
  to = IfOk-from_err c.from_residual-in_err-check_range.result _ c.from_residual-in_err-check_range.ensures.0;
}

pub returns-in_default-slice : goal.returns-in_default-slice
returns-in_default-slice c = record {
  row = λ w is. absurd (omega (arith, c.in_default-slice.ensures.outside, c.in_ok-check_range-2.ensures.inside));
  from = tt;
  to = tt;
}

pub returns-in_default : goal.returns-in_default
returns-in_default c = record {
  row = λ w is. absurd (omega (arith, c.in_default.ensures.outside, c.in_ok-check_range.ensures.inside));
  from = tt;
  to = tt;
}

pub returns-in_err-source : goal.returns-in_err-source
returns-in_err-source c = record {
  row = λ w is.
      let r = c.from_residual.result in
      let x = c.in_err-source.field-0.0 in
      let is_x = c.from_residual.ensures.1 in
      refusal_told r x _ _ is_x (stops _ _ _ (c.in_err-source.ensures w is));
  from = IfOk-from_err c.from_residual.result _ c.from_residual.ensures.0;
  to = IfOk-from_err c.from_residual.result _ c.from_residual.ensures.0;
}
