use Rattle.std.proofs.Common.{◌∙◌}
use Rattle.std.proofs.lemmas.Bool.{leb-true}
use Rattle.wasi_bodies.proofs.bodies.Answering.{refusal_told, last_told, ok_anyway, no_ok}
use Rattle.wasi_bodies.proofs.checks.Chains.{goes_on, stops}
use Rattle.wasi_bodies.proofs.descriptors.positions.file_to_move.Goals as goal

pub returns-in_err-check_range : goal.returns-in_err-check_range
returns-in_err-check_range c =
    let refused = c.from_residual-in_err-check_range in
    record {
      whence = no_ok _ refused.result refused.ensures.0;
      inside = no_ok _ refused.result refused.ensures.0;
      checked = λ w is. refusal_told refused.result c.in_err-check_range.field-0.0 _ _ refused.ensures.1 (goes_on _ _ c.in_ok-descriptor.descriptor (c.in_ok-descriptor.ensures w is) ∙ (goes_on _ _ tt c.in_ok-check.ensures ∙ (goes_on _ _ tt c.in_ok-check_seek.ensures ∙ (goes_on _ _ tt c.in_ok-check_that.ensures.meaning ∙ stops _ _ _ c.in_err-check_range.ensures.range))));
    }

pub returns : goal.returns
returns c = record {
  whence = ok_anyway c.opened_of.result (leb-true _ _ c.in_ok-check_that.ensures.passed);
  inside = ok_anyway c.opened_of.result c.in_ok-check_range.ensures.inside;
  checked = λ w is.
      last_told _ _ _ (goes_on _ _ c.in_ok-descriptor.descriptor (c.in_ok-descriptor.ensures w is) ∙ (goes_on _ _ tt c.in_ok-check.ensures ∙ (goes_on _ _ tt c.in_ok-check_seek.ensures ∙ (goes_on _ _ tt c.in_ok-check_that.ensures.meaning ∙ goes_on _ _ tt c.in_ok-check_range.ensures.range)))) c.opened_of.ensures;
}

pub returns-in_err-check_that : goal.returns-in_err-check_that
returns-in_err-check_that c =
    let refused = c.from_residual-in_err-check_that in
    record {
      whence = no_ok _ refused.result refused.ensures.0;
      inside = no_ok _ refused.result refused.ensures.0;
      checked = λ w is. refusal_told refused.result c.in_err-check_that.field-0.0 _ _ refused.ensures.1 (goes_on _ _ c.in_ok-descriptor.descriptor (c.in_ok-descriptor.ensures w is) ∙ (goes_on _ _ tt c.in_ok-check.ensures ∙ (goes_on _ _ tt c.in_ok-check_seek.ensures ∙ stops _ _ _ c.in_err-check_that.ensures.meaning)));
    }

pub returns-in_err-check_seek : goal.returns-in_err-check_seek
returns-in_err-check_seek c =
    let refused = c.from_residual-in_err-check_seek in
    record {
      whence = no_ok _ refused.result refused.ensures.0;
      inside = no_ok _ refused.result refused.ensures.0;
      checked = λ w is. refusal_told refused.result c.in_err-check_seek.field-0.0 _ _ refused.ensures.1 (goes_on _ _ c.in_ok-descriptor.descriptor (c.in_ok-descriptor.ensures w is) ∙ (goes_on _ _ tt c.in_ok-check.ensures ∙ stops _ _ _ c.in_err-check_seek.ensures));
    }

pub returns-in_err-check : goal.returns-in_err-check
returns-in_err-check c =
    let refused = c.from_residual-in_err-check in
    record {
      whence = no_ok _ refused.result refused.ensures.0;
      inside = no_ok _ refused.result refused.ensures.0;
      checked = λ w is. refusal_told refused.result c.in_err-check.field-0.0 _ _ refused.ensures.1 (goes_on _ _ c.in_ok-descriptor.descriptor (c.in_ok-descriptor.ensures w is) ∙ stops _ _ _ c.in_err-check.ensures);
    }

pub returns-in_err-descriptor : goal.returns-in_err-descriptor
returns-in_err-descriptor c =
    let refused = c.from_residual in
    record {
      whence = no_ok _ refused.result refused.ensures.0;
      inside = no_ok _ refused.result refused.ensures.0;
      checked = λ w is. refusal_told refused.result c.in_err-descriptor.field-0.0 _ _ refused.ensures.1 (stops _ _ _ (c.in_err-descriptor.ensures w is));
    }
