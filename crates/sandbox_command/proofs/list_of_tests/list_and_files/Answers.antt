use Rattle.std.proofs.Common.{inl, inr}
use Rattle.sandbox_command.proofs.Chains.{passed}
use Rattle.sandbox_command.proofs.list_of_tests.list_and_files.Goals as goal

pub returns-in_err-text : goal.returns-in_err-text
returns-in_err-text g c = passed _ _ c.from_residual.result c.in_err-text.field-0.0 c.from_residual.ensures.1 (inl (c.text.ensures.asked, c.in_err-text.ensures.refused))

pub returns-in_err-module : goal.returns-in_err-module
returns-in_err-module g c = passed _ _ c.from_residual-in_err-module.result c.in_err-module.field-0.0 c.from_residual-in_err-module.ensures.1
    (inr (_, c.text.ensures.asked, c.in_err-module.ensures))

pub returns : goal.returns
returns g c = record {
  asked_for = (_, c.text.ensures.asked, c.in_ok-module.ensures.0);
  is_its_text = c.in_ok-text.ensures.text;
  is_its_module = c.in_ok-module.ensures.1;
  is_its_random = c.in_ok-module.ensures.2;
}
