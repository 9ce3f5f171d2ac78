use Rattle.std.proofs.Common.{sym, ◌∙◌, true≢false}
use Rattle.sandbox_command.proofs.Words.{of_none, no_second, no_third, no_fourth}
use Rattle.sandbox_command.proofs.list_of_tests.test_of.Goals as goal

pub returns-in_err-output : goal.returns-in_err-output
returns-in_err-output c = of_none c.from_residual-in_err-output.result _ _ c.from_residual-in_err-output.ensures
    (no_second c.args.line.now c.in_ok-input.input.now c.in_ok-input.rest.now c.in_ok-input.ensures.0 c.in_ok-input.ensures.1 c.in_err-output.ensures)

pub returns-in_err-errors : goal.returns-in_err-errors
returns-in_err-errors c = of_none c.from_residual-in_err-errors.result _ _ c.from_residual-in_err-errors.ensures
    (no_third c.args.line.now c.in_ok-input.input.now c.in_ok-input.rest.now c.in_ok-output.output.now c.in_ok-output.rest.now c.in_ok-input.ensures.0 c.in_ok-input.ensures.1 c.in_ok-output.ensures.0 c.in_ok-output.ensures.1 c.in_err-errors.ensures)

pub returns-then-not-is_word : goal.returns-then-not-is_word
returns-then-not-is_word c =
    no_fourth c.args.line.now c.in_ok-input.input.now c.in_ok-input.rest.now c.in_ok-output.output.now c.in_ok-output.rest.now c.in_ok-errors.errors.now c.in_ok-errors.report.now
    c.in_ok-input.ensures.0 c.in_ok-input.ensures.1 c.in_ok-output.ensures.0 c.in_ok-output.ensures.1 c.in_ok-errors.ensures.0 c.in_ok-errors.ensures.1
    (λ is. true≢false (sym (c.is_word.ensures.1 is) ∙ c.if-not-is_word.true))
