use Rattle.std.proofs.Common.{Some, None, sym, ◌∙◌, lit<, true≢false}
use Rattle.std.proofs.lemmas.Str.Pattern.{split_parts}
use Rattle.sandbox_command.proofs.Words.{no_word, of_none, uncut}
use Rattle.sandbox_command.proofs.list_of_tests.word_and_rest.Goals as goal

-- the text has no blank
pub returns-in_err-word : goal.returns-in_err-word
returns-in_err-word c = of_none c.from_residual.result _ _ c.from_residual.ensures (uncut c.args.text.now (split_parts 32 c.args.text.now None c.in_err-word.ensures.cases (lit< tt)))

-- it was cut at its first blank
pub returns-then-is_word : goal.returns-then-is_word
returns-then-is_word c =
    ((split_parts 32 c.args.text.now (Some (c.in_ok-word.word, c.in_ok-word.rest)) c.in_ok-word.ensures.cases (lit< tt)).0, c.is_word.ensures.0 c.if-is_word.true)

pub returns-else-is_word : goal.returns-else-is_word
returns-else-is_word c =
    let parts = split_parts 32 c.args.text.now (Some (c.in_ok-word.word, c.in_ok-word.rest)) c.in_ok-word.ensures.cases (lit< tt) in
    no_word c.args.text.now c.in_ok-word.word.now c.in_ok-word.rest.now parts.0 parts.1 (λ is. true≢false (sym (c.is_word.ensures.1 is) ∙ c.if-is_word.false))
