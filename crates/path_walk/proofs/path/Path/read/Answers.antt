use Rattle.std.proofs.Common.{sym, ◌∙◌, refl, rules}
use Rattle.std.proofs.lemmas.Bool.{cond-true, cond-false}
use Rattle.path_walk.proofs.Parts.{long_parts}
use Rattle.path_walk.proofs.path.Path.read.Goals as goal

pub returns-then-has_nul : goal.returns-then-has_nul
returns-then-has_nul c = cond-false _ _ _ (sym c.if-is_empty.ensures) ∙ (cond-false _ _ _ (sym c.if-is_no_text.ensures) ∙ cond-true _ _ _ (sym c.if-has_nul.ensures))

pub returns-then-is_absolute : goal.returns-then-is_absolute
returns-then-is_absolute c = cond-false _ _ _ (sym c.if-is_empty.ensures) ∙ (cond-false _ _ _ (sym c.if-is_no_text.ensures) ∙ (cond-false _ _ _ (sym c.if-has_nul.ensures)
    ∙ cond-true _ _ _ (sym c.if-is_absolute.ensures)))

pub returns-then-has_long_part : goal.returns-then-has_long_part
returns-then-has_long_part c = cond-false _ _ _ (sym c.if-is_empty.ensures) ∙ (cond-false _ _ _ (sym c.if-is_no_text.ensures) ∙ (cond-false _ _ _ (sym c.if-has_nul.ensures)
    ∙ (cond-false _ _ _ (sym c.if-is_absolute.ensures) ∙ cond-true _ _ _ (sym (c.if-has_long_part.ensures ∙ long_parts c.args.text.now)))))

pub invariant_of-result : goal.invariant_of-result
invariant_of-result c =
    cond-false _ _ _ (sym c.if-is_empty.ensures) ∙ (cond-false _ _ _ (sym c.if-is_no_text.ensures) ∙ (cond-false _ _ _ (sym c.if-has_nul.ensures)
    ∙ (cond-false _ _ _ (sym c.if-is_absolute.ensures) ∙ cond-false _ _ _ (sym (c.if-has_long_part.ensures ∙ long_parts c.args.text.now)))))

pub returns : goal.returns
returns c = (
  refl,
  cond-false _ _ _ (sym c.if-is_empty.ensures) ∙ (cond-false _ _ _ (sym c.if-is_no_text.ensures) ∙ (cond-false _ _ _ (sym c.if-has_nul.ensures)
      ∙ (cond-false _ _ _ (sym c.if-is_absolute.ensures) ∙ cond-false _ _ _ (sym (c.if-has_long_part.ensures ∙ long_parts c.args.text.now))))),
)

pub returns-then-is_no_text : goal.returns-then-is_no_text
returns-then-is_no_text c = search rules
