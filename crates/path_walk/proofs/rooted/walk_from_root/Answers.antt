use Rattle.std.proofs.Common.{◌≢◌, length, sym, ◌∙◌, rules, arith}
use Rattle.std.proofs.lemmas.Bool.{eqb-false}
use Rattle.std.proofs.lemmas.Grind.{common_steps}
use Rattle.path_walk.proofs.FromRoot.{root_refused}
use Rattle.path_walk.proofs.rooted.walk_from_root.Goals as goal

pub returns-in_err-found-clause-answer : goal.returns-in_err-found-clause-answer
returns-in_err-found-clause-answer g c h =
    let some : length c.args.path.now ≢ 0 = eqb-false _ 0 (sym c.is_empty.ensures ∙ c.if-is_empty.false) in
    root_refused c.args.volume.now.tree c.args.path.now c.in_ok-read.read c.in_err-found.field-0.0 c.from_residual-in_err-found.result some
    c.in_ok-read.ensures.0 c.in_ok-read.ensures.1 (c.in_err-found.ensures.answer h) c.from_residual-in_err-found.ensures.1

pub returns-then-is_empty-clause-answer : goal.returns-then-is_empty-clause-answer
returns-then-is_empty-clause-answer g c = search rules

pub returns-clause-answer : goal.returns-clause-answer
returns-clause-answer c = grind (arith, common_steps)

pub returns-clause-asked : goal.returns-clause-asked
returns-clause-asked c = grind (arith, common_steps)

pub returns-clause-reached : goal.returns-clause-reached
returns-clause-reached c = grind (arith, common_steps)

pub returns-in_err-found-clause-asked : goal.returns-in_err-found-clause-asked
returns-in_err-found-clause-asked c = grind (arith, common_steps)

pub returns-then-is_empty-clause-asked : goal.returns-then-is_empty-clause-asked
returns-then-is_empty-clause-asked c = grind (arith, common_steps)
