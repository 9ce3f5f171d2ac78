use Rattle.std.proofs.Common.{◌≡◌, true, Result, Ok, sym, ◌∙◌, ap, subst, rules, arith}
use Rattle.std.proofs.lemmas.Grind.{common_steps}
use Rattle.vol_tree.specs.declared.errno.Errno.{Errno}
use Rattle.path_walk.specs.declared.walking.Reached.{Reached as ReachedValue}
use Rattle.path_walk.specs.Paths.{Reached, components_of, wants_directory, stays_inside, resolved}
use Rattle.path_walk.specs.Walk.{GivesOrIo, reached_as}
use Rattle.path_walk.proofs.Names.{read_names}
use Rattle.path_walk.proofs.Chaining.{walk_refused, walk_finds, walk_misses}
use Rattle.path_walk.proofs.walking.walk.Goals as goal

as_read : {a b : ReachedValue} → a ≡ b → ◌≡◌ {A = Result Reached Errno} (Ok (reached_as a)) (Ok (reached_as b))
as_read h = ap (λ (r : ReachedValue). Ok (reached_as r)) h

pub walk_down-requires-clause-names : goal.walk_down-requires-clause-names
walk_down-requires-clause-names g c name asked plain = read_names c.path.inside.text.now (components_of c.path.inside.text.now) name c.path.invariant asked plain

pub returns-in-Err-clause-answer : goal.returns-in-Err-clause-answer
returns-in-Err-clause-answer g c h =
    let text = c.path.inside.text.now in
    let inside : stays_inside 0 (components_of text) ≡ true = sym c.stays_inside.ensures ∙ c.if-not-stays_inside.false in
    let r = walk_refused c.args.volume.now.tree c.args.directory (wants_directory text) text (c.is_a_tree.ensures.tree h) c.requires.directory.number.first inside c.in-Err.e (rw c.number.ensures at c.in-Err.ensures.answer h) in
    rw (← c.path.view_is) r

pub returns-in-Ok-Found-clause-answer : goal.returns-in-Ok-Found-clause-answer
returns-in-Ok-Found-clause-answer g c h =
    let text = c.path.inside.text.now in
    let inside : stays_inside 0 (components_of text) ≡ true = sym c.stays_inside.ensures ∙ c.if-not-stays_inside.false in
    let asked = c.in-Ok-Found.ensures.asked in
    let r = walk_finds c.args.volume.now.tree c.args.directory c.wants_dir.result text (c.is_a_tree.ensures.tree h) c.requires.directory.number.first inside c.walk_down.new.volume.tree c.in-Ok-Found.serial c.found.result (asked.tree h)
    ((rw c.number.ensures at c.in-Ok-Found.ensures.answer h) ∙ as_read c.in-Ok-Found.field-0-is) (c.found.ensures.answer (asked.kept.honest.0 h)) in
    subst (λ wants. GivesOrIo (resolved c.args.volume.now.tree c.args.directory wants (components_of c.args.path.now)) c.found.result) c.wants_dir.ensures (rw (← c.path.view_is) r)

pub returns-in-Ok-Missing-clause-answer : goal.returns-in-Ok-Missing-clause-answer
returns-in-Ok-Missing-clause-answer g c h =
    let text = c.path.inside.text.now in
    let inside : stays_inside 0 (components_of text) ≡ true = sym c.stays_inside.ensures ∙ c.if-not-stays_inside.false in
    let r = walk_misses c.args.volume.now.tree c.args.directory (wants_directory text) text (c.is_a_tree.ensures.tree h) c.requires.directory.number.first inside c.in-Ok-Missing.parent c.in-Ok-Missing.name.now ((rw c.number.ensures at c.in-Ok-Missing.ensures.answer h) ∙ as_read c.in-Ok-Missing.field-0-is) in
    rw (← c.path.view_is) r

pub walk_down-requires-clause-working : goal.walk_down-requires-clause-working
walk_down-requires-clause-working g c = search rules

pub returns-in-Err-clause-outside : goal.returns-in-Err-clause-outside
returns-in-Err-clause-outside c = grind (arith, common_steps)

pub returns-in-Ok-Found-clause-crash : goal.returns-in-Ok-Found-clause-crash
returns-in-Ok-Found-clause-crash c = grind (arith, common_steps)

pub returns-in-Ok-Found-clause-kept : goal.returns-in-Ok-Found-clause-kept
returns-in-Ok-Found-clause-kept c = grind (arith, common_steps)

pub returns-in-Ok-Found-clause-outside : goal.returns-in-Ok-Found-clause-outside
returns-in-Ok-Found-clause-outside c = grind (arith, common_steps)

pub returns-in-Ok-Missing-clause-outside : goal.returns-in-Ok-Missing-clause-outside
returns-in-Ok-Missing-clause-outside c = grind (arith, common_steps)

pub returns-in-Ok-Missing-clause-reached : goal.returns-in-Ok-Missing-clause-reached
returns-in-Ok-Missing-clause-reached c = grind (arith, common_steps)

pub returns-then-failed-clause-kept : goal.returns-then-failed-clause-kept
returns-then-failed-clause-kept c = grind (arith, common_steps)

pub returns-then-not-stays_inside-clause-kept : goal.returns-then-not-stays_inside-clause-kept
returns-then-not-stays_inside-clause-kept c = grind (arith, common_steps)
