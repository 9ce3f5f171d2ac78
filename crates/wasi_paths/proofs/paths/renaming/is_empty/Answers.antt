use Rattle.std.proofs.Common.{ℕ, Option, is_some, not, ◌∙◌, ap}
use Rattle.wasi_paths.proofs.paths.Below.{some_next, flipped}
use Rattle.wasi_paths.proofs.paths.renaming.is_empty.Goals as goal

pub returns-clause-told : goal.returns-clause-told
returns-clause-told g c = λ h.
    flipped c.is_none.result _ c.is_none.ensures ∙ (ap (λ (o : Option ℕ). not (is_some o)) (c.in_ok-list_next.ensures.answer h).0 ∙ ap not (some_next c.args.volume.now.tree c.args.directory))

pub returns-clause-asked : goal.returns-clause-asked
returns-clause-asked g c = let told = c.in_ok-list_next.ensures in record { tree = λ h. (told.answer h).1; crash = told.crash; kept = told.kept; goes = told.goes_on }
