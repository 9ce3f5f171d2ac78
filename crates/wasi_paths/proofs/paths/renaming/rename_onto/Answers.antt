use Rattle.std.proofs.Common.{◌==◌, ◌∙◌, subst, refl, sym, inr, arith}
use Rattle.std.proofs.lemmas.Bool.{cond-false, ne_eqb}
use Rattle.std.proofs.lemmas.Grind.{common_steps}
use Rattle.wasi_bodies.proofs.bodies.VolumeCalls.{steps_after, steps}
use Rattle.wasi_paths.proofs.paths.RenameCalls.{onto_answers}
use Rattle.wasi_bodies.proofs.bodies.AskingCalls.{asked_step, entry_still}
use Rattle.vol_tree.specs.Opened.{Keeps, IsSerial}
use Rattle.vol_tree.proofs.GoingOn.{goes_then}
use Rattle.wasi_bodies.specs.internal.paths.Walks.{StillWorks}
use Rattle.vol_tree.specs.declared.superblock.Superblock.{Superblock}
use Rattle.wasi_paths.proofs.paths.renaming.rename_onto.Goals as goal

pub returns-clause-answer : goal.returns-clause-answer
returns-clause-answer g c = λ h.
    let old = c.args.volume.now in
    let mid = c.stat.new.self in
    let (told, tree) = c.in-Ok.ensures.answer h in
    onto_answers old.tree mid.tree c.rename.new.self.tree c.args.source c.args.target _ _ told.0 c.rename.result tree told.1
    (told.2.parent ∙ cond-false (c.args.target == 1) 1 told.0.parent (ne_eqb c.args.target 1 (c.requires.below h)))
    told.2.name
    (c.rename.ensures.answer (c.in-Ok.ensures.kept.honest.0 h))

pub returns-clause-crash : goal.returns-clause-crash
returns-clause-crash g c =
    (steps_after g.D.Device.honest g.D.Device.disk g.D.Device.size g.D.Device.failures g.D.Device.goes_on c.args.volume.now c.stat.new.self c.rename.new.self
    (record { kept = c.in-Ok.ensures.kept; tree = λ h. (c.in-Ok.ensures.answer h).1; crash = c.in-Ok.ensures.crash; goes = c.in-Ok.ensures.goes_on })
    (steps g.D.Device.honest g.D.Device.disk g.D.Device.size g.D.Device.failures g.D.Device.goes_on c.stat.new.self c.rename.new.self _ c.rename.ensures.kept c.rename.ensures.crash c.rename.ensures.goes_on)).crash

pub rename-requires-clause-name : goal.rename-requires-clause-name
rename-requires-clause-name g c = c.if-not-is_name.ensures.0 refl

pub returns-then-not-is_name-clause-crash : goal.returns-then-not-is_name-clause-crash
returns-then-not-is_name-clause-crash g c =
    let told = c.in-Ok.ensures in
    (asked_step g.D.Device.honest g.D.Device.disk g.D.Device.size g.D.Device.failures g.D.Device.goes_on c.args.volume.now c.stat.new.self _ (record { tree = λ h. (told.answer h).1; crash = told.crash; kept = told.kept; goes = told.goes_on })).crash

pub returns-clause-kept : goal.returns-clause-kept
returns-clause-kept g c =
    let told = c.in-Ok.ensures in
    let mid = c.stat.new.self in
    let new = c.rename.new.self in
    let first : StillWorks g.D.Device.honest g.D.Device.disk g.D.Device.size g.D.Device.failures g.D.Device.goes_on c.args.volume.now mid = record { kept = told.kept; tree = λ h. (told.answer h).1; crash = told.crash; goes = told.goes_on } in
    let second = steps g.D.Device.honest g.D.Device.disk g.D.Device.size g.D.Device.failures g.D.Device.goes_on mid new _ c.rename.ensures.kept c.rename.ensures.crash c.rename.ensures.goes_on in
    subst (Keeps g.D.Device.honest g.D.Device.size g.D.Device.failures c.args.volume.now new) c.rename.ensures.kept.failed (steps_after g.D.Device.honest g.D.Device.disk g.D.Device.size g.D.Device.failures g.D.Device.goes_on c.args.volume.now mid new first second).kept

pub returns-clause-goes_on : goal.returns-clause-goes_on
returns-clause-goes_on g c =
    let told = c.in-Ok.ensures in
    goes_then g.D.Device.goes_on c.args.volume.now c.stat.new.self c.rename.new.self told.kept.numbers told.goes_on c.rename.ensures.goes_on

pub returns-in-Err-clause-crash : goal.returns-in-Err-clause-crash
returns-in-Err-clause-crash g c =
    let told = c.in-Err.ensures in
    (asked_step g.D.Device.honest g.D.Device.disk g.D.Device.size g.D.Device.failures g.D.Device.goes_on c.args.volume.now c.stat.new.self _ (record { tree = λ h. (told.answer h).1; crash = told.crash; kept = told.kept; goes = told.goes_on })).crash

pub rename-requires-clause-first : goal.rename-requires-clause-first
rename-requires-clause-first g c =
    let told = c.in-Ok.ensures in
    let works : StillWorks g.D.Device.honest g.D.Device.disk g.D.Device.size g.D.Device.failures g.D.Device.goes_on c.args.volume.now c.stat.new.self = record { kept = told.kept; tree = λ h. (told.answer h).1; crash = told.crash; goes = told.goes_on } in
    let source = entry_still g.D.Device.honest g.D.Device.disk g.D.Device.size g.D.Device.failures g.D.Device.goes_on c.args.volume.now c.stat.new.self c.args.source works c.requires.source in
    source.number.first

pub rename-requires-clause-last : goal.rename-requires-clause-last
rename-requires-clause-last g c =
    let told = c.in-Ok.ensures in
    let works : StillWorks g.D.Device.honest g.D.Device.disk g.D.Device.size g.D.Device.failures g.D.Device.goes_on c.args.volume.now c.stat.new.self = record { kept = told.kept; tree = λ h. (told.answer h).1; crash = told.crash; goes = told.goes_on } in
    let source = entry_still g.D.Device.honest g.D.Device.disk g.D.Device.size g.D.Device.failures g.D.Device.goes_on c.args.volume.now c.stat.new.self c.args.source works c.requires.source in
    source.number.last

pub rename-requires-clause-used : goal.rename-requires-clause-used
rename-requires-clause-used g c =
    let told = c.in-Ok.ensures in
    let works : StillWorks g.D.Device.honest g.D.Device.disk g.D.Device.size g.D.Device.failures g.D.Device.goes_on c.args.volume.now c.stat.new.self = record { kept = told.kept; tree = λ h. (told.answer h).1; crash = told.crash; goes = told.goes_on } in
    let source = entry_still g.D.Device.honest g.D.Device.disk g.D.Device.size g.D.Device.failures g.D.Device.goes_on c.args.volume.now c.stat.new.self c.args.source works c.requires.source in
    source.used

pub rename-requires-clause-parent_first : goal.rename-requires-clause-parent_first
rename-requires-clause-parent_first g c = let parent = subst (λ (n : Superblock). IsSerial n c.in-Ok.stat.parent) (sym c.in-Ok.ensures.kept.numbers) c.in-Ok.ensures.parent in parent.first

pub rename-requires-clause-parent_last : goal.rename-requires-clause-parent_last
rename-requires-clause-parent_last g c = let parent = subst (λ (n : Superblock). IsSerial n c.in-Ok.stat.parent) (sym c.in-Ok.ensures.kept.numbers) c.in-Ok.ensures.parent in parent.last

pub returns-in-Err-clause-answer : goal.returns-in-Err-clause-answer
returns-in-Err-clause-answer g c = λ h. let told = c.in-Err.ensures.answer h in (told.1, inr told.0)

pub returns-then-not-is_name-clause-answer : goal.returns-then-not-is_name-clause-answer
returns-then-not-is_name-clause-answer c = grind (arith, common_steps)
