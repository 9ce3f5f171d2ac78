use Rattle.std.proofs.Common.{ℕ, refl, sym, subst, arith, ◌∙◌}
use Rattle.std.proofs.lemmas.Grind.{common_steps}
use Rattle.vol_tree.specs.Tree.{Tree}
use Rattle.vol_tree.specs.Calls.{renamed, parent_at, name_at}
use Rattle.path_walk.specs.Paths.{Found}
use Rattle.wasi_fd.specs.Table.{table_of}
use Rattle.wasi_bodies.proofs.checks.CausesOf29.{asked_29}
use Rattle.wasi_bodies.specs.World.{World, held_open}
use Rattle.wasi_bodies.specs.paths.Rows.{rename_to}
use Rattle.wasi_bodies.specs.internal.Asking.{StopsNext}
use Rattle.wasi_bodies.proofs.bodies.VolumeCalls.{steps_after, steps}
use Rattle.wasi_bodies.proofs.bodies.AskingCalls.{asked_works}
use Rattle.wasi_paths.proofs.paths.RenameCalls.{onto_stops, onto_done, found_never, not_root, world_with, renames_ok, renames_err}
use Rattle.wasi_bodies.proofs.bodies.Resting.{volume_rests}
use Rattle.std.proofs.lemmas.Bool.{eqb-false}
use Rattle.wasi_paths.proofs.paths.renaming.rename_found.Goals as goal

pub returns-in-Err-clause-renames : goal.returns-in-Err-clause-renames
returns-in-Err-clause-renames g c = λ h w slash table alive shown.
    onto_stops w c.may_replace.new.volume c.args.source c.args.target slash c.in-Err.errno.0 (eqb-false c.args.target c.args.source (sym c.eq.ensures ∙ c.if-eq.false)) alive (c.in-Err.ensures.checks h w table alive shown)

pub rename_onto-requires-clause-below : goal.rename_onto-requires-clause-below
rename_onto-requires-clause-below g c = λ h1.
    let old = c.args.volume.now in
    let h = c.in_default.ensures.asked.kept.honest.1 h1 in
    let w : World = world_with old (table_of c.args.descriptors.now) in
    let checks = c.in_default.ensures.checks h w refl c.requires.works refl in
    not_root old.tree c.args.source c.args.target (held_open w c.args.target) (c.is_a_tree.ensures.tree h) (c.requires.source.used h) (eqb-false c.args.target c.args.source (sym c.eq.ensures ∙ c.if-eq.false)) checks.0

pub returns-in-Ok-clause-step : goal.returns-in-Ok-clause-step
returns-in-Ok-clause-step g c =
    steps_after g.D.Device.honest g.D.Device.disk g.D.Device.size g.D.Device.failures g.D.Device.goes_on c.args.volume.now c.may_replace.new.volume c.rename_onto.new.volume
    (asked_works g.D.Device.honest g.D.Device.disk g.D.Device.size g.D.Device.failures g.D.Device.goes_on c.args.volume.now c.may_replace.new.volume c.in_default.ensures.asked)
    (steps g.D.Device.honest g.D.Device.disk g.D.Device.size g.D.Device.failures g.D.Device.goes_on c.may_replace.new.volume c.rename_onto.new.volume _ c.in-Ok.ensures.kept c.in-Ok.ensures.crash c.in-Ok.ensures.goes_on)

pub returns-in-Err-rename_onto-clause-step : goal.returns-in-Err-rename_onto-clause-step
returns-in-Err-rename_onto-clause-step g c =
    steps_after g.D.Device.honest g.D.Device.disk g.D.Device.size g.D.Device.failures g.D.Device.goes_on c.args.volume.now c.may_replace.new.volume c.rename_onto.new.volume
    (asked_works g.D.Device.honest g.D.Device.disk g.D.Device.size g.D.Device.failures g.D.Device.goes_on c.args.volume.now c.may_replace.new.volume c.in_default.ensures.asked)
    (steps g.D.Device.honest g.D.Device.disk g.D.Device.size g.D.Device.failures g.D.Device.goes_on c.may_replace.new.volume c.rename_onto.new.volume _ c.in-Err-rename_onto.ensures.kept c.in-Err-rename_onto.ensures.crash c.in-Err-rename_onto.ensures.goes_on)

pub returns-in-Ok-clause-renames : goal.returns-in-Ok-clause-renames
returns-in-Ok-clause-renames g c = λ h w slash table alive shown.
    let checks = c.in_default.ensures.checks h w table alive shown in
    let s = c.args.source in
    let t = c.args.target in
    renames_ok g.D.Device.honest g.D.Device.size g.D.Device.failures w s slash (Found t) c.may_replace.new.volume c.rename_onto.new.volume
    (λ (T : Tree). renamed T s (parent_at T t) (name_at T t)) checks.1 alive (onto_done w s t slash (eqb-false c.args.target c.args.source (sym c.eq.ensures ∙ c.if-eq.false)) alive checks.0)
    c.in-Ok.ensures.kept (c.in-Ok.ensures.answer (c.in_default.ensures.asked.kept.honest.0 h))

pub returns-in-Err-rename_onto-clause-renames : goal.returns-in-Err-rename_onto-clause-renames
returns-in-Err-rename_onto-clause-renames g c = λ h w slash table alive shown.
    let checks = c.in_default.ensures.checks h w table alive shown in
    let s = c.args.source in
    let t = c.args.target in
    let (tree, meant) = c.in-Err-rename_onto.ensures.answer (c.in_default.ensures.asked.kept.honest.0 h) in
    subst (λ (n : ℕ). StopsNext (λ v. rename_to v s slash (Found t)) w c.rename_onto.new.volume n) (sym c.refused.ensures)
    (renames_err g.D.Device.honest g.D.Device.size g.D.Device.failures w s slash (Found t) c.may_replace.new.volume c.rename_onto.new.volume
    (λ (T : Tree). renamed T s (parent_at T t) (name_at T t)) checks.1 alive (onto_done w s t slash (eqb-false c.args.target c.args.source (sym c.eq.ensures ∙ c.if-eq.false)) alive checks.0)
    (found_never w s t slash alive (eqb-false c.args.target c.args.source (sym c.eq.ensures ∙ c.if-eq.false))) c.in-Err-rename_onto.errno c.in-Err-rename_onto.ensures.kept tree meant)

pub returns-then-eq-clause-step : goal.returns-then-eq-clause-step
returns-then-eq-clause-step g c = volume_rests g.D.Device.honest g.D.Device.disk g.D.Device.size g.D.Device.failures g.D.Device.goes_on c.args.volume.now

pub returns-then-eq-clause-renames : goal.returns-then-eq-clause-renames
returns-then-eq-clause-renames c = grind (arith, common_steps)

pub returns-in-Err-rename_onto-clause-io : goal.returns-in-Err-rename_onto-clause-io
returns-in-Err-rename_onto-clause-io g c = asked_29 (Unit {0}) c.in-Err-rename_onto.errno _ (λ fails. c.in-Err-rename_onto.ensures.kept.failed ∙ fails) c.refused.ensures
