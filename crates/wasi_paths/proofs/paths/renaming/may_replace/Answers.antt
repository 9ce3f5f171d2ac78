use Rattle.std.proofs.Common.{◌≡◌, ℕ, true, Err, refl, sym, ◌∙◌, ap, subst, inr}
use Rattle.vol_tree.specs.Numbers.{number_of}
use Rattle.vol_tree.specs.Clauses.{is_io}
use Rattle.wasi_bodies.proofs.checks.CausesOf29.{asked_29, result_not_29}
use Rattle.wasi_bodies.specs.World.{World, held_open}
use Rattle.wasi_paths.specs.declared.paths.renaming.Facts.{Facts}
use Rattle.path_walk.specs.Walk.{Asked}
use Rattle.wasi_bodies.specs.internal.Asking.{StopsNext}
use Rattle.wasi_paths.specs.internal.paths.Renaming.{facts_of, replace_checked, replace_row}
use Rattle.wasi_bodies.proofs.bodies.AskingCalls.{asked_same, asked_gone, asked_step}
use Rattle.wasi_paths.proofs.paths.RenameCalls.{facts_are, replaces_as, replace_never}
use Rattle.wasi_paths.proofs.paths.renaming.may_replace.Goals as goal

pub returns-in-Ok-clause-checks : goal.returns-in-Ok-clause-checks
returns-in-Ok-clause-checks g c = λ h w table alive shown.
    let old = c.args.volume.now in
    let new = c.ask_facts.new.volume in
    let facts : c.in-Ok.facts ≡ facts_of w.tree c.args.source c.args.target =
    facts_are old.tree c.args.source c.args.target c.in-Ok.facts (c.in-Ok.ensures.told h) ∙ ap (λ (v : World). facts_of v.tree c.args.source c.args.target) (sym shown) in
    replaces_as w new c.args.source c.args.target (replace_checked c.in-Ok.facts c.is_held.result) c.check_replace.result
    (λ i. replace_checked (facts i) (c.is_held.ensures w table i))
    (asked_same g.D.Device.honest g.D.Device.disk g.D.Device.size g.D.Device.failures g.D.Device.goes_on w old new shown alive h c.in-Ok.ensures.asked)
    c.check_replace.ensures

pub returns-in-Err : goal.returns-in-Err
returns-in-Err g c = record {
  step = asked_step g.D.Device.honest g.D.Device.disk g.D.Device.size g.D.Device.failures g.D.Device.goes_on c.args.volume.now c.ask_facts.new.volume _ c.in-Err.ensures.asked;
  asked = tt;
  checks = λ h w table alive shown.
      let old = c.args.volume.now in
      let new = c.ask_facts.new.volume in
      let io = c.in-Err.ensures.told h in
      let asked : Asked g.D.Device.honest g.D.Device.disk g.D.Device.size g.D.Device.failures g.D.Device.goes_on old new true =
      subst (Asked g.D.Device.honest g.D.Device.disk g.D.Device.size g.D.Device.failures g.D.Device.goes_on old new) (ap (λ (e : _). is_io {X = Facts} (Err e)) io) c.in-Err.ensures.asked in
      subst (λ (n : ℕ). StopsNext (λ v. replace_row v c.args.source c.args.target) w new n) (sym (c.refused.ensures ∙ ap number_of io))
      (inr (record {
        answer = refl;
        never = replace_never (facts_of w.tree c.args.source c.args.target) (held_open w c.args.target);
        after = asked_gone g.D.Device.honest g.D.Device.disk g.D.Device.size g.D.Device.failures g.D.Device.goes_on w old new shown h asked;
      }));
  io = asked_29 Facts c.in-Err.errno _ (λ fails. c.in-Err.ensures.asked.kept.failed ∙ fails) c.refused.ensures;
}

pub returns-in-Ok-clause-step : goal.returns-in-Ok-clause-step
returns-in-Ok-clause-step g c = asked_step g.D.Device.honest g.D.Device.disk g.D.Device.size g.D.Device.failures g.D.Device.goes_on c.args.volume.now c.ask_facts.new.volume _ c.in-Ok.ensures.asked

pub returns-in-Ok-clause-io : goal.returns-in-Ok-clause-io
returns-in-Ok-clause-io g c = result_not_29 c.check_replace.result (replace_checked c.in-Ok.facts c.is_held.result) (replace_never c.in-Ok.facts c.is_held.result) c.check_replace.ensures
