use Rattle.std.proofs.Common.{◌≡◌, ◌||◌, not, ℕ, Bool, true, Err, refl, sym, ◌∙◌, ap, subst, inl, inr, arith}
use Rattle.vol_tree.specs.Tree.{Tree, IsDirectory}
use Rattle.vol_tree.specs.Calls.{renamed, directory_at}
use Rattle.vol_tree.specs.Numbers.{number_of}
use Rattle.vol_tree.specs.Clauses.{is_io}
use Rattle.path_walk.specs.Paths.{Missing}
use Rattle.wasi_bodies.proofs.checks.CausesOf29.{asked_29}
use Rattle.wasi_bodies.specs.World.{World}
use Rattle.wasi_bodies.specs.paths.Rows.{rename_to}
use Rattle.path_walk.specs.Walk.{Asked}
use Rattle.wasi_bodies.specs.internal.Asking.{StopsNext}
use Rattle.wasi_bodies.proofs.bodies.VolumeCalls.{steps_after, steps}
use Rattle.wasi_bodies.proofs.bodies.AskingCalls.{asked_works, asked_same, asked_gone, asked_step, entry_still}
use Rattle.wasi_paths.proofs.paths.RenameCalls.{missing_refused, missing_done, missing_never, renames_ok, renames_err}
use Rattle.wasi_paths.proofs.paths.renaming.rename_missing.Goals as goal

pub returns-in-Err : goal.returns-in-Err
returns-in-Err g c = record {
  step = asked_step g.D.Device.honest g.D.Device.disk g.D.Device.size g.D.Device.failures g.D.Device.goes_on c.args.volume.now c.is_directory.new.volume _ c.in-Err.ensures.asked;
  renames = λ h w alive shown.
      let old = c.args.volume.now in
      let new = c.is_directory.new.volume in
      let io = c.in-Err.ensures.answer h in
      let asked : Asked g.D.Device.honest g.D.Device.disk g.D.Device.size g.D.Device.failures g.D.Device.goes_on old new true =
      subst (Asked g.D.Device.honest g.D.Device.disk g.D.Device.size g.D.Device.failures g.D.Device.goes_on old new) (ap (λ (e : _). is_io {X = Bool} (Err e)) io) c.in-Err.ensures.asked in
      subst (λ (n : ℕ). StopsNext (λ v. rename_to v c.args.source c.args.slash (Missing c.args.parent c.args.name.now)) w new n) (sym (c.refused.ensures ∙ ap number_of io))
      (inr (record {
        answer = refl;
        never = missing_never w c.args.source c.args.parent c.args.slash c.args.name.now alive;
        after = asked_gone g.D.Device.honest g.D.Device.disk g.D.Device.size g.D.Device.failures g.D.Device.goes_on w old new shown h asked;
      }));
  io = asked_29 Bool c.in-Err.errno _ (λ fails. c.in-Err.ensures.asked.kept.failed ∙ fails) c.refused.ensures;
}

pub returns-in-Err-check_slash : goal.returns-in-Err-check_slash
returns-in-Err-check_slash g c = record {
  step = asked_step g.D.Device.honest g.D.Device.disk g.D.Device.size g.D.Device.failures g.D.Device.goes_on c.args.volume.now c.is_directory.new.volume _ c.in-Ok.ensures.asked;
  renames = λ h w alive shown.
      let old = c.args.volume.now in
      let new = c.is_directory.new.volume in
      let told : directory_at w.tree c.args.source ≡ c.in-Ok.is_directory = ap (λ (v : World). directory_at v.tree c.args.source) shown ∙ sym (c.in-Ok.ensures.answer h) in
      let (refused, number) = c.in-Err-check_slash.ensures in
      subst (λ (n : ℕ). StopsNext (λ v. rename_to v c.args.source c.args.slash (Missing c.args.parent c.args.name.now)) w new n) (sym number)
      (inl (record {
        is = missing_refused w c.args.source c.args.parent c.args.slash c.args.name.now (ap (λ (b : Bool). not c.args.slash || b) told ∙ refused);
        same = asked_same g.D.Device.honest g.D.Device.disk g.D.Device.size g.D.Device.failures g.D.Device.goes_on w old new shown alive h c.in-Ok.ensures.asked;
      }));
  io = λ is. absurd (omega (arith, c.in-Err-check_slash.ensures.1, is));
}

pub returns-in-Ok-rename-clause-step : goal.returns-in-Ok-rename-clause-step
returns-in-Ok-rename-clause-step g c =
    steps_after g.D.Device.honest g.D.Device.disk g.D.Device.size g.D.Device.failures g.D.Device.goes_on c.args.volume.now c.is_directory.new.volume c.rename.new.self
    (asked_works g.D.Device.honest g.D.Device.disk g.D.Device.size g.D.Device.failures g.D.Device.goes_on c.args.volume.now c.is_directory.new.volume c.in-Ok.ensures.asked)
    (steps g.D.Device.honest g.D.Device.disk g.D.Device.size g.D.Device.failures g.D.Device.goes_on c.is_directory.new.volume c.rename.new.self _ c.in-Ok-rename.ensures.kept c.in-Ok-rename.ensures.crash c.in-Ok-rename.ensures.goes_on)

pub returns-in-Err-rename-clause-step : goal.returns-in-Err-rename-clause-step
returns-in-Err-rename-clause-step g c =
    steps_after g.D.Device.honest g.D.Device.disk g.D.Device.size g.D.Device.failures g.D.Device.goes_on c.args.volume.now c.is_directory.new.volume c.rename.new.self
    (asked_works g.D.Device.honest g.D.Device.disk g.D.Device.size g.D.Device.failures g.D.Device.goes_on c.args.volume.now c.is_directory.new.volume c.in-Ok.ensures.asked)
    (steps g.D.Device.honest g.D.Device.disk g.D.Device.size g.D.Device.failures g.D.Device.goes_on c.is_directory.new.volume c.rename.new.self _ c.in-Err-rename.ensures.kept c.in-Err-rename.ensures.crash c.in-Err-rename.ensures.goes_on)

pub returns-in-Ok-rename-clause-renames : goal.returns-in-Ok-rename-clause-renames
returns-in-Ok-rename-clause-renames g c = λ h w alive shown.
    let old = c.args.volume.now in
    let between = c.is_directory.new.volume in
    let s = c.args.source in
    let p = c.args.parent in
    let n = c.args.name.now in
    let told : directory_at w.tree s ≡ c.in-Ok.is_directory = ap (λ (v : World). directory_at v.tree s) shown ∙ sym (c.in-Ok.ensures.answer h) in
    let passes : (not c.args.slash || directory_at w.tree s) ≡ true = ap (λ (b : Bool). not c.args.slash || b) told ∙ c.in_default.ensures in
    renames_ok g.D.Device.honest g.D.Device.size g.D.Device.failures w s c.args.slash (Missing p n) between c.rename.new.self (λ (T : Tree). renamed T s p n)
    (asked_same g.D.Device.honest g.D.Device.disk g.D.Device.size g.D.Device.failures g.D.Device.goes_on w old between shown alive h c.in-Ok.ensures.asked) alive
    (missing_done w s p c.args.slash n alive passes) c.in-Ok-rename.ensures.kept (c.in-Ok-rename.ensures.answer (c.in-Ok.ensures.asked.kept.honest.0 h))

pub returns-in-Err-rename-clause-renames : goal.returns-in-Err-rename-clause-renames
returns-in-Err-rename-clause-renames g c = λ h w alive shown.
    let old = c.args.volume.now in
    let between = c.is_directory.new.volume in
    let s = c.args.source in
    let p = c.args.parent in
    let n = c.args.name.now in
    let told : directory_at w.tree s ≡ c.in-Ok.is_directory = ap (λ (v : World). directory_at v.tree s) shown ∙ sym (c.in-Ok.ensures.answer h) in
    let passes : (not c.args.slash || directory_at w.tree s) ≡ true = ap (λ (b : Bool). not c.args.slash || b) told ∙ c.in_default.ensures in
    let (tree, meant) = c.in-Err-rename.ensures.answer (c.in-Ok.ensures.asked.kept.honest.0 h) in
    subst (λ (k : ℕ). StopsNext (λ v. rename_to v s c.args.slash (Missing p n)) w c.rename.new.self k) (sym c.refused-in-Err-rename.ensures)
    (renames_err g.D.Device.honest g.D.Device.size g.D.Device.failures w s c.args.slash (Missing p n) between c.rename.new.self (λ (T : Tree). renamed T s p n)
    (asked_same g.D.Device.honest g.D.Device.disk g.D.Device.size g.D.Device.failures g.D.Device.goes_on w old between shown alive h c.in-Ok.ensures.asked) alive
    (missing_done w s p c.args.slash n alive passes) (missing_never w s p c.args.slash n alive) c.in-Err-rename.errno c.in-Err-rename.ensures.kept tree meant)

pub rename-requires : goal.rename-requires
rename-requires g c =
    let works = asked_works g.D.Device.honest g.D.Device.disk g.D.Device.size g.D.Device.failures g.D.Device.goes_on c.args.volume.now c.is_directory.new.volume c.in-Ok.ensures.asked in
    let source = entry_still g.D.Device.honest g.D.Device.disk g.D.Device.size g.D.Device.failures g.D.Device.goes_on c.args.volume.now c.is_directory.new.volume c.args.source works c.requires.source in
    let parent = entry_still g.D.Device.honest g.D.Device.disk g.D.Device.size g.D.Device.failures g.D.Device.goes_on c.args.volume.now c.is_directory.new.volume c.args.parent works c.requires.parent in
    (record {
      first = source.number.first;
      last = source.number.last;
      used = source.used;
      parent_first = parent.number.first;
      parent_last = parent.number.last;
      directory = λ h. let before = works.kept.honest.1 h in subst (λ (T : Tree). IsDirectory T c.args.parent) (sym (works.tree before)) (c.requires.directory before);
      name = c.requires.name;
    })

pub returns-in-Err-rename-clause-io : goal.returns-in-Err-rename-clause-io
returns-in-Err-rename-clause-io g c = asked_29 (Unit {0}) c.in-Err-rename.errno _ (λ fails. c.in-Err-rename.ensures.kept.failed ∙ fails) c.refused-in-Err-rename.ensures
