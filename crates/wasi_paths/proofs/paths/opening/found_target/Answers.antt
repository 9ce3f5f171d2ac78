use Rattle.std.proofs.Common.{ℕ, Bool, true, Err, refl, sym, ◌∙◌, ap, subst, inr, arith}
use Rattle.std.proofs.lemmas.Grind.{common_steps}
use Rattle.vol_tree.specs.Calls.{directory_at}
use Rattle.vol_tree.specs.Numbers.{number_of}
use Rattle.vol_tree.specs.Clauses.{is_io}
use Rattle.path_walk.specs.Paths.{Found}
use Rattle.wasi_paths.specs.internal.paths.Opening.{found_checked}
use Rattle.wasi_bodies.proofs.checks.CausesOf29.{asked_29, not_29}
use Rattle.wasi_bodies.specs.paths.Rows.{open_checks}
use Rattle.path_walk.specs.Walk.{Asked}
use Rattle.wasi_bodies.specs.internal.Asking.{StopsNext}
use Rattle.wasi_bodies.proofs.bodies.AskingCalls.{asked_gone, asked_step}
use Rattle.wasi_paths.proofs.paths.OpenCalls.{found_checked_never}
use Rattle.wasi_paths.proofs.paths.opening.found_target.Goals as goal

pub returns-in-Err : goal.returns-in-Err
returns-in-Err g c = record {
  step = asked_step g.D.Device.honest g.D.Device.disk g.D.Device.size g.D.Device.failures g.D.Device.goes_on c.args.volume.now c.is_directory.new.volume _ c.in-Err.ensures.asked;
  asked = tt;
  can = tt;
  checks = λ h w slash alive shown.
      let old = c.args.volume.now in
      let new = c.is_directory.new.volume in
      let io = c.in-Err.ensures.answer h in
      let asked : Asked g.D.Device.honest g.D.Device.disk g.D.Device.size g.D.Device.failures g.D.Device.goes_on old new true =
      subst (Asked g.D.Device.honest g.D.Device.disk g.D.Device.size g.D.Device.failures g.D.Device.goes_on old new) (ap (λ (e : _). is_io {X = Bool} (Err e)) io) c.in-Err.ensures.asked in
      subst (λ (n : ℕ). StopsNext (λ v. open_checks v c.args.oflags slash (Found c.args.serial)) w new n) (sym (c.refused.ensures ∙ ap number_of io))
      (inr (record {
        answer = refl;
        never = found_checked_never c.args.oflags (directory_at w.tree c.args.serial);
        after = asked_gone g.D.Device.honest g.D.Device.disk g.D.Device.size g.D.Device.failures g.D.Device.goes_on w old new shown h asked;
      }));
  io = asked_29 Bool c.in-Err.errno _ (λ fails. c.in-Err.ensures.asked.kept.failed ∙ fails) c.refused.ensures;
}

pub returns-in-Err-check_found-clause-step : goal.returns-in-Err-check_found-clause-step
returns-in-Err-check_found-clause-step g c = asked_step g.D.Device.honest g.D.Device.disk g.D.Device.size g.D.Device.failures g.D.Device.goes_on c.args.volume.now c.is_directory.new.volume _ c.in-Ok.ensures.asked

pub returns-in-Ok-check_found-clause-step : goal.returns-in-Ok-check_found-clause-step
returns-in-Ok-check_found-clause-step g c = asked_step g.D.Device.honest g.D.Device.disk g.D.Device.size g.D.Device.failures g.D.Device.goes_on c.args.volume.now c.is_directory.new.volume _ c.in-Ok.ensures.asked

pub returns-in-Err-check_found-clause-checks : goal.returns-in-Err-check_found-clause-checks
returns-in-Err-check_found-clause-checks c = grind (arith, common_steps)

pub returns-in-Ok-check_found-clause-checks : goal.returns-in-Ok-check_found-clause-checks
returns-in-Ok-check_found-clause-checks c = grind (arith, common_steps)

pub returns-in-Err-check_found-clause-io : goal.returns-in-Err-check_found-clause-io
returns-in-Err-check_found-clause-io g c = not_29 (found_checked c.args.oflags c.in-Ok.is_directory) _ (found_checked_never c.args.oflags c.in-Ok.is_directory) c.in-Err-check_found.ensures
