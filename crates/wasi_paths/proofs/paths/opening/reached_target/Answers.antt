use Rattle.std.proofs.Common.{subst, sym, Ok, arith}
use Rattle.std.proofs.lemmas.Grind.{common_steps}
use Rattle.path_walk.specs.declared.walking.Reached.{Reached}
use Rattle.path_walk.specs.Paths.{wants_directory}
use Rattle.path_walk.specs.Walk.{reached_as, IsReached}
use Rattle.wasi_paths.proofs.paths.OpenCalls.{missing_checked_never}
use Rattle.wasi_bodies.proofs.checks.CausesOf29.{not_29}
use Rattle.wasi_paths.specs.internal.paths.Opening.{ChecksAs, missing_checked}
use Rattle.wasi_bodies.proofs.bodies.Resting.{volume_rests}
use Rattle.wasi_bodies.proofs.bodies.AskingCalls.{works_as, still_works}
use Rattle.wasi_bodies.specs.internal.paths.Walks.{Places}
use Rattle.wasi_paths.proofs.paths.opening.reached_target.Goals as goal

pub returns-in-Found : goal.returns-in-Found
returns-in-Found g c = record {
  step = c.found_target.ensures.step;
  asked = c.found_target.ensures.asked;
  can = c.found_target.ensures.can;
  checks = λ h w names read alive shown.
      subst (λ (r : Reached). ChecksAs c.args.oflags (wants_directory c.args.text.now) (reached_as r) w c.found_target.new.volume c.found_target.result)
      (sym c.in-Found.is) (rw c.new.ensures at c.found_target.ensures.checks h w (wants_directory c.args.text.now) alive shown);
  io = c.found_target.ensures.io;
}

pub returns-in-Err-clause-step : goal.returns-in-Err-clause-step
returns-in-Err-clause-step g c = volume_rests g.D.Device.honest g.D.Device.disk g.D.Device.size g.D.Device.failures g.D.Device.goes_on c.args.volume.now

pub returns-in-Ok-clause-step : goal.returns-in-Ok-clause-step
returns-in-Ok-clause-step g c = volume_rests g.D.Device.honest g.D.Device.disk g.D.Device.size g.D.Device.failures g.D.Device.goes_on c.args.volume.now

pub returns-in-Ok-clause-asked : goal.returns-in-Ok-clause-asked
returns-in-Ok-clause-asked g c = works_as g.D.Device.honest g.D.Device.disk g.D.Device.size g.D.Device.failures g.D.Device.goes_on c.args.volume.now c.args.volume.now (still_works g.D.Device.honest g.D.Device.disk g.D.Device.size g.D.Device.failures g.D.Device.goes_on c.args.volume.now c.requires.works)

pub returns-in-Ok-clause-can : goal.returns-in-Ok-clause-can
returns-in-Ok-clause-can g c =
    let reached = subst (IsReached g.D.Device.honest c.args.volume.now) c.in-Missing.is c.requires.reached in
    rw c.new-in-Ok.ensures (record {
      first = reached.0.number.first;
      is_name = reached.1;
      directory = λ h. subst (λ (r : Reached). Places c.args.volume.now.tree (Ok r)) c.in-Missing.is (c.requires.place h);
    })

pub returns-in-Err-clause-checks : goal.returns-in-Err-clause-checks
returns-in-Err-clause-checks c = grind (arith, common_steps)

pub returns-in-Ok-clause-checks : goal.returns-in-Ok-clause-checks
returns-in-Ok-clause-checks c = grind (arith, common_steps)

pub returns-in-Err-clause-io : goal.returns-in-Err-clause-io
returns-in-Err-clause-io g c = not_29 (missing_checked c.args.oflags c.wants_a_directory.result) _ (missing_checked_never c.args.oflags c.wants_a_directory.result) c.in-Err.ensures
