use Rattle.std.proofs.Common.{◌≡◌, ℕ, sym, ◌∙◌, subst, inl, arith}
use Rattle.std.proofs.lemmas.Bool.{false≢true}
use Rattle.path_walk.specs.Walk.{reached_as}
use Rattle.wasi_fd.specs.Table.{table_of}
use Rattle.path_walk.specs.declared.walking.Reached.{Reached as ReachedValue}
use Rattle.wasi_bodies.proofs.checks.CausesOf29.{asked_29, check_not_29, no_29_at_0}
use Rattle.wasi_paths.proofs.paths.NoneEntered29.{open_entered_never}
use Rattle.wasi_bodies.specs.World.{World, with_volume_failed}
use Rattle.wasi_bodies.specs.Checks.{and_then}
use Rattle.wasi_bodies.specs.paths.Rows.{path_at}
use Rattle.wasi_bodies.specs.internal.Asking.{Stops}
use Rattle.wasi_paths.specs.internal.paths.Opening.{open_part, open_entered}
use Rattle.wasi_bodies.proofs.checks.Chains.{stops}
use Rattle.wasi_paths.proofs.paths.OpenDirectories.{opened_at}
use Rattle.wasi_bodies.proofs.bodies.VolumeCalls.{steps_after}
use Rattle.wasi_bodies.proofs.bodies.AskingCalls.{ends_part, stops_as, works_on}
use Rattle.wasi_paths.proofs.paths.OpenCalls.{entered_part, after_walk, after_walk_never, checks_refuse, no_place, finds_target, no_number, some_number}
use Rattle.wasi_bodies.proofs.bodies.Resting.{volume_rests}
use Rattle.wasi_paths.proofs.paths.opening.find_target.Goals as goal

pub returns-in-Err : goal.returns-in-Err
returns-in-Err g c = record {
  step = volume_rests g.D.Device.honest g.D.Device.disk g.D.Device.size g.D.Device.failures g.D.Device.goes_on c.args.volume.now;
  works = tt;
  inside = tt;
  can = tt;
  targets = λ h w table shown. inl (record { is = stops _ _ _ (c.in-Err.ensures.row w table); same = sym shown });
  io = check_not_29 (table_of c.args.descriptors.now) (λ w. open_entered w c.args.memory.now.bytes c.args.asked.now) _ (open_entered_never c.args.memory.now.bytes c.args.asked.now) c.in-Err.ensures.row;
}

pub reach-requires : goal.reach-requires
reach-requires g c =
    rw c.new.ensures (opened_at g.D.Device.honest c.args.volume.now (table_of c.args.descriptors.now) c.requires.known c.args.memory.now.bytes c.args.asked.now c.in-Ok.entered.0 c.in-Ok.ensures.row)

pub returns-in-Err-reach : goal.returns-in-Err-reach
returns-in-Err-reach g c = record {
  step = c.in-Err-reach.ensures.step;
  works = tt;
  inside = tt;
  can = tt;
  targets = λ h w table shown.
      let m = c.args.memory.now.bytes in
      let a = c.args.asked.now in
      let o = c.in-Ok.entered.0 in
      let new = c.reach.new.volume in
      let goes = λ (v : World) (same : v.table ≡ table_of c.args.descriptors.now). entered_part v m a o (c.in-Ok.ensures.row v same) in
      subst (λ (n : ℕ). Stops (λ v. open_part v m a) w new n) (sym c.refused.ensures)
      (stops_as w (λ v. open_part v m a) (λ v. and_then (path_at v m o a.path a.len) (after_walk v a m o)) new _ (goes w table) (goes (with_volume_failed w) table)
      (ends_part w (λ v. path_at v m o a.path a.len) (λ v. after_walk v a m o) new _ (λ alive r. after_walk_never w a m o r)
      (c.in-Err-reach.ensures.reaches h w o _ (sym c.new.ensures) c.in-Ok.ensures.text shown)));
  io = asked_29 ReachedValue c.in-Err-reach.errno _ c.in-Err-reach.ensures.io c.refused.ensures;
}

pub returns-in-Err-reached_target : goal.returns-in-Err-reached_target
returns-in-Err-reached_target g c = record {
  step = steps_after g.D.Device.honest g.D.Device.disk g.D.Device.size g.D.Device.failures g.D.Device.goes_on c.args.volume.now c.reach.new.volume c.reached_target.new.volume c.in-Ok-reach.ensures.works
      c.in-Err-reached_target.ensures.step;
  works = tt;
  inside = tt;
  can = tt;
  targets = λ h w table shown.
      checks_refuse c.reach.new.volume c.reached_target.new.volume w c.args.memory.now.bytes c.args.asked.now c.in-Ok.entered.0 c.in-Ok.entered.1.now c.in-Ok.ensures.text (λ v same. c.in-Ok.ensures.row v (same ∙ table))
      (reached_as c.in-Ok-reach.reached) (c.in-Ok-reach.ensures.reaches h w c.in-Ok.entered.0 _ (sym c.new.ensures) c.in-Ok.ensures.text shown)
      c.in-Err-reached_target.errno (c.in-Err-reached_target.ensures.checks (c.in-Ok-reach.ensures.works.kept.honest.0 h));
  io = c.in-Err-reached_target.ensures.io;
}

pub returns-then-is_full : goal.returns-then-is_full
returns-then-is_full g c = record {
  step = steps_after g.D.Device.honest g.D.Device.disk g.D.Device.size g.D.Device.failures g.D.Device.goes_on c.args.volume.now c.reach.new.volume c.reached_target.new.volume c.in-Ok-reach.ensures.works
      c.in-Ok-reached_target.ensures.step;
  works = tt;
  inside = tt;
  can = tt;
  targets = λ h w table shown.
      no_place c.reach.new.volume c.reached_target.new.volume w c.args.memory.now.bytes c.args.asked.now c.in-Ok.entered.0 c.in-Ok.entered.1.now c.in-Ok.ensures.text (λ v same. c.in-Ok.ensures.row v (same ∙ table))
      (reached_as c.in-Ok-reach.reached) (c.in-Ok-reach.ensures.reaches h w c.in-Ok.entered.0 _ (sym c.new.ensures) c.in-Ok.ensures.text shown)
      c.in-Ok-reached_target.target (c.in-Ok-reached_target.ensures.checks (c.in-Ok-reach.ensures.works.kept.honest.0 h)) (no_number w (table_of c.args.descriptors.now) table (c.is_full.ensures.0 c.if-is_full.true));
  io = λ is. absurd (omega (arith, is));
}

pub returns : goal.returns
returns g c = record {
  step = steps_after g.D.Device.honest g.D.Device.disk g.D.Device.size g.D.Device.failures g.D.Device.goes_on c.args.volume.now c.reach.new.volume c.reached_target.new.volume c.in-Ok-reach.ensures.works
      c.in-Ok-reached_target.ensures.step;
  works = works_on g.D.Device.honest g.D.Device.disk g.D.Device.size g.D.Device.failures g.D.Device.goes_on c.args.volume.now c.reach.new.volume c.reached_target.new.volume c.in-Ok-reach.ensures.works c.in-Ok-reached_target.ensures.asked;
  inside = c.in-Ok.ensures.inside;
  can = c.in-Ok-reached_target.ensures.can;
  targets = λ h w table shown.
      finds_target c.reach.new.volume c.reached_target.new.volume w c.args.memory.now.bytes c.args.asked.now c.in-Ok.entered.0 c.in-Ok.entered.1.now c.in-Ok.ensures.text (λ v same. c.in-Ok.ensures.row v (same ∙ table))
      (reached_as c.in-Ok-reach.reached) (c.in-Ok-reach.ensures.reaches h w c.in-Ok.entered.0 _ (sym c.new.ensures) c.in-Ok.ensures.text shown)
      c.in-Ok-reached_target.target (c.in-Ok-reached_target.ensures.checks (c.in-Ok-reach.ensures.works.kept.honest.0 h)) (some_number w (table_of c.args.descriptors.now) table (λ full. false≢true (sym c.if-is_full.false ∙ c.is_full.ensures.1 full)));
  io = no_29_at_0;
}
