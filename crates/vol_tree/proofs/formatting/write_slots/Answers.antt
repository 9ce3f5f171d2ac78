use Rattle.std.proofs.Common.{◌≤◌, ◌∙◌, ℕ, refl, ap, arith, rules}
use Rattle.vol_sector.specs.Disk.{put}
use Rattle.vol_dirs.specs.Slots.{slot_sector}
use Rattle.vol_tree.specs.internal.Formatting.{OnlyAfterLogChanges}
use Rattle.vol_log.proofs.Moments.{leaves_same, leaves_step}
use Rattle.vol_tree.proofs.Steps.{wrote_after_log, after_log_joins, slots_more}
use Rattle.vol_tree.proofs.formatting.write_slots.Goals as goal
use Rattle.vol_log.specs.declared.layout.TheConstants.{FIRST_AFTER_LOG}

pub loop-s-preserved : goal.loop-s-preserved
loop-s-preserved g c =
    let after_log : FIRST_AFTER_LOG ≤ c.slot_sector.result = omega (arith, c.slot_sector.ensures) in
    let so_far = c.loop-s.invariant in
    let e = c.write.ensures in
    let w = c.in_ok-write.ensures.written in
    record {
      written = λ h. slots_more c.loop-s.s _ _ _ (w (so_far.honest.0 h) ∙ ap (λ (k : ℕ). put k c.fresh_slot.result (g.D.Device.disk c.loop-s.device).seen) (c.slot_sector.ensures ∙ ap slot_sector c.new.ensures)) c.fresh_slot.ensures (so_far.written h);
      beside = λ h. after_log_joins _ _ _ (so_far.beside h) (wrote_after_log _ _ after_log _ _ (e.seen (so_far.honest.0 h)));
      crash = λ h. leaves_step _ _ _ OnlyAfterLogChanges _ (wrote_after_log _ _ after_log) after_log_joins (so_far.crash h) (e.crash (so_far.honest.0 h));
      goes_on = λ end le first from. e.goes_on end (omega (arith, c.slot_sector.ensures, c.new.ensures, le, c.loop-s-test.true)) first (so_far.goes_on end le first from);
      honest = search rules;
      size = search rules;
      failures = search rules;
    }

pub returns-in_err-write-clause-crash : goal.returns-in_err-write-clause-crash
returns-in_err-write-clause-crash g c h =
    let after_log : FIRST_AFTER_LOG ≤ c.slot_sector.result = omega (arith, c.slot_sector.ensures) in
    let so_far = c.loop-s.invariant in
    leaves_step _ _ _ OnlyAfterLogChanges _ (wrote_after_log _ _ after_log) after_log_joins (so_far.crash h) (c.write.ensures.crash (so_far.honest.0 h))

pub returns-in_err-write-clause-beside : goal.returns-in_err-write-clause-beside
returns-in_err-write-clause-beside g c h =
    let after_log : FIRST_AFTER_LOG ≤ c.slot_sector.result = omega (arith, c.slot_sector.ensures) in
    let so_far = c.loop-s.invariant in
    after_log_joins _ _ _ (so_far.beside h) (wrote_after_log _ _ after_log _ _ (c.write.ensures.seen (so_far.honest.0 h)))

pub loop-s-init : goal.loop-s-init
loop-s-init g c = record {
  written = search rules;
  beside = search rules;
  crash = λ h. leaves_same _ _;
  goes_on = λ end le first from. from;
  honest = search rules;
  size = refl;
  failures = refl;
}

pub returns-in_err-write-clause-goes_on : goal.returns-in_err-write-clause-goes_on
returns-in_err-write-clause-goes_on g c end le first from =
    c.write.ensures.goes_on end (omega (arith, c.slot_sector.ensures, c.new.ensures, le, c.loop-s-test.true)) first (c.loop-s.invariant.goes_on end le first from)

pub returns-clause-goes_on : goal.returns-clause-goes_on
returns-clause-goes_on g c = c.loop-s.invariant.goes_on
