use Rattle.std.proofs.Common.{refl, sym, subst, arith}
use Rattle.vol_sector.specs.Disk.{After, Leaves}
use Rattle.vol_log.proofs.Moments.{leaves_same, leaves_step, leaves_quiet}
use Rattle.vol_tree.specs.internal.Formatting.{OnlyAfterLogChanges, OnlyAfterFrontChanges, IsFresh}
use Rattle.vol_tree.proofs.Steps.{header_leaves_first, after_log_leaves_first, first_joins, is_fresh, at_ok}
use Rattle.vol_tree.proofs.formatting.write_after_front.Goals as goal

pub returns-in_err-write-clause-crash : goal.returns-in_err-write-clause-crash
returns-in_err-write-clause-crash g c h =
    leaves_step _ _ _ OnlyAfterFrontChanges _ (header_leaves_first _) first_joins (leaves_same _ _) (c.write.ensures.crash h)

pub returns-in_err-write_slots-clause-crash : goal.returns-in_err-write_slots-clause-crash
returns-in_err-write_slots-clause-crash g c h =
    let a = g.D.Device.disk c.args.device.now in
    let b = g.D.Device.disk c.write.new.self in
    let d = g.D.Device.disk c.write_slots.new.device in
    let h1 = c.write.ensures.honest.0 h in
    let first : Leaves a b (After OnlyAfterFrontChanges a.may_leave) = leaves_step a a b OnlyAfterFrontChanges _ (header_leaves_first _) first_joins (leaves_same a _) (c.write.ensures.crash h) in
    leaves_step a b d OnlyAfterFrontChanges OnlyAfterLogChanges after_log_leaves_first first_joins first (c.write_slots.ensures.crash h1)

pub returns-clause-crash : goal.returns-clause-crash
returns-clause-crash g c h =
    let a = g.D.Device.disk c.args.device.now in
    let b = g.D.Device.disk c.write.new.self in
    let d = g.D.Device.disk c.write_slots.new.device in
    let e = g.D.Device.disk c.sync.new.self in
    let h1 = c.write.ensures.honest.0 h in
    let h2 = c.write_slots.ensures.honest.0 h1 in
    let first : Leaves a b (After OnlyAfterFrontChanges a.may_leave) = leaves_step a a b OnlyAfterFrontChanges _ (header_leaves_first _) first_joins (leaves_same a _) (c.write.ensures.crash h) in
    let second : Leaves a d (After OnlyAfterFrontChanges a.may_leave) = leaves_step a b d OnlyAfterFrontChanges OnlyAfterLogChanges after_log_leaves_first first_joins first (c.write_slots.ensures.crash h1) in
    leaves_quiet a d e (After OnlyAfterFrontChanges a.may_leave) second (c.sync.ensures.crash h2)

pub returns-clause-written : goal.returns-clause-written
returns-clause-written g c h =
    let a = g.D.Device.disk c.args.device.now in
    let b = g.D.Device.disk c.write.new.self in
    let d = g.D.Device.disk c.write_slots.new.device in
    let e = g.D.Device.disk c.sync.new.self in
    let h1 = c.write.ensures.honest.0 h in
    let h2 = c.write_slots.ensures.honest.0 h1 in
    let written : IsFresh c.args.slots d.seen = is_fresh c.args.slots _ a.seen b.seen d.seen (c.in_ok-write.ensures.written h) refl (c.write_slots.ensures.beside h1) (c.in_ok-write_slots.ensures.written h1) in
    at_ok c.sync.result (IsFresh c.args.slots e.seen) (subst (IsFresh c.args.slots) (sym (c.sync.ensures.seen h2)) written)
