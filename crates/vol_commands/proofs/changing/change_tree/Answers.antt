use Rattle.vol_commands.proofs.Changed.{change_refused, sync_left, sync_refused, synced}
use Rattle.vol_tree.proofs.GoingOn.{goes_then}
use Rattle.vol_commands.proofs.Blamed.{blame}
use Rattle.vol_commands.specs.declared.failure.Failure.TheVariants.{Tree}
use Rattle.vol_commands.proofs.changing.change_tree.Goals as goal

pub returns-in_err-apply-clause-changes : goal.returns-in_err-apply-clause-changes
returns-in_err-apply-clause-changes g c h =
    let done = c.in_err-apply.ensures in
    change_refused c.args.volume.now.tree c.args.change c.apply.new.volume.tree c.in_err-apply.field-0.0 c.from_residual.result (done.answer h) (done.part h) c.from_residual.ensures.1

pub returns-in_err-apply-clause-crash : goal.returns-in_err-apply-clause-crash
returns-in_err-apply-clause-crash g c h = c.in_err-apply.ensures.crash h

pub returns-in_err-sync-clause-changes : goal.returns-in_err-sync-clause-changes
returns-in_err-sync-clause-changes g c h =
    let done = c.in_ok-apply.ensures in
    sync_refused c.args.volume.now.tree c.args.change c.apply.new.volume.tree c.sync.new.self.tree c.in_err-sync.field-0.0 c.from_residual-in_err-sync.result
    (done.part h) (c.in_err-sync.ensures.answer (done.kept.honest.0 h)) c.from_residual-in_err-sync.ensures.1

pub returns-in_err-sync-clause-crash : goal.returns-in_err-sync-clause-crash
returns-in_err-sync-clause-crash g c h =
    let v = c.args.volume.now in
    let disk = g.D.Device.disk in
    let done = c.in_ok-apply.ensures in
    sync_left (disk v.device) (disk c.apply.new.volume.device) v.numbers v.tree c.args.change (disk c.sync.new.self.device) c.apply.new.volume.numbers c.apply.new.volume.tree
    done.kept.numbers (done.part h) (done.crash h) (c.in_err-sync.ensures.crash (done.kept.honest.0 h))

pub returns-clause-changes : goal.returns-clause-changes
returns-clause-changes g c h =
    let done = c.in_ok-apply.ensures in
    synced c.args.volume.now.tree c.args.change c.apply.new.volume.tree c.sync.new.self.tree (done.answer h) (c.in_ok-sync.ensures.answer (done.kept.honest.0 h))

pub returns-clause-crash : goal.returns-clause-crash
returns-clause-crash g c h =
    let v = c.args.volume.now in
    let disk = g.D.Device.disk in
    let done = c.in_ok-apply.ensures in
    sync_left (disk v.device) (disk c.apply.new.volume.device) v.numbers v.tree c.args.change (disk c.sync.new.self.device) c.apply.new.volume.numbers c.apply.new.volume.tree
    done.kept.numbers (done.part h) (done.crash h) (c.in_ok-sync.ensures.crash (done.kept.honest.0 h))

pub returns-clause-durable : goal.returns-clause-durable
returns-clause-durable g c h = c.in_ok-sync.ensures.durable (c.in_ok-apply.ensures.kept.honest.0 h)

pub returns-in_err-sync-clause-goes_on : goal.returns-in_err-sync-clause-goes_on
returns-in_err-sync-clause-goes_on g c = goes_then g.D.Device.goes_on c.args.volume.now c.apply.new.volume c.sync.new.self c.in_ok-apply.ensures.kept.numbers c.in_ok-apply.ensures.goes c.in_err-sync.ensures.goes_on

pub returns-clause-goes_on : goal.returns-clause-goes_on
returns-clause-goes_on g c = goes_then g.D.Device.goes_on c.args.volume.now c.apply.new.volume c.sync.new.self c.in_ok-apply.ensures.kept.numbers c.in_ok-apply.ensures.goes c.in_ok-sync.ensures.goes_on

pub returns-in_err-apply-clause-unblamed : goal.returns-in_err-apply-clause-unblamed
returns-in_err-apply-clause-unblamed g c = blame c.from_residual.result (Tree c.in_err-apply.field-0.0) c.from_residual.ensures.1

pub returns-in_err-sync-clause-unblamed : goal.returns-in_err-sync-clause-unblamed
returns-in_err-sync-clause-unblamed g c = blame c.from_residual-in_err-sync.result (Tree c.in_err-sync.field-0.0) c.from_residual-in_err-sync.ensures.1
