use Rattle.std.proofs.Common.{sym}
use Rattle.path_walk.specs.Walk.{reached_as}
use Rattle.wasi_bodies.proofs.bodies.VolumeCalls.{steps_after}
use Rattle.wasi_bodies.proofs.bodies.AskingCalls.{ends_call}
use Rattle.wasi_paths.proofs.paths.RenameWalks.{rename_by, to_renaming, after_walks, after_walks_never, renames_answered}
use Rattle.wasi_paths.specs.internal.paths.Renaming.{rename_part}
use Rattle.wasi_paths.proofs.paths.renaming.rename_entry.Goals as goal

pub returns-in-Err-clause-answered : goal.returns-in-Err-clause-answered
returns-in-Err-clause-answered g c = λ h w table shown.
    let m = c.args.memory.now.bytes in
    let a = c.args.asked.now in
    ends_call w m (λ v. rename_by v m a) (λ v. rename_part v m a) (λ v. after_walks v m a) c.walk_both.new.volume _ (λ v. to_renaming v m a)
    (λ alive p. after_walks_never w m a p alive) (c.in-Err.ensures.walks h w table shown)

pub returns-in-Ok-clause-step : goal.returns-in-Ok-clause-step
returns-in-Ok-clause-step g c =
    steps_after g.D.Device.honest g.D.Device.disk g.D.Device.size g.D.Device.failures g.D.Device.goes_on c.args.volume.now c.walk_both.new.volume c.rename_reached.new.volume c.in-Ok.ensures.works
    c.rename_reached.ensures.step

pub returns-in-Ok-clause-answered : goal.returns-in-Ok-clause-answered
returns-in-Ok-clause-answered g c = λ h w table shown.
    let m = c.args.memory.now.bytes in
    let a = c.args.asked.now in
    let r = c.in-Ok.walked in
    let walks = c.in-Ok.ensures.walks h w table shown in
    renames_answered w m a c.walk_both.new.volume c.rename_reached.new.volume r.source (reached_as r.target) r.slash c.rename_reached.result walks.0 walks.1
    (c.rename_reached.ensures.renames (c.in-Ok.ensures.works.kept.honest.0 h) w table walks.0.working (sym walks.0.same))
