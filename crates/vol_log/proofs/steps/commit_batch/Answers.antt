use Rattle.std.proofs.Common.{◌∙◌, inr, refl, is_err, ap, arith}
use Rattle.std.proofs.lemmas.Grind.{common_steps}
use Rattle.vol_log.specs.Batch.{over, SameContent, HasEither, HasContent, Settled}
use Rattle.vol_log.specs.internal.Steps.{Logged}
use Rattle.vol_log.proofs.Moments.{leaves_then, on_ok, both_then, counts_one, at_ok}
use Rattle.vol_log.proofs.Commit.{has_same, over_outside}
use Rattle.vol_sector.specs.Disk.{counted}
use Rattle.vol_log.proofs.steps.commit_batch.Goals as goal

pub returns-in_err-log_batch-clause-keeps : goal.returns-in_err-log_batch-clause-keeps
returns-in_err-log_batch-clause-keeps g c h =
    over_outside c.args.batch.now (g.D.Device.disk c.args.device.now).seen (g.D.Device.disk c.log_batch.new.device).seen (c.log_batch.ensures.beside h)

pub returns-clause-settled : goal.returns-clause-settled
returns-clause-settled g c s h settled places =
    let a = g.D.Device.disk c.args.device.now in
    let b = g.D.Device.disk c.log_batch.new.device in
    let d = g.D.Device.disk c.apply_batch.new.device in
    let batch = c.args.batch.now in
    let h1 = c.log_batch.ensures.honest.0 h in
    let full : Logged s batch b = c.in_ok-log_batch.ensures.logged s h settled places in
    let along : SameContent (over batch b.seen) (over batch a.seen) = over_outside batch a.seen b.seen (c.log_batch.ensures.beside h) in
    on_ok c.apply_batch.result (Settled s d × SameContent d.seen (over batch b.seen)) (Settled s d × SameContent d.seen (over batch a.seen))
    (λ done. (done.0, λ k is. done.1 k is ∙ along k is)) (c.apply_batch.ensures.settled s h1 full)

pub returns-clause-crash : goal.returns-clause-crash
returns-clause-crash g c s h settled places =
    let a = g.D.Device.disk c.args.device.now in
    let b = g.D.Device.disk c.log_batch.new.device in
    let d = g.D.Device.disk c.apply_batch.new.device in
    let batch = c.args.batch.now in
    let h1 = c.log_batch.ensures.honest.0 h in
    let full : Logged s batch b = c.in_ok-log_batch.ensures.logged s h settled places in
    let along : SameContent (over batch b.seen) (over batch a.seen) = over_outside batch a.seen b.seen (c.log_batch.ensures.beside h) in
    let P = HasEither s a.seen (over batch a.seen) in
    leaves_then a b d P (λ m. HasContent s m (over batch b.seen)) P (c.log_batch.ensures.crash s h settled places) (c.apply_batch.ensures.crash s h1 full)
    (λ m p. p) (λ m has. inr (has_same s m (over batch b.seen) (over batch a.seen) along has))

pub returns-clause-keeps : goal.returns-clause-keeps
returns-clause-keeps g c h =
    let a = g.D.Device.disk c.args.device.now in
    let b = g.D.Device.disk c.log_batch.new.device in
    let batch = c.args.batch.now in
    let h1 = c.log_batch.ensures.honest.0 h in
    let along : SameContent (over batch b.seen) (over batch a.seen) = over_outside batch a.seen b.seen (c.log_batch.ensures.beside h) in
    λ k is. c.apply_batch.ensures.under h1 k is ∙ along k is

pub returns-in_err-log_batch-clause-settled : goal.returns-in_err-log_batch-clause-settled
returns-in_err-log_batch-clause-settled g c s h settled places = at_ok c.from_residual.result _ c.from_residual.ensures.0

pub returns-in_err-log_batch-clause-crash : goal.returns-in_err-log_batch-clause-crash
returns-in_err-log_batch-clause-crash g c s h settled places = c.log_batch.ensures.crash s h settled places

pub returns-in_err-log_batch-clause-honest : goal.returns-in_err-log_batch-clause-honest
returns-in_err-log_batch-clause-honest g c = c.log_batch.ensures.honest

pub returns-in_err-log_batch-clause-size : goal.returns-in_err-log_batch-clause-size
returns-in_err-log_batch-clause-size g c = c.log_batch.ensures.size

pub returns-in_err-log_batch-clause-failures : goal.returns-in_err-log_batch-clause-failures
returns-in_err-log_batch-clause-failures g c = counts_one c.from_residual.result (g.D.Device.failures c.args.device.now) (g.D.Device.failures c.args.device.now) (g.D.Device.failures c.log_batch.new.device) c.from_residual.ensures.0 refl c.in_err-log_batch.ensures.failures

pub returns-clause-honest : goal.returns-clause-honest
returns-clause-honest g c = both_then c.log_batch.ensures.honest c.apply_batch.ensures.honest

pub returns-clause-size : goal.returns-clause-size
returns-clause-size g c = c.apply_batch.ensures.size ∙ c.log_batch.ensures.size

pub returns-clause-failures : goal.returns-clause-failures
returns-clause-failures g c = c.apply_batch.ensures.failures ∙ ap (counted (is_err c.apply_batch.result)) c.in_ok-log_batch.ensures.failures

pub apply_batch-requires-clause-places : goal.apply_batch-requires-clause-places
apply_batch-requires-clause-places c = grind (arith, common_steps)
