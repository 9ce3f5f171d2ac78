use Rattle.std.proofs.Common.{◌≡◌, ◌∙◌, ap, subst, sym, [], refl, is_err}
use Rattle.vol_sector.specs.Disk.{Image, Wrote, Only, Leaves, counted}
use Rattle.vol_log.specs.Header.{IsHeader}
use Rattle.vol_log.specs.Batch.{over, SameContent, HasContent, Settled}
use Rattle.vol_log.specs.internal.Steps.{Under}
use Rattle.vol_log.proofs.Moments.{leaves_from, leaves_quiet, leaves_on, only_along, on_ok, both_then, counts_one, at_ok}
use Rattle.vol_log.proofs.Commit.{install_keeps, emptied, emptied_done, under_same, under_header}
use Rattle.vol_log.proofs.steps.apply_batch.Goals as goal

pub returns-in_err-write-clause-crash : goal.returns-in_err-write-clause-crash
returns-in_err-write-clause-crash g c s h full =
    let a = g.D.Device.disk c.args.device.now in
    let b = g.D.Device.disk c.install.new.device in
    let d = g.D.Device.disk c.sync.new.self in
    let e = g.D.Device.disk c.write.new.self in
    let batch = c.args.batch.now in
    let P = λ (m : Image). HasContent s m (over batch a.seen) in
    let h1 = c.install.ensures.honest.0 h in
    let h2 = c.sync.ensures.honest.0 h1 in
    let first : Leaves a b P = leaves_from a b (Under batch) P full.durable (c.install.ensures.crash h) (λ m under. install_keeps s batch a.seen m full.header full.images under) in
    let synced : Leaves a d P = leaves_quiet a b d P first (c.sync.ensures.crash h1) in
    let only : Only d.seen d.may_leave = only_along b.seen d.seen d.may_leave (c.sync.ensures.seen h1) (c.in_ok-sync.ensures.durable h1) in
    let done : d.seen ≡ over batch a.seen = c.sync.ensures.seen h1 ∙ c.in_ok-install.ensures.installed h in
    let under : Under batch a.seen d.seen = ap (over batch) (c.sync.ensures.seen h1) ∙ c.install.ensures.under h in
    leaves_on a d e (Wrote 1 c.header_image.result) P synced only (c.write.ensures.crash h2)
    (λ m wrote. emptied s batch c.header_image.result a.seen d.seen m full.header full.images c.header_image.ensures done under wrote)

pub returns-clause-settled : goal.returns-clause-settled
returns-clause-settled g c s h full =
    let a = g.D.Device.disk c.args.device.now in
    let b = g.D.Device.disk c.install.new.device in
    let d = g.D.Device.disk c.sync.new.self in
    let e = g.D.Device.disk c.write.new.self in
    let f = g.D.Device.disk c.sync-2.new.self in
    let batch = c.args.batch.now in
    let h1 = c.install.ensures.honest.0 h in
    let h2 = c.sync.ensures.honest.0 h1 in
    let h3 = c.write.ensures.honest.0 h2 in
    let done : d.seen ≡ over batch a.seen = c.sync.ensures.seen h1 ∙ c.in_ok-install.ensures.installed h in
    let ended = emptied_done s batch c.header_image.result a.seen d.seen e.seen c.header_image.ensures done (c.in_ok-write.ensures.written h2) in
    let same : f.seen ≡ e.seen = c.sync-2.ensures.seen h3 in
    on_ok c.sync-2.result (Only e.seen f.may_leave) (Settled s f × SameContent f.seen (over batch a.seen)) (λ only. (
      record {
        durable = only_along e.seen f.seen f.may_leave same only;
        empty = subst (λ (x : Image). IsHeader s (x 1) []) (sym same) ended.0;
      },
      subst (λ (x : Image). SameContent x (over batch a.seen)) (sym same) ended.1,
    )) (c.sync-2.ensures.durable h3)

pub returns-clause-crash : goal.returns-clause-crash
returns-clause-crash g c s h full =
    let a = g.D.Device.disk c.args.device.now in
    let b = g.D.Device.disk c.install.new.device in
    let d = g.D.Device.disk c.sync.new.self in
    let e = g.D.Device.disk c.write.new.self in
    let f = g.D.Device.disk c.sync-2.new.self in
    let batch = c.args.batch.now in
    let P = λ (m : Image). HasContent s m (over batch a.seen) in
    let h1 = c.install.ensures.honest.0 h in
    let h2 = c.sync.ensures.honest.0 h1 in
    let h3 = c.write.ensures.honest.0 h2 in
    let first : Leaves a b P = leaves_from a b (Under batch) P full.durable (c.install.ensures.crash h) (λ m under. install_keeps s batch a.seen m full.header full.images under) in
    let synced : Leaves a d P = leaves_quiet a b d P first (c.sync.ensures.crash h1) in
    let only : Only d.seen d.may_leave = only_along b.seen d.seen d.may_leave (c.sync.ensures.seen h1) (c.in_ok-sync.ensures.durable h1) in
    let done : d.seen ≡ over batch a.seen = c.sync.ensures.seen h1 ∙ c.in_ok-install.ensures.installed h in
    let under : Under batch a.seen d.seen = ap (over batch) (c.sync.ensures.seen h1) ∙ c.install.ensures.under h in
    let headed : Leaves a e P = leaves_on a d e (Wrote 1 c.header_image.result) P synced only (c.write.ensures.crash h2)
    (λ m wrote. emptied s batch c.header_image.result a.seen d.seen m full.header full.images c.header_image.ensures done under wrote) in
    leaves_quiet a e f P headed (c.sync-2.ensures.crash h3)

pub returns-in_err-install-clause-crash : goal.returns-in_err-install-clause-crash
returns-in_err-install-clause-crash g c s h full =
    let a = g.D.Device.disk c.args.device.now in
    let b = g.D.Device.disk c.install.new.device in
    let batch = c.args.batch.now in
    let P = λ (m : Image). HasContent s m (over batch a.seen) in
    leaves_from a b (Under batch) P full.durable (c.install.ensures.crash h) (λ m under. install_keeps s batch a.seen m full.header full.images under)

pub returns-in_err-install-clause-under : goal.returns-in_err-install-clause-under
returns-in_err-install-clause-under g c h =
    under_same c.args.batch.now (g.D.Device.disk c.args.device.now).seen (g.D.Device.disk c.install.new.device).seen (c.install.ensures.under h)

pub returns-in_err-sync-clause-crash : goal.returns-in_err-sync-clause-crash
returns-in_err-sync-clause-crash g c s h full =
    let a = g.D.Device.disk c.args.device.now in
    let b = g.D.Device.disk c.install.new.device in
    let d = g.D.Device.disk c.sync.new.self in
    let batch = c.args.batch.now in
    let P = λ (m : Image). HasContent s m (over batch a.seen) in
    let h1 = c.install.ensures.honest.0 h in
    let first : Leaves a b P = leaves_from a b (Under batch) P full.durable (c.install.ensures.crash h) (λ m under. install_keeps s batch a.seen m full.header full.images under) in
    leaves_quiet a b d P first (c.sync.ensures.crash h1)

pub returns-in_err-sync-clause-under : goal.returns-in_err-sync-clause-under
returns-in_err-sync-clause-under g c h =
    let h1 = c.install.ensures.honest.0 h in
    under_same c.args.batch.now (g.D.Device.disk c.args.device.now).seen (g.D.Device.disk c.sync.new.self).seen (ap (over c.args.batch.now) (c.sync.ensures.seen h1) ∙ c.install.ensures.under h)

pub returns-in_err-write-clause-under : goal.returns-in_err-write-clause-under
returns-in_err-write-clause-under g c h =
    let h1 = c.install.ensures.honest.0 h in
    let h2 = c.sync.ensures.honest.0 h1 in
    let batch = c.args.batch.now in
    under_header batch c.header_image.result (g.D.Device.disk c.args.device.now).seen (g.D.Device.disk c.sync.new.self).seen (g.D.Device.disk c.write.new.self).seen
    (ap (over batch) (c.sync.ensures.seen h1) ∙ c.install.ensures.under h) (c.write.ensures.seen h2)

pub returns-clause-under : goal.returns-clause-under
returns-clause-under g c h =
    let h1 = c.install.ensures.honest.0 h in
    let h2 = c.sync.ensures.honest.0 h1 in
    let h3 = c.write.ensures.honest.0 h2 in
    let batch = c.args.batch.now in
    let a = g.D.Device.disk c.args.device.now in
    subst (λ (x : Image). SameContent (over batch x) (over batch a.seen)) (sym (c.sync-2.ensures.seen h3))
    (under_header batch c.header_image.result a.seen (g.D.Device.disk c.sync.new.self).seen (g.D.Device.disk c.write.new.self).seen
    (ap (over batch) (c.sync.ensures.seen h1) ∙ c.install.ensures.under h) (c.write.ensures.seen h2))

pub returns-in_err-install-clause-settled : goal.returns-in_err-install-clause-settled
returns-in_err-install-clause-settled g c s h full = at_ok c.from_residual.result _ c.from_residual.ensures.0

pub returns-in_err-install-clause-honest : goal.returns-in_err-install-clause-honest
returns-in_err-install-clause-honest g c = c.install.ensures.honest

pub returns-in_err-install-clause-size : goal.returns-in_err-install-clause-size
returns-in_err-install-clause-size g c = c.install.ensures.size

pub returns-in_err-install-clause-failures : goal.returns-in_err-install-clause-failures
returns-in_err-install-clause-failures g c = counts_one c.from_residual.result (g.D.Device.failures c.args.device.now) (g.D.Device.failures c.args.device.now) (g.D.Device.failures c.install.new.device) c.from_residual.ensures.0 refl c.in_err-install.ensures.failures

pub returns-in_err-sync-clause-settled : goal.returns-in_err-sync-clause-settled
returns-in_err-sync-clause-settled g c s h full = at_ok c.from_residual-in_err-sync.result _ c.from_residual-in_err-sync.ensures.0

pub returns-in_err-sync-clause-honest : goal.returns-in_err-sync-clause-honest
returns-in_err-sync-clause-honest g c = both_then c.install.ensures.honest c.sync.ensures.honest

pub returns-in_err-sync-clause-size : goal.returns-in_err-sync-clause-size
returns-in_err-sync-clause-size g c = c.sync.ensures.size ∙ c.install.ensures.size

pub returns-in_err-sync-clause-failures : goal.returns-in_err-sync-clause-failures
returns-in_err-sync-clause-failures g c = counts_one c.from_residual-in_err-sync.result (g.D.Device.failures c.args.device.now) (g.D.Device.failures c.install.new.device) (g.D.Device.failures c.sync.new.self) c.from_residual-in_err-sync.ensures.0 c.in_ok-install.ensures.failures c.in_err-sync.ensures.failures

pub returns-in_err-write-clause-settled : goal.returns-in_err-write-clause-settled
returns-in_err-write-clause-settled g c s h full = at_ok c.from_residual-in_err-write.result _ c.from_residual-in_err-write.ensures.0

pub returns-in_err-write-clause-honest : goal.returns-in_err-write-clause-honest
returns-in_err-write-clause-honest g c = both_then c.install.ensures.honest (both_then c.sync.ensures.honest c.write.ensures.honest)

pub returns-in_err-write-clause-size : goal.returns-in_err-write-clause-size
returns-in_err-write-clause-size g c = c.write.ensures.size ∙ c.sync.ensures.size ∙ c.install.ensures.size

pub returns-in_err-write-clause-failures : goal.returns-in_err-write-clause-failures
returns-in_err-write-clause-failures g c = counts_one c.from_residual-in_err-write.result (g.D.Device.failures c.args.device.now) (g.D.Device.failures c.sync.new.self) (g.D.Device.failures c.write.new.self) c.from_residual-in_err-write.ensures.0 (c.in_ok-sync.ensures.failures ∙ c.in_ok-install.ensures.failures) c.in_err-write.ensures.failures

pub returns-clause-honest : goal.returns-clause-honest
returns-clause-honest g c = both_then c.install.ensures.honest (both_then c.sync.ensures.honest (both_then c.write.ensures.honest c.sync-2.ensures.honest))

pub returns-clause-size : goal.returns-clause-size
returns-clause-size g c = c.sync-2.ensures.size ∙ c.write.ensures.size ∙ c.sync.ensures.size ∙ c.install.ensures.size

pub returns-clause-failures : goal.returns-clause-failures
returns-clause-failures g c = c.sync-2.ensures.failures ∙ ap (counted (is_err c.sync-2.result)) (c.in_ok-write.ensures.failures ∙ c.in_ok-sync.ensures.failures ∙ c.in_ok-install.ensures.failures)
