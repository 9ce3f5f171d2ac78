use Rattle.std.proofs.Common.{◌≡◌, ◌∙◌, inl, ap, subst, sym, refl, is_err}
use Rattle.vol_sector.specs.Disk.{Image, Wrote, Only, Leaves, counted}
use Rattle.vol_log.specs.Header.{IsHeader}
use Rattle.vol_log.specs.Batch.{over, logged, HasEither}
use Rattle.vol_log.specs.internal.Batch.{numbers}
use Rattle.vol_log.specs.internal.Steps.{Logged, OnlyImagesChange}
use Rattle.vol_log.proofs.Moments.{leaves_from, leaves_quiet, leaves_on, only_along, on_ok, both_then, counts_one, at_ok}
use Rattle.vol_log.proofs.Commit.{images_keep, header_either, header_done, outside_log, beside_header}
use Rattle.vol_log.proofs.Images.{at_once}
use Rattle.vol_log.proofs.steps.log_batch.Goals as goal

pub returns-in_err-write-clause-crash : goal.returns-in_err-write-clause-crash
returns-in_err-write-clause-crash g c s h settled places =
    let a = g.D.Device.disk c.args.device.now in
    let b = g.D.Device.disk c.write_images.new.device in
    let d = g.D.Device.disk c.sync.new.self in
    let e = g.D.Device.disk c.write.new.self in
    let batch = c.args.batch.now in
    let P = HasEither s a.seen (over batch a.seen) in
    let h1 = c.write_images.ensures.honest.0 h in
    let h2 = c.sync.ensures.honest.0 h1 in
    let first : Leaves a b P = leaves_from a b OnlyImagesChange P settled.durable (c.write_images.ensures.crash h) (λ m out. inl (images_keep s a.seen m settled.empty out)) in
    let synced : Leaves a d P = leaves_quiet a b d P first (c.sync.ensures.crash h1) in
    let only : Only d.seen d.may_leave = only_along b.seen d.seen d.may_leave (c.sync.ensures.seen h1) (c.in_ok-sync.ensures.durable h1) in
    let images : logged (numbers batch) 2 d.seen ≡ batch = ap (λ (x : Image). logged (numbers batch) 2 x) (c.sync.ensures.seen h1) ∙ c.in_ok-write_images.ensures.logged h in
    let outside : OnlyImagesChange a.seen d.seen = subst (λ (x : Image). OnlyImagesChange a.seen x) (sym (c.sync.ensures.seen h1)) (c.write_images.ensures.beside h) in
    leaves_on a d e (Wrote 1 c.header_image.result) P synced only (c.write.ensures.crash h2)
    (λ m wrote. header_either s batch c.header_image.result a.seen d.seen m settled.empty places c.header_image.ensures outside images wrote)

pub returns-clause-logged : goal.returns-clause-logged
returns-clause-logged g c s h settled places =
    let a = g.D.Device.disk c.args.device.now in
    let b = g.D.Device.disk c.write_images.new.device in
    let d = g.D.Device.disk c.sync.new.self in
    let e = g.D.Device.disk c.write.new.self in
    let f = g.D.Device.disk c.sync-2.new.self in
    let batch = c.args.batch.now in
    let h1 = c.write_images.ensures.honest.0 h in
    let h2 = c.sync.ensures.honest.0 h1 in
    let h3 = c.write.ensures.honest.0 h2 in
    let images : logged (numbers batch) 2 d.seen ≡ batch = ap (λ (x : Image). logged (numbers batch) 2 x) (c.sync.ensures.seen h1) ∙ c.in_ok-write_images.ensures.logged h in
    let done = header_done s batch c.header_image.result d.seen e.seen places c.header_image.ensures images (c.in_ok-write.ensures.written h2) in
    let same : f.seen ≡ e.seen = c.sync-2.ensures.seen h3 in
    on_ok c.sync-2.result (Only e.seen f.may_leave) (Logged s batch f) (λ only. record {
      durable = only_along e.seen f.seen f.may_leave same only;
      header = subst (λ (x : Image). IsHeader s (x 1) (numbers batch)) (sym same) done.0;
      images = subst (λ (x : Image). logged (numbers batch) 2 x ≡ batch) (sym same) done.1;
    }) (c.sync-2.ensures.durable h3)

pub returns-clause-crash : goal.returns-clause-crash
returns-clause-crash g c s h settled places =
    let a = g.D.Device.disk c.args.device.now in
    let b = g.D.Device.disk c.write_images.new.device in
    let d = g.D.Device.disk c.sync.new.self in
    let e = g.D.Device.disk c.write.new.self in
    let f = g.D.Device.disk c.sync-2.new.self in
    let batch = c.args.batch.now in
    let P = HasEither s a.seen (over batch a.seen) in
    let h1 = c.write_images.ensures.honest.0 h in
    let h2 = c.sync.ensures.honest.0 h1 in
    let h3 = c.write.ensures.honest.0 h2 in
    let first : Leaves a b P = leaves_from a b OnlyImagesChange P settled.durable (c.write_images.ensures.crash h) (λ m out. inl (images_keep s a.seen m settled.empty out)) in
    let synced : Leaves a d P = leaves_quiet a b d P first (c.sync.ensures.crash h1) in
    let only : Only d.seen d.may_leave = only_along b.seen d.seen d.may_leave (c.sync.ensures.seen h1) (c.in_ok-sync.ensures.durable h1) in
    let images : logged (numbers batch) 2 d.seen ≡ batch = ap (λ (x : Image). logged (numbers batch) 2 x) (c.sync.ensures.seen h1) ∙ c.in_ok-write_images.ensures.logged h in
    let outside : OnlyImagesChange a.seen d.seen = subst (λ (x : Image). OnlyImagesChange a.seen x) (sym (c.sync.ensures.seen h1)) (c.write_images.ensures.beside h) in
    let headed : Leaves a e P = leaves_on a d e (Wrote 1 c.header_image.result) P synced only (c.write.ensures.crash h2)
    (λ m wrote. header_either s batch c.header_image.result a.seen d.seen m settled.empty places c.header_image.ensures outside images wrote) in
    leaves_quiet a e f P headed (c.sync-2.ensures.crash h3)

pub returns-in_err-write_images-clause-logged : goal.returns-in_err-write_images-clause-logged
returns-in_err-write_images-clause-logged g c s h settled places = at_ok c.from_residual.result _ c.from_residual.ensures.0

pub returns-in_err-write_images-clause-honest : goal.returns-in_err-write_images-clause-honest
returns-in_err-write_images-clause-honest g c = c.write_images.ensures.honest

pub returns-in_err-write_images-clause-size : goal.returns-in_err-write_images-clause-size
returns-in_err-write_images-clause-size g c = c.write_images.ensures.size

pub returns-in_err-write_images-clause-failures : goal.returns-in_err-write_images-clause-failures
returns-in_err-write_images-clause-failures g c = counts_one c.from_residual.result (g.D.Device.failures c.args.device.now) (g.D.Device.failures c.args.device.now) (g.D.Device.failures c.write_images.new.device) c.from_residual.ensures.0 refl c.in_err-write_images.ensures.failures

pub returns-in_err-sync-clause-logged : goal.returns-in_err-sync-clause-logged
returns-in_err-sync-clause-logged g c s h settled places = at_ok c.from_residual-in_err-sync.result _ c.from_residual-in_err-sync.ensures.0

pub returns-in_err-sync-clause-honest : goal.returns-in_err-sync-clause-honest
returns-in_err-sync-clause-honest g c = both_then c.write_images.ensures.honest c.sync.ensures.honest

pub returns-in_err-sync-clause-size : goal.returns-in_err-sync-clause-size
returns-in_err-sync-clause-size g c = c.sync.ensures.size ∙ c.write_images.ensures.size

pub returns-in_err-sync-clause-failures : goal.returns-in_err-sync-clause-failures
returns-in_err-sync-clause-failures g c = counts_one c.from_residual-in_err-sync.result (g.D.Device.failures c.args.device.now) (g.D.Device.failures c.write_images.new.device) (g.D.Device.failures c.sync.new.self) c.from_residual-in_err-sync.ensures.0 c.in_ok-write_images.ensures.failures c.in_err-sync.ensures.failures

pub returns-in_err-write-clause-logged : goal.returns-in_err-write-clause-logged
returns-in_err-write-clause-logged g c s h settled places = at_ok c.from_residual-in_err-write.result _ c.from_residual-in_err-write.ensures.0

pub returns-in_err-write-clause-honest : goal.returns-in_err-write-clause-honest
returns-in_err-write-clause-honest g c = both_then c.write_images.ensures.honest (both_then c.sync.ensures.honest c.write.ensures.honest)

pub returns-in_err-write-clause-size : goal.returns-in_err-write-clause-size
returns-in_err-write-clause-size g c = c.write.ensures.size ∙ c.sync.ensures.size ∙ c.write_images.ensures.size

pub returns-in_err-write-clause-failures : goal.returns-in_err-write-clause-failures
returns-in_err-write-clause-failures g c = counts_one c.from_residual-in_err-write.result (g.D.Device.failures c.args.device.now) (g.D.Device.failures c.sync.new.self) (g.D.Device.failures c.write.new.self) c.from_residual-in_err-write.ensures.0 (c.in_ok-sync.ensures.failures ∙ c.in_ok-write_images.ensures.failures) c.in_err-write.ensures.failures

pub returns-clause-honest : goal.returns-clause-honest
returns-clause-honest g c = both_then c.write_images.ensures.honest (both_then c.sync.ensures.honest (both_then c.write.ensures.honest c.sync-2.ensures.honest))

pub returns-clause-size : goal.returns-clause-size
returns-clause-size g c = c.sync-2.ensures.size ∙ c.write.ensures.size ∙ c.sync.ensures.size ∙ c.write_images.ensures.size

pub returns-clause-failures : goal.returns-clause-failures
returns-clause-failures g c = c.sync-2.ensures.failures ∙ ap (counted (is_err c.sync-2.result)) (c.in_ok-write.ensures.failures ∙ c.in_ok-sync.ensures.failures ∙ c.in_ok-write_images.ensures.failures)

pub returns-in_err-write_images-clause-crash : goal.returns-in_err-write_images-clause-crash
returns-in_err-write_images-clause-crash g c s h settled places =
    let a = g.D.Device.disk c.args.device.now in
    let b = g.D.Device.disk c.write_images.new.device in
    leaves_from a b OnlyImagesChange (HasEither s a.seen (over c.args.batch.now a.seen)) settled.durable (c.write_images.ensures.crash h) (λ m out. inl (images_keep s a.seen m settled.empty out))

pub returns-in_err-sync-clause-crash : goal.returns-in_err-sync-clause-crash
returns-in_err-sync-clause-crash g c s h settled places =
    let a = g.D.Device.disk c.args.device.now in
    let b = g.D.Device.disk c.write_images.new.device in
    let d = g.D.Device.disk c.sync.new.self in
    let P = HasEither s a.seen (over c.args.batch.now a.seen) in
    leaves_quiet a b d P (leaves_from a b OnlyImagesChange P settled.durable (c.write_images.ensures.crash h) (λ m out. inl (images_keep s a.seen m settled.empty out))) (c.sync.ensures.crash (c.write_images.ensures.honest.0 h))

pub returns-in_err-write_images-clause-beside : goal.returns-in_err-write_images-clause-beside
returns-in_err-write_images-clause-beside g c h = outside_log (g.D.Device.disk c.args.device.now).seen (g.D.Device.disk c.write_images.new.device).seen (c.write_images.ensures.beside h)

pub returns-in_err-sync-clause-beside : goal.returns-in_err-sync-clause-beside
returns-in_err-sync-clause-beside g c h k is =
    at_once k (g.D.Device.disk c.sync.new.self).seen (g.D.Device.disk c.write_images.new.device).seen (c.sync.ensures.seen (c.write_images.ensures.honest.0 h))
    ∙ outside_log (g.D.Device.disk c.args.device.now).seen (g.D.Device.disk c.write_images.new.device).seen (c.write_images.ensures.beside h) k is

pub returns-in_err-write-clause-beside : goal.returns-in_err-write-clause-beside
returns-in_err-write-clause-beside g c h k is =
    let h1 = c.write_images.ensures.honest.0 h in
    let b = g.D.Device.disk c.write_images.new.device in
    let d = g.D.Device.disk c.sync.new.self in
    let e = g.D.Device.disk c.write.new.self in
    beside_header c.header_image.result d.seen e.seen (c.write.ensures.seen (c.sync.ensures.honest.0 h1)) k is ∙ at_once k d.seen b.seen (c.sync.ensures.seen h1) ∙ outside_log (g.D.Device.disk c.args.device.now).seen b.seen (c.write_images.ensures.beside h) k is

pub returns-clause-beside : goal.returns-clause-beside
returns-clause-beside g c h k is =
    let h1 = c.write_images.ensures.honest.0 h in
    let h2 = c.sync.ensures.honest.0 h1 in
    let b = g.D.Device.disk c.write_images.new.device in
    let d = g.D.Device.disk c.sync.new.self in
    let e = g.D.Device.disk c.write.new.self in
    let f = g.D.Device.disk c.sync-2.new.self in
    at_once k f.seen e.seen (c.sync-2.ensures.seen (c.write.ensures.honest.0 h2)) ∙ beside_header c.header_image.result d.seen e.seen (c.write.ensures.seen h2) k is ∙ at_once k d.seen b.seen (c.sync.ensures.seen h1) ∙ outside_log (g.D.Device.disk c.args.device.now).seen b.seen (c.write_images.ensures.beside h) k is
