use Rattle.std.proofs.Common.{◌^◌, ℕ, refl, sym, subst, ◌∙◌}
use Rattle.vol_tree.specs.Calls.{resized}
use Rattle.wasi_fd.specs.Table.{table_of}
use Rattle.wasi_bodies.specs.declared.checks.DescriptorKinds.TheVariants as takes
use Rattle.wasi_bodies.proofs.checks.CausesOf29.{asked_29, check_not_29, no_29_at_0}
use Rattle.wasi_bodies.proofs.checks.NoneAnswers29.{entry_never}
use Rattle.wasi_bodies.specs.World.{with_volume_failed}
use Rattle.wasi_bodies.specs.files.Rows.{fd_filestat_set_size}
use Rattle.wasi_bodies.specs.Calls.{Answered}
use Rattle.wasi_bodies.specs.Checks.{sized, entry_at}
use Rattle.wasi_bodies.specs.internal.Entries.{with_volume, refusals_of}
use Rattle.wasi_bodies.proofs.checks.Chains.{goes_on, stops}
use Rattle.wasi_bodies.proofs.OpenEntries.{file_of}
use Rattle.wasi_bodies.proofs.bodies.VolumeCalls.{steps, refused_first, changed_ok, changed_err, resized_never}
use Rattle.wasi_bodies.proofs.bodies.Resting.{volume_rests}
use Rattle.wasi_bodies.proofs.files.set_size.Goals as goal

pub set_size-requires : goal.set_size-requires
set_size-requires g c =
    let f = file_of g.D.Device.honest c.args.volume.now (table_of c.args.descriptors.now) c.requires c.args.fd sized 31 (2 ^ 22) c.in-Ok.opened refl c.in-Ok.ensures in
    rw c.new.ensures (record { first = f.first; last = f.last; used = f.used })

pub returns-in-Err : goal.returns-in-Err
returns-in-Err g c = record {
  step = volume_rests g.D.Device.honest g.D.Device.disk g.D.Device.size g.D.Device.failures g.D.Device.goes_on c.args.volume.now;
  answered = λ h w m table shown.
      refused_first w m (λ v. fd_filestat_set_size v c.args.fd c.args.size) c.args.volume.now _ shown (stops _ _ _ (c.in-Err.ensures w table));
  io = check_not_29 (table_of c.args.descriptors.now) (λ w. entry_at w c.args.fd (refusals_of takes.Sized) (2 ^ 22)) _ (entry_never c.args.fd takes.Sized (2 ^ 22)) c.in-Err.ensures;
}

pub returns-in-Ok-set_size : goal.returns-in-Ok-set_size
returns-in-Ok-set_size g c = record {
  step = steps g.D.Device.honest g.D.Device.disk g.D.Device.size g.D.Device.failures g.D.Device.goes_on c.args.volume.now c.set_size.new.self _ c.in-Ok-set_size.ensures.kept c.in-Ok-set_size.ensures.crash c.in-Ok-set_size.ensures.goes_on;
  answered = λ h w m table shown.
      let o = c.in-Ok.opened in
      let size = c.args.size in
      changed_ok g.D.Device.honest g.D.Device.size g.D.Device.failures w m (λ v. fd_filestat_set_size v c.args.fd size) (λ v. resized v.volume v.tree o.serial size)
      c.args.volume.now c.set_size.new.self shown (goes_on _ _ o (c.in-Ok.ensures w table))
      c.in-Ok-set_size.ensures.kept (rw c.new.ensures at c.in-Ok-set_size.ensures.answer h);
  io = no_29_at_0;
}

pub returns-in-Err-set_size : goal.returns-in-Err-set_size
returns-in-Err-set_size g c = record {
  step = steps g.D.Device.honest g.D.Device.disk g.D.Device.size g.D.Device.failures g.D.Device.goes_on c.args.volume.now c.set_size.new.self _ c.in-Err-set_size.ensures.kept c.in-Err-set_size.ensures.crash c.in-Err-set_size.ensures.goes_on;
  answered = λ h w m table shown.
      let o = c.in-Ok.opened in
      let size = c.args.size in
      let e = c.in-Err-set_size.errno in
      let (tree, meant) = rw c.new.ensures at c.in-Err-set_size.ensures.answer h in
      subst (λ (n : ℕ). Answered (λ v. fd_filestat_set_size v c.args.fd size) w m (with_volume c.set_size.new.self w) m n) (sym c.refused.ensures)
      (changed_err g.D.Device.honest g.D.Device.size g.D.Device.failures w m (λ v. fd_filestat_set_size v c.args.fd size) (λ v. resized v.volume v.tree o.serial size)
      c.args.volume.now c.set_size.new.self shown (goes_on _ _ o (c.in-Ok.ensures w table))
      (goes_on _ _ o (c.in-Ok.ensures (with_volume_failed w) table)) (resized_never w.volume w.tree o.serial size) e c.in-Err-set_size.ensures.kept tree meant);
  io = asked_29 (Unit {0}) c.in-Err-set_size.errno _ (λ fails. c.in-Err-set_size.ensures.kept.failed ∙ fails) c.refused.ensures;
}
