use Rattle.std.proofs.Common.{◌≡◌, ℕ, false, not, Ok, Err, inl, inr, refl, sym, ap, ◌∙◌, subst}
use Rattle.vol_tree.specs.declared.errno.Errno.TheVariants as errno
use Rattle.wasi_fd.specs.Rights.{bits_of}
use Rattle.wasi_bodies.specs.declared.checks.DescriptorKinds.TheVariants as takes
use Rattle.wasi_bodies.proofs.checks.CausesOf29.{asked_29, check_not_29, no_29_at_0}
use Rattle.wasi_bodies.proofs.checks.NoneAnswers29.{entry_never}
use Rattle.wasi_bodies.specs.World.{World, with_volume_failed}
use Rattle.wasi_bodies.specs.Checks.{only_world, entry_at, no_streams}
use Rattle.wasi_fd.specs.declared.descriptor.Opened.{Opened}
use Rattle.wasi_bodies.specs.files.Rows.{fd_sync}
use Rattle.wasi_bodies.specs.Calls.{Answered}
use Rattle.wasi_bodies.specs.internal.Entries.{with_volume, refusals_of}
use Rattle.wasi_bodies.proofs.checks.Chains.{guard_passes, guard_fails, goes_on, stops}
use Rattle.wasi_bodies.proofs.bodies.VolumeCalls.{steps, is_no_err, same_tree, was_working, same_volume, refused_first, done_by, tree_refuses}
use Rattle.wasi_fd.specs.Table.{table_of}
use Rattle.wasi_bodies.proofs.OpenEntries.{some_world}
use Rattle.wasi_bodies.proofs.checks.NoneAnswers0.{not_zero, entry_never_zero, number_never_zero, ok_no_err}
use Rattle.wasi_bodies.proofs.bodies.Resting.{volume_rests}
use Rattle.wasi_bodies.proofs.files.sync.Goals as goal

pub returns-in-Err-clause-answered : goal.returns-in-Err-clause-answered
returns-in-Err-clause-answered g c = λ h w m table shown.
    refused_first w m (λ v. fd_sync v c.args.fd (bits_of c.args.right)) c.args.volume.now _ shown (stops _ _ _ (c.in-Err.ensures w table))

-- where the volume works the row is done
done : (w : World) (fd right : ℕ) (o : Opened) → entry_at w fd no_streams right ≡ Ok o → w.volume_failed ≡ false → fd_sync w fd right ≡ Ok (only_world w)
done w fd right o at working = goes_on _ _ o at ∙ goes_on _ _ tt (goes_on _ _ tt (guard_passes _ 29 (ap not working)))

-- and where it has failed it answers 29
failed : (w : World) (fd right : ℕ) (o : Opened) → entry_at (with_volume_failed w) fd no_streams right ≡ Ok o → fd_sync (with_volume_failed w) fd right ≡ Err 29
failed w fd right o at = goes_on _ _ o at ∙ stops _ _ 29 (stops _ _ 29 (guard_fails _ 29 refl))

pub returns-in-Ok : goal.returns-in-Ok
returns-in-Ok g c = record {
  step = steps g.D.Device.honest g.D.Device.disk g.D.Device.size g.D.Device.failures g.D.Device.goes_on c.args.volume.now c.sync.new.self _ c.in-Ok.ensures.kept c.in-Ok.ensures.crash c.in-Ok.ensures.goes_on;
  answered = λ h w m table shown.
      let old = c.args.volume.now in
      let new = c.sync.new.self in
      let right = bits_of c.args.right in
      let k = c.in-Ok.ensures.kept in
      let working : old.failed ≡ false = was_working g.D.Device.honest g.D.Device.size g.D.Device.failures old new false k refl in
      let alive : w.volume_failed ≡ false = ap (λ (w : World). w.volume_failed) shown ∙ working in
      let tree : new.tree ≡ old.tree = same_tree old.tree new.tree (c.in-Ok.ensures.answer h) in
      done_by w m (λ v. fd_sync v c.args.fd right) new m (only_world w)
      (done w c.args.fd right c.in_default.field-0 (c.in_default.ensures w table) alive)
      (same_volume w m old new shown k.numbers tree (k.failed ∙ sym working)) refl;
  durable = λ h zero. c.in-Ok.ensures.durable h;
  io = no_29_at_0;
}

pub returns-in-Err-sync : goal.returns-in-Err-sync
returns-in-Err-sync g c = record {
  step = steps g.D.Device.honest g.D.Device.disk g.D.Device.size g.D.Device.failures g.D.Device.goes_on c.args.volume.now c.sync.new.self _ c.in-Err-sync.ensures.kept c.in-Err-sync.ensures.crash c.in-Err-sync.ensures.goes_on;
  answered = λ h w m table shown.
      let old = c.args.volume.now in
      let new = c.sync.new.self in
      let right = bits_of c.args.right in
      let o = c.in_default.field-0 in
      let e = c.in-Err-sync.errno in
      let ok = λ (alive : w.volume_failed ≡ false). done w c.args.fd right o (c.in_default.ensures w table) alive in
      let (tree, meant) = c.in-Err-sync.ensures.answer h in
      let is_io : e ≡ errno.Io = elim meant [ inl never ↦ absurd (ok_no_err _ (c.args.volume.now.tree, tt) e refl never) | inr io ↦ io ] in
      subst (λ (n : ℕ). Answered (λ v. fd_sync v c.args.fd right) w m (with_volume new w) m n) (sym c.refused.ensures)
      (tree_refuses w m g.D.Device.honest g.D.Device.size g.D.Device.failures (Unit {0}) (λ v. fd_sync v c.args.fd right) old new e c.in-Err-sync.ensures.kept shown tree
      (λ alive other. absurd (other is_io))
      (failed w c.args.fd right o (c.in_default.ensures (with_volume_failed w) table))
      (λ alive. is_no_err _ (only_world w) 29 (ok alive)));
  durable = λ h zero. absurd (number_never_zero c.in-Err-sync.errno (sym c.refused.ensures ∙ zero));
  io = asked_29 (Unit {0}) c.in-Err-sync.errno _ (λ fails. c.in-Err-sync.ensures.kept.failed ∙ fails) c.refused.ensures;
}

-- no refusal has the number of success
pub returns-in-Err-clause-durable : goal.returns-in-Err-clause-durable
unfolding some_world
returns-in-Err-clause-durable g c = λ h zero. absurd (not_zero _ _ (entry_never_zero (some_world (table_of c.args.descriptors.now)) c.args.fd (bits_of c.args.right)) (c.in-Err.ensures (some_world (table_of c.args.descriptors.now)) refl) zero)

pub returns-in-Err-clause-step : goal.returns-in-Err-clause-step
returns-in-Err-clause-step g c = volume_rests g.D.Device.honest g.D.Device.disk g.D.Device.size g.D.Device.failures g.D.Device.goes_on c.args.volume.now

pub returns-in-Err-clause-io : goal.returns-in-Err-clause-io
returns-in-Err-clause-io g c = check_not_29 (table_of c.args.descriptors.now) (λ w. entry_at w c.args.fd (refusals_of takes.NoStreams) (bits_of c.args.right)) _ (entry_never c.args.fd takes.NoStreams (bits_of c.args.right)) c.in-Err.ensures
