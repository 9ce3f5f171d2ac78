use Rattle.std.proofs.Common.{◌≡◌, ℕ, false, List, length, take, refl, sym, ap, ◌∙◌, subst}
use Rattle.byteorder.specs.Endian.{little_bytes}
use Rattle.wasm_store.specs.Bytes.{written}
use Rattle.vol_body.specs.declared.writing.TheConstants.{PIECE}
use Rattle.vol_tree.specs.Opened.{geometry}
use Rattle.vol_tree.specs.Calls.{written as tree_with}
use Rattle.wasi_bodies.proofs.checks.CausesOf29.{asked_29, no_29_at_0}
use Rattle.wasi_bodies.specs.Checks.{tree_call, gathered, with_result}
use Rattle.wasi_bodies.specs.Calls.{Answered}
use Rattle.wasi_bodies.specs.internal.Entries.{with_volume}
use Rattle.wasi_bodies.specs.internal.checks.Buffers.{list_of}
use Rattle.wasi_bodies.specs.internal.files.Writing.{written_at_offset}
use Rattle.wasi_bodies.proofs.bodies.VolumeCalls.{was_working, steps}
use Rattle.wasi_bodies.proofs.files.WriteCalls.{one_after, left_ok, left_err, written_never}
use Rattle.wasi_bodies.proofs.files.writing.write_at.Goals as goal

pub returns-in-Ok : goal.returns-in-Ok
returns-in-Ok g c = record {
  step = steps g.D.Device.honest g.D.Device.disk g.D.Device.size g.D.Device.failures g.D.Device.goes_on c.args.volume.now c.put_bytes.new.volume _ c.in-Ok.ensures.kept c.in-Ok.ensures.crash c.in-Ok.ensures.goes_on;
  answered = λ h w shown.
      let m = c.args.memory.now in
      let old = c.args.volume.now in
      let new = c.put_bytes.new.volume in
      let o = c.args.opened.now in
      let at = c.args.at in
      let all = gathered m (list_of c.args.buffers.now) in
      let part : List ℕ = take PIECE all in
      let result = c.args.result_at in
      let kept = c.in-Ok.ensures.kept in
      let (count, gives) = rw (c.new.ensures, c.lend_buffers-bytes.ensures.bytes) at c.in-Ok.ensures.written h in
      let working : old.failed ≡ false = was_working g.D.Device.honest g.D.Device.size g.D.Device.failures old new false kept refl in
      left_ok g.D.Device.honest g.D.Device.size g.D.Device.failures w m (λ v. written_at_offset v o at all result) (λ v. tree_with v.volume v.tree o.serial at part)
      (λ v T. with_result (record v { tree = T }) result (little_bytes 4 (length part))) old new shown
      (λ u. one_after (tree_call u (tree_with u.volume u.tree o.serial at part)) (λ T. (record u { tree = T }, length part)) (λ r. with_result r.0 result (little_bytes 4 r.1)))
      kept gives (with_volume new w) c.write_bytes.new.memory
      ((λ i. record w { volume = geometry (kept.numbers i); tree = new.tree; volume_failed = (kept.failed ∙ sym working) i })
      ∙ λ i. record w { volume = (sym shown i).volume; tree = new.tree; volume_failed = (sym shown i).volume_failed })
      (c.write_bytes.ensures.bytes ∙ ap (λ (l : List ℕ). written l result c.le32.result) c.lend_buffers-bytes.follows.holds-at-none ∙ ap (written m result) (c.le32.ensures ∙ ap (little_bytes 4) count));
  io = no_29_at_0;
}

pub returns-in-Err : goal.returns-in-Err
returns-in-Err g c = record {
  step = steps g.D.Device.honest g.D.Device.disk g.D.Device.size g.D.Device.failures g.D.Device.goes_on c.args.volume.now c.put_bytes.new.volume _ c.in-Err.ensures.kept c.in-Err.ensures.crash c.in-Err.ensures.goes_on;
  answered = λ h w shown.
      let m = c.args.memory.now in
      let old = c.args.volume.now in
      let new = c.put_bytes.new.volume in
      let o = c.args.opened.now in
      let at = c.args.at in
      let all = gathered m (list_of c.args.buffers.now) in
      let part : List ℕ = take PIECE all in
      let result = c.args.result_at in
      let (tree, meant) = rw (c.new.ensures, c.lend_buffers-bytes.ensures.bytes) at c.in-Err.ensures.refused h in
      rw c.lend_buffers-bytes.follows.holds-at-none (subst (λ (n : ℕ). Answered (λ v. written_at_offset v o at all result) w m (with_volume new w) m n) (sym c.refused.ensures)
      (left_err g.D.Device.honest g.D.Device.size g.D.Device.failures w m (λ v. written_at_offset v o at all result) (λ v. tree_with v.volume v.tree o.serial at part)
      (λ v T. with_result (record v { tree = T }) result (little_bytes 4 (length part))) old new shown
      (λ u. one_after (tree_call u (tree_with u.volume u.tree o.serial at part)) (λ T. (record u { tree = T }, length part)) (λ r. with_result r.0 result (little_bytes 4 r.1)))
      (written_never w.volume w.tree o.serial at part) c.in-Err.errno c.in-Err.ensures.kept tree meant));
  io = asked_29 ℕ c.in-Err.errno _ (λ fails. c.in-Err.ensures.kept.failed ∙ fails) c.refused.ensures;
}
