use Rattle.std.proofs.Common.{◌≡◌, ◌+◌, ◌==◌, ◌<◌, ℕ, false, cond, List, length, refl, sym, ap, ◌∙◌, subst, arith}
use Rattle.std.proofs.lemmas.Bool.{cond-true, cond-false, eq-eqb, ne_eqb}
use Rattle.byteorder.specs.Endian.{little_bytes}
use Rattle.wasm_store.specs.Bytes.{written}
use Rattle.vol_tree.specs.Opened.{geometry}
use Rattle.wasi_fd.specs.declared.table.Descriptors.{Descriptors}
use Rattle.wasi_fd.specs.Table.{table_of, with_at}
use Rattle.wasi_bodies.proofs.checks.CausesOf29.{asked_29, no_29_at_0}
use Rattle.wasi_bodies.specs.World.{World, with_descriptor, moved_to}
use Rattle.wasi_bodies.specs.Checks.{gathered}
use Rattle.wasi_bodies.specs.Calls.{Answered}
use Rattle.wasi_bodies.specs.internal.Entries.{with_volume, with_table, NoMoreEntries}
use Rattle.wasi_bodies.specs.internal.checks.Buffers.{list_of}
use Rattle.wasi_bodies.specs.internal.files.Writing.{written_on}
use Rattle.wasi_bodies.proofs.bodies.VolumeCalls.{was_working, steps}
use Rattle.wasi_bodies.proofs.descriptors.Shifts.{in_table, table_moved}
use Rattle.wasi_bodies.proofs.files.WriteCalls.{part_of, tree_on, done_on, row_on, left_ok, left_err, written_never, written_small}
use Rattle.wasi_bodies.proofs.bodies.Resting.{no_more}
use Rattle.wasi_bodies.proofs.files.writing.write_on.Goals as goal
use Rattle.wasi_bodies.proofs.files.writing.write_on.Goals.{then-len-gt0, else-len-gt0}

pub returns-after-len-gt0 : goal.returns-after-len-gt0
returns-after-len-gt0 g c = record {
  step = steps g.D.Device.honest g.D.Device.disk g.D.Device.size g.D.Device.failures g.D.Device.goes_on c.args.volume.now c.put_bytes.new.volume _ c.in-Ok.ensures.kept c.in-Ok.ensures.crash c.in-Ok.ensures.goes_on;
  entries = elim c.if-len-gt0.branch [
    | then-len-gt0 b ↦ subst (λ (d : Descriptors). NoMoreEntries (table_of c.args.descriptors.now) (table_of d)) (sym b.descriptors-is) b.move_to.ensures.entries
    | else-len-gt0 b ↦ subst (λ (d : Descriptors). NoMoreEntries (table_of c.args.descriptors.now) (table_of d)) (sym b.descriptors-is) (no_more (table_of c.args.descriptors.now))
  ];
  answered = λ h w table shown.
      let m = c.args.memory.now in
      let old = c.args.volume.now in
      let new = c.put_bytes.new.volume in
      let o = c.args.opened.now in
      let fd = c.args.request.now.fd in
      let result = c.args.request.now.result_at in
      let all = gathered c.lend_buffers-bytes.result.now (list_of c.args.buffers.now) in
      let kept = c.in-Ok.ensures.kept in
      let (count, gives) = rw c.new-serial.ensures at c.in-Ok.ensures.written h in
      let working : old.failed ≡ false = was_working g.D.Device.honest g.D.Device.size g.D.Device.failures old new false kept refl in
      let same : with_volume new w ≡ record w { tree = new.tree } =
      (λ i. record w { volume = geometry (kept.numbers i); tree = new.tree; volume_failed = (kept.failed ∙ sym working) i })
      ∙ λ i. record w { volume = (sym shown i).volume; tree = new.tree; volume_failed = (sym shown i).volume_failed } in
      let moved : World = with_descriptor fd (moved_to o (o.position + length (part_of all))) (record w { tree = new.tree }) in
      let stands : with_table (table_of c.if-len-gt0.descriptors) (with_volume new w) ≡ cond (length (part_of all) == 0) (record w { tree = new.tree }) moved =
      elim c.if-len-gt0.branch [
        | then-len-gt0 b ↦
            let some : 0 < length (part_of all) = omega (arith, b.if-len-gt0.true, count) in
            let small = written_small (geometry old.numbers) old.tree o.serial o.position (part_of all) new.tree some gives in
            let place : b.saturating_add-past.result ≡ o.position + length (part_of all) = omega (arith, b.saturating_add-past.ensures, b.from.ensures, count, small) in
            let tables : table_of c.if-len-gt0.descriptors ≡ with_at fd (moved_to o (o.position + length (part_of all))) w.table =
            ap (λ (d : Descriptors). table_of d) b.descriptors-is
            ∙ (table_moved fd (moved_to o b.saturating_add-past.result) (table_of c.args.descriptors.now) (table_of b.move_to.new.descriptors) w.table b.move_to.ensures.moved table
            ∙ ap (λ (n : ℕ). with_at fd (moved_to o n) w.table) place) in
            (λ i. with_table (tables i) (same i)) ∙ sym (cond-false (length (part_of all) == 0) (record w { tree = new.tree }) moved (ne_eqb _ 0 (λ none. absurd (omega (arith, some, none)))))
        | else-len-gt0 b ↦
            let none : length (part_of all) ≡ 0 = omega (arith, b.if-len-gt0.false, count) in
            let tables : table_of c.if-len-gt0.descriptors ≡ w.table = ap (λ (d : Descriptors). table_of d) b.descriptors-is ∙ sym table in
            (λ i. with_table (tables i) (same i)) ∙ sym (cond-true (length (part_of all) == 0) (record w { tree = new.tree }) moved (eq-eqb _ 0 none))
      ] in
      rw (← c.lend_buffers-bytes.ensures.bytes) (left_ok g.D.Device.honest g.D.Device.size g.D.Device.failures w m (λ v. written_on v fd o all result) (tree_on o all) (done_on fd o all result) old new shown
      (row_on fd o all result) kept gives (with_table (table_of c.if-len-gt0.descriptors) (with_volume new w)) c.write_bytes.new.memory
      stands (c.write_bytes.ensures.bytes ∙ ap (λ (l : List ℕ). written l result c.le32.result) c.lend_buffers-bytes.follows.holds-at-none ∙ ap (written m result) (c.le32.ensures ∙ ap (little_bytes 4) count)));
  io = no_29_at_0;
}

pub returns-in-Err : goal.returns-in-Err
returns-in-Err g c = record {
  step = steps g.D.Device.honest g.D.Device.disk g.D.Device.size g.D.Device.failures g.D.Device.goes_on c.args.volume.now c.put_bytes.new.volume _ c.in-Err.ensures.kept c.in-Err.ensures.crash c.in-Err.ensures.goes_on;
  entries = no_more (table_of c.args.descriptors.now);
  answered = λ h w table shown.
      let m = c.args.memory.now in
      let old = c.args.volume.now in
      let new = c.put_bytes.new.volume in
      let o = c.args.opened.now in
      let fd = c.args.request.now.fd in
      let result = c.args.request.now.result_at in
      let all = gathered m (list_of c.args.buffers.now) in
      let (tree, meant) = rw (c.new-serial.ensures, c.lend_buffers-bytes.ensures.bytes) at c.in-Err.ensures.refused h in
      rw c.lend_buffers-bytes.follows.holds-at-none (subst (λ (n : ℕ). Answered (λ v. written_on v fd o all result) w m (with_table (table_of c.args.descriptors.now) (with_volume new w)) m n) (sym c.refused.ensures)
      (in_table (λ v. written_on v fd o all result) w m (with_volume new w) m _ _ table
      (left_err g.D.Device.honest g.D.Device.size g.D.Device.failures w m (λ v. written_on v fd o all result) (tree_on o all) (done_on fd o all result) old new shown
      (row_on fd o all result) (written_never w.volume w.tree o.serial o.position (part_of all)) c.in-Err.errno c.in-Err.ensures.kept tree meant)));
  io = asked_29 ℕ c.in-Err.errno _ (λ fails. c.in-Err.ensures.kept.failed ∙ fails) c.refused.ensures;
}
