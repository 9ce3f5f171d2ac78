use Rattle.std.proofs.Common.{◌≡◌, ℕ, true, ◌&&◌, nat_lt, Some, refl, sym, ap, ◌∙◌, subst, length, arith}
use Rattle.byteorder.specs.Endian.{little_bytes}
use Rattle.wasm_store.specs.Bytes.{written}
use Rattle.vol_tree.specs.Numbers.{number_of}
use Rattle.wasi_fd.specs.declared.descriptor.Descriptor.TheVariants.{Entry}
use Rattle.wasi_fd.specs.declared.descriptor.Opened.{Opened as OpenedEntry}
use Rattle.wasi_fd.specs.Table.{Table, table_of}
use Rattle.wasi_bodies.specs.internal.descriptors.Positions.{seekable, position_at}
use Rattle.wasi_bodies.proofs.checks.CausesOf29.{asked_29, check_not_29, no_29_at_0, not_29}
use Rattle.wasi_bodies.proofs.checks.NoneAnswers29.{seekable_never}
use Rattle.wasi_bodies.specs.World.{World, with_volume_failed, with_descriptor, moved_to}
use Rattle.wasi_bodies.specs.Checks.{only_files, with_result}
use Rattle.wasi_bodies.specs.descriptors.Rows.{fd_seek}
use Rattle.wasi_bodies.specs.Calls.{Answered, by_row, is_entry}
use Rattle.wasi_bodies.specs.internal.Entries.{with_volume, with_table}
use Rattle.wasi_bodies.proofs.checks.Chains.{goes_on, stops}
use Rattle.wasi_bodies.proofs.OpenEntries.{seek_open, file_at}
use Rattle.wasi_bodies.proofs.bodies.Answering.{answers_done, answers_refused}
use Rattle.wasi_bodies.proofs.bodies.VolumeCalls.{refused_first, failed_by}
use Rattle.wasi_bodies.proofs.descriptors.Shifts.{row_of_seek, sought_never, in_table, table_moved, never_position}
use Rattle.wasi_bodies.proofs.bodies.Resting.{volume_rests, no_more}
use Rattle.wasi_bodies.proofs.descriptors.positions.fd_seek.Goals as goal

-- an entry is asked how long it is
asked : (table : Table) (fd whence : ℕ) (o : OpenedEntry) → table fd ≡ Some (Entry o) → nat_lt 1 whence ≡ true → (is_entry (table fd) && nat_lt 1 whence) ≡ true
asked table fd whence o at far = λ i. is_entry (at i) && far i

pub returns-in-Err : goal.returns-in-Err
returns-in-Err g c = record {
  step = volume_rests g.D.Device.honest g.D.Device.disk g.D.Device.size g.D.Device.failures g.D.Device.goes_on c.args.volume.now;
  entries = no_more (table_of c.args.descriptors.now);
  answered = λ h w table shown.
      let m = c.args.memory.now in
      let run = λ (v : World). fd_seek v m c.args.fd c.args.delta c.args.whence c.args.result_at in
      in_table run w m _ m _ _ table
      (refused_first w m run c.args.volume.now _ shown
      (row_of_seek w m c.args.fd c.args.delta c.args.whence c.args.result_at ∙ stops _ _ _ (c.in-Err.ensures.checked w table)));
  io = check_not_29 (table_of c.args.descriptors.now) (λ w. seekable w c.args.memory.now c.args.fd c.args.delta c.args.whence c.args.result_at) _ (seekable_never c.args.memory.now c.args.fd c.args.delta c.args.whence c.args.result_at) c.in-Err.ensures.checked;
}

pub seek_from-requires-clause-file : goal.seek_from-requires-clause-file
seek_from-requires-clause-file g c =
    let at = seek_open (table_of c.args.descriptors.now) c.args.memory.now c.args.fd c.args.delta c.args.whence c.args.result_at c.in-Ok.opened c.in-Ok.ensures.checked in
    file_at g.D.Device.honest c.args.volume.now (table_of c.args.descriptors.now) c.requires c.args.fd only_files 31 c.in-Ok.opened refl at.0 at.1

pub move_to-requires : goal.move_to-requires
move_to-requires g c =
    let at = seek_open (table_of c.args.descriptors.now) c.args.memory.now c.args.fd c.args.delta c.args.whence c.args.result_at c.in-Ok.opened c.in-Ok.ensures.checked in
    record { open_as = c.in-Ok.opened; is = at.0; moved = refl }

pub write_bytes-requires : goal.write_bytes-requires
write_bytes-requires g c = let eight : length c.le64.result ≡ 8 = ap length c.le64.ensures in omega (arith, c.in-Ok.ensures.inside)

pub returns-in-Err-seek_from : goal.returns-in-Err-seek_from
returns-in-Err-seek_from g c = record {
  step = c.in-Err-seek_from.ensures.step;
  entries = no_more (table_of c.args.descriptors.now);
  answered = λ h w table shown.
      let m = c.args.memory.now in
      let o = c.in-Ok.opened in
      let run = λ (v : World). fd_seek v m c.args.fd c.args.delta c.args.whence c.args.result_at in
      let row = λ (v : World). row_of_seek v m c.args.fd c.args.delta c.args.whence c.args.result_at in
      let new = c.seek_from.new.volume in
      let at = seek_open (table_of c.args.descriptors.now) m c.args.fd c.args.delta c.args.whence c.args.result_at o c.in-Ok.ensures.checked in
      let f = c.in-Err-seek_from.ensures.failed (λ far. h (asked (table_of c.args.descriptors.now) c.args.fd c.args.whence o at.0 far)) w shown in
      subst (λ (n : ℕ). Answered run w m (with_table (table_of c.args.descriptors.now) (with_volume new w)) m n) (sym (c.refused.ensures ∙ ap number_of f.io))
      (in_table run w m (with_volume new w) m 29 _ table
      (failed_by w m run c.args.volume.now new shown f.numbers f.tree f.failed
      (row (with_volume_failed w) ∙ (goes_on _ _ o (c.in-Ok.ensures.checked (with_volume_failed w) table) ∙ stops _ _ 29 f.gone))
      (λ alive is. sought_never w c.args.fd c.args.delta c.args.whence c.args.result_at o (f.never alive)
      (sym (row w ∙ goes_on _ _ o (c.in-Ok.ensures.checked w table)) ∙ is))));
  io = asked_29 ℕ c.in-Err-seek_from.errno _ c.in-Err-seek_from.ensures.io c.refused.ensures;
}

pub returns-in-Ok-position_at : goal.returns-in-Ok-position_at
returns-in-Ok-position_at g c = record {
  step = c.in-Ok-seek_from.ensures.step;
  entries = c.move_to.ensures.entries;
  answered = λ h w table shown.
      let m = c.args.memory.now in
      let o = c.in-Ok.opened in
      let at = c.in-Ok-position_at.at in
      let there = seek_open (table_of c.args.descriptors.now) m c.args.fd c.args.delta c.args.whence c.args.result_at o c.in-Ok.ensures.checked in
      let t = c.in-Ok-seek_from.ensures.told (λ far. h (asked (table_of c.args.descriptors.now) c.args.fd c.args.whence o there.0 far)) w shown in
      let tables : table_of c.move_to.new.descriptors ≡ (with_descriptor c.args.fd (moved_to o at) w).table =
      table_moved c.args.fd (moved_to o at) (table_of c.args.descriptors.now) (table_of c.move_to.new.descriptors) w.table c.move_to.ensures.moved table in
      by_row (answers_done _ w m _ _ (with_result (with_descriptor c.args.fd (moved_to o at) w) c.args.result_at (little_bytes 8 at))
      (row_of_seek w m c.args.fd c.args.delta c.args.whence c.args.result_at ∙ (goes_on _ _ o (c.in-Ok.ensures.checked w table)
      ∙ (goes_on _ _ c.in-Ok-seek_from.from t.told ∙ goes_on _ _ at c.in-Ok-position_at.ensures)))
      (λ i. with_table (tables i) (t.same i))
      (c.write_bytes.ensures.bytes ∙ ap (written m c.args.result_at) c.le64.ensures));
  io = no_29_at_0;
}

pub returns-in-Err-position_at : goal.returns-in-Err-position_at
returns-in-Err-position_at g c = record {
  step = c.in-Ok-seek_from.ensures.step;
  entries = no_more (table_of c.args.descriptors.now);
  answered = λ h w table shown.
      let m = c.args.memory.now in
      let o = c.in-Ok.opened in
      let run = λ (v : World). fd_seek v m c.args.fd c.args.delta c.args.whence c.args.result_at in
      let there = seek_open (table_of c.args.descriptors.now) m c.args.fd c.args.delta c.args.whence c.args.result_at o c.in-Ok.ensures.checked in
      let t = c.in-Ok-seek_from.ensures.told (λ far. h (asked (table_of c.args.descriptors.now) c.args.fd c.args.whence o there.0 far)) w shown in
      in_table run w m (with_volume c.seek_from.new.volume w) m _ _ table
      (by_row (answers_refused (run w) w m (with_volume c.seek_from.new.volume w) m _
      (row_of_seek w m c.args.fd c.args.delta c.args.whence c.args.result_at ∙ (goes_on _ _ o (c.in-Ok.ensures.checked w table)
      ∙ (goes_on _ _ c.in-Ok-seek_from.from t.told ∙ stops _ _ _ c.in-Err-position_at.ensures)))
      t.same refl));
  io = not_29 (position_at c.in-Ok-seek_from.from c.args.delta) _ (never_position c.in-Ok-seek_from.from c.args.delta) c.in-Err-position_at.ensures;
}
