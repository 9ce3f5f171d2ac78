use Rattle.std.proofs.Common.{◌≡◌, ◌+◌, ℕ, true, false, List, Err, length, sym, ap, ◌∙◌, subst, refl}
use Rattle.byteorder.specs.Endian.{little_bytes}
use Rattle.wasm_store.specs.Bytes.{written}
use Rattle.vol_tree.specs.declared.errno.Errno.{Errno}
use Rattle.vol_tree.specs.Numbers.{number_of}
use Rattle.vol_tree.specs.Tree.{Tree}
use Rattle.vol_tree.specs.Clauses.{is_io}
use Rattle.wasi_fd.specs.Table.{table_of, with_at}
use Rattle.wasi_bodies.proofs.checks.CausesOf29.{asked_29, no_29_at_0}
use Rattle.wasi_bodies.specs.World.{World, moved_to}
use Rattle.wasi_bodies.specs.Calls.{Answered, IsMixed}
use Rattle.wasi_bodies.specs.internal.Entries.{with_volume, with_table}
use Rattle.path_walk.specs.Walk.{Asked}
use Rattle.wasi_bodies.specs.internal.checks.Buffers.{list_of}
use Rattle.wasi_bodies.specs.internal.files.Reading.{wanted, received, read_file_to}
use Rattle.wasi_bodies.proofs.bodies.VolumeCalls.{was_working, same_volume}
use Rattle.wasi_bodies.proofs.bodies.AskingCalls.{asked_step}
use Rattle.wasi_bodies.proofs.descriptors.Shifts.{in_table, table_moved}
use Rattle.wasi_bodies.proofs.files.ReadCalls.{told_bytes, broke_off, done_file, row_file}
use Rattle.wasi_bodies.proofs.bodies.Resting.{no_more}
use Rattle.wasi_bodies.proofs.files.reading.read_file.Goals as goal

pub returns-in-Err : goal.returns-in-Err
returns-in-Err g c = record {
  step = asked_step g.D.Device.honest g.D.Device.disk g.D.Device.size g.D.Device.failures g.D.Device.goes_on c.args.volume.now c.read_at.new.volume _ c.in-Err.ensures.asked;
  entries = no_more (table_of c.args.descriptors.now);
  answered = λ h w table shown.
      let m = c.args.memory.now in
      let m' = c.read_at.new.memory in
      let old = c.args.volume.now in
      let new = c.read_at.new.volume in
      let o = c.args.opened.now in
      let fd = c.args.request.now.fd in
      let bs = list_of c.args.buffers.now in
      let result = c.args.request.now.result_at in
      let (io, mixed) = rw c.new-serial.ensures at c.in-Err.ensures.broke h in
      let asked : Asked g.D.Device.honest g.D.Device.disk g.D.Device.size g.D.Device.failures g.D.Device.goes_on old new true =
      subst (λ (e : Errno). Asked g.D.Device.honest g.D.Device.disk g.D.Device.size g.D.Device.failures g.D.Device.goes_on old new (is_io {X = ℕ} (Err e))) io c.in-Err.ensures.asked in
      let tree : w.tree ≡ old.tree = ap (λ (w : World). w.tree) shown in
      let meant = λ (v : World). wanted v.tree o.serial o.position bs in
      let run = λ (v : World). read_file_to v fd o bs result in
      subst (λ (n : ℕ). Answered run w m (with_table (table_of c.args.descriptors.now) (with_volume new w)) m' n) (sym (c.refused.ensures ∙ ap number_of io))
      (in_table run w m (with_volume new w) m' 29 _ table
      (broke_off g.D.Device.honest g.D.Device.disk g.D.Device.size g.D.Device.failures g.D.Device.goes_on w m run meant (done_file fd o bs result) old new shown (row_file fd o bs result)
      h asked m' c.in-Err.ensures.idle (subst (λ (T : Tree). IsMixed m (received m (wanted T o.serial o.position bs) bs) m') (sym tree) mixed)));
  io = asked_29 ℕ c.in-Err.errno _ (λ fails. c.in-Err.ensures.asked.kept.failed ∙ fails) c.refused.ensures;
}

pub returns-in-Ok : goal.returns-in-Ok
returns-in-Ok g c = record {
  step = asked_step g.D.Device.honest g.D.Device.disk g.D.Device.size g.D.Device.failures g.D.Device.goes_on c.args.volume.now c.read_at.new.volume _ c.in-Ok.ensures.asked;
  entries = c.move_to.ensures.entries;
  answered = λ h w table shown.
      let m = c.args.memory.now in
      let old = c.args.volume.now in
      let new = c.read_at.new.volume in
      let o = c.args.opened.now in
      let fd = c.args.request.now.fd in
      let bs = list_of c.args.buffers.now in
      let result = c.args.request.now.result_at in
      let asked = c.in-Ok.ensures.asked in
      let working : old.failed ≡ false = was_working g.D.Device.honest g.D.Device.size g.D.Device.failures old new false asked.kept refl in
      let (count, bytes) = rw c.new-serial.ensures at c.in-Ok.ensures.read h in
      let meant = λ (v : World). wanted v.tree o.serial o.position bs in
      let all : wanted old.tree o.serial o.position bs ≡ meant w = ap (λ (w : World). meant w) (sym shown) in
      let so_many : c.in-Ok.len ≡ length (meant w) = count ∙ ap (λ (xs : List ℕ). length xs) all in
      let tables : table_of c.move_to.new.descriptors ≡ with_at fd (moved_to o (o.position + length (meant w))) w.table =
      table_moved fd (moved_to o _) (table_of c.args.descriptors.now) (table_of c.move_to.new.descriptors) w.table c.move_to.ensures.moved table
      ∙ ap (λ (n : ℕ). with_at fd (moved_to o (o.position + n)) w.table) (c.from.ensures ∙ so_many) in
      let same : with_volume new w ≡ w = same_volume w m old new shown asked.kept.numbers (asked.tree h) (asked.kept.failed ∙ sym working) in
      told_bytes g.D.Device.honest g.D.Device.disk g.D.Device.size g.D.Device.failures g.D.Device.goes_on w m (λ v. read_file_to v fd o bs result) meant (done_file fd o bs result) old new shown (row_file fd o bs result)
      asked (with_table (table_of c.move_to.new.descriptors) (with_volume new w)) c.write_bytes.new.memory
      (λ i. with_table (tables i) (same i))
      (c.write_bytes.ensures.bytes
      ∙ ((λ i. written (bytes i) result (c.le32.ensures i))
      ∙ (λ i. written (received m (all i) bs) result (little_bytes 4 (so_many i)))));
  io = no_29_at_0;
}
