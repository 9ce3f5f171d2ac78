use Rattle.std.proofs.Common.{◌≡◌, ℕ, Err, length, min, take, sym, ap, ◌∙◌, subst}
use Rattle.byteorder.specs.Endian.{little_bytes}
use Rattle.wasm_store.specs.Bytes.{written}
use Rattle.vol_tree.specs.declared.errno.Errno.{Errno}
use Rattle.vol_tree.specs.Numbers.{number_of}
use Rattle.vol_tree.specs.Clauses.{is_io}
use Rattle.wasi_fd.specs.Table.{table_of}
use Rattle.wasi_bodies.specs.internal.files.Listing.{listable}
use Rattle.wasi_bodies.proofs.checks.CausesOf29.{asked_29, check_not_29, no_29_at_0}
use Rattle.wasi_bodies.proofs.checks.NoneAnswers29.{listable_never}
use Rattle.wasi_bodies.specs.World.{World, with_volume_failed}
use Rattle.wasi_bodies.specs.files.Rows.{dirents}
use Rattle.wasi_bodies.specs.Calls.{Answered}
use Rattle.wasi_bodies.specs.internal.Entries.{with_volume}
use Rattle.path_walk.specs.Walk.{Asked}
use Rattle.wasi_bodies.specs.internal.files.Reading.{IsBegun}
use Rattle.wasi_bodies.proofs.checks.Chains.{stops}
use Rattle.wasi_bodies.proofs.bodies.VolumeCalls.{refused_first}
use Rattle.wasi_bodies.proofs.files.DirectoryLists.{list_row, row_of_list, list_done, list_fails}
use Rattle.wasi_bodies.proofs.bodies.AskingCalls.{asked_step}
use Rattle.wasi_bodies.proofs.bodies.Resting.{volume_rests}
use Rattle.wasi_bodies.proofs.files.listing.fd_readdir.Goals as goal

pub returns-in-Err : goal.returns-in-Err
returns-in-Err g c = record {
  step = volume_rests g.D.Device.honest g.D.Device.disk g.D.Device.size g.D.Device.failures g.D.Device.goes_on c.args.volume.now;
  answered = λ h w table shown.
      let m = c.args.memory.now in
      let a = c.args.asked.now in
      refused_first w m (λ v. list_row v m a) c.args.volume.now _ shown (row_of_list w m a ∙ stops _ _ _ (c.in-Err.ensures.checked w table));
  io = check_not_29 (table_of c.args.descriptors.now) (λ w. listable w c.args.memory.now c.args.asked.now) _ (listable_never c.args.memory.now c.args.asked.now) c.in-Err.ensures.checked;
}

pub returns-in-Ok-list_from : goal.returns-in-Ok-list_from
returns-in-Ok-list_from g c = record {
  step = asked_step g.D.Device.honest g.D.Device.disk g.D.Device.size g.D.Device.failures g.D.Device.goes_on c.args.volume.now c.list_from.new.volume _ c.in-Ok-list_from.ensures.asked;
  answered = λ h w table shown.
      let m = c.args.memory.now in
      let a = c.args.asked.now in
      let o = c.in-Ok.opened in
      let done = c.in-Ok-list_from.ensures in
      let all = λ (v : World). dirents v.tree o.serial a.cookie in
      let count : c.in-Ok-list_from.count ≡ min a.len (length (all w)) = (rw c.new-directory.ensures at done.count h) ∙ ap (λ (v : World). min a.len (length (all v))) (sym shown) in
      let bytes : c.list_from.new.memory ≡ written m a.buffer (take a.len (all w)) = (rw c.new-directory.ensures at done.listed h) ∙ ap (λ (v : World). written m a.buffer (take a.len (all v))) (sym shown) in
      list_done g.D.Device.honest g.D.Device.disk g.D.Device.size g.D.Device.failures g.D.Device.goes_on c.args.volume.now c.list_from.new.volume w m a o h shown (c.in-Ok.ensures.checked w table)
      done.asked c.write_bytes.new.memory
      (c.write_bytes.ensures.bytes ∙ λ i. written (bytes i) a.used_at ((c.le32.ensures ∙ ap (little_bytes 4) count) i));
  io = no_29_at_0;
}

pub returns-in-Err-list_from : goal.returns-in-Err-list_from
returns-in-Err-list_from g c = record {
  step = asked_step g.D.Device.honest g.D.Device.disk g.D.Device.size g.D.Device.failures g.D.Device.goes_on c.args.volume.now c.list_from.new.volume _ c.in-Err-list_from.ensures.asked;
  answered = λ h w table shown.
      let m = c.args.memory.now in
      let a = c.args.asked.now in
      let o = c.in-Ok.opened in
      let old = c.args.volume.now in
      let new = c.list_from.new.volume in
      let after = c.list_from.new.memory in
      let fails = c.in-Err-list_from.ensures in
      let (io, begun) = rw c.new-directory.ensures at fails.broke h in
      let asked = subst (λ (e : Errno). Asked g.D.Device.honest g.D.Device.disk g.D.Device.size g.D.Device.failures g.D.Device.goes_on old new (is_io {X = ℕ} (Err e))) io fails.asked in
      subst (λ (n : ℕ). Answered (λ v. list_row v m a) w m (with_volume new w) after n) (sym (c.refused.ensures ∙ ap number_of io))
      (list_fails g.D.Device.honest g.D.Device.disk g.D.Device.size g.D.Device.failures g.D.Device.goes_on old new w m a o h shown (c.in-Ok.ensures.checked w table)
      asked (c.in-Ok.ensures.checked (with_volume_failed w) table) after c.in-Ok.ensures.buffer fails.idle
      (subst (λ (v : World). IsBegun m a.buffer (take a.len (dirents v.tree o.serial a.cookie)) after) (sym shown) begun));
  io = asked_29 ℕ c.in-Err-list_from.errno _ (λ fails. c.in-Err-list_from.ensures.asked.kept.failed ∙ fails) c.refused.ensures;
}
