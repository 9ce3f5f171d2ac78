use Rattle.std.proofs.Common.{◌≡◌, ◌^◌, ℕ, List, false, Option, Ok, Some, refl, sym, ap, ◌∙◌, subst}
use Rattle.wasm_store.specs.Bytes.{written}
use Rattle.wasi_fd.specs.Table.{table_of}
use Rattle.wasi_bodies.specs.declared.checks.DescriptorKinds.TheVariants as takes
use Rattle.wasi_bodies.proofs.checks.CausesOf29.{asked_29, check_not_29, no_29_at_0, not_29}
use Rattle.wasi_bodies.proofs.checks.NoneAnswers29.{descriptor_never, range_never}
use Rattle.wasi_bodies.specs.World.{World, with_volume_failed}
use Rattle.wasi_bodies.specs.Checks.{any_kind, with_result, descriptor, range}
use Rattle.wasi_bodies.specs.declared.streams.Terminals.{Terminals}
use Rattle.wasi_bodies.specs.descriptors.Rows.{fd_filestat_get, filestat, type_of_stream, entry_stat, stat_of}
use Rattle.wasi_fd.specs.declared.descriptor.Descriptor.TheVariants.{Entry}
use Rattle.wasi_bodies.specs.Calls.{Answered, is_entry}
use Rattle.wasi_bodies.specs.internal.Entries.{with_volume, refusals_of}
use Rattle.wasi_bodies.proofs.checks.Chains.{goes_on, stops}
use Rattle.wasi_bodies.proofs.OpenEntries.{at_descriptor, is_used}
use Rattle.wasi_bodies.proofs.bodies.VolumeCalls.{is_no_err, was_working, same_volume, refused_first, done_by, tree_refuses, tree_called_alive, tree_called_gone}
use Rattle.wasi_bodies.proofs.bodies.Resting.{volume_rests}
use Rattle.wasi_bodies.proofs.bodies.AskingCalls.{asked_step}
use Rattle.wasi_bodies.proofs.descriptors.stat.filestat_get.Goals as goal

pub returns-in-Err : goal.returns-in-Err
returns-in-Err g c = record {
  step = volume_rests g.D.Device.honest g.D.Device.disk g.D.Device.size g.D.Device.failures g.D.Device.goes_on c.args.volume.now;
  answered = λ h w table shown talks.
      refused_first w c.args.memory.now (λ v. fd_filestat_get v c.args.memory.now c.args.fd c.args.result_at) c.args.volume.now _ shown (stops _ _ _ (c.in-Err.ensures w table));
  io = check_not_29 (table_of c.args.descriptors.now) (λ w. descriptor w c.args.fd (refusals_of takes.Any) (2 ^ 21)) _ (descriptor_never c.args.fd takes.Any (2 ^ 21)) c.in-Err.ensures;
}

pub returns-in-Err-check_range : goal.returns-in-Err-check_range
returns-in-Err-check_range g c = record {
  step = volume_rests g.D.Device.honest g.D.Device.disk g.D.Device.size g.D.Device.failures g.D.Device.goes_on c.args.volume.now;
  answered = λ h w table shown talks.
      refused_first w c.args.memory.now (λ v. fd_filestat_get v c.args.memory.now c.args.fd c.args.result_at) c.args.volume.now _ shown
      (goes_on _ _ c.in-Ok.descriptor (c.in-Ok.ensures w table) ∙ stops _ _ _ c.in-Err-check_range.ensures.range);
  io = not_29 (range c.args.memory.now c.args.result_at 64) _ (range_never c.args.memory.now c.args.result_at 64) c.in-Err-check_range.ensures.range;
}

pub stat_entry-requires : goal.stat_entry-requires
stat_entry-requires g c =
    let o = c.in-Entry.opened in
    let at = at_descriptor (table_of c.args.descriptors.now) c.args.fd any_kind (2 ^ 21) c.in-Ok.descriptor c.in-Ok.ensures ∙ ap Some c.in-Entry.is in
    let number = c.requires.numbers c.args.fd o at in
    rw c.new.ensures (record {
      first = number.first;
      last = number.last;
      used = λ h. let there = c.requires.there h c.args.fd o at in is_used c.args.volume.now.tree o.serial there.e there.used;
    })

pub returns-in-Stream : goal.returns-in-Stream
returns-in-Stream g c = record {
  step = volume_rests g.D.Device.honest g.D.Device.disk g.D.Device.size g.D.Device.failures g.D.Device.goes_on c.args.volume.now;
  answered = λ h w table shown talks.
      let m = c.args.memory.now in
      let s = c.in-Stream.stream in
      let bytes = filestat 0 (type_of_stream w.interactive s) 0 in
      let same : c.type_of_stream.result ≡ type_of_stream w.interactive s = c.type_of_stream.ensures ∙ ap (λ (t : Option Terminals). type_of_stream t s) (sym talks) in
      done_by w m (λ v. fd_filestat_get v m c.args.fd c.args.result_at) c.args.volume.now _ (with_result w c.args.result_at bytes)
      (goes_on _ _ c.in-Ok.descriptor (c.in-Ok.ensures w table) ∙ (goes_on _ _ tt c.in_default.ensures.range ∙ goes_on _ _ bytes (ap (stat_of w) c.in-Stream.is)))
      (sym shown) (c.write_bytes.ensures.bytes ∙ ap (written m c.args.result_at) (c.filestat-bytes.ensures ∙ ap (λ (k : ℕ). filestat 0 k 0) same));
  io = no_29_at_0;
}

pub returns-in-Ok-stat_entry : goal.returns-in-Ok-stat_entry
returns-in-Ok-stat_entry g c = record {
  step = let told = c.in-Ok-stat_entry.ensures in
      asked_step g.D.Device.honest g.D.Device.disk g.D.Device.size g.D.Device.failures g.D.Device.goes_on c.args.volume.now c.stat_entry.new.volume _ (record { tree = λ h. (told.answer h).1; crash = told.crash; kept = told.kept; goes = told.goes_on });
  answered = λ h w table shown talks.
      let m = c.args.memory.now in
      let old = c.args.volume.now in
      let new = c.stat_entry.new.volume in
      let o = c.in-Entry.opened in
      let k = c.in-Ok-stat_entry.ensures.kept in
      let at : table_of c.args.descriptors.now c.args.fd ≡ Some (Entry o) = at_descriptor (table_of c.args.descriptors.now) c.args.fd any_kind (2 ^ 21) c.in-Ok.descriptor c.in-Ok.ensures ∙ ap Some c.in-Entry.is in
      let (told, tree) = rw c.new.ensures at c.in-Ok-stat_entry.ensures.answer (h (ap is_entry at)) in
      let working : old.failed ≡ false = was_working g.D.Device.honest g.D.Device.size g.D.Device.failures old new false k refl in
      let alive : w.volume_failed ≡ false = ap (λ (w : World). w.volume_failed) shown ∙ working in
      let bytes = entry_stat w.tree o.serial in
      let same : c.in-Ok-stat_entry.bytes ≡ bytes = told ∙ ap (λ (w : World). entry_stat w.tree o.serial) (sym shown) in
      done_by w m (λ v. fd_filestat_get v m c.args.fd c.args.result_at) new _ (with_result w c.args.result_at bytes)
      (goes_on _ _ c.in-Ok.descriptor (c.in-Ok.ensures w table) ∙ (goes_on _ _ tt c.in_default.ensures.range
      ∙ goes_on _ _ bytes (ap (stat_of w) c.in-Entry.is ∙ tree_called_alive w (Ok bytes) alive)))
      (same_volume w m old new shown k.numbers tree (k.failed ∙ sym working)) (c.write_bytes-in-Ok-stat_entry.ensures.bytes ∙ ap (written m c.args.result_at) same);
  io = no_29_at_0;
}

pub returns-in-Err-stat_entry : goal.returns-in-Err-stat_entry
returns-in-Err-stat_entry g c = record {
  step = let told = c.in-Err-stat_entry.ensures in
      asked_step g.D.Device.honest g.D.Device.disk g.D.Device.size g.D.Device.failures g.D.Device.goes_on c.args.volume.now c.stat_entry.new.volume _ (record { tree = λ h. (told.answer h).1; crash = told.crash; kept = told.kept; goes = told.goes_on });
  answered = λ h w table shown talks.
      let m = c.args.memory.now in
      let old = c.args.volume.now in
      let new = c.stat_entry.new.volume in
      let o = c.in-Entry.opened in
      let e = c.in-Err-stat_entry.errno in
      let at = c.args.result_at in
      let open_at : table_of c.args.descriptors.now c.args.fd ≡ Some (Entry o) = at_descriptor (table_of c.args.descriptors.now) c.args.fd any_kind (2 ^ 21) c.in-Ok.descriptor c.in-Ok.ensures ∙ ap Some c.in-Entry.is in
      let (io, tree) = c.in-Err-stat_entry.ensures.answer (h (ap is_entry open_at)) in
      let bytes = entry_stat w.tree o.serial in
      subst (λ (n : ℕ). Answered (λ v. fd_filestat_get v m c.args.fd at) w m (with_volume new w) m n) (sym c.refused.ensures)
      (tree_refuses w m g.D.Device.honest g.D.Device.size g.D.Device.failures (List ℕ) (λ v. fd_filestat_get v m c.args.fd at) old new e c.in-Err-stat_entry.ensures.kept shown tree
      (λ alive other. absurd (other io))
      (goes_on _ _ c.in-Ok.descriptor (c.in-Ok.ensures (with_volume_failed w) table) ∙ (goes_on _ _ tt c.in_default.ensures.range
      ∙ stops _ _ 29 (ap (stat_of (with_volume_failed w)) c.in-Entry.is ∙ tree_called_gone w (Ok bytes))))
      (λ alive. is_no_err _ (with_result w at bytes) 29 (goes_on _ _ c.in-Ok.descriptor (c.in-Ok.ensures w table) ∙ (goes_on _ _ tt c.in_default.ensures.range
      ∙ goes_on _ _ bytes (ap (stat_of w) c.in-Entry.is ∙ tree_called_alive w (Ok bytes) alive)))));
  io = asked_29 (List ℕ) c.in-Err-stat_entry.errno _ (λ fails. c.in-Err-stat_entry.ensures.kept.failed ∙ fails) c.refused.ensures;
}
