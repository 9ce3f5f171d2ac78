use Rattle.std.proofs.Common.{◌≡◌, ℕ, true, false, List, [], ◌∷◌, Err, length, sym, ap, ◌∙◌, subst, refl}
use Rattle.byteorder.specs.Endian.{little_bytes}
use Rattle.wasm_store.specs.Bytes.{written}
use Rattle.vol_tree.specs.declared.errno.Errno.{Errno}
use Rattle.vol_tree.specs.Numbers.{number_of}
use Rattle.vol_tree.specs.Tree.{Tree}
use Rattle.vol_tree.specs.Clauses.{is_io}
use Rattle.wasi_bodies.proofs.checks.CausesOf29.{asked_29, no_29_at_0}
use Rattle.wasi_bodies.specs.World.{World}
use Rattle.wasi_bodies.specs.Checks.{scattered}
use Rattle.wasi_bodies.specs.Calls.{Answered, IsMixed}
use Rattle.wasi_bodies.specs.internal.Entries.{with_volume}
use Rattle.path_walk.specs.Walk.{Asked}
use Rattle.wasi_bodies.specs.internal.checks.Buffers.{list_of}
use Rattle.wasi_bodies.specs.internal.files.Reading.{wanted, received, read_into}
use Rattle.wasi_bodies.proofs.bodies.VolumeCalls.{was_working, same_volume}
use Rattle.wasi_bodies.proofs.bodies.AskingCalls.{asked_step}
use Rattle.wasi_bodies.proofs.files.ReadCalls.{told_bytes, broke_off}
use Rattle.wasi_bodies.proofs.files.reading.read_placed.Goals as goal

pub returns-in-Err : goal.returns-in-Err
returns-in-Err g c = record {
  step = asked_step g.D.Device.honest g.D.Device.disk g.D.Device.size g.D.Device.failures g.D.Device.goes_on c.args.volume.now c.read_at.new.volume _ c.in-Err.ensures.asked;
  answered = λ h w shown.
      let m = c.args.memory.now in
      let m' = c.read_at.new.memory in
      let old = c.args.volume.now in
      let new = c.read_at.new.volume in
      let o = c.args.opened.now in
      let from = c.args.from in
      let bs = list_of c.args.buffers.now in
      let result = c.args.request.now.result_at in
      let (io, mixed) = rw c.new.ensures at c.in-Err.ensures.broke h in
      let asked : Asked g.D.Device.honest g.D.Device.disk g.D.Device.size g.D.Device.failures g.D.Device.goes_on old new true =
      subst (λ (e : Errno). Asked g.D.Device.honest g.D.Device.disk g.D.Device.size g.D.Device.failures g.D.Device.goes_on old new (is_io {X = ℕ} (Err e))) io c.in-Err.ensures.asked in
      let tree : w.tree ≡ old.tree = ap (λ (w : World). w.tree) shown in
      let meant = λ (v : World). wanted v.tree o.serial from bs in
      subst (λ (n : ℕ). Answered (λ v. read_into v o from bs result) w m (with_volume new w) m' n) (sym (c.refused.ensures ∙ ap number_of io))
      (broke_off g.D.Device.honest g.D.Device.disk g.D.Device.size g.D.Device.failures g.D.Device.goes_on w m (λ v. read_into v o from bs result) meant
      (λ v xs. record { world = v; fills = scattered xs bs; results = (result, little_bytes 4 (length xs)) ∷ [] }) old new shown (λ u. refl)
      h asked m' c.in-Err.ensures.idle (subst (λ (T : Tree). IsMixed m (received m (wanted T o.serial from bs) bs) m') (sym tree) mixed));
  io = asked_29 ℕ c.in-Err.errno _ (λ fails. c.in-Err.ensures.asked.kept.failed ∙ fails) c.refused.ensures;
}

pub returns-in-Ok : goal.returns-in-Ok
returns-in-Ok g c = record {
  step = asked_step g.D.Device.honest g.D.Device.disk g.D.Device.size g.D.Device.failures g.D.Device.goes_on c.args.volume.now c.read_at.new.volume _ c.in-Ok.ensures.asked;
  answered = λ h w shown.
      let m = c.args.memory.now in
      let old = c.args.volume.now in
      let new = c.read_at.new.volume in
      let o = c.args.opened.now in
      let from = c.args.from in
      let bs = list_of c.args.buffers.now in
      let result = c.args.request.now.result_at in
      let asked = c.in-Ok.ensures.asked in
      let working : old.failed ≡ false = was_working g.D.Device.honest g.D.Device.size g.D.Device.failures old new false asked.kept refl in
      let (count, bytes) = rw c.new.ensures at c.in-Ok.ensures.read h in
      let tree : w.tree ≡ old.tree = ap (λ (w : World). w.tree) shown in
      let meant = λ (v : World). wanted v.tree o.serial from bs in
      let all : wanted old.tree o.serial from bs ≡ meant w = ap (λ (T : Tree). wanted T o.serial from bs) (sym tree) in
      let so_many : c.in-Ok.len ≡ length (meant w) = count ∙ ap (λ (xs : List ℕ). length xs) all in
      told_bytes g.D.Device.honest g.D.Device.disk g.D.Device.size g.D.Device.failures g.D.Device.goes_on w m (λ v. read_into v o from bs result) meant
      (λ v xs. record { world = v; fills = scattered xs bs; results = (result, little_bytes 4 (length xs)) ∷ [] }) old new shown (λ u. refl)
      asked (with_volume new w) c.write_bytes.new.memory
      (same_volume w m old new shown asked.kept.numbers (asked.tree h) (asked.kept.failed ∙ sym working))
      (c.write_bytes.ensures.bytes
      ∙ ((λ i. written (bytes i) result (c.le32.ensures i))
      ∙ (λ i. written (received m (all i) bs) result (little_bytes 4 (so_many i)))));
  io = no_29_at_0;
}
