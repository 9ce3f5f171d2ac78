use Rattle.std.proofs.Common.{◌≡◌, ℕ, false, Ok, Err, refl, sym, ap, ◌∙◌, arith, length, []}
use Rattle.vol_tree.specs.declared.errno.Errno.{Errno}
use Rattle.vol_tree.specs.Clauses.{is_io}
use Rattle.vol_tree.specs.Calls.{bytes_at}
use Rattle.std.proofs.lemmas.Bool.{false≢true, lt-ltb}
use Rattle.wasi_bodies.specs.World.{World, with_volume_failed}
use Rattle.wasi_bodies.proofs.bodies.VolumeCalls.{was_working, same_volume, tree_called_alive, tree_called_gone}
use Rattle.wasi_bodies.proofs.descriptors.Shifts.{from_end}
use Rattle.wasi_bodies.proofs.bodies.AskingCalls.{asked_step}
use Rattle.wasi_bodies.proofs.bodies.Resting.{volume_rests}
use Rattle.wasi_bodies.proofs.checks.NoneAnswers0.{ok_no_err}
use Rattle.wasi_bodies.proofs.descriptors.positions.seek_from.Goals as goal

pub returns-in-Ok : goal.returns-in-Ok
returns-in-Ok g c = record {
  step = let told = c.in-Ok.ensures in
      asked_step g.D.Device.honest g.D.Device.disk g.D.Device.size g.D.Device.failures g.D.Device.goes_on c.args.volume.now c.size_of.new.volume _ (record { tree = λ h. (told.answer h).1; crash = told.crash; kept = told.kept; goes = told.goes_on });
  told = λ h w shown.
      let old = c.args.volume.now in
      let new = c.size_of.new.volume in
      let o = c.args.opened.now in
      let k = c.in-Ok.ensures.kept in
      let (told, tree) = rw c.new.ensures at c.in-Ok.ensures.answer (h (lt-ltb 1 c.args.whence (omega arith))) in
      let working : old.failed ≡ false = was_working g.D.Device.honest g.D.Device.size g.D.Device.failures old new false k refl in
      let alive : w.volume_failed ≡ false = ap (λ (w : World). w.volume_failed) shown ∙ working in
      let size : length (bytes_at w.tree o.serial) ≡ c.from.result = ap (λ (w : World). length (bytes_at w.tree o.serial)) shown ∙ (sym told ∙ sym c.from.ensures) in
      record {
        told = from_end w o c.args.whence (omega arith) ∙ (tree_called_alive w (Ok (length (bytes_at w.tree o.serial))) alive ∙ ap Ok size);
        same = same_volume w [] old new shown k.numbers tree (k.failed ∙ sym working);
      };
  failed = λ h w shown. tt;
  io = λ is. absurd (false≢true is);
}

pub returns-in-Err : goal.returns-in-Err
returns-in-Err g c = record {
  step = let told = c.in-Err.ensures in
      asked_step g.D.Device.honest g.D.Device.disk g.D.Device.size g.D.Device.failures g.D.Device.goes_on c.args.volume.now c.size_of.new.volume _ (record { tree = λ h. (told.answer h).1; crash = told.crash; kept = told.kept; goes = told.goes_on });
  told = λ h w shown. tt;
  failed = λ h w shown.
      let o = c.args.opened.now in
      let k = c.in-Err.ensures.kept in
      let (io, tree) = c.in-Err.ensures.answer (h (lt-ltb 1 c.args.whence (omega arith))) in
      let size = length (bytes_at w.tree o.serial) in
      record {
        io = io;
        numbers = k.numbers;
        tree = tree;
        failed = k.failed ∙ ap (λ (e : Errno). is_io {X = ℕ} (Err e)) io;
        gone = from_end (with_volume_failed w) o c.args.whence (omega arith) ∙ tree_called_gone w (Ok size);
        never = λ alive is. ok_no_err _ size 29 (from_end w o c.args.whence (omega arith) ∙ tree_called_alive w (Ok size) alive) is;
      };
  io = λ is. c.in-Err.ensures.kept.failed ∙ is;
}

pub returns-in-1-clause-step : goal.returns-in-1-clause-step
returns-in-1-clause-step g c = volume_rests g.D.Device.honest g.D.Device.disk g.D.Device.size g.D.Device.failures g.D.Device.goes_on c.args.volume.now

pub returns-in-0-clause-step : goal.returns-in-0-clause-step
returns-in-0-clause-step g c = volume_rests g.D.Device.honest g.D.Device.disk g.D.Device.size g.D.Device.failures g.D.Device.goes_on c.args.volume.now
