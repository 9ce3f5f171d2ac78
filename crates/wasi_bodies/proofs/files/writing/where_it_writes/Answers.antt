use Rattle.std.proofs.Common.{refl, sym, ◌∙◌, ap, ℕ}
use Rattle.std.proofs.lemmas.Bool.{false≢true}
use Rattle.wasi_bodies.proofs.bodies.AskingCalls.{asked_step}
use Rattle.wasi_bodies.proofs.bodies.Resting.{volume_rests}
use Rattle.wasi_bodies.proofs.files.writing.where_it_writes.Goals as goal

pub returns-in-Ok : goal.returns-in-Ok
returns-in-Ok g c = record {
  stays = λ stands. absurd (false≢true (sym stands ∙ c.if-not-opened.false));
  at_end = λ append h. let told = rw c.new.ensures at c.in-Ok.ensures.answer h in (ap (λ (n : ℕ). record c.args.opened.now { position = n }) (c.from.ensures ∙ told.0), told.1);
  kept = λ append. c.in-Ok.ensures.kept;
  asked = λ append h. c.in-Ok.ensures.crash h;
  moved = refl;
  step = let told = c.in-Ok.ensures in
      asked_step g.D.Device.honest g.D.Device.disk g.D.Device.size g.D.Device.failures g.D.Device.goes_on c.args.volume.now c.size_of.new.volume _ (record { tree = λ h. (told.answer h).1; crash = told.crash; kept = told.kept; goes = told.goes_on });
  io = λ is. absurd (false≢true is);
}

pub returns-in-Err : goal.returns-in-Err
returns-in-Err g c = record {
  stays = λ stands. absurd (false≢true (sym stands ∙ c.if-not-opened.false));
  at_end = λ append h. c.in-Err.ensures.answer h;
  kept = λ append. c.in-Err.ensures.kept;
  asked = λ append h. c.in-Err.ensures.crash h;
  moved = tt;
  step = let told = c.in-Err.ensures in
      asked_step g.D.Device.honest g.D.Device.disk g.D.Device.size g.D.Device.failures g.D.Device.goes_on c.args.volume.now c.size_of.new.volume _ (record { tree = λ h. (told.answer h).1; crash = told.crash; kept = told.kept; goes = told.goes_on });
  io = λ is. c.in-Err.ensures.kept.failed ∙ is;
}

pub returns-then-not-opened : goal.returns-then-not-opened
returns-then-not-opened g c = record {
  stays = λ stands. (refl, refl);
  at_end = λ append. absurd (false≢true (sym c.if-not-opened.true ∙ append));
  kept = λ append. absurd (false≢true (sym c.if-not-opened.true ∙ append));
  asked = λ append. absurd (false≢true (sym c.if-not-opened.true ∙ append));
  moved = refl;
  step = volume_rests g.D.Device.honest g.D.Device.disk g.D.Device.size g.D.Device.failures g.D.Device.goes_on c.args.volume.now;
  io = λ is. absurd (false≢true is);
}
