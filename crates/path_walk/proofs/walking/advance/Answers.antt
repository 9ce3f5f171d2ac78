use Rattle.std.proofs.Common.{ℕ, false, inl, Option, Some, None, Ok, sym, ap, ◌∙◌, subst}
use Rattle.path_walk.specs.Walk.{IsNext}
use Rattle.path_walk.proofs.Advancing.{asked_nothing, asked_passed, entry_after, passed_match, passed_ok, skips_on, after_missing, goes_on, goes_wrong}
use Rattle.path_walk.proofs.walking.advance.Goals as goal

pub returns-then-skips : goal.returns-then-skips
returns-then-skips g c = record {
  asked = asked_nothing g.D.Device.honest g.D.Device.disk g.D.Device.size g.D.Device.failures g.D.Device.goes_on c.args.volume.now c.requires.working;
  answer = λ h. skips_on c.args.volume.now.tree c.args.here c.args.missing c.args.part.now (sym c.if-skips.ensures);
  here = c.requires.here;
  missing = c.requires.missing;
}

pub turn-requires : goal.turn-requires
turn-requires g c = record { here = rw c.new.ensures c.requires.here; name = c.requires.name (sym c.if-skips.ensures) }

pub returns-in_err-next-in-None : goal.returns-in_err-next-in-None
returns-in_err-next-in-None g c =
    let why = c.in_err-next-in-None.field-0.0 in
    let passed = c.from_residual.ensures.1 in
    record {
      asked = asked_passed g.D.Device.honest g.D.Device.disk g.D.Device.size g.D.Device.failures g.D.Device.goes_on (Option ℕ) c.args.volume.now c.turn.new.volume c.from_residual.result why passed c.in_err-next-in-None.ensures.asked;
      answer = λ h names. passed_match _ _ c.from_residual.result why passed
          (goes_wrong c.args.volume.now.tree c.args.here c.args.missing c.args.part.now c.in-None.is (sym c.if-skips.ensures) why (rw c.new.ensures at c.in_err-next-in-None.ensures.answer h) names);
      here = passed_ok _ c.from_residual.result why passed;
      missing = passed_ok _ c.from_residual.result why passed;
    }

pub returns-in-Some : goal.returns-in-Some
returns-in-Some g c = record {
  asked = asked_nothing g.D.Device.honest g.D.Device.disk g.D.Device.size g.D.Device.failures g.D.Device.goes_on c.args.volume.now c.requires.working;
  answer = λ h names. inl (after_missing c.args.volume.now.tree c.args.here c.args.missing c.args.part.now c.in-Some.field-0 c.in-Some.is (sym c.if-skips.ensures) names);
  here = tt;
  missing = tt;
}

pub returns-in-Some-2 : goal.returns-in-Some-2
returns-in-Some-2 g c = rw c.number.ensures (record {
  asked = c.in_ok-next-in-None.ensures.asked;
  answer = λ h names. goes_on c.args.volume.now.tree c.args.here c.args.missing c.args.part.now c.in-None.is (sym c.if-skips.ensures) (Some c.in-Some-2.next)
      ((rw c.new.ensures at c.in_ok-next-in-None.ensures.answer h) ∙ ap Ok c.in-Some-2.is) names;
  here = subst (λ (next : Option ℕ). IsNext g.D.Device.honest c.turn.new.volume next) c.in-Some-2.is c.in_ok-next-in-None.ensures.next;
  missing = tt;
})

pub returns-in-None-2 : goal.returns-in-None-2
returns-in-None-2 g c = record {
  asked = c.in_ok-next-in-None.ensures.asked;
  answer = λ h names. goes_on c.args.volume.now.tree c.args.here c.args.missing c.args.part.now c.in-None.is (sym c.if-skips.ensures) None
      ((rw c.new.ensures at c.in_ok-next-in-None.ensures.answer h) ∙ ap Ok c.in-None-2.is) names;
  here = entry_after g.D.Device.honest g.D.Device.disk g.D.Device.size g.D.Device.failures g.D.Device.goes_on c.args.volume.now c.turn.new.volume false c.args.here c.in_ok-next-in-None.ensures.asked c.requires.here;
  missing = c.requires.name (sym c.if-skips.ensures) (c.in_ok-next-in-None.ensures.named c.in-None-2.is);
}
