use Rattle.std.proofs.Common.{◌∙◌, List, sym, subst, ap, ◌≡◌, [], refl, true≢false, arith}
use Rattle.vol_sector.specs.Disk.{Leaves}
use Rattle.vol_log.specs.Header.{Places}
use Rattle.vol_log.specs.Batch.{over, SameContent, HasEither, Settled}
use Rattle.vol_log.specs.internal.Batch.{numbers}
use Rattle.vol_log.specs.declared.staged.Staged.{Staged}
use Rattle.vol_log.proofs.Commit.{no_places}
use Rattle.vol_log.proofs.Moments.{leaves_same}
use Rattle.std.proofs.lemmas.Grind.{common_steps}
use Rattle.vol_log.specs.Log.{view}
use Rattle.vol_log.proofs.log.Log.commit.Goals as goal

pub invariant_of-self-in-Ok-clause-placed : goal.invariant_of-self-in-Ok-clause-placed
invariant_of-self-in-Ok-clause-placed g c =
    subst (λ (b : List Staged). Places c.args.self.now.sectors (numbers b)) (sym c.clear.ensures.staged) (no_places c.args.self.now.sectors)

pub invariant_of-self-in-Ok-clause-settled : goal.invariant_of-self-in-Ok-clause-settled
invariant_of-self-in-Ok-clause-settled g c h ok =
    let log = c.args.self.now in
    let h0 = c.commit_batch.ensures.honest.1 h in
    let places : Places log.sectors (numbers c.deref.result.now) = subst (λ (b : List Staged). Places log.sectors (numbers b)) (sym c.deref.ensures.value) log.placed in
    let done = c.in-Ok.ensures.settled log.sectors h0 (log.settled h0 ok) places in
    done.0

pub returns-in-Ok-clause-done : goal.returns-in-Ok-clause-done
returns-in-Ok-clause-done g c h =
    let log = c.args.self.now in
    let ok = c.if-self.false in
    let places : Places log.sectors (numbers c.deref.result.now) = subst (λ (b : List Staged). Places log.sectors (numbers b)) (sym c.deref.ensures.value) log.placed in
    let done = c.in-Ok.ensures.settled log.sectors h (log.settled h ok) places in
    subst (λ (b : List Staged). Settled log.sectors (g.D.Device.disk c.commit_batch.new.device) × SameContent (g.D.Device.disk c.commit_batch.new.device).seen (over b (g.D.Device.disk log.device).seen)) c.deref.ensures.value done

pub returns-in-Ok-clause-crash : goal.returns-in-Ok-clause-crash
returns-in-Ok-clause-crash g c h =
    let log = c.args.self.now in
    let ok = c.if-self.false in
    let places : Places log.sectors (numbers c.deref.result.now) = subst (λ (b : List Staged). Places log.sectors (numbers b)) (sym c.deref.ensures.value) log.placed in
    let leaves = c.commit_batch.ensures.crash log.sectors h (log.settled h ok) places in
    subst (λ (b : List Staged). Leaves (g.D.Device.disk log.device) (g.D.Device.disk c.commit_batch.new.device) (HasEither log.sectors (g.D.Device.disk log.device).seen (over b (g.D.Device.disk log.device).seen))) c.deref.ensures.value leaves

pub returns-in-Ok-clause-keeps : goal.returns-in-Ok-clause-keeps
returns-in-Ok-clause-keeps g c h =
    let log = c.args.self.now in
    let ok = c.if-self.false in
    let places : Places log.sectors (numbers c.deref.result.now) = subst (λ (b : List Staged). Places log.sectors (numbers b)) (sym c.deref.ensures.value) log.placed in
    let done = c.in-Ok.ensures.settled log.sectors h (log.settled h ok) places in
    λ k is. ap (λ (b : List Staged). over b (g.D.Device.disk c.commit_batch.new.device).seen k) c.clear.ensures.staged ∙ done.1 k is ∙ ap (λ (b : List Staged). over b (g.D.Device.disk log.device).seen k) c.deref.ensures.value

pub returns-in-Err-clause-crash : goal.returns-in-Err-clause-crash
returns-in-Err-clause-crash g c h =
    let log = c.args.self.now in
    let ok = c.if-self.false in
    let places : Places log.sectors (numbers c.deref.result.now) = subst (λ (b : List Staged). Places log.sectors (numbers b)) (sym c.deref.ensures.value) log.placed in
    let leaves = c.commit_batch.ensures.crash log.sectors h (log.settled h ok) places in
    subst (λ (b : List Staged). Leaves (g.D.Device.disk log.device) (g.D.Device.disk c.commit_batch.new.device) (HasEither log.sectors (g.D.Device.disk log.device).seen (over b (g.D.Device.disk log.device).seen))) c.deref.ensures.value leaves

pub returns-then-self : goal.returns-then-self
returns-then-self g c =
    let log = c.args.self.now in
    let failed = c.if-self.true in
    record {
      done = tt;
      crash = λ h. leaves_same (g.D.Device.disk log.device) (HasEither log.sectors (g.D.Device.disk log.device).seen (view log));
      keeps = λ h k is. refl;
      empty = tt;
      kept = refl;
      failed = failed;
      idle = λ idle. (refl, refl);
      nothing = λ none working. absurd (true≢false (sym failed ∙ working));
      sectors = refl;
      honest = (λ h. h, λ h. h);
      size = refl;
      goes_on = λ end le first from. from;
      failures = λ working. absurd (true≢false (sym failed ∙ working));
    }

pub returns-then-is_empty : goal.returns-then-is_empty
returns-then-is_empty g c =
    let log = c.args.self.now in
    let working = c.if-self.false in
    let none : log.batch.staged.items ≡ [] = grind (arith, common_steps) in
    record {
      done = λ h. (log.settled h working, λ k is. ap (λ (b : List Staged). over b (g.D.Device.disk log.device).seen k) (sym none));
      crash = λ h. leaves_same (g.D.Device.disk log.device) (HasEither log.sectors (g.D.Device.disk log.device).seen (view log));
      keeps = λ h k is. refl;
      empty = none;
      kept = tt;
      failed = working;
      idle = λ failed. absurd (true≢false (sym failed ∙ working));
      nothing = λ none working. (refl, refl);
      sectors = refl;
      honest = (λ h. h, λ h. h);
      size = refl;
      goes_on = λ end le first from. from;
      failures = λ working. refl;
    }

pub returns-in-Ok-clause-empty : goal.returns-in-Ok-clause-empty
returns-in-Ok-clause-empty g c = c.clear.ensures.staged

pub returns-in-Ok-clause-failed : goal.returns-in-Ok-clause-failed
returns-in-Ok-clause-failed g c = c.if-self.false

pub returns-in-Ok-clause-idle : goal.returns-in-Ok-clause-idle
returns-in-Ok-clause-idle g c = λ failed. absurd (true≢false (sym failed ∙ c.if-self.false))

pub returns-in-Ok-clause-sectors : goal.returns-in-Ok-clause-sectors
returns-in-Ok-clause-sectors g c = refl

pub returns-in-Ok-clause-honest : goal.returns-in-Ok-clause-honest
returns-in-Ok-clause-honest g c = c.commit_batch.ensures.honest

pub returns-in-Ok-clause-size : goal.returns-in-Ok-clause-size
returns-in-Ok-clause-size g c = c.commit_batch.ensures.size

pub returns-in-Ok-clause-failures : goal.returns-in-Ok-clause-failures
returns-in-Ok-clause-failures g c = λ working. c.in-Ok.ensures.failures

pub returns-in-Err-clause-done : goal.returns-in-Err-clause-done
returns-in-Err-clause-done g c = tt

pub returns-in-Err-clause-empty : goal.returns-in-Err-clause-empty
returns-in-Err-clause-empty g c = tt

pub returns-in-Err-clause-kept : goal.returns-in-Err-clause-kept
returns-in-Err-clause-kept g c = refl

pub returns-in-Err-clause-failed : goal.returns-in-Err-clause-failed
returns-in-Err-clause-failed g c = refl

pub returns-in-Err-clause-idle : goal.returns-in-Err-clause-idle
returns-in-Err-clause-idle g c = λ failed. absurd (true≢false (sym failed ∙ c.if-self.false))

pub returns-in-Err-clause-sectors : goal.returns-in-Err-clause-sectors
returns-in-Err-clause-sectors g c = refl

pub returns-in-Err-clause-honest : goal.returns-in-Err-clause-honest
returns-in-Err-clause-honest g c = c.commit_batch.ensures.honest

pub returns-in-Err-clause-size : goal.returns-in-Err-clause-size
returns-in-Err-clause-size g c = c.commit_batch.ensures.size

pub returns-in-Err-clause-failures : goal.returns-in-Err-clause-failures
returns-in-Err-clause-failures g c = λ working. c.in-Err.ensures.failures

pub returns-in-Err-clause-keeps : goal.returns-in-Err-clause-keeps
returns-in-Err-clause-keeps g c h =
    let log = c.args.self.now in
    subst (λ (b : List Staged). SameContent (over b (g.D.Device.disk c.commit_batch.new.device).seen) (over b (g.D.Device.disk log.device).seen)) c.deref.ensures.value (c.commit_batch.ensures.keeps h)

pub invariant_of-self : goal.invariant_of-self
invariant_of-self c = grind (arith, common_steps)

pub invariant_of-self-in-Err : goal.invariant_of-self-in-Err
invariant_of-self-in-Err c = grind (arith, common_steps)

pub returns-in-Err-clause-nothing : goal.returns-in-Err-clause-nothing
returns-in-Err-clause-nothing c = grind (arith, common_steps)

pub returns-in-Ok-clause-nothing : goal.returns-in-Ok-clause-nothing
returns-in-Ok-clause-nothing c = grind (arith, common_steps)
