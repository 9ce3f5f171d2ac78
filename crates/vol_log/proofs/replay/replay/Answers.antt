use Rattle.std.proofs.Common.{◌≡◌, ◌∙◌, inl, ⊎_elim, List, [], refl, rules, sym, ap, subst, arith, true≢false}
use Rattle.std.proofs.lemmas.Grind.{common_steps}
use Rattle.vol_sector.specs.Disk.{Image, Leaves}
use Rattle.vol_log.specs.Header.{Places}
use Rattle.vol_log.specs.Batch.{HasContent, over}
use Rattle.vol_log.specs.internal.Batch.{numbers}
use Rattle.vol_log.specs.internal.Steps.{Logged}
use Rattle.vol_log.specs.declared.staged.Staged.{Staged}
use Rattle.vol_log.proofs.Moments.{leaves_any, leaves_then, both_then, at_ok, at_err}
use Rattle.vol_log.proofs.Commit.{has_same}
use Rattle.vol_log.proofs.Images.{places_within}
use Rattle.vol_log.proofs.Opening.{has_of, content_of, settled_of, is_device_err, not_damaged, device_named, counts_device}
use Rattle.vol_log.proofs.replay.replay.Goals as goal

pub returns-in_err-is_right : goal.returns-in_err-is_right
returns-in_err-is_right g c =
    let r = c.from_residual.result in
    let failed = c.from_residual.ensures.0 in
    let device = is_device_err r c.from_residual.ensures.1 in
    let s = c.args.sectors in
    let a = g.D.Device.disk c.args.device.now in
    let b = g.D.Device.disk c.read_log.new.device in
    let e = c.read_log.ensures in
    record {
      settled = λ h. at_ok r _ failed;
      content = λ m h has. at_ok r _ failed;
      right = λ h. at_ok r _ failed;
      damaged = λ h is m has. not_damaged r device is;
      quiet = λ h none. e.crash h;
      crash = λ m h has. leaves_any a b (λ x. HasContent s x m) (e.crash h);
      kept_content = λ m h has. at_err r _ (subst (λ (x : Image). HasContent s x m) (sym (e.seen h)) has);
      honest = e.honest;
      size = e.size;
      goes_on = λ end le. e.goes_on end;
      named = device_named r device;
      failures = counts_device r (g.D.Device.failures c.args.device.now) (g.D.Device.failures c.args.device.now) (g.D.Device.failures c.read_log.new.device) device refl c.in_err-is_right.ensures.failures;
      emptied = at_ok r _ failed;
      room_kept = at_ok r _ failed;
    }

pub returns-then-not-is_right : goal.returns-then-not-is_right
returns-then-not-is_right g c =
    let s = c.args.sectors in
    let a = g.D.Device.disk c.args.device.now in
    let b = g.D.Device.disk c.read_log.new.device in
    let e = c.read_log.ensures in
    record {
      settled = λ h. tt;
      content = λ m h has. tt;
      right = λ h. tt;
      damaged = λ h is m has. true≢false (sym (c.in_ok-is_right.ensures.only has.log h has.header).0 ∙ c.if-not-is_right.true);
      quiet = λ h none. e.crash h;
      crash = λ m h has. leaves_any a b (λ x. HasContent s x m) (e.crash h);
      kept_content = λ m h has. subst (λ (x : Image). HasContent s x m) (sym (e.seen h)) has;
      honest = e.honest;
      size = e.size;
      goes_on = λ end le. e.goes_on end;
      named = inl tt;
      failures = c.in_ok-is_right.ensures.failures;
      emptied = tt;
      room_kept = tt;
    }

pub returns-then-is_empty : goal.returns-then-is_empty
returns-then-is_empty g c =
    let s = c.args.sectors in
    let a = g.D.Device.disk c.args.device.now in
    let b = g.D.Device.disk c.read_log.new.device in
    let batch = c.read_log.new.batch.items in
    let e = c.in_ok-is_right.ensures in
    let yes = c.if-not-is_right.false in
    let none : batch ≡ [] = grind (arith, common_steps) in
    record {
      settled = λ h. settled_of s b batch none (e.full h yes);
      content = λ m h has k is.
          ap (λ (l : List Staged). over l b.seen k) (sym none) ∙ content_of s a.seen m b batch (e.seen h) has (e.only has.log h has.header).1 (e.full h yes) k is;
      right = λ h. let logs : Logged s batch b = e.full h yes in has_of s a.seen b.seen batch (e.seen h) logs.header;
      damaged = λ h is m has. absurd is;
      quiet = λ h none. e.crash h;
      crash = λ m h has. leaves_any a b (λ x. HasContent s x m) (e.crash h);
      kept_content = λ m h has. tt;
      honest = e.honest;
      size = e.size;
      goes_on = λ end le. e.goes_on end;
      named = tt;
      failures = e.failures;
      emptied = none;
      room_kept = e.room_kept;
    }

pub returns-in_err-apply_batch : goal.returns-in_err-apply_batch
returns-in_err-apply_batch g c =
    let r = c.from_residual-in_err-apply_batch.result in
    let failed = c.from_residual-in_err-apply_batch.ensures.0 in
    let device = is_device_err r c.from_residual-in_err-apply_batch.ensures.1 in
    let s = c.args.sectors in
    let a = g.D.Device.disk c.args.device.now in
    let b = g.D.Device.disk c.read_log.new.device in
    let d = g.D.Device.disk c.apply_batch.new.device in
    let now = c.deref.result.now in
    let e = c.in_ok-is_right.ensures in
    let f = c.apply_batch.ensures in
    let logs = λ (h : g.D.Device.honest c.args.device.now). subst (λ (l : List Staged). Logged s l b) (sym c.deref.ensures.value) (e.full h c.if-not-is_right.false) in
    let content = λ (m : Image) (h : g.D.Device.honest c.args.device.now) (has : HasContent s a.seen m). content_of s a.seen m b now (e.seen h) has (ap numbers c.deref.ensures.value ∙ (e.only has.log h has.header).1) (logs h) in
    record {
      settled = λ h. at_ok r _ failed;
      content = λ m h has. at_ok r _ failed;
      right = λ h. at_ok r _ failed;
      damaged = λ h is m has. not_damaged r device is;
      quiet = λ h none. let some = has_of s a.seen b.seen now (e.seen h) (let logs1 : Logged s now b = logs h in logs1.header) in absurd (none some.0 some.1);
      crash = λ m h has.
          leaves_then a b d (λ x. ⊥) (λ x. HasContent s x (over now b.seen)) (λ x. HasContent s x m) (e.crash h) (f.crash s (e.honest.0 h) (logs h))
          (λ x none. absurd none) (λ x p. has_same s x (over now b.seen) m (content m h has) p);
      kept_content = λ m h has.
          let h1 = e.honest.0 h in
          let logs1 : Logged s now b = logs h in
          let steps : Leaves b d (λ x. HasContent s x (over now b.seen)) = f.crash s h1 logs1 in
          at_err r _ (⊎_elim (λ was. subst (λ (x : Image). HasContent s x m) (sym (logs1.durable d.seen was ∙ e.seen h)) has) (λ p. has_same s d.seen (over now b.seen) m (content m h has) p)
          (steps.now d.seen (g.met.D.Device.may_stay c.apply_batch.new.device (f.honest.0 h1))));
      honest = both_then e.honest f.honest;
      size = f.size ∙ e.size;
      goes_on = λ end le first from. f.goes_on end (omega (arith, le, c.requires.geometry)) (subst (λ (l : List Staged). Places end (numbers l)) (sym c.deref.ensures.value) (places_within s end _ le (e.places c.if-not-is_right.false))) first (e.goes_on end first from);
      named = device_named r device;
      failures = counts_device r (g.D.Device.failures c.args.device.now) (g.D.Device.failures c.read_log.new.device) (g.D.Device.failures c.apply_batch.new.device) device e.failures c.in_err-apply_batch.ensures.failures;
      emptied = at_ok r _ failed;
      room_kept = at_ok r _ failed;
    }

pub returns : goal.returns
returns g c =
    let s = c.args.sectors in
    let a = g.D.Device.disk c.args.device.now in
    let b = g.D.Device.disk c.read_log.new.device in
    let d = g.D.Device.disk c.apply_batch.new.device in
    let now = c.deref.result.now in
    let e = c.in_ok-is_right.ensures in
    let f = c.apply_batch.ensures in
    let logs = λ (h : g.D.Device.honest c.args.device.now). subst (λ (l : List Staged). Logged s l b) (sym c.deref.ensures.value) (e.full h c.if-not-is_right.false) in
    let content = λ (m : Image) (h : g.D.Device.honest c.args.device.now) (has : HasContent s a.seen m). content_of s a.seen m b now (e.seen h) has (ap numbers c.deref.ensures.value ∙ (e.only has.log h has.header).1) (logs h) in
    record {
      settled = λ h. (c.in_ok-apply_batch.ensures.settled s (e.honest.0 h) (logs h)).0;
      content = λ m h has k is. (c.in_ok-apply_batch.ensures.settled s (e.honest.0 h) (logs h)).1 k is ∙ content m h has k is;
      right = λ h. let logs1 : Logged s now b = logs h in has_of s a.seen b.seen now (e.seen h) logs1.header;
      damaged = λ h is m has. absurd is;
      quiet = λ h none. let some = has_of s a.seen b.seen now (e.seen h) (let logs1 : Logged s now b = logs h in logs1.header) in absurd (none some.0 some.1);
      crash = λ m h has.
          leaves_then a b d (λ x. ⊥) (λ x. HasContent s x (over now b.seen)) (λ x. HasContent s x m) (e.crash h) (f.crash s (e.honest.0 h) (logs h))
          (λ x none. absurd none) (λ x p. has_same s x (over now b.seen) m (content m h has) p);
      kept_content = λ m h has. tt;
      honest = both_then e.honest f.honest;
      size = f.size ∙ e.size;
      goes_on = λ end le first from. f.goes_on end (omega (arith, le, c.requires.geometry)) (subst (λ (l : List Staged). Places end (numbers l)) (sym c.deref.ensures.value) (places_within s end _ le (e.places c.if-not-is_right.false))) first (e.goes_on end first from);
      named = tt;
      failures = c.in_ok-apply_batch.ensures.failures ∙ e.failures;
      emptied = search rules;
      room_kept = search rules;
    }
