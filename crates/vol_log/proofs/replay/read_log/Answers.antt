use Rattle.std.proofs.Common.{◌≡◌, ◌∙◌, List, ℕ, refl, sym, ap, subst, arith, true≢false}
use Rattle.std.proofs.lemmas.List.{with_items_is}
use Rattle.std.proofs.lemmas.Grind.{common_steps}
use Rattle.vol_sector.specs.Disk.{Image, Only}
use Rattle.vol_log.specs.Header.{IsHeader, Places}
use Rattle.vol_log.specs.Batch.{logged}
use Rattle.vol_log.specs.internal.Batch.{numbers}
use Rattle.vol_log.proofs.Moments.{only_along, leaves_quiet, both_then, at_ok, counts_one}
use Rattle.vol_log.proofs.Opening.{only_keeps, full}
use Rattle.vol_log.proofs.replay.read_log.Goals as goal

pub returns-in_err-sync : goal.returns-in_err-sync
returns-in_err-sync g c =
    let r = c.from_residual.result in
    let failed = c.from_residual.ensures.0 in
    record {
      full = λ h. at_ok r _ failed;
      places = at_ok r _ failed;
      only = λ ns h is. at_ok r _ failed;
      seen = c.sync.ensures.seen;
      crash = c.sync.ensures.crash;
      honest = c.sync.ensures.honest;
      size = c.sync.ensures.size;
      goes_on = c.sync.ensures.goes_on;
      failures = counts_one r (g.D.Device.failures c.args.device.now) (g.D.Device.failures c.args.device.now) (g.D.Device.failures c.sync.new.self) failed refl c.in_err-sync.ensures.failures;
      room_kept = c.requires.room;
    }

pub returns-in_err-header : goal.returns-in_err-header
returns-in_err-header g c =
    let r = c.from_residual-in_err-header.result in
    let failed = c.from_residual-in_err-header.ensures.0 in
    let a = g.D.Device.disk c.args.device.now in
    let b = g.D.Device.disk c.sync.new.self in
    let d = g.D.Device.disk c.read.new.self in
    let first = c.sync.ensures in
    let second = c.read.ensures in
    record {
      full = λ h. at_ok r _ failed;
      places = at_ok r _ failed;
      only = λ ns h is. at_ok r _ failed;
      seen = λ h. second.seen (first.honest.0 h) ∙ first.seen h;
      crash = λ h. leaves_quiet a b d (λ m. ⊥) (first.crash h) (second.crash (first.honest.0 h));
      honest = both_then first.honest second.honest;
      size = second.size ∙ first.size;
      goes_on = λ end start from. second.goes_on end start (first.goes_on end start from);
      failures = counts_one r (g.D.Device.failures c.args.device.now) (g.D.Device.failures c.sync.new.self) (g.D.Device.failures c.read.new.self) failed c.in_ok-sync.ensures.failures c.in_err-header.ensures.failures;
      room_kept = c.requires.room;
    }

pub returns-then-not-read_header : goal.returns-then-not-read_header
returns-then-not-read_header g c =
    let a = g.D.Device.disk c.args.device.now in
    let b = g.D.Device.disk c.sync.new.self in
    let d = g.D.Device.disk c.read.new.self in
    let first = c.sync.ensures in
    let second = c.read.ensures in
    record {
      full = λ h no. absurd (true≢false (sym no));
      places = λ no. absurd (true≢false (sym no));
      only = λ ns h is. c.if-not-read_header.ensures.only ns (subst (λ (x : List ℕ). IsHeader c.args.sectors x ns) (sym (c.in_ok-header.ensures.bytes (first.honest.0 h) ∙ ap (λ (x : Image). x 1) (first.seen h))) is);
      seen = λ h. second.seen (first.honest.0 h) ∙ first.seen h;
      crash = λ h. leaves_quiet a b d (λ m. ⊥) (first.crash h) (second.crash (first.honest.0 h));
      honest = both_then first.honest second.honest;
      size = second.size ∙ first.size;
      goes_on = λ end start from. second.goes_on end start (first.goes_on end start from);
      failures = c.in_ok-header.ensures.failures ∙ c.in_ok-sync.ensures.failures;
      room_kept = omega (arith, c.requires.room, c.read_header.ensures.capacity);
    }

pub returns-in_err-read_images : goal.returns-in_err-read_images
returns-in_err-read_images g c =
    let r = c.from_residual-in_err-read_images.result in
    let failed = c.from_residual-in_err-read_images.ensures.0 in
    let a = g.D.Device.disk c.args.device.now in
    let b = g.D.Device.disk c.sync.new.self in
    let d = g.D.Device.disk c.read.new.self in
    let e = g.D.Device.disk c.read_images.new.device in
    let first = c.sync.ensures in
    let second = c.read.ensures in
    let third = c.read_images.ensures in
    record {
      full = λ h. at_ok r _ failed;
      places = at_ok r _ failed;
      only = λ ns h is. at_ok r _ failed;
      seen = λ h. let h1 = first.honest.0 h in third.seen (second.honest.0 h1) ∙ second.seen h1 ∙ first.seen h;
      crash = λ h. let h1 = first.honest.0 h in leaves_quiet a d e (λ m. ⊥) (leaves_quiet a b d (λ m. ⊥) (first.crash h) (second.crash h1)) (third.crash (second.honest.0 h1));
      honest = both_then first.honest (both_then second.honest third.honest);
      size = third.size ∙ second.size ∙ first.size;
      goes_on = λ end start from. third.goes_on end start (second.goes_on end start (first.goes_on end start from));
      failures = counts_one r (g.D.Device.failures c.args.device.now) (g.D.Device.failures c.read.new.self) (g.D.Device.failures c.read_images.new.device) failed (c.in_ok-header.ensures.failures ∙ c.in_ok-sync.ensures.failures) c.in_err-read_images.ensures.failures;
      room_kept = omega (arith, c.requires.room, c.read_header.ensures.capacity);
    }

pub returns : goal.returns
returns g c =
    let s = c.args.sectors in
    let a = g.D.Device.disk c.args.device.now in
    let b = g.D.Device.disk c.sync.new.self in
    let d = g.D.Device.disk c.read.new.self in
    let e = g.D.Device.disk c.read_images.new.device in
    let first = c.sync.ensures in
    let second = c.read.ensures in
    let third = c.read_images.ensures in
    let old = c.read_header.new.batch.items in
    let images = c.read_images.new.batch in
    let header = c.in_ok-header.header in
    let right : IsHeader s header (numbers old) = c.read_header.ensures.right c.if-not-read_header.false in
    let whole = with_items_is c.read_header.new.batch images (omega (arith, c.read_images.auto.batch, c.deref_mut.ensures.len)) in
    let same : numbers _ ≡ numbers old = ap numbers whole ∙ third.sectors ∙ ap numbers c.deref_mut.ensures.value in
    record {
      full = λ h yes.
          let h1 = first.honest.0 h in
          let h2 = second.honest.0 h1 in
          let d_is : d.seen ≡ a.seen = second.seen h1 ∙ first.seen h in
          let e_is : e.seen ≡ d.seen = third.seen h2 in
          let at_e : header ≡ e.seen 1 = c.in_ok-header.ensures.bytes h1 ∙ ap (λ (x : Image). x 1) (sym (e_is ∙ second.seen h1)) in
          let read = whole ∙ c.in_ok-read_images.ensures.read h2 ∙ (λ i. logged (numbers (c.deref_mut.ensures.value i)) 2 (sym e_is i)) in
          let only_b : Only b.seen b.may_leave = only_along a.seen b.seen b.may_leave (first.seen h) (c.in_ok-sync.ensures.durable h) in
          let only_d : Only d.seen d.may_leave = only_keeps b d only_b (second.crash h1) (second.seen h1) in
          full s e header _ old (only_keeps d e only_d (third.crash h2) e_is) right at_e same read;
      places = λ yes. subst (λ (ns : List ℕ). Places s ns) (sym same) right.places;
      only = λ ns h is.
          let at_a = c.in_ok-header.ensures.bytes (first.honest.0 h) ∙ ap (λ (x : Image). x 1) (first.seen h) in
          let found = c.read_header.ensures.only ns (subst (λ (x : List ℕ). IsHeader s x ns) (sym at_a) is) in
          (refl, same ∙ found.1);
      seen = λ h. let h1 = first.honest.0 h in third.seen (second.honest.0 h1) ∙ second.seen h1 ∙ first.seen h;
      crash = λ h. let h1 = first.honest.0 h in leaves_quiet a d e (λ m. ⊥) (leaves_quiet a b d (λ m. ⊥) (first.crash h) (second.crash h1)) (third.crash (second.honest.0 h1));
      honest = both_then first.honest (both_then second.honest third.honest);
      size = third.size ∙ second.size ∙ first.size;
      goes_on = λ end start from. third.goes_on end start (second.goes_on end start (first.goes_on end start from));
      failures = c.in_ok-read_images.ensures.failures ∙ c.in_ok-header.ensures.failures ∙ c.in_ok-sync.ensures.failures;
      room_kept = omega (arith, c.requires.room, c.read_header.ensures.capacity);
    }

pub read_images-requires-clause-few : goal.read_images-requires-clause-few
read_images-requires-clause-few c = grind (arith, common_steps)
