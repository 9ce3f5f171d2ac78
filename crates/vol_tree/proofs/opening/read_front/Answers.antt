use Rattle.std.proofs.Common.{◌≡◌, ◌≢◌, ◌<◌, ◌≤◌, ◌∙◌, ⊎_elim, Bool, true, false, ℕ, List, take, drop, inl, inr, refl, sym, ap, subst, Err}
use Rattle.std.proofs.lemmas.Result.{IfOk-from_err}
use Rattle.byteorder.specs.Endian.{little_number}
use Rattle.vol_sector.specs.Disk.{counted}
use Rattle.vol_sector.specs.declared.fault.VolumeFault.TheVariants as faults
use Rattle.vol_body.proofs.SurveyExits.{handed_on, failed_on}
use Rattle.vol_log.proofs.Moments.{leaves_same}
use Rattle.vol_tree.specs.declared.superblock.Superblock.{Superblock}
use Rattle.vol_tree.specs.Superblock.{magic, IsNoVersion}
use Rattle.vol_tree.proofs.Fronts.{not_few, not_enough, none_not_later, damaged_not_front, begins_right, damaged_alone, front_not_device, or_device_last, device_not_front}
use Rattle.vol_tree.proofs.Openings.{one_superblock}
use Rattle.vol_tree.proofs.Refusals.{err_not_ok}
use Rattle.vol_tree.proofs.opening.read_front.Goals as goal

pub returns-then-sectors-lt-LEAST_SECTORS : goal.returns-then-sectors-lt-LEAST_SECTORS
returns-then-sectors-lt-LEAST_SECTORS g c =
    let few = subst (λ (n : ℕ). n < 137) c.sectors.ensures c.if-sectors-lt-LEAST_SECTORS.true in
    let d = g.D.Device.disk c.args.device.now in
    record {
      ranges = tt;
      room = tt;
      front = λ h. tt;
      begins = λ h. tt;
      not_a_volume = λ h is. inl few;
      version = λ h is. none_not_later (inl is);
      damaged = λ h is. none_not_later (inr is);
      few_sectors = λ same. (refl, refl);
      refused = inl refl;
      seen = λ h. refl;
      crash = λ h. leaves_same d (λ m. ⊥);
      honest = (λ h. h, λ h. h);
      size = refl;
      goes_on = λ end first from. from;
      failures = refl;
    }

pub returns-in_err-image : goal.returns-in_err-image
returns-in_err-image g c =
    let r = c.from_residual.result in
    let is_err_now = c.from_residual.ensures.0 in
    let is = c.from_residual.ensures.1 in
    let read = c.in_err-image.ensures in
    record {
      ranges = IfOk-from_err r _ is_err_now;
      room = IfOk-from_err r _ is_err_now;
      front = λ h. IfOk-from_err r _ is_err_now;
      begins = λ h. IfOk-from_err r _ is_err_now;
      not_a_volume = λ h. handed_on r _ faults.Device is (λ none. device_not_front (inl none));
      version = λ h. handed_on r _ faults.Device is (λ version. device_not_front (inr (inl version)));
      damaged = λ h. handed_on r _ faults.Device is (λ damaged. device_not_front (inr (inr damaged)));
      few_sectors = λ few. not_few _ _ c.sectors.ensures c.if-sectors-lt-LEAST_SECTORS.false few;
      refused = handed_on r _ faults.Device is (inr (inr (inr refl)));
      seen = read.seen;
      crash = read.crash;
      honest = read.honest;
      size = read.size;
      goes_on = read.goes_on;
      failures = read.failures ∙ ap (λ (b : Bool). counted b (g.D.Device.failures c.args.device.now)) (failed_on r faults.Device true is refl);
    }

pub returns-in_err-numbers : goal.returns-in_err-numbers
returns-in_err-numbers g c =
    let r = c.from_residual-in_err-numbers.result in
    let is_err_now = c.from_residual-in_err-numbers.ensures.0 in
    let is = c.from_residual-in_err-numbers.ensures.1 in
    let x = c.in_err-numbers.field-0.0 in
    let e = c.in_err-numbers.ensures in
    let read = c.in_ok-image.ensures in
    record {
      ranges = IfOk-from_err r _ is_err_now;
      room = IfOk-from_err r _ is_err_now;
      front = λ h. IfOk-from_err r _ is_err_now;
      begins = λ h. IfOk-from_err r _ is_err_now;
      not_a_volume = λ h. handed_on r _ x is (λ none. inr (subst (λ (b : List ℕ). take 8 b ≢ magic) (read.bytes h) (e.not_a_volume.0 (λ i. Err (none i)))));
      version = λ h. handed_on r _ x is (λ version.
          let both = e.version.0 (λ i. Err (version i)) in
          record {
            begins = λ none. ⊎_elim (λ few. not_few _ _ c.sectors.ensures c.if-sectors-lt-LEAST_SECTORS.false few) (λ other. other (subst (λ (b : List ℕ). take 8 b ≡ magic) (read.bytes h) both.0)) none;
            version = subst (λ (b : List ℕ). IsNoVersion (little_number 4 (drop 8 b))) (read.bytes h) both.1;
          });
      damaged = λ h. handed_on r _ x is (λ damaged.
          let same = read.bytes h in
          record {
            begins = record {
              volume = λ none. ⊎_elim (λ few. not_few _ _ c.sectors.ensures c.if-sectors-lt-LEAST_SECTORS.false few) (λ other. damaged_alone x damaged (inl (e.not_a_volume.1 (subst (λ (b : List ℕ). take 8 b ≢ magic) (sym same) other)))) none;
              version = λ no.
                  let unknown = subst (λ (b : List ℕ). IsNoVersion (little_number 4 (drop 8 b))) (sym same) no in
                  damaged_alone x damaged (inl (e.not_a_volume.1 (λ begins. damaged_alone x damaged (inr (e.version.1 (begins, unknown))))));
            };
            none = λ w T on. err_not_ok x w (e.every w on.stands.ranges (same ∙ on.stands.front));
          });
      few_sectors = λ few. not_few _ _ c.sectors.ensures c.if-sectors-lt-LEAST_SECTORS.false few;
      refused = handed_on r _ x is (or_device_last x e.named);
      seen = read.seen;
      crash = read.crash;
      honest = read.honest;
      size = read.size;
      goes_on = read.goes_on;
      failures = read.failures ∙ ap (λ (b : Bool). counted b (g.D.Device.failures c.args.device.now)) (failed_on r x false is (sym (front_not_device x e.named)));
    }

pub returns-then-sectors-numbers : goal.returns-then-sectors-numbers
returns-then-sectors-numbers g c =
    let read = c.in_ok-image.ensures in
    let e = c.in_ok-numbers.ensures in
    let v = c.in_ok-numbers.numbers in
    let size = g.D.Device.size c.args.device.now in
    record {
      ranges = tt;
      room = tt;
      front = λ h. tt;
      begins = λ h. tt;
      not_a_volume = λ h is. damaged_not_front (inl is);
      version = λ h is. damaged_not_front (inr is);
      damaged = λ h is.
          let front = sym (read.bytes h) ∙ e.right.1 in
          record {
            begins = begins_right size (g.D.Device.disk c.args.device.now).seen v (subst (λ (n : ℕ). 137 ≤ n) c.sectors.ensures c.if-sectors-lt-LEAST_SECTORS.false) front;
            none = λ w T on.
                let same = one_superblock size (g.D.Device.disk c.args.device.now).seen v w T e.right.0 front on in
                not_enough _ _ v.sectors (c.sectors-2.ensures ∙ read.size) c.if-sectors-numbers.true (subst (λ (s : Superblock). s.sectors ≤ size) same on.room);
          };
      few_sectors = λ few. not_few _ _ c.sectors.ensures c.if-sectors-lt-LEAST_SECTORS.false few;
      refused = inr (inr (inl tt));
      seen = read.seen;
      crash = read.crash;
      honest = read.honest;
      size = read.size;
      goes_on = read.goes_on;
      failures = read.failures;
    }

pub returns : goal.returns
returns g c =
    let read = c.in_ok-image.ensures in
    let e = c.in_ok-numbers.ensures in
    record {
      ranges = e.right.0;
      room = subst (λ (n : ℕ). c.in_ok-numbers.numbers.sectors ≤ n) (c.sectors-2.ensures ∙ read.size) c.if-sectors-numbers.false;
      front = λ h. sym (read.bytes h) ∙ e.right.1;
      begins = λ h. begins_right (g.D.Device.size c.args.device.now) (g.D.Device.disk c.args.device.now).seen c.in_ok-numbers.numbers (subst (λ (n : ℕ). 137 ≤ n) c.sectors.ensures c.if-sectors-lt-LEAST_SECTORS.false) (sym (read.bytes h) ∙ e.right.1);
      not_a_volume = λ h. tt;
      version = λ h. tt;
      damaged = λ h. tt;
      few_sectors = λ few. not_few _ _ c.sectors.ensures c.if-sectors-lt-LEAST_SECTORS.false few;
      refused = tt;
      seen = read.seen;
      crash = read.crash;
      honest = read.honest;
      size = read.size;
      goes_on = read.goes_on;
      failures = read.failures;
    }
