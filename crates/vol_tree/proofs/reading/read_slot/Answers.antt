use Rattle.std.proofs.Common.{◌≡◌, ◌≤◌, ◌+◌, ◌∙◌, ℕ, true, false, inl, inr, refl, Option, Some, None, IfSome, Ok, OnOk, IfErr, sym, ap, subst, arith}
use Rattle.std.proofs.lemmas.Result.{IfOk-from_err, IfErr-weaker, on_ok_weaker}
use Rattle.vol_sector.specs.Disk.{Image}
use Rattle.vol_sector.specs.Fault.{IsDamage}
use Rattle.vol_sector.proofs.Damages.{damage_not_device, other_than}
use Rattle.vol_sector.specs.declared.fault.VolumeFault.TheVariants.{Device, Memory}
use Rattle.vol_inode.specs.declared.entry.Entry.{Entry}
use Rattle.vol_inode.specs.Entry.{IsEntry}
use Rattle.vol_inode.specs.Spelling.{spelling, unused}
use Rattle.vol_log.specs.Log.{view, device_of}
use Rattle.vol_log.proofs.Readings.{reads_of, reads_then}
use Rattle.vol_body.specs.Survey.{AreInside, IsTrimmed}
use Rattle.vol_body.proofs.SurveyExits.{handed_on, failed_on, device_not_damaged, no_device_failed}
use Rattle.vol_dirs.proofs.Shown.{shown_more, shown_past}
use Rattle.vol_tree.specs.Opened.{data_sectors}
use Rattle.vol_tree.specs.internal.Reads.{AddsSlot, IsNew, FitIn}
use Rattle.vol_tree.proofs.Checked.{held_none, right_none, held_some, right_some, new_placed, some_contradicts, refused_contradicts}
use Rattle.vol_tree.proofs.Committing.{at_ok, on_ok}
use Rattle.vol_tree.proofs.Refusals.{err_not_ok}
use Rattle.vol_tree.proofs.reading.read_slot.Goals as goal
use Rattle.vol_log.specs.declared.layout.TheConstants.{FIRST_AFTER_LOG}
use Rattle.vol_dirs.specs.Slots.{slot_sector}

pub slot_sector-requires : goal.slot_sector-requires
slot_sector-requires g c = omega (arith, c.requires.slot, c.requires.can.ranges.few_slots)

pub read-requires : goal.read-requires
read-requires g c = omega (arith, c.requires.can.there, c.requires.can.ranges.room, c.requires.slot, c.slot_sector.ensures)

pub take_up-requires : goal.take_up-requires
take_up-requires g c =
    let v = c.args.numbers.now in
    let both = subst (λ (o : Option Entry). IfSome o (λ d. IsEntry v.version d × (c.in_ok-image.image ≡ spelling d))) c.in-Ok-Some.field-0-is c.in-Ok-Some.ensures.right in
    record {
      can = record {
        there = subst (λ (n : ℕ). v.sectors ≤ n) (sym c.in_ok-image.ensures.sectors) c.requires.can.there;
        ranges = c.requires.can.ranges;
        working = c.in_ok-image.ensures.failed;
      };
      first = omega arith;
      last = omega (arith, c.requires.slot, c.requires.slots);
      free = λ p n held. let le = c.requires.before p n _ held in omega (arith, le);
      right = both.0;
      within = c.requires.within;
    }

pub returns-in_err-image : goal.returns-in_err-image
returns-in_err-image g c =
    let r = c.from_residual.result in
    let is_err_now = c.from_residual.ensures.0 in
    let is = c.from_residual.ensures.1 in
    let read = c.in_err-image.ensures in
    record {
      adds = λ h. IfOk-from_err r _ is_err_now;
      within = IfOk-from_err r _ is_err_now;
      count = IfOk-from_err r _ is_err_now;
      slots = refl;
      below = IfOk-from_err r _ is_err_now;
      shows = λ h. IfOk-from_err r _ is_err_now;
      right = λ h. IfOk-from_err r _ is_err_now;
      damaged = λ h. handed_on r _ Device is (λ damaged. device_not_damaged damaged);
      refused = handed_on r _ Device is (inr (inl refl));
      reads = reads_of c.args.log.now c.read.new.self true read.view read.staged read.seen read.crash read.sectors read.honest read.size read.goes_on read.failures read.failed;
      failed = failed_on r Device _ is read.failed;
    }

pub returns-in-Ok-Some : goal.returns-in-Ok-Some
returns-in-Ok-Some g c =
    let slot_is : c.slot_sector.result ≡ slot_sector (c.args.slot + 1) = c.slot_sector.ensures ∙ ap slot_sector c.new-serial.ensures in
    let content = view c.args.log.now in
    let read = c.in_ok-image.ensures in
    let v = c.args.numbers.now in
    let dirs = c.args.dirs.now in
    let found = c.args.found.now in
    let e = c.in-Ok-Some.entry in
    let r = c.take_up.result in
    let taken = c.take_up.ensures in
    let names = rw c.new-serial.ensures at taken.names in
    let seats = rw c.new-serial.ensures at taken.seats in
    let placed = rw c.new-serial.ensures at taken.placed in
    let both = subst (λ (o : Option Entry). IfSome o (λ d. IsEntry v.version d × (c.in_ok-image.image ≡ spelling d))) c.in-Ok-Some.field-0-is c.in-Ok-Some.ensures.right in
    let spelled = λ (h : g.D.Device.honest (device_of c.args.log.now)). let is : content (slot_sector (c.args.slot + 1)) ≡ spelling e = ap content (sym slot_is) ∙ sym (read.value h) ∙ both.1 in is in
    record {
      adds = λ h.
          let is = held_some content v c.args.slot c.requires.slot e both.0 (spelled h) in
          subst (λ (o : Option Entry). OnOk r (AddsSlot content o found c.take_up.new.found)) (sym is)
          (subst (λ (m : Image). OnOk r (AddsSlot m (Some e) found c.take_up.new.found)) (read.view h) (taken.adds (read.honest.0 h)));
      within = taken.within;
      count = taken.count;
      slots = taken.slots;
      below = on_ok r _ (λ done p n s held. elim ((at_ok r _ names done p n s).0 held) [
        | inl old ↦ omega (arith, c.requires.before p n s old)
        | inr that ↦ omega (arith, that.serial_is)
      ]);
      shows = λ h. on_ok r _ (λ done. shown_more v.version content c.args.slot e dirs c.take_up.new.dirs (c.requires.shown h) both.0 (spelled h) (at_ok r _ names done) (at_ok r _ seats done));
      right = λ h.
          let trimmed = subst (λ (m : Image). OnOk r (IsTrimmed m e)) (read.view h) (taken.trimmed (read.honest.0 h)) in
          on_ok r _ (λ done. right_some content v c.args.slot c.requires.slot e both.0 (spelled h)
          (new_placed content v c.args.slot c.requires.slot e both.0 (spelled h) dirs (c.requires.shown h) (at_ok r _ placed done)) (at_ok r _ trimmed done));
      damaged = λ h.
          let damaged = subst (λ (m : Image). IfErr r (λ fault. IsDamage fault
          → IsNew dirs (c.args.slot + 1) e → IsTrimmed m e → FitIn m v (Some e) found → ⊥)) (read.view h) (rw c.new-serial.ensures at taken.damaged (read.honest.0 h)) in
          IfErr-weaker r _ _ (λ fault none is. some_contradicts content v c.args.slot c.requires.slot e both.0 (spelled h) dirs (c.requires.shown h) found (none is)) damaged;
      refused = taken.refused;
      reads = reads_then c.args.log.now c.read.new.self c.take_up.new.log read.failed (reads_of c.args.log.now c.read.new.self false read.view read.staged read.seen read.crash read.sectors read.honest read.size read.goes_on read.failures read.failed) taken.reads;
      failed = taken.failed;
    }

pub returns-in-Ok-None : goal.returns-in-Ok-None
returns-in-Ok-None g c =
    let slot_is : c.slot_sector.result ≡ slot_sector (c.args.slot + 1) = c.slot_sector.ensures ∙ ap slot_sector c.new-serial.ensures in
    let content = view c.args.log.now in
    let read = c.in_ok-image.ensures in
    let v = c.args.numbers.now in
    let dirs = c.args.dirs.now in
    let found = c.args.found.now in
    let r = c.pass.result in
    let passed = c.pass.ensures in
    let none = λ (h : g.D.Device.honest (device_of c.args.log.now)). let is : content (slot_sector (c.args.slot + 1)) ≡ unused = ap content (sym slot_is) ∙ sym (read.value h) ∙ c.in-Ok-None.ensures.unused.0 (ap Ok c.in-Ok-None.field-0-is) in is in
    record {
      adds = λ h.
          let is = held_none content v c.args.slot c.requires.slot (none h) in
          on_ok_weaker r (λ adds. subst (λ (o : Option Entry). AddsSlot content o found c.pass.new.self) (sym is) (adds content)) passed.adds;
      within = on_ok r _ (λ done. record {
        inside = subst (AreInside (FIRST_AFTER_LOG + v.slots) v.sectors) (sym passed.named) c.requires.within.inside;
        room = subst (λ (n : ℕ). n ≤ data_sectors v) (sym passed.reserved) c.requires.within.room;
      });
      count = passed.count;
      slots = refl;
      below = on_ok r _ (λ done p n s held. omega (arith, c.requires.before p n s held));
      shows = λ h. on_ok r _ (λ done. shown_past v.version content c.args.slot dirs (c.requires.shown h) (none h));
      right = λ h. on_ok r _ (λ done. right_none content v c.args.slot c.requires.slot (none h));
      damaged = λ h. IfErr-weaker r _ _ (λ fault is damaged. other_than fault Memory is (λ no. no) damaged) passed.refused;
      refused = IfErr-weaker r _ _ (λ fault is. inr (inr is)) passed.refused;
      reads = reads_of c.args.log.now c.read.new.self false read.view read.staged read.seen read.crash read.sectors read.honest read.size read.goes_on read.failures read.failed;
      failed = read.failed ∙ sym (no_device_failed r (IfErr-weaker r _ _ (λ fault is. inr is) passed.refused));
    }

pub returns-in-Err : goal.returns-in-Err
returns-in-Err g c =
    let slot_is : c.slot_sector.result ≡ slot_sector (c.args.slot + 1) = c.slot_sector.ensures ∙ ap slot_sector c.new-serial.ensures in
    let read = c.in_ok-image.ensures in
    let e = c.in-Err.ensures in
    let why = c.in-Err.fault in
    record {
      adds = λ h. tt;
      within = tt;
      count = tt;
      slots = refl;
      below = tt;
      shows = λ h. tt;
      right = λ h. tt;
      damaged = λ h is right fits.
          refused_contradicts (view c.args.log.now) c.args.numbers.now c.args.slot (λ d is_entry spelled. err_not_ok why (Some d) (e.every d is_entry (read.value h ∙ ap (view c.args.log.now) slot_is ∙ spelled)))
          (λ none. err_not_ok why None (e.unused.1 (read.value h ∙ ap (view c.args.log.now) slot_is ∙ none))) right;
      refused = inl e.damaged;
      reads = reads_of c.args.log.now c.read.new.self false read.view read.staged read.seen read.crash read.sectors read.honest read.size read.goes_on read.failures read.failed;
      failed = read.failed ∙ sym (damage_not_device why e.damaged);
    }
