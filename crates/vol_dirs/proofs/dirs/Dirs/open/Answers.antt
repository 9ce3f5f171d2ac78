use Rattle.std.proofs.Common.{◌≡◌, ◌+◌, ◌∙◌, ◌↔◌, ◌⊎◌, inl, inr, ℕ, Bool, true, false, true≢false, List, refl, sym, ap, subst, arith}
use Rattle.vol_sector.specs.Disk.{Image, counted}
use Rattle.vol_log.specs.Log.{view, device_of, has_failed}
use Rattle.vol_dirs.specs.Names.{Names, IsSpelled, Shows}
use Rattle.vol_log.specs.Reading.{OnlyReads}
use Rattle.vol_log.proofs.Readings.{reads_of, reads_same, reads_then}
use Rattle.std.proofs.lemmas.Result.{IfOk-from_err}
use Rattle.vol_sector.specs.declared.fault.VolumeFault.TheVariants as faults
use Rattle.vol_dirs.proofs.Faults.{handed_on, failed_on}
use Rattle.vol_dirs.proofs.Shown.{shown_first, shown_next}
use Rattle.vol_dirs.proofs.dirs.Dirs.open.Goals as goal
use Rattle.vol_dirs.specs.Slots.{slot_sector}

pub loop-slot-init : goal.loop-slot-init
loop-slot-init g c =
    let free = c.in_ok-dirs.ensures.free in
    record {
      kept = c.in_ok-dirs.ensures.slots;
      working = sym {b = has_failed c.args.log.now} c.if-failed.ensures;
      reads = reads_same c.args.log.now;
      below = λ p n s held. absurd (free s p n held);
      shown = λ honest. shown_first c.args.version (view c.args.log.now) c.in_ok-dirs.dirs free;
    }

pub read-requires : goal.read-requires
read-requires g c = omega (arith, c.requires, c.loop-slot.invariant.reads.sectors, c.loop-slot-test.true, c.slot_sector.ensures)

pub hold_image-requires : goal.hold_image-requires
hold_image-requires g c =
    let so_far = c.loop-slot.invariant in
    record {
      first = omega arith;
      last = omega (arith, so_far.kept, c.loop-slot-test.true);
      free = λ p n held. let le = so_far.below p n _ held in omega (arith, le);
    }

pub loop-slot-preserved : goal.loop-slot-preserved
loop-slot-preserved g c =
    let so_far = c.loop-slot.invariant in
    let read = c.in_ok-image.ensures in
    let one : OnlyReads c.loop-slot.log c.read.new.self = record {
      view = read.view;
      staged = read.staged;
      seen = read.seen;
      crash = read.crash;
      sectors = read.sectors;
      honest = read.honest;
      size = read.size;
      goes_on = read.goes_on;
      failures = λ working. read.failures working ∙ ap (λ (b : Bool). counted b (g.D.Device.failures (device_of c.loop-slot.log))) (sym read.failed);
    } in
    record {
      kept = c.hold_image.ensures.slots ∙ so_far.kept;
      working = read.failed;
      reads = reads_then c.args.log.now c.loop-slot.log c.read.new.self so_far.working so_far.reads one;
      below = λ p n s held. elim ((c.hold_image.ensures.names p n s).0 held) [
        | inl old ↦ omega (arith, so_far.below p n s old)
        | inr (same, spelled) ↦ omega arith
      ];
      shown = λ honest.
          let content = view c.args.log.now in
          let bytes : c.in_ok-image.image ≡ content (slot_sector (c.loop-slot.slot + 1)) = read.value (so_far.reads.honest.0 honest) ∙ ap (λ (m : Image). m c.slot_sector.result) (so_far.reads.view honest) ∙ ap content (rw c.new-serial.ensures at c.slot_sector.ensures) in
          let names = subst (λ (b : List ℕ). (p : ℕ) (n : List ℕ) (t : ℕ) → Names c.hold_image.new.self p n t ↔ (Names c.loop-slot.dirs p n t ⊎ (t ≡ c.loop-slot.slot + 1) × IsSpelled c.args.version b p n)) bytes (rw c.new-serial.ensures at c.hold_image.ensures.names) in
          let seat = rw (bytes, c.new-serial.ensures) at c.hold_image.ensures.seat in
          let others = rw c.new-serial.ensures at c.hold_image.ensures.others in
          shown_next c.args.version content c.loop-slot.slot c.loop-slot.dirs c.hold_image.new.self (so_far.shown honest) names seat others;
    }

pub returns-then-failed : goal.returns-then-failed
returns-then-failed g c = record {
  shows = λ honest. tt;
  slots = tt;
  refused = inl refl;
  failed = sym c.failed.ensures ∙ c.if-failed.true;
  idle = λ failed. refl;
  reads = reads_same c.args.log.now;
}

pub returns-in_err-dirs : goal.returns-in_err-dirs
returns-in_err-dirs g c =
    let r = c.from_residual.result in
    let is_err_now = c.from_residual.ensures.0 in
    let is = c.from_residual.ensures.1 in
    record {
      shows = λ honest. IfOk-from_err r _ is_err_now;
      slots = IfOk-from_err r _ is_err_now;
      refused = handed_on r _ faults.Memory is (inr refl);
      failed = sym c.failed.ensures ∙ c.if-failed.false ∙ failed_on r faults.Memory false is refl;
      idle = λ failed. refl;
      reads = reads_same c.args.log.now;
    }

pub returns-in_err-image : goal.returns-in_err-image
returns-in_err-image g c =
    let r = c.from_residual-in_err-image.result in
    let is_err_now = c.from_residual-in_err-image.ensures.0 in
    let is = c.from_residual-in_err-image.ensures.1 in
    let so_far = c.loop-slot.invariant in
    let read = c.in_err-image.ensures in
    let one = reads_of c.loop-slot.log c.read.new.self true read.view read.staged read.seen read.crash read.sectors read.honest read.size read.goes_on read.failures read.failed in
    record {
      shows = λ honest. IfOk-from_err r _ is_err_now;
      slots = IfOk-from_err r _ is_err_now;
      refused = handed_on r _ faults.Device is (inl refl);
      failed = read.failed ∙ failed_on r faults.Device true is refl;
      idle = λ failed. absurd (true≢false (sym failed ∙ sym c.failed.ensures ∙ c.if-failed.false));
      reads = reads_then c.args.log.now c.loop-slot.log c.read.new.self so_far.working so_far.reads one;
    }

pub returns : goal.returns
returns g c =
    let so_far = c.loop-slot.invariant in
    let all : c.loop-slot.slot ≡ c.args.slots = omega (arith, c.loop-slot-test.false, c.loop-slot.auto.slot-end) in
    record {
      shows = λ honest. subst (λ (k : ℕ). Shows c.args.version (view c.args.log.now) k c.loop-slot.dirs) all (so_far.shown honest);
      slots = so_far.kept;
      refused = tt;
      failed = so_far.working;
      idle = λ failed. absurd (true≢false (sym failed ∙ sym c.failed.ensures ∙ c.if-failed.false));
      reads = so_far.reads;
    }
