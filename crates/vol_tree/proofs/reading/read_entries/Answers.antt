use Rattle.std.proofs.Common.{◌≡◌, ◌≤◌, ◌∙◌, ◌+◌, ℕ, length, refl, sym, ap, subst, arith}
use Rattle.vol_sector.specs.Disk.{Image}
use Rattle.vol_sector.specs.Fault.{IsDamage}
use Rattle.vol_log.specs.Log.{view}
use Rattle.vol_log.proofs.Readings.{reads_same, reads_then}
use Rattle.vol_dirs.specs.Names.{Shows}
use Rattle.vol_dirs.proofs.Shown.{shown_first}
use Rattle.vol_tree.specs.declared.reading.Entries.{Entries}
use Rattle.vol_tree.specs.internal.Reads.{held_at, AddsSlot, IsRight, FitIn, HaveRead}
use Rattle.vol_tree.proofs.Checked.{none_inside, none_read, more_read}
use Rattle.vol_tree.proofs.ChecksHold.{not_refused}
use Rattle.vol_tree.proofs.Refusals.{named_at, device_at}
use Rattle.vol_tree.proofs.reading.read_entries.Goals as goal
use Rattle.vol_log.specs.declared.layout.TheConstants.{FIRST_AFTER_LOG}

pub loop-slot-preserved : goal.loop-slot-preserved
loop-slot-preserved g c =
    let so_far = c.loop-slot.invariant in
    let done = c.in-Ok.ensures in
    let content = view c.args.log.now in
    let v = c.args.numbers.now in
    let s = c.loop-slot.slot in
    record {
      working = done.failed;
      reads = reads_then c.args.log.now c.loop-slot.log c.read_slot.new.log so_far.working so_far.reads done.reads;
      count = omega (arith, done.count, so_far.count);
      within = done.within;
      slots = done.slots ∙ so_far.slots;
      below = done.below;
      shows = λ h.
          let h1 = so_far.reads.honest.0 h in
          subst (λ (m : Image). Shows v.version m (s + 1) c.read_slot.new.dirs) (so_far.reads.view h) (done.shows h1);
      read = λ h.
          let h1 = so_far.reads.honest.0 h in
          more_read content v s c.loop-slot.found c.read_slot.new.found c.loop-slot-test.true (so_far.read h)
          (subst (λ (m : Image). AddsSlot m (held_at m v s) c.loop-slot.found c.read_slot.new.found) (so_far.reads.view h) (done.adds h1))
          (subst (λ (m : Image). IsRight m v s (held_at m v s)) (so_far.reads.view h) (done.right h1));
    }

pub read_slot-requires : goal.read_slot-requires
read_slot-requires g c =
    let so_far = c.loop-slot.invariant in
    record {
      can = record {
        there = subst (λ (n : ℕ). c.args.numbers.now.sectors ≤ n) (sym so_far.reads.sectors) c.requires.can.there;
        ranges = c.requires.can.ranges;
        working = so_far.working;
      };
      slot = c.loop-slot-test.true;
      slots = so_far.slots ∙ c.requires.slots;
      before = so_far.below;
      shown = λ h1.
          let h = so_far.reads.honest.1 h1 in
          subst (λ (m : Image). Shows c.args.numbers.now.version m c.loop-slot.slot c.loop-slot.dirs) (sym (so_far.reads.view h)) (so_far.shows h);
      within = so_far.within;
    }

pub returns-in-Err : goal.returns-in-Err
returns-in-Err g c =
    let content = view c.args.log.now in
    let v = c.args.numbers.now in
    let s = c.loop-slot.slot in
    let so_far = c.loop-slot.invariant in
    let x = c.in-Err.fault in
    let y = c.at.result in
    let at = c.at.ensures in
    let e = c.in-Err.ensures in
    record {
      read = λ h. tt;
      within = tt;
      count = tt;
      slots = e.slots ∙ so_far.slots;
      shows = λ h. tt;
      damaged = λ h yes volume.
          let damaged = subst (λ (m : Image). (IsDamage x → IsRight m v s (held_at m v s) → FitIn m v (held_at m v s) c.loop-slot.found → ⊥)) (so_far.reads.view h)
          (e.damaged (so_far.reads.honest.0 h)) in
          not_refused content v volume s c.loop-slot.found c.loop-slot-test.true (so_far.read h) (damaged (at.damage.0 yes));
      refused = named_at x y at.damage at.other e.refused;
      reads = reads_then c.args.log.now c.loop-slot.log c.read_slot.new.log so_far.working so_far.reads e.reads;
      failed = e.failed ∙ device_at x y at.damage at.other e.refused;
    }

pub returns : goal.returns
returns g c =
    let so_far = c.loop-slot.invariant in
    let v = c.args.numbers.now in
    let all : c.loop-slot.slot ≡ v.slots = omega (arith, c.loop-slot-test.false, c.loop-slot.auto.slot-end) in
    record {
      read = λ h. subst (λ (n : ℕ). HaveRead (view c.args.log.now) v n c.loop-slot.found) all (so_far.read h);
      within = so_far.within;
      count = so_far.count ∙ all;
      slots = so_far.slots;
      shows = λ h. subst (λ (n : ℕ). Shows v.version (view c.args.log.now) n c.loop-slot.dirs) all (so_far.shows h);
      damaged = λ h. tt;
      refused = tt;
      reads = so_far.reads;
      failed = so_far.working;
    }

pub loop-slot-init : goal.loop-slot-init
loop-slot-init g c =
    let v = c.args.numbers.now in
    let found : Entries = record { named = c.new.result; parents = c.new-2.result; directories = c.new-3.result; reserved = 0 } in
    record {
      working = c.requires.can.working;
      reads = reads_same c.args.log.now;
      count = ap length c.new-2.ensures.items;
      slots = refl;
      below = λ p n s held. absurd (c.requires.free s p n held);
      shows = λ h. shown_first v.version (view c.args.log.now) c.args.dirs.now c.requires.free;
      within = record { inside = none_inside (FIRST_AFTER_LOG + v.slots) v.sectors c.new.result.items c.new.ensures.items; room = omega arith };
      read = λ h. none_read (view c.args.log.now) v found c.new.ensures.items c.new-2.ensures.items c.new-3.ensures.items refl;
    }
