use Rattle.std.proofs.Common.{◌≡◌, ◌↔◌, ◌≤◌, ◌∙◌, ℕ, List, Bool, inl, inr, sym, subst, ap, arith}
use Rattle.vol_sector.specs.Disk.{Image, Leaves, counted}
use Rattle.vol_sector.specs.Fault.{is_device, IsDamage}
use Rattle.vol_log.specs.Log.{view, device_of}
use Rattle.vol_log.specs.Batch.{over, HasContent}
use Rattle.vol_log.specs.declared.staged.Staged.{Staged}
use Rattle.vol_log.proofs.Moments.{leaves_quiet, both_then}
use Rattle.vol_tree.specs.Stands.{StandsAs}
use Rattle.vol_tree.specs.Opening.{StandsOn, HoldsOn, IsDamaged}
use Rattle.vol_tree.specs.internal.Reads.{HasParts}
use Rattle.vol_tree.proofs.Openings.{leaves_nothing, crash_over, kept_over, none_over, volume_over, held_log, held_again, held_over, none_held, settled_has, log_finds, finds_stands, finds_lasting, finds_working}
use Rattle.vol_tree.proofs.Fronts.{or_memory_last, not_the_front, stands_unrefused, past_front}
use Rattle.vol_tree.proofs.OneTree.{one_volume}
use Rattle.vol_tree.specs.Clauses.{tree_in}
use Rattle.vol_tree.proofs.volume.Volume.open.Goals as goal

-- ---- no volume begins here

pub returns-in-Err : goal.returns-in-Err
returns-in-Err g c =
    let e = c.in-Err.ensures in
    let x = c.in-Err.fault in
    let d0 = g.D.Device.disk c.args.device in
    let d1 = g.D.Device.disk c.read_front.new.device in
    record {
      opens = tt;
      why = record {
        not_a_volume = e.not_a_volume;
        version = e.version;
        damaged = e.damaged;
        faults_named = or_memory_last x e.refused;
      };
      few_sectors = λ few. let same = e.few_sectors few in cc;
      finds = λ w T h on. stands_unrefused (g.D.Device.size c.args.device) d0.seen w T x on (e.not_a_volume h) (e.version h) (e.damaged h) (or_memory_last x e.refused);
      crash = λ w T h on. leaves_nothing d0 d1 (λ m. StandsAs m w T) (e.crash h);
      left = record {
        kept_tree = λ w T h on.
            subst (λ (m : Image). StandsOn (g.D.Device.size c.read_front.new.device) m w T) (sym (e.seen h)) (subst (λ (n : ℕ). StandsOn n d0.seen w T) (sym e.size) on);
        unwritten = λ h none. e.crash h;
        installs = λ w m h holds. (subst (λ (i : Image). HoldsOn (g.D.Device.size c.args.device) i w m) (sym (e.seen h)) holds, leaves_nothing d0 d1 (λ i. HoldsOn (g.D.Device.size c.args.device) i w m) (e.crash h));
      };
      kept = record { honest = e.honest; size = e.size; failures = e.failures };
      goes_on_ok = tt;
      goes_on_err = λ end past. e.goes_on end;
    }

pub open-requires : goal.open-requires
open-requires g c = record { geometry = omega (arith, c.in-Ok.ensures.ranges.room); on_device = subst (λ (n : ℕ). c.in-Ok.numbers.sectors ≤ n) (sym c.in-Ok.ensures.size) c.in-Ok.ensures.room }

pub read_parts-requires : goal.read_parts-requires
read_parts-requires g c =
    let installed = c.in-Ok-open.ensures in
    record {
      can = record {
        there = subst (λ (n : ℕ). c.in-Ok.numbers.sectors ≤ n) (sym installed.fresh.2) (omega arith);
        ranges = c.in-Ok.ensures.ranges;
        working = installed.fresh.0;
      };
    }

-- ---- the log was refused

pub returns-in-Err-open : goal.returns-in-Err-open
returns-in-Err-open g c =
    let read = c.in-Ok.ensures in
    let e = c.in-Err-open.ensures in
    let x = c.in-Err-open.refused.fault in
    let named = e.faults_named in
    let d0 = g.D.Device.disk c.args.device in
    let d1 = g.D.Device.disk c.read_front.new.device in
    let size = g.D.Device.size c.args.device in
    let damaged = λ (h : g.D.Device.honest c.args.device) (is : IsDamage x). (
    let r : IsDamaged size d0.seen = record {
      begins = read.begins h;
      none = λ w T on. none_over d0 d1 size c.in-Ok.numbers w T read.ranges (read.front h) (read.seen h) on (e.damaged (read.honest.0 h) is).0;
    } in
    r) in
    record {
      opens = tt;
      why = record {
        not_a_volume = λ h is. not_the_front x named (inl is);
        version = λ h is. not_the_front x named (inr is);
        damaged = damaged;
        faults_named = inr (inr named);
      };
      few_sectors = λ few. absurd (omega (arith, few, read.ranges.least, read.room));
      finds = λ w T h on. stands_unrefused size d0.seen w T x on (λ is. not_the_front x named (inl is)) (λ is. not_the_front x named (inr is)) (damaged h) (inr (inr named));
      crash = λ w T h on.
          crash_over d0 d1 (g.D.Device.size c.args.device) c.in-Ok.numbers w T read.ranges (read.front h) (read.seen h) on (g.D.Device.disk c.in-Err-open.refused.device) (read.crash h)
          (λ m has. c.in-Err-open.ensures.crash_err m (read.honest.0 h) has);
      left = record {
        kept_tree = λ w T h on.
            let after = c.in-Err-open.refused.device in
            kept_over d0 d1 (g.D.Device.size c.args.device) c.in-Ok.numbers w T read.ranges (read.front h) (read.seen h) on (g.D.Device.disk after).seen (g.D.Device.size after)
            (c.in-Err-open.ensures.kept_err.1 ∙ read.size)
            (λ m has. c.in-Err-open.ensures.kept_content m (read.honest.0 h) has);
        unwritten = λ h none.
            let quiet = e.unwritten (read.honest.0 h) (none_held d0 d1 size c.in-Ok.numbers read.ranges read.room (read.front h) (read.seen h) none) in
            leaves_quiet d0 d1 (g.D.Device.disk c.in-Err-open.refused.device) (λ m. ⊥) (read.crash h) quiet;
        installs = λ w m h holds.
            let v = c.in-Ok.numbers in
            let h1 = read.honest.0 h in
            let has : HasContent v.sectors d1.seen m = held_log d0 d1 size v w m read.ranges (read.front h) (read.seen h) holds in
            let after = g.D.Device.disk c.in-Err-open.refused.device in (
              held_again d0 d1 size v w m read.ranges (read.front h) (read.seen h) holds after.seen (e.kept_content m h1 has),
              held_over d0 d1 size v w m read.ranges (read.front h) (read.seen h) holds after (read.crash h) (e.crash_err m h1 has),
            );
      };
      kept = record {
        honest = both_then read.honest e.kept_err.0;
        size = e.kept_err.1 ∙ read.size;
        failures = e.kept_err.2 ∙ ap (counted (is_device x)) read.failures;
      };
      goes_on_ok = tt;
      goes_on_err = λ end past first from. e.goes_on_err end (past_front _ _ d0.seen c.in-Ok.numbers end read.ranges read.room read.front past) first (read.goes_on end first from);
    }

-- ---- it was opened, and a rule is broken

pub returns-in-Err-read_parts : goal.returns-in-Err-read_parts
returns-in-Err-read_parts g c =
    let read = c.in-Ok.ensures in
    let installed = c.in-Ok-open.ensures in
    let e = c.in-Err-read_parts.ensures in
    let x = c.in-Err-read_parts.fault in
    let named = e.refused in
    let before = g.D.Device.failures (device_of c.in-Ok-open.log) in
    let d0 = g.D.Device.disk c.args.device in
    let d1 = g.D.Device.disk c.read_front.new.device in
    let size = g.D.Device.size c.args.device in
    let damaged = λ (h : g.D.Device.honest c.args.device) (is : IsDamage x). (
    let h1 = read.honest.0 h in
    let r : IsDamaged size d0.seen = record {
      begins = read.begins h;
      none = λ w T on. e.damaged (installed.kept_ok.0.0 h1) is (volume_over d0 d1 size c.in-Ok.numbers w T read.ranges (read.front h) (read.seen h) on (view c.in-Ok-open.log) (λ m has. installed.content m h1 has));
    } in
    r) in
    record {
      opens = tt;
      why = record {
        not_a_volume = λ h is. not_the_front x named (inl is);
        version = λ h is. not_the_front x named (inr is);
        damaged = damaged;
        faults_named = inr (inr named);
      };
      few_sectors = λ few. absurd (omega (arith, few, read.ranges.least, read.room));
      finds = λ w T h on. stands_unrefused size d0.seen w T x on (λ is. not_the_front x named (inl is)) (λ is. not_the_front x named (inr is)) (damaged h) (inr (inr named));
      crash = λ w T h on.
          let d2 = g.D.Device.disk (device_of c.in-Ok-open.log) in
          let h1 = read.honest.0 h in
          let h2 = installed.kept_ok.0.0 h1 in
          let first = crash_over d0 d1 (g.D.Device.size c.args.device) c.in-Ok.numbers w T read.ranges (read.front h) (read.seen h) on d2 (read.crash h) (λ m has. installed.crash_ok m h1 has) in
          subst (λ d. Leaves d0 (g.D.Device.disk d) (λ m. StandsAs m w T)) (sym c.into_device.ensures)
          (leaves_quiet d0 d2 (g.D.Device.disk (device_of c.read_parts.new.log)) (λ m. StandsAs m w T) first (c.in-Err-read_parts.ensures.reads.crash h2));
      left = record {
        kept_tree = λ w T h on.
            let d2 = g.D.Device.disk (device_of c.in-Ok-open.log) in
            let h1 = read.honest.0 h in
            let h2 = installed.kept_ok.0.0 h1 in
            let reads = c.in-Err-read_parts.ensures.reads in
            let v = c.in-Ok.numbers in
            let content = view c.in-Ok-open.log in
            let plain : content ≡ d2.seen = ap (λ (batch : List Staged). over batch d2.seen) installed.fresh.1 in
            let after = device_of c.read_parts.new.log in
            subst (λ d. StandsOn (g.D.Device.size d) (g.D.Device.disk d).seen w T) (sym c.into_device.ensures)
            (kept_over d0 d1 (g.D.Device.size c.args.device) v w T read.ranges (read.front h) (read.seen h) on (g.D.Device.disk after).seen (g.D.Device.size after)
            (reads.size ∙ installed.kept_ok.1 ∙ read.size)
            (λ m has. settled_has v.sectors d2 (g.D.Device.disk after).seen content m (installed.settled h1) (reads.seen h2) plain (installed.content m h1 has)));
        unwritten = λ h none.
            let some = installed.right (read.honest.0 h) in
            absurd (none_held d0 d1 size c.in-Ok.numbers read.ranges read.room (read.front h) (read.seen h) none some.0 some.1);
        installs = λ w m h holds.
            let v = c.in-Ok.numbers in
            let h1 = read.honest.0 h in
            let h2 = installed.kept_ok.0.0 h1 in
            let d2 = g.D.Device.disk (device_of c.in-Ok-open.log) in
            let reads = e.reads in
            let content = view c.in-Ok-open.log in
            let plain : content ≡ d2.seen = ap (λ (batch : List Staged). over batch d2.seen) installed.fresh.1 in
            let after = g.D.Device.disk (device_of c.read_parts.new.log) in
            let has : HasContent v.sectors d1.seen m = held_log d0 d1 size v w m read.ranges (read.front h) (read.seen h) holds in
            let kept = settled_has v.sectors d2 after.seen content m (installed.settled h1) (reads.seen h2) plain (installed.content m h1 has) in
            let first = held_over d0 d1 size v w m read.ranges (read.front h) (read.seen h) holds d2 (read.crash h) (installed.crash_ok m h1 has) in
            subst (λ d. HoldsOn size (g.D.Device.disk d).seen w m × Leaves d0 (g.D.Device.disk d) (λ i. HoldsOn size i w m)) (sym c.into_device.ensures) (
              held_again d0 d1 size v w m read.ranges (read.front h) (read.seen h) holds after.seen kept,
              leaves_quiet d0 d2 after (λ i. HoldsOn size i w m) first (reads.crash h2),
            );
      };
      kept = record {
        honest = subst (λ d. g.D.Device.honest c.args.device ↔ g.D.Device.honest d) (sym c.into_device.ensures) (both_then (both_then read.honest installed.kept_ok.0) e.reads.honest);
        size = ap g.D.Device.size c.into_device.ensures ∙ e.reads.size ∙ installed.kept_ok.1 ∙ read.size;
        failures = ap g.D.Device.failures c.into_device.ensures ∙ e.reads.failures installed.fresh.0 ∙ ap (λ (b : Bool). counted b before) e.failed ∙ ap (counted (is_device x)) (installed.kept_ok.2 ∙ read.failures);
      };
      goes_on_ok = tt;
      goes_on_err = λ end past first from.
          let le = past_front _ _ d0.seen c.in-Ok.numbers end read.ranges read.room read.front past in
          subst (g.D.Device.goes_on end first) (sym c.into_device.ensures) (e.reads.goes_on end first (installed.goes_on_ok end le first (read.goes_on end first from)));
    }

-- ---- all rules are kept

pub returns-in-Ok-read_parts : goal.returns-in-Ok-read_parts
returns-in-Ok-read_parts g c =
    let read = c.in-Ok.ensures in
    let installed = c.in-Ok-open.ensures in
    let done = c.in-Ok-read_parts.ensures in
    let before = g.D.Device.failures (device_of c.in-Ok-open.log) in
    let size = g.D.Device.size c.args.device in
    let log = c.read_parts.new.log in
    let d0 = g.D.Device.disk c.args.device in
    let found = λ (h : g.D.Device.honest c.args.device). log_finds c.args.device c.read_front.new.device c.in-Ok-open.log log c.in-Ok.numbers c.in-Ok-read_parts.dirs c.in-Ok-read_parts.sectors c.in-Ok-read_parts.reserved h (read.honest.0 h) (installed.kept_ok.0.0 (read.honest.0 h))
    read.ranges read.room (read.front h) (read.seen h) installed.fresh.1 (λ m has. installed.content m (read.honest.0 h) has) (installed.right (read.honest.0 h)) (installed.settled (read.honest.0 h)) done.reads (done.parts (installed.kept_ok.0.0 (read.honest.0 h))) in
    let stands = λ (h : g.D.Device.honest c.args.device). finds_stands size d0 (g.D.Device.disk (device_of log)) (view log) c.in-Ok.numbers (found h) in
    record {
      opens = record {
        stands = stands;
        working = done.failed;
        ranges = (read.ranges, read.room);
        durable = λ h. finds_lasting size d0 (g.D.Device.disk (device_of log)) (view log) c.in-Ok.numbers (found h);
      };
      why = tt;
      few_sectors = λ few. absurd (omega (arith, few, read.ranges.least, read.room));
      finds = λ w T h on. one_volume d0.seen c.in-Ok.numbers w (tree_in (view log) c.in-Ok.numbers) T (stands h).stands on.stands;
      crash = λ w T h on.
          let d1 = g.D.Device.disk c.read_front.new.device in
          let d2 = g.D.Device.disk (device_of c.in-Ok-open.log) in
          let h1 = read.honest.0 h in
          let h2 = installed.kept_ok.0.0 h1 in
          let first = crash_over d0 d1 (g.D.Device.size c.args.device) c.in-Ok.numbers w T read.ranges (read.front h) (read.seen h) on d2 (read.crash h) (λ m has. installed.crash_ok m h1 has) in
          leaves_quiet d0 d2 (g.D.Device.disk (device_of c.read_parts.new.log)) (λ m. StandsAs m w T) first (c.in-Ok-read_parts.ensures.reads.crash h2);
      left = tt;
      kept = record {
        honest = both_then (both_then read.honest installed.kept_ok.0) done.reads.honest;
        size = done.reads.size ∙ installed.kept_ok.1 ∙ read.size;
        failures = done.reads.failures installed.fresh.0 ∙ ap (λ (b : Bool). counted b before) done.failed ∙ installed.kept_ok.2 ∙ read.failures;
      };
      goes_on_ok = λ end le first from. done.reads.goes_on end first (installed.goes_on_ok end le first (read.goes_on end first from));
      goes_on_err = λ end past. tt;
    }

pub invariant_of-result : goal.invariant_of-result
invariant_of-result g c =
    let d0 = g.D.Device.disk c.args.device in
    let log = c.read_parts.new.log in
    let read = c.in-Ok.ensures in
    let installed = c.in-Ok-open.ensures in
    let done = c.in-Ok-read_parts.ensures in
    let v = c.in-Ok.numbers in
    let back = λ (h3 : g.D.Device.honest (device_of log)). done.reads.honest.1 h3 in
    let parts = λ (h3 : g.D.Device.honest (device_of log)). subst (λ (m : Image). HasParts m v c.in-Ok-read_parts.dirs c.in-Ok-read_parts.sectors c.in-Ok-read_parts.reserved) (sym (done.reads.view (back h3))) (done.parts (back h3)) in
    record {
      ranges = read.ranges;
      sectors = done.reads.sectors ∙ installed.fresh.2;
      on_device = omega (arith, done.reads.size, installed.kept_ok.1, read.size, read.room);
      first = done.first;
      end = done.end;
      slots = done.slots;
      content = λ h3. (parts h3).volume;
      reserved = λ h3. (parts h3).reserved;
      shows = λ h3. (parts h3).shows;
      working = λ h3 fine.
          let h2 = back h3 in
          let h1 = installed.kept_ok.0.1 h2 in
          let h = read.honest.1 h1 in
          finds_working (g.D.Device.size c.args.device) d0 (g.D.Device.disk (device_of log)) (view log) v
          (log_finds c.args.device c.read_front.new.device c.in-Ok-open.log log v c.in-Ok-read_parts.dirs c.in-Ok-read_parts.sectors c.in-Ok-read_parts.reserved h h1 h2
          read.ranges read.room (read.front h) (read.seen h) installed.fresh.1 (λ m has. installed.content m h1 has) (installed.right h1) (installed.settled h1) done.reads (done.parts h2))
          c.in-Ok-read_parts.sectors (parts h3).taken;
    }
