use Rattle.std.proofs.Common.{◌≡◌, ◌≤◌, ◌<◌, ◌∙◌, ℕ, false, nat_lt, if◌then◌else◌, get_or, is_err, true≢false, refl, sym, ap, subst, arith}
use Rattle.std.proofs.lemmas.Result.{IfOk-from_err}
use Rattle.vol_sector.specs.Disk.{Image, put}
use Rattle.vol_log.specs.Log.{view, device_of, log_sectors, room_of, is_staged, has_failed}
use Rattle.vol_log.specs.declared.layout.TheConstants.{FIRST_AFTER_LOG}
use Rattle.vol_alloc.specs.Alloc.{first_of, end_of, taken_of}
use Rattle.vol_inode.specs.Space.{blocks_for_size}
use Rattle.vol_inode.specs.declared.entry.Entry.{Entry}
use Rattle.vol_body.specs.declared.truncation.Truncation.{Truncation}
use Rattle.vol_body.specs.Body.{NamesTaken, IsBody, bytes_of}
use Rattle.vol_body.specs.Change.{OthersStay, TakesAndGives}
use Rattle.vol_body.specs.internal.Truncated.{IsTruncation, AreWithin, with_truncation, Frees, IsFreed}
use Rattle.vol_inode.specs.Entry.{first_block_of_pointer}
use Rattle.vol_log.specs.Reading.{OnlyReads}
use Rattle.vol_log.proofs.Readings.{reads_same, reads_then}
use Rattle.vol_body.proofs.Loads.{held_in}
use Rattle.vol_body.proofs.Rights.{right_file}
use Rattle.vol_body.proofs.Stagings.{stages_then, stages_none, stages_idle, room_read}
use Rattle.vol_body.proofs.Steps.{room_left, on_err}
use Rattle.vol_body.proofs.CutSectors.{put_there, in_range}
use Rattle.vol_body.proofs.Shrunk.{Shrinks, shrunk_bytes, shrunk_rules, shrunk_others, shrunk_taken}
use Rattle.vol_body.proofs.NoneLost.{none_lost}
use Rattle.vol_body.proofs.shrinking.shrink.Given.{Over}
use Rattle.vol_body.proofs.shrinking.shrink.Goals as goal

-- what is within a narrower range
wider : (first end more : ℕ) (truncation : Truncation) → FIRST_AFTER_LOG ≤ first → end ≤ more → AreWithin first end truncation → AreWithin FIRST_AFTER_LOG more truncation
wider first end more truncation from to within = record {
  data_block = λ some. let is = within.data_block some in (omega (arith, from, is.0), omega (arith, to, is.1));
  above = λ some. let is = within.above some in (omega (arith, from, is.0), omega (arith, to, is.1));
  double = λ some. let is = within.double some in (omega (arith, from, is.0), omega (arith, to, is.1));
  triple = λ some. let is = within.triple some in (omega (arith, from, is.0), omega (arith, to, is.1));
}

pub returns-then-failed : goal.returns-then-failed
returns-then-failed g c = record {
  file = λ h names body. tt;
  none_lost = λ h names body. tt;
  entry = tt;
  steps = stages_idle 5 c.args.log.now c.args.sectors.now (sym c.failed.ensures ∙ c.if-failed.true);
  refused = (reads_same c.args.log.now, refl);
  idle = λ failed. (refl, refl);
}

pub hold-requires : goal.hold-requires
hold-requires g c = record { small = omega arith; there = c.requires.can.there; working = sym c.failed.ensures ∙ c.if-failed.false }

pub returns-in_err-held : goal.returns-in_err-held
returns-in_err-held g c =
    let r = c.from_residual.result in
    let is_err_now = c.from_residual.ensures.0 in
    let e = c.in_err-held.ensures in
    let working : has_failed c.args.log.now ≡ false = sym c.failed.ensures ∙ c.if-failed.false in
    record {
      file = λ h names body. IfOk-from_err r _ is_err_now;
      none_lost = λ h names body. IfOk-from_err r _ is_err_now;
      entry = IfOk-from_err r _ is_err_now;
      steps = stages_none 5 c.args.log.now c.hold.new.log c.args.sectors.now c.args.sectors.now (is_err r) e.reads (e.failed ∙ sym is_err_now) refl refl;
      refused = on_err r (e.reads, refl);
      idle = λ failed. absurd (true≢false (sym failed ∙ working));
    }

pub read_truncation-requires : goal.read_truncation-requires
read_truncation-requires g c =
    let e = c.in_ok-held.ensures in
    record {
      there = omega (arith, c.requires.can.there, e.reads.sectors);
      working = e.failed;
      small = omega (arith, c.requires.shorter, c.requires.can.small_before);
      group = e.group;
      known = e.known;
    }

pub returns-in_err-truncation : goal.returns-in_err-truncation
returns-in_err-truncation g c =
    let r = c.from_residual-in_err-truncation.result in
    let is_err_now = c.from_residual-in_err-truncation.ensures.0 in
    let first = c.in_ok-held.ensures in
    let second = c.in_err-truncation.ensures in
    let reads = reads_then c.args.log.now c.hold.new.log c.read_truncation.new.log first.failed first.reads second.reads in
    let working : has_failed c.args.log.now ≡ false = sym c.failed.ensures ∙ c.if-failed.false in
    record {
      file = λ h names body. IfOk-from_err r _ is_err_now;
      none_lost = λ h names body. IfOk-from_err r _ is_err_now;
      entry = IfOk-from_err r _ is_err_now;
      steps = stages_none 5 c.args.log.now c.read_truncation.new.log c.args.sectors.now c.args.sectors.now (is_err r) reads (second.failed ∙ sym is_err_now) refl refl;
      refused = on_err r (reads, refl);
      idle = λ failed. absurd (true≢false (sym failed ∙ working));
    }

pub free_unkept-requires : goal.free_unkept-requires
free_unkept-requires g c =
    let first = c.in_ok-held.ensures in
    let second = c.in_ok-truncation.ensures in
    record {
      there = omega (arith, c.requires.can.there, first.reads.sectors, second.reads.sectors);
      working = second.failed;
      «data» = omega (arith, c.requires.can.slot);
      group = omega (arith, first.group, c.requires.shorter, c.requires.can.small_before);
    }

pub returns-in_err-free_unkept : goal.returns-in_err-free_unkept
returns-in_err-free_unkept g c =
    let r = c.from_residual-in_err-free_unkept.result in
    let is_err_now = c.from_residual-in_err-free_unkept.ensures.0 in
    let first = c.in_ok-held.ensures in
    let second = c.in_ok-truncation.ensures in
    let third = c.in_err-free_unkept.ensures in
    let two = reads_then c.args.log.now c.hold.new.log c.read_truncation.new.log first.failed first.reads second.reads in
    let reads = reads_then c.args.log.now c.read_truncation.new.log c.free_unkept.new.log second.failed two third.reads in
    let working : has_failed c.args.log.now ≡ false = sym c.failed.ensures ∙ c.if-failed.false in
    record {
      file = λ h names body. IfOk-from_err r _ is_err_now;
      none_lost = λ h names body. IfOk-from_err r _ is_err_now;
      entry = IfOk-from_err r _ is_err_now;
      steps = stages_none 5 c.args.log.now c.free_unkept.new.log c.args.sectors.now c.free_unkept.new.sectors (is_err r) reads (third.failed ∙ sym is_err_now) third.range.0 third.range.1;
      refused = on_err r (reads, refl);
      idle = λ failed. absurd (true≢false (sym failed ∙ working));
    }

pub stage_truncation-requires : goal.stage_truncation-requires
stage_truncation-requires g c =
    let first = c.in_ok-held.ensures in
    let second = c.in_ok-truncation.ensures in
    let third = c.in_ok-free_unkept.ensures in
    let one = room_read c.args.log.now c.hold.new.log first.reads in
    let two = room_read c.hold.new.log c.read_truncation.new.log second.reads in
    let three = room_read c.read_truncation.new.log c.free_unkept.new.log third.reads in
    record {
      there = wider (first_of c.args.sectors.now) (end_of c.args.sectors.now) (log_sectors c.free_unkept.new.log) c.in_ok-truncation.truncation
          (omega (arith, c.requires.can.after_log, c.requires.can.slot)) (omega (arith, c.requires.can.there, first.reads.sectors, second.reads.sectors, third.reads.sectors)) second.within;
      room = omega (arith, one, two, three, c.requires.can.room);
      working = third.failed;
    }

pub stage-requires : goal.stage-requires
stage-requires g c =
    let first = c.in_ok-held.ensures in
    let second = c.in_ok-truncation.ensures in
    let third = c.in_ok-free_unkept.ensures in
    let one = room_read c.args.log.now c.hold.new.log first.reads in
    let two = room_read c.hold.new.log c.read_truncation.new.log second.reads in
    let three = room_read c.read_truncation.new.log c.free_unkept.new.log third.reads in
    record {
      place = c.requires.can.after_log;
      there = omega (arith, c.requires.can.within, first.reads.sectors, second.reads.sectors, third.reads.sectors, c.stage_truncation.ensures.sectors);
      room = omega (arith, one, two, three, c.requires.can.room, c.stage_truncation.ensures.room);
      working = c.stage_truncation.ensures.failed;
    }

pub returns-clause-refused : goal.returns-clause-refused
returns-clause-refused g c = tt

pub returns-clause-idle : goal.returns-clause-idle
returns-clause-idle g c failed = absurd (true≢false (sym failed ∙ sym c.failed.ensures ∙ c.if-failed.false))

-- what is read first changes nothing
first_reads : (g : Over) (c : goal.After-stage g) → OnlyReads c.args.log.now c.read_truncation.new.log
first_reads g c = reads_then c.args.log.now c.hold.new.log c.read_truncation.new.log c.in_ok-held.ensures.failed c.in_ok-held.ensures.reads c.in_ok-truncation.ensures.reads

-- the entry as it is written
abbrev changed_of : (g : Over) → goal.After-stage g → Entry
changed_of g c = record c.args.entry.now { size = c.args.size; pointers = c.kept_pointers-entry.result }

pub returns-clause-entry : goal.returns-clause-entry
returns-clause-entry g c = record {
  entry = λ i. changed_of g c;
  staged = ap (λ (m : Image). m c.args.inode_sector) c.stage.ensures.view ∙ put_there c.args.inode_sector c.write_entry.result (view c.stage_truncation.new.log) ∙ c.write_entry.ensures.bytes;
}

pub returns-clause-steps : goal.returns-clause-steps
returns-clause-steps g c =
    let reads = reads_then c.args.log.now c.read_truncation.new.log c.free_unkept.new.log c.in_ok-truncation.ensures.failed (first_reads g c) c.in_ok-free_unkept.ensures.reads in
    let same = room_read c.args.log.now c.free_unkept.new.log reads in
    let last = room_left (is_staged c.stage_truncation.new.log c.args.inode_sector) (room_of c.stage_truncation.new.log) (room_of c.stage.new.self) c.stage.ensures.room in
    record {
      room = omega (arith, same, last, c.stage_truncation.ensures.room);
      log = stages_then c.args.log.now c.free_unkept.new.log c.stage.new.self reads c.in_ok-free_unkept.ensures.failed (c.stage.ensures.device ∙ c.stage_truncation.ensures.device) (c.stage.ensures.sectors ∙ c.stage_truncation.ensures.sectors) c.stage.ensures.failed;
      failed = c.stage.ensures.failed;
      range = c.free_unkept.ensures.range;
    }

given_back : (g : Over) (c : goal.After-stage g) → g.D.Device.honest (device_of c.args.log.now) → NamesTaken (taken_of c.args.sectors.now) (view c.args.log.now) c.args.entry.now
    → Frees (taken_of c.args.sectors.now) (taken_of c.free_unkept.new.sectors) (IsFreed (view c.args.log.now) c.args.entry.now (blocks_for_size c.args.size))
given_back g c h names =
    let content = view c.args.log.now in
    let e = c.args.entry.now in
    let was = taken_of c.args.sectors.now in
    let now_taken = taken_of c.free_unkept.new.sectors in
    let reads = first_reads g c in
    let there : NamesTaken was (view c.read_truncation.new.log) e = subst (λ (m : Image). NamesTaken was m e) (sym (reads.view h)) names in
    let is_held = held_in e c.in_ok-held.held 2113721 (sym (reads.view h)) (c.in_ok-held.ensures.held h names) in
    let count : c.div_ceil-count.result ≡ blocks_for_size c.args.size = omega (arith, c.div_ceil-count.ensures) in
    subst (λ (k : ℕ). Frees was now_taken (IsFreed content e k)) count (subst (λ (m : Image). Frees was now_taken (IsFreed m e c.div_ceil-count.result)) (reads.view h) (c.in_ok-free_unkept.ensures.frees (reads.honest.0 h) there is_held))

are_cut : (g : Over) (c : goal.After-stage g) → g.D.Device.honest (device_of c.args.log.now) → NamesTaken (taken_of c.args.sectors.now) (view c.args.log.now) c.args.entry.now
    → IsTruncation (view c.args.log.now) c.args.entry.now c.args.size c.in_ok-truncation.truncation
are_cut g c h names =
    let e = c.args.entry.now in
    let reads = c.in_ok-held.ensures.reads in
    let there : NamesTaken (taken_of c.args.sectors.now) (view c.hold.new.log) e = subst (λ (m : Image). NamesTaken (taken_of c.args.sectors.now) m e) (sym (reads.view h)) names in
    let is_held = held_in e c.in_ok-held.held 2113721 (sym (reads.view h)) (c.in_ok-held.ensures.held h names) in
    subst (λ (m : Image). IsTruncation m e c.args.size c.in_ok-truncation.truncation) (reads.view h) (c.in_ok-truncation.ensures.truncation (reads.honest.0 h) there is_held)

made : (g : Over) (c : goal.After-stage g) → g.D.Device.honest (device_of c.args.log.now) → NamesTaken (taken_of c.args.sectors.now) (view c.args.log.now) c.args.entry.now → IsBody (view c.args.log.now) c.args.entry.now
    → Shrinks c.args.size c.args.inode_sector (first_of c.args.sectors.now) (end_of c.args.sectors.now) (view c.args.log.now) c.args.entry.now (changed_of g c) c.in_ok-truncation.truncation (taken_of c.args.sectors.now) (taken_of c.free_unkept.new.sectors)
made g c h names body =
    let count : c.div_ceil-count.result ≡ blocks_for_size c.args.size = omega (arith, c.div_ceil-count.ensures) in
    record {
      body = body;
      names = names;
      are_cut = are_cut g c h names;
      within = c.in_ok-truncation.ensures.within;
      frees = given_back g c h names;
      new_size = λ i. c.args.size;
      pointers = λ j lt. c.kept_pointers-entry.ensures j lt ∙ ap (λ (k : ℕ). if nat_lt (first_block_of_pointer j) k then get_or c.args.entry.now.pointers j 0 else 0) count;
      shorter = c.requires.shorter;
      small = c.requires.can.small_before;
      slot = λ n is same. let within = in_range c.args.sectors.now n is in omega (arith, within.0, same, c.requires.can.slot);
    }

after_is : (g : Over) (c : goal.After-stage g) → g.D.Device.honest (device_of c.args.log.now) → view c.stage.new.self ≡ put c.args.inode_sector c.write_entry.result (with_truncation c.in_ok-truncation.truncation (view c.args.log.now))
after_is g c h =
    let first = first_reads g c in
    let same : view c.free_unkept.new.log ≡ view c.args.log.now = c.in_ok-free_unkept.ensures.reads.view (first.honest.0 h) ∙ first.view h in
    c.stage.ensures.view ∙ ap (put c.args.inode_sector c.write_entry.result) (c.stage_truncation.ensures.view ∙ ap (with_truncation c.in_ok-truncation.truncation) same)

pub returns-clause-file : goal.returns-clause-file
returns-clause-file g c h names body =
    let place = c.args.inode_sector in
    let size = c.args.size in
    let first = first_of c.args.sectors.now in
    let end = end_of c.args.sectors.now in
    let content = view c.args.log.now in
    let e = c.args.entry.now in
    let changed = changed_of g c in
    let truncation = c.in_ok-truncation.truncation in
    let taken = taken_of c.args.sectors.now in
    let still = taken_of c.free_unkept.new.sectors in
    let shrinks = made g c h names body in
    let spelled = c.write_entry.result in
    let after = view c.stage.new.self in
    let is = after_is g c h in
    let rules : IsBody after changed = subst (λ (m : Image). IsBody m changed) (sym is) (shrunk_rules size place first end content e changed truncation taken still shrinks spelled) in
    record {
      bytes = ap (λ (m : Image). bytes_of m changed) is ∙ shrunk_bytes size place first end content e changed truncation taken still shrinks spelled;
      rules = rules;
      others = subst (λ (m : Image). OthersStay place first end taken content m e) (sym is) (shrunk_others size place first end content e changed truncation taken still shrinks spelled);
      taken = subst (λ (m : Image). TakesAndGives taken still content m e changed) (sym is) (shrunk_taken size place first end content e changed truncation taken still shrinks spelled);
      right = λ version right none small. right_file version after e changed size right none small (λ i. changed) (search rules) rules;
    }

pub returns-clause-none_lost : goal.returns-clause-none_lost
returns-clause-none_lost g c h names body =
    let file = returns-clause-file g c h names body in
    let some : 0 < first_of c.args.sectors.now = omega (arith, c.requires.can.slot) in
    none_lost c.args.sectors.now c.free_unkept.new.sectors (view c.args.log.now) (view c.stage.new.self) c.args.entry.now (changed_of g c) some c.free_unkept.ensures.range c.requires.can.small_before names body file.rules file.taken
