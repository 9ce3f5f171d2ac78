use Rattle.std.proofs.Common.{ℕ, ◌++◌, ◌≡◌, ◌∙◌, ◌+◌, ◌-◌, ◌/◌, ◌%◌, ◌≤◌, take, drop, refl, sym, ap, subst, arith, rules}
use Rattle.std.proofs.lemmas.List.{drop-drop, length-drop}
use Rattle.std.proofs.lemmas.Result.{IfOk-from_err}
use Rattle.vol_sector.specs.Disk.{Image}
use Rattle.vol_log.specs.Log.{view}
use Rattle.vol_alloc.specs.Alloc.{taken_of}
use Rattle.vol_body.specs.Body.{data_block, named, block_bytes, bytes_of, NamesTaken}
use Rattle.vol_log.proofs.Readings.{reads_then}
use Rattle.vol_body.proofs.Parts.{length-bytes_of, part_of_bytes, filled_more}
use Rattle.vol_body.proofs.Loads.{held_in}
use Rattle.vol_body.proofs.Steps.{on_err}
use Rattle.vol_body.proofs.reading.read_some.Goals as goal

pub loop-done-preserved : goal.loop-done-preserved
loop-done-preserved g c =
    let e = c.args.entry.now in
    let content = view c.args.log.now in
    let taken = taken_of c.args.sectors.now in
    let done = c.loop-done.done in
    let at = c.args.offset + done in
    let n = c.fill-done.result in
    let image = c.in_ok-image.image in
    let last = (c.args.offset + c.args.count - 1) / 512 in
    let so_far = c.loop-done.invariant in
    let count = c.fill-done.ensures.count in
    let within : at + n ≤ e.size = omega (arith, count, c.requires.within, c.loop-done-test.true) in
    record {
      within = omega (arith, count);
      working = c.in_ok-image.ensures.failed;
      reads = reads_then c.args.log.now c.loop-done.log c.read_held.new.log so_far.working so_far.reads c.in_ok-image.ensures.reads;
      held = λ h names.
          let same : view c.loop-done.log ≡ content = so_far.reads.view h in
          let there : NamesTaken taken (view c.loop-done.log) e = subst (λ (m : Image). NamesTaken taken m e) (sym same) names in
          held_in e c.read_held.new.held last same
          (c.in_ok-image.ensures.held (so_far.reads.honest.0 h) there (held_in e c.loop-done.held last (sym same) (so_far.held h names)));
      filled = λ h names.
          let same : view c.loop-done.log ≡ content = so_far.reads.view h in
          let there : NamesTaken taken (view c.loop-done.log) e = subst (λ (m : Image). NamesTaken taken m e) (sym same) names in
          let is_held = held_in e c.loop-done.held last (sym same) (so_far.held h names) in
          let bytes : image ≡ block_bytes content (named content e (data_block (at / 512))) =
          c.in_ok-image.ensures.bytes (so_far.reads.honest.0 h) there is_held ∙ ap (λ (m : Image). block_bytes m (named m e (data_block (at / 512)))) same in
          let file = bytes_of content e in
          let piece : take n (drop (at % 512) image) ≡ take n (drop done (drop c.args.offset file)) =
          part_of_bytes content e image at n (search rules) bytes (omega arith) within ∙ ap (take n) (sym (drop-drop done c.args.offset file)) in
          c.fill-done.ensures.bytes
          ∙ filled_more c.args.buffer.now c.loop-done.buffer (drop c.args.offset file) (drop (at % 512) image) done n
          (omega (arith, length-drop c.args.offset file, length-bytes_of content e)) (so_far.filled h names) piece;
    }

pub hold-requires : goal.hold-requires
hold-requires g c = record {
  small = omega (arith, c.requires.within, c.requires.small);
  there = c.requires.there;
  working = c.requires.working;
}

pub returns-in_err-held : goal.returns-in_err-held
returns-in_err-held g c =
    let r = c.from_residual.result in
    let is_err_now = c.from_residual.ensures.0 in
    let e = c.in_err-held.ensures in
    record {
      bytes = λ h names. IfOk-from_err r _ is_err_now;
      beginning = λ h names. on_err r (0, omega arith, refl);
      reads = e.reads;
      failed = e.failed ∙ sym is_err_now;
    }

pub loop-done-init : goal.loop-done-init
loop-done-init g c =
    let e = c.in_ok-held.ensures in
    record {
      within = omega arith;
      working = e.failed;
      reads = e.reads;
      held = e.held;
      filled = λ h names. refl;
    }

pub read_held-requires : goal.read_held-requires
read_held-requires g c =
    let so_far = c.loop-done.invariant in
    record {
      place = omega (arith, c.loop-done-test.true);
      small = omega (arith, c.requires.within, c.requires.small);
      there = omega (arith, c.requires.there, so_far.reads.sectors);
      working = so_far.working;
    }

pub returns-in_err-image : goal.returns-in_err-image
returns-in_err-image g c =
    let r = c.from_residual-in_err-image.result in
    let is_err_now = c.from_residual-in_err-image.ensures.0 in
    let so_far = c.loop-done.invariant in
    let e = c.in_err-image.ensures in
    record {
      bytes = λ h names. IfOk-from_err r _ is_err_now;
      beginning = λ h names. on_err r (c.loop-done.done, so_far.within, so_far.filled h names);
      reads = reads_then c.args.log.now c.loop-done.log c.read_held.new.log so_far.working so_far.reads e.reads;
      failed = e.failed ∙ sym is_err_now;
    }

pub returns : goal.returns
returns g c =
    let so_far = c.loop-done.invariant in
    let all : c.loop-done.done ≡ c.args.count = omega (arith, so_far.within, c.loop-done-test.false) in
    record {
      bytes = λ h names. subst (λ (n : ℕ). c.loop-done.buffer ≡ take n (drop c.args.offset (bytes_of (view c.args.log.now) c.args.entry.now)) ++ drop n c.args.buffer.now) all (so_far.filled h names);
      beginning = λ h names. tt;
      reads = so_far.reads;
      failed = so_far.working;
    }
