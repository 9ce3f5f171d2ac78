use Rattle.std.proofs.Common.{◌≡◌, ◌≤◌, ◌+◌, ◌-◌, ◌*◌, ◌/◌, ◌⊎◌, ℕ, length, max, is_err, refl, sym, ◌∙◌, ap, subst, arith, rules}
use Rattle.std.proofs.lemmas.Result.{IfOk-from_err}
use Rattle.std.proofs.lemmas.Grind.{common_steps}
use Rattle.vol_sector.specs.Disk.{Image}
use Rattle.vol_log.specs.Log.{view, room_of, is_staged}
use Rattle.vol_alloc.specs.Alloc.{taken_of, free_of}
use Rattle.vol_inode.specs.Space.{need_of}
use Rattle.vol_inode.specs.declared.entry.Entry.{Entry}
use Rattle.vol_body.specs.Body.{data_block, named, block_bytes, NamesTaken}
use Rattle.vol_body.specs.Change.{used_of}
use Rattle.vol_body.specs.internal.Writing.{IsReady, MirrorsAll, ChangesPositions, IsBlockIn, IsPointer, HasBlocks, image_of}
use Rattle.vol_log.proofs.Readings.{reads_then}
use Rattle.vol_body.proofs.Stagings.{stages_then, stages_none, room_read}
use Rattle.vol_body.proofs.Steps.{put_here, room_left, on_err}
use Rattle.vol_body.proofs.Finished.{write_leaves, ready_to_write, mirrors_all_by}
use Rattle.vol_body.proofs.writing.write_some.Goals as goal
use Rattle.vol_inode.specs.declared.version.TheConstants.{LARGEST_SIZE}

pub load_pointer_sectors-requires : goal.load_pointer_sectors-requires
load_pointer_sectors-requires g c = record {
  some = omega (arith, c.len.ensures, c.requires.some);
  small = omega (arith, c.len.ensures, c.requires.small, c.requires.some);
  there = c.requires.can.there;
  working = c.requires.working;
}

pub returns-in_err-all : goal.returns-in_err-all
returns-in_err-all g c =
    let r = c.from_residual.result in
    let is_err_now = c.from_residual.ensures.0 in
    let e = c.in_err-all.ensures in
    record {
      done = λ h names body space. IfOk-from_err r _ is_err_now;
      entry = IfOk-from_err r _ is_err_now;
      widths = IfOk-from_err r _ is_err_now;
      steps = stages_none 39 c.args.log.now c.load_pointer_sectors.new.log c.args.sectors.now c.args.sectors.now (is_err r) e.reads (e.failed ∙ sym is_err_now) refl refl;
      refused = on_err r (e.reads, refl, refl);
    }

pub read_edges-requires : goal.read_edges-requires
read_edges-requires g c =
    let e = c.in_ok-all.ensures in
    record {
      some = omega (arith, c.len.ensures, c.requires.some);
      few = omega (arith, c.len.ensures, c.requires.few);
      small = omega (arith, c.len.ensures, c.requires.small);
      there = omega (arith, c.requires.can.there, e.reads.sectors);
      working = e.failed;
    }

pub returns-in_err-first_image : goal.returns-in_err-first_image
returns-in_err-first_image g c =
    let r = c.from_residual-in_err-first_image.result in
    let is_err_now = c.from_residual-in_err-first_image.ensures.0 in
    let e = c.in_err-first_image.ensures in
    let reads = reads_then c.args.log.now c.load_pointer_sectors.new.log c.read_edges.new.log c.in_ok-all.ensures.failed c.in_ok-all.ensures.reads e.reads in
    record {
      done = λ h names body space. IfOk-from_err r _ is_err_now;
      entry = IfOk-from_err r _ is_err_now;
      widths = IfOk-from_err r _ is_err_now;
      steps = stages_none 39 c.args.log.now c.read_edges.new.log c.args.sectors.now c.args.sectors.now (is_err r) reads (e.failed ∙ sym is_err_now) refl refl;
      refused = on_err r (reads, refl, refl);
    }

pub write_blocks-requires : goal.write_blocks-requires
write_blocks-requires g c =
    let first = c.in_ok-all.ensures in
    let second = c.in_ok-first_image.ensures in
    let one = room_read c.args.log.now c.load_pointer_sectors.new.log first.reads in
    let two = room_read c.load_pointer_sectors.new.log c.read_edges.new.log second.reads in
    record {
      can = record {
        after_log = omega (arith, c.requires.can.after_log, c.requires.can.slot);
        there = omega (arith, c.requires.can.there, first.reads.sectors, second.reads.sectors);
        working = second.failed;
      };
      room = omega (arith, one, two, c.requires.can.room);
      few = omega (arith, c.len.ensures, c.requires.few, c.requires.some);
      some = omega (arith, c.len.ensures, c.requires.some);
      last = omega (arith, c.len.ensures, c.requires.small, c.requires.some);
      touched = record { first = omega arith; last = omega (arith, c.len.ensures, c.requires.some); small = c.requires.small };
      known = first.known;
    }

pub stage-requires : goal.stage-requires
stage-requires g c =
    let first = c.in_ok-all.ensures in
    let second = c.in_ok-first_image.ensures in
    let one = room_read c.args.log.now c.load_pointer_sectors.new.log first.reads in
    let two = room_read c.load_pointer_sectors.new.log c.read_edges.new.log second.reads in
    let puts = c.write_blocks.ensures.puts in
    record {
      place = c.requires.can.after_log;
      there = omega (arith, c.requires.can.within, first.reads.sectors, second.reads.sectors, puts.sectors);
      room = omega (arith, one, two, c.requires.can.room, c.write_blocks.ensures.room);
      working = puts.failed ∙ second.failed;
    }

pub returns-clause-refused : goal.returns-clause-refused
returns-clause-refused g c = tt

pub returns-clause-entry : goal.returns-clause-entry
returns-clause-entry g c = record {
  entry = search rules;
  staged = ap (λ (m : Image). m c.args.inode_sector) c.stage.ensures.view ∙ put_here c.args.inode_sector c.write_entry.result (view c.write_blocks.new.log) ∙ c.write_entry.ensures.bytes;
}

pub returns-clause-steps : goal.returns-clause-steps
returns-clause-steps g c =
    let reads = reads_then c.args.log.now c.load_pointer_sectors.new.log c.read_edges.new.log c.in_ok-all.ensures.failed c.in_ok-all.ensures.reads c.in_ok-first_image.ensures.reads in
    let same : room_of c.read_edges.new.log ≡ room_of c.args.log.now = ap (λ l. 120 - length l) reads.staged in
    let last = room_left (is_staged c.write_blocks.new.log c.args.inode_sector) (room_of c.write_blocks.new.log) (room_of c.stage.new.self) c.stage.ensures.room in
    let puts = c.write_blocks.ensures.puts in
    record {
      room = omega (arith, same, last, c.write_blocks.ensures.room);
      log = stages_then c.args.log.now c.read_edges.new.log c.stage.new.self reads c.in_ok-first_image.ensures.failed
          (c.stage.ensures.device ∙ puts.device) (c.stage.ensures.sectors ∙ puts.sectors) c.stage.ensures.failed;
      failed = c.stage.ensures.failed;
      range = (c.write_blocks.ensures.range.first, c.write_blocks.ensures.range.end);
    }

pub returns-clause-done : goal.returns-clause-done
returns-clause-done g c h names body space =
    let content = view c.args.log.now in
    let e = c.args.entry.now in
    let offset = c.args.offset in
    let bytes = c.args.bytes.now in
    let a = c.args.sectors.now in
    let b = c.write_blocks.new.sectors in
    let first = offset / 512 in
    let last = (offset + c.len.result - 1) / 512 in
    let len_is : c.len.result ≡ length bytes = c.len.ensures in
    let is_last : last ≡ (offset + length bytes - 1) / 512 = ap (λ (n : ℕ). (offset + n - 1) / 512) len_is in
    let size = c.max-entry.result in
    let longer : Entry = record e { size = size } in
    let changed = c.write_blocks.new.entry in
    let between = view c.write_blocks.new.log in
    let start = view c.read_edges.new.log in
    let all = c.in_ok-all.all in
    let one : view c.load_pointer_sectors.new.log ≡ content = c.in_ok-all.ensures.reads.view h in
    let h1 = c.in_ok-all.ensures.reads.honest.0 h in
    let three : start ≡ content = c.in_ok-first_image.ensures.reads.view h1 ∙ one in
    let names_in = λ (m : Image) (same : m ≡ content). subst (λ (k : Image). NamesTaken (taken_of a) k e) (sym same) names in
    let size_is : size ≡ max e.size (offset + length bytes) = c.max-entry.ensures ∙ ap (λ (n : ℕ). max e.size (offset + n)) len_is in
    let small : size ≤ LARGEST_SIZE = omega (arith, size_is, c.requires.small, c.requires.can.small_before) in
    let ready : IsReady a content longer = ready_to_write a content e size body names (omega (arith, size_is)) small (subst (λ (s : ℕ). need_of s ≤ free_of a + used_of content e) (sym size_is) space) in
    let mirrors : MirrorsAll content longer all first last = mirrors_all_by content e longer all first last refl (c.in_ok-all.ensures.right h names) in
    let written = c.write_blocks.ensures.written (subst (λ (k : Image). IsReady a k longer) (sym three) ready) (omega (arith, size_is, len_is, c.requires.some))
    (subst (λ (k : Image). MirrorsAll k longer all first last) (sym three) mirrors) in
    let changes : ChangesPositions a b content between longer changed (λ p. IsBlockIn first (last + 1) p ⊎ IsPointer p) =
    subst (λ (k : Image). ChangesPositions a b k between longer changed (λ p. IsBlockIn first (last + 1) p ⊎ IsPointer p)) three written.0 in
    let image = image_of offset bytes c.in_ok-first_image.first_image c.in_ok-first_image.last_image in
    let edge : (n : ℕ) → Type 0 = λ n. (offset ≤ 512 * ((offset + n - 1) / 512) → 512 * ((offset + n - 1) / 512) + 512 ≤ offset + n → ⊥)
    → c.in_ok-first_image.last_image ≡ block_bytes content (named content e (data_block ((offset + n - 1) / 512))) in
    let there = names_in (view c.load_pointer_sectors.new.log) one in
    let held : MirrorsAll (view c.load_pointer_sectors.new.log) e all first last = subst (λ (k : Image). MirrorsAll k e all first last) (sym one) (c.in_ok-all.ensures.right h names) in
    let read : edge c.len.result = λ partly. c.in_ok-first_image.ensures.last h1 there held partly ∙ ap (λ (m : Image). block_bytes m (named m e (data_block last))) one in
    write_leaves c.args.inode_sector offset bytes c.in_ok-first_image.first_image c.in_ok-first_image.last_image c.write_entry.result a b content between (view c.stage.new.self) e changed size
    c.requires.can.after_log c.requires.can.slot c.write_blocks.ensures.range c.requires.can.small_before c.requires.small c.requires.some size_is body names
    (subst (λ (k : ℕ). ChangesPositions a b content between longer changed (λ p. IsBlockIn first (k + 1) p ⊎ IsPointer p)) is_last changes)
    (subst (λ (k : ℕ). HasBlocks between changed first (k + 1) image) is_last written.1) c.stage.ensures.view
    (search rules) (search rules)
    (λ partly. c.in_ok-first_image.ensures.first h1 there held (λ le fits. partly le (omega (arith, fits, len_is))) ∙ ap (λ (m : Image). block_bytes m (named m e (data_block first))) one)
    (subst edge len_is read)

pub returns-clause-widths : goal.returns-clause-widths
returns-clause-widths c = grind (arith, common_steps)
