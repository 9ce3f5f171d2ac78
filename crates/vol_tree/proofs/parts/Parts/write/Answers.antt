use Rattle.std.proofs.Common.{◌≡◌, ◌∙◌, ◌+◌, ◌-◌, ◌≤◌, ℕ, List, length, max, true, false, inr, sym, ap, subst, arith}
use Rattle.vol_log.specs.Log.{view}
use Rattle.vol_alloc.specs.Alloc.{free_of}
use Rattle.vol_inode.specs.declared.entry.Entry.{Entry}
use Rattle.vol_inode.specs.Space.{need_of}
use Rattle.vol_body.specs.Body.{bytes_of}
use Rattle.vol_body.specs.Bytes.{written_bytes}
use Rattle.vol_body.specs.Change.{EntryBecomes, used_of}
use Rattle.vol_tree.specs.Calls.{with_unit}
use Rattle.vol_tree.specs.Clauses.{tree_in}
use Rattle.vol_tree.specs.Opened.{geometry}
use Rattle.vol_tree.proofs.Committing.{commits_then}
use Rattle.vol_tree.proofs.Changing.{refused_io}
use Rattle.vol_tree.proofs.WriteCalls.{file_used, long_written}
use Rattle.vol_tree.proofs.Writes.{some_written}
use Rattle.vol_tree.proofs.OneTree.{limit_small}
use Rattle.vol_tree.proofs.Taking.{refused_by}
use Rattle.vol_tree.proofs.FileCalls.{can_change, is_filled, has_enough, has_no_space, stays_small, is_too_big}
use Rattle.vol_tree.proofs.Filling.{fails_after, fails_io}
use Rattle.vol_tree.proofs.parts.Parts.write.Goals as goal

pub entry-requires : goal.entry-requires
entry-requires g c = record { is_open = c.requires.is_open; first = c.requires.first; last = c.requires.last }

pub returns-in_err-entry : goal.returns-in_err-entry
returns-in_err-entry g c =
    let old = c.args.self.now in
    refused_by Entry _ old c.entry.new.self c.from_residual.result c.in_err-entry.field-0.0 c.from_residual.ensures.1 c.in_err-entry.ensures.reads (λ h.
    inr (c.in_err-entry.ensures.found h (file_used (tree_in (view old.log) old.numbers) c.args.file (c.requires.used h))))

pub reserved_with-requires : goal.reserved_with-requires
reserved_with-requires g c = record { ranges = c.in_ok-entry.ensures.reads.commits.is_open.ranges }

pub make_room-requires : goal.make_room-requires
make_room-requires g c = record { «open» = c.in_ok-entry.ensures.reads.commits.is_open }

pub end_of_write-requires : goal.end_of_write-requires
end_of_write-requires g c = subst (λ (n : ℕ). n ≤ 16384) (sym c.len-count.ensures) c.requires.piece

pub returns-in_default : goal.returns-in_default
returns-in_default g c =
    let old = c.args.self.now in
    is_too_big old c.entry.new.self c.args.file c.in_ok-entry.entry (λ (l : List ℕ). written_bytes l c.args.offset c.args.bytes.now) _ c.requires.is_open c.requires.first c.in_ok-entry.ensures.reads c.requires.used c.in_ok-entry.ensures.found
    (ap with_unit (some_written (geometry old.numbers) (tree_in (view old.log) old.numbers) c.args.file c.args.offset c.args.bytes.now c.requires.some))
    _ (λ h slot. long_written (view old.log) old.numbers (c.requires.is_open.content h) c.args.file c.requires.first c.in_ok-entry.entry slot (c.requires.used h) c.args.offset c.args.bytes.now c.requires.some)
    (omega (arith, c.in_default.ensures, c.len-count.ensures))

pub returns-in_default-reserved_with : goal.returns-in_default-reserved_with
returns-in_default-reserved_with g c =
    let old = c.args.self.now in
    let d = c.in_ok-entry.entry in
    let end_is : c.in-Some.end ≡ c.args.offset + length c.args.bytes.now = c.in-Some.ensures.0 ∙ ap (λ (k : ℕ). c.args.offset + k) c.len-count.ensures in
    has_no_space old c.entry.new.self c.args.file c.in_ok-entry.entry (λ (l : List ℕ). written_bytes l c.args.offset c.args.bytes.now) _ c.requires.is_open c.requires.first c.in_ok-entry.ensures.reads c.requires.used c.in_ok-entry.ensures.found
    (ap with_unit (some_written (geometry old.numbers) (tree_in (view old.log) old.numbers) c.args.file c.args.offset c.args.bytes.now c.requires.some))
    c.max-size.result
    (λ h slot. long_written (view old.log) old.numbers (c.requires.is_open.content h) c.args.file c.requires.first c.in_ok-entry.entry slot (c.requires.used h) c.args.offset c.args.bytes.now c.requires.some ∙ sym (c.max-size.ensures ∙ ap (max d.size) end_is))
    (stays_small old c.entry.new.self c.args.file c.in_ok-entry.entry (λ (l : List ℕ). written_bytes l c.args.offset c.args.bytes.now) _ c.requires.is_open c.requires.first c.in_ok-entry.ensures.reads c.requires.used c.in_ok-entry.ensures.found
    (ap with_unit (some_written (geometry old.numbers) (tree_in (view old.log) old.numbers) c.args.file c.args.offset c.args.bytes.now c.requires.some))
    c.in_ok-entry.ensures.right c.in-Some.end c.max-size.result c.max-size.ensures c.in-Some.ensures.1) c.in_default-reserved_with.ensures

pub returns-in_err-make_room : goal.returns-in_err-make_room
returns-in_err-make_room g c =
    let old = c.args.self.now in
    let commits = commits_then old c.entry.new.self c.make_room.new.self true c.in_ok-entry.ensures.reads.commits c.in_err-make_room.ensures.commits in
    refused_io _ old c.make_room.new.self c.from_residual-in_err-make_room.result c.from_residual-in_err-make_room.ensures.1 commits

pub slot_sector-requires : goal.slot_sector-requires
slot_sector-requires g c = omega (arith, c.requires.last, c.requires.is_open.ranges.few_slots)

pub write_at-requires : goal.write_at-requires
write_at-requires g c =
    let old = c.args.self.now in
    let mid = c.make_room.new.self in
    let d = c.in_ok-entry.entry in
    let back : c.in-Some.end - c.len-count.result + length c.args.bytes.now ≡ c.in-Some.end = omega (arith, c.in-Some.ensures.0, c.len-count.ensures) in
    let size_is : max c.in_ok-entry.entry.size (c.in-Some.end - c.len-count.result + length c.args.bytes.now) ≡ c.max-size.result = ap (max c.in_ok-entry.entry.size) back ∙ sym c.max-size.ensures in
    record {
      can = can_change old c.entry.new.self c.args.file c.in_ok-entry.entry (λ (l : List ℕ). written_bytes l c.args.offset c.args.bytes.now) _ c.requires.is_open c.requires.first c.in_ok-entry.ensures.reads c.requires.used c.in_ok-entry.ensures.found
          (ap with_unit (some_written (geometry old.numbers) (tree_in (view old.log) old.numbers) c.args.file c.args.offset c.args.bytes.now c.requires.some))
          mid c.in_ok-make_room.ensures.commits 39 c.slot_sector.result (omega (arith, c.in_ok-make_room.ensures.room)) c.requires.last c.slot_sector.ensures c.in_ok-entry.ensures.right;
      small = omega (arith, c.in-Some.ensures.0, c.in-Some.ensures.1, c.len-count.ensures, limit_small c.entry.new.self.numbers.version);
      few = c.requires.piece;
      space = λ h names body. subst (λ (size : ℕ). need_of size ≤ free_of mid.sectors + used_of (view mid.log) d) (sym size_is)
          (has_enough old c.entry.new.self c.args.file c.in_ok-entry.entry (λ (l : List ℕ). written_bytes l c.args.offset c.args.bytes.now) _ c.requires.is_open c.requires.first c.in_ok-entry.ensures.reads c.requires.used c.in_ok-entry.ensures.found
          (ap with_unit (some_written (geometry old.numbers) (tree_in (view old.log) old.numbers) c.args.file c.args.offset c.args.bytes.now c.requires.some))
          mid c.in_ok-make_room.ensures.commits c.in-Some-reserved_with.reserved c.max-size.result c.in-Some-reserved_with.ensures h);
    }

pub returns-in_err-write_at : goal.returns-in_err-write_at
returns-in_err-write_at g c =
    let old = c.args.self.now in
    let mid = c.make_room.new.self in
    let commits = commits_then old c.entry.new.self mid false c.in_ok-entry.ensures.reads.commits c.in_ok-make_room.ensures.commits in
    let refused_at = c.in_err-write_at.ensures.refused in
    fails_io _ old _ c.from_residual-in_err-write_at.result c.from_residual-in_err-write_at.ensures.1
    (fails_after old mid c.write_at.new.log c.write_at.new.sectors commits refused_at.0 c.in_err-write_at.ensures.steps.failed c.write_at.ensures.steps.range.0 c.write_at.ensures.steps.range.1)

pub returns : goal.returns
returns g c =
    let old = c.args.self.now in
    let mid = c.make_room.new.self in
    let d = c.in_ok-entry.entry in
    let done = c.in_ok-write_at.ensures in
    let at : c.in-Some.end - c.len-count.result ≡ c.args.offset = omega (arith, c.in-Some.ensures.0) in
    let back : c.in-Some.end - c.len-count.result + length c.args.bytes.now ≡ c.in-Some.end = omega (arith, c.in-Some.ensures.0, c.len-count.ensures) in
    let size_is : max c.in_ok-entry.entry.size (c.in-Some.end - c.len-count.result + length c.args.bytes.now) ≡ c.max-size.result = ap (max c.in_ok-entry.entry.size) back ∙ sym c.max-size.ensures in
    let small = stays_small old c.entry.new.self c.args.file c.in_ok-entry.entry (λ (l : List ℕ). written_bytes l c.args.offset c.args.bytes.now) _ c.requires.is_open c.requires.first c.in_ok-entry.ensures.reads c.requires.used c.in_ok-entry.ensures.found
    (ap with_unit (some_written (geometry old.numbers) (tree_in (view old.log) old.numbers) c.args.file c.args.offset c.args.bytes.now c.requires.some))
    c.in_ok-entry.ensures.right c.in-Some.end c.max-size.result c.max-size.ensures c.in-Some.ensures.1 in
    is_filled old c.entry.new.self c.args.file c.in_ok-entry.entry (λ (l : List ℕ). written_bytes l c.args.offset c.args.bytes.now) _ c.requires.is_open c.requires.first c.in_ok-entry.ensures.reads c.requires.used c.in_ok-entry.ensures.found
    (ap with_unit (some_written (geometry old.numbers) (tree_in (view old.log) old.numbers) c.args.file c.args.offset c.args.bytes.now c.requires.some))
    mid c.in_ok-make_room.ensures.commits c.write_at.new.log c.write_at.new.sectors c.in-Some-reserved_with.reserved c.slot_sector.result c.max-size.result c.write_at.new.entry _ c.slot_sector.ensures small c.in-Some-reserved_with.ensures
    c.write_at.ensures.steps.log done.steps.failed c.write_at.ensures.steps.range (subst (λ (k : ℕ). EntryBecomes c.slot_sector.result k (view c.write_at.new.log) d c.write_at.new.entry) size_is (done.entry c.requires.some))
    (λ h names body. (done.file h names body).0) (ap (λ (k : ℕ). written_bytes (bytes_of (view mid.log) d) k c.args.bytes.now) at)
