use Rattle.std.proofs.Common.{◌∙◌, ℕ, true, false, inr, refl, sym, ap, arith}
use Rattle.vol_log.specs.Log.{view}
use Rattle.vol_inode.specs.declared.entry.Entry.{Entry}
use Rattle.vol_body.specs.Body.{bytes_of}
use Rattle.vol_body.specs.Bytes.{resized_bytes}
use Rattle.vol_tree.specs.Clauses.{tree_in}
use Rattle.vol_tree.proofs.Committing.{commits_then}
use Rattle.vol_tree.proofs.Changing.{refused_io}
use Rattle.vol_tree.proofs.WriteCalls.{file_used, long_resized}
use Rattle.vol_tree.proofs.OneTree.{limit_small}
use Rattle.vol_tree.proofs.Taking.{refused_by}
use Rattle.vol_tree.proofs.FileCalls.{can_change, is_filled, has_no_space, is_too_big}
use Rattle.vol_tree.proofs.Filling.{fails_after, fails_io}
use Rattle.vol_tree.proofs.parts.Parts.set_size.Goals as goal

pub entry-requires : goal.entry-requires
entry-requires g c = record { is_open = c.requires.is_open; first = c.requires.first; last = c.requires.last }

pub returns-in_err-entry : goal.returns-in_err-entry
returns-in_err-entry g c =
    let old = c.args.self.now in
    refused_by Entry _ old c.entry.new.self c.from_residual.result c.in_err-entry.field-0.0 c.from_residual.ensures.1 c.in_err-entry.ensures.reads (λ h.
    inr (c.in_err-entry.ensures.found h (file_used (tree_in (view old.log) old.numbers) c.args.file (c.requires.used h))))

pub reserved_with-requires : goal.reserved_with-requires
reserved_with-requires g c = record { ranges = c.in_ok-entry.ensures.reads.commits.is_open.ranges }

pub make_room-requires : goal.make_room-requires
make_room-requires g c = record { «open» = c.in_ok-entry.ensures.reads.commits.is_open }

pub returns-in_default : goal.returns-in_default
returns-in_default g c =
    is_too_big c.args.self.now c.entry.new.self c.args.file c.in_ok-entry.entry (resized_bytes c.args.size) _ c.requires.is_open c.requires.first c.in_ok-entry.ensures.reads c.requires.used c.in_ok-entry.ensures.found refl
    c.args.size (λ h slot. long_resized c.args.size _) c.in_default.ensures

pub returns-in_default-reserved_with : goal.returns-in_default-reserved_with
returns-in_default-reserved_with g c =
    has_no_space c.args.self.now c.entry.new.self c.args.file c.in_ok-entry.entry (resized_bytes c.args.size) _ c.requires.is_open c.requires.first c.in_ok-entry.ensures.reads c.requires.used c.in_ok-entry.ensures.found refl
    c.in-Some.size (λ h slot. long_resized c.args.size _ ∙ sym c.in-Some.ensures.0) c.in-Some.ensures.1 c.in_default-reserved_with.ensures

pub returns-in_err-make_room : goal.returns-in_err-make_room
returns-in_err-make_room g c =
    let old = c.args.self.now in
    let commits = commits_then old c.entry.new.self c.make_room.new.self true c.in_ok-entry.ensures.reads.commits c.in_err-make_room.ensures.commits in
    refused_io _ old c.make_room.new.self c.from_residual-in_err-make_room.result c.from_residual-in_err-make_room.ensures.1 commits

pub slot_sector-requires : goal.slot_sector-requires
slot_sector-requires g c = omega (arith, c.requires.last, c.requires.is_open.ranges.few_slots)

pub set_size-requires : goal.set_size-requires
set_size-requires g c = record {
  can = can_change c.args.self.now c.entry.new.self c.args.file c.in_ok-entry.entry (resized_bytes c.args.size) _ c.requires.is_open c.requires.first c.in_ok-entry.ensures.reads c.requires.used c.in_ok-entry.ensures.found refl
      c.make_room.new.self c.in_ok-make_room.ensures.commits 5 c.slot_sector.result (omega (arith, c.in_ok-make_room.ensures.room)) c.requires.last c.slot_sector.ensures c.in_ok-entry.ensures.right;
  small = omega (arith, c.in-Some.ensures.1, limit_small c.entry.new.self.numbers.version);
}

pub returns-in_err-set_size : goal.returns-in_err-set_size
returns-in_err-set_size g c =
    let old = c.args.self.now in
    let mid = c.make_room.new.self in
    let commits = commits_then old c.entry.new.self mid false c.in_ok-entry.ensures.reads.commits c.in_ok-make_room.ensures.commits in
    let refused_at = c.in_err-set_size.ensures.refused in
    fails_io _ old _ c.from_residual-in_err-set_size.result c.from_residual-in_err-set_size.ensures.1
    (fails_after old mid c.set_size.new.log c.set_size.new.sectors commits refused_at.0 c.in_err-set_size.ensures.steps.failed c.set_size.ensures.steps.range.0 c.set_size.ensures.steps.range.1)

pub returns : goal.returns
returns g c =
    let done = c.in_ok-set_size.ensures in
    is_filled c.args.self.now c.entry.new.self c.args.file c.in_ok-entry.entry (resized_bytes c.args.size) _ c.requires.is_open c.requires.first c.in_ok-entry.ensures.reads c.requires.used c.in_ok-entry.ensures.found refl
    c.make_room.new.self c.in_ok-make_room.ensures.commits c.set_size.new.log c.set_size.new.sectors c.in-Some-reserved_with.reserved c.slot_sector.result c.in-Some.size c.set_size.new.entry _ c.slot_sector.ensures c.in-Some.ensures.1 c.in-Some-reserved_with.ensures
    c.set_size.ensures.steps.log done.steps.failed c.set_size.ensures.steps.range done.entry done.file (ap (λ (k : ℕ). resized_bytes k (bytes_of (view c.make_room.new.self.log) c.in_ok-entry.entry)) c.in-Some.ensures.0)
