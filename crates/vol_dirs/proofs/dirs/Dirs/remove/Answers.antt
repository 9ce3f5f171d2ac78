use Rattle.std.proofs.Common.{◌≡◌, ℕ, sym, subst, arith}
use Rattle.vol_log.specs.Log.{view}
use Rattle.vol_inode.specs.Entry.{name_of}
use Rattle.vol_inode.specs.Spelling.{unused}
use Rattle.vol_dirs.specs.Key.{key_of}
use Rattle.vol_dirs.specs.Names.{slots_of, Shows}
use Rattle.vol_dirs.proofs.StagedSlots.{stages_slot}
use Rattle.vol_dirs.proofs.Shown.{shown_removed}
use Rattle.vol_dirs.proofs.dirs.Dirs.remove.Goals as goal

pub slot_sector-requires : goal.slot_sector-requires
slot_sector-requires g c =
    let bounds = c.args.self.now.listing.numbered (key_of c.args.entry.now.parent (name_of c.args.entry.now)) c.args.serial c.requires.held.held in
    omega (arith, bounds.0, bounds.1)

pub stage-requires : goal.stage-requires
stage-requires g c =
    let bounds = c.args.self.now.listing.numbered (key_of c.args.entry.now.parent (name_of c.args.entry.now)) c.args.serial c.requires.held.held in
    record {
      place = omega (arith, bounds.0, c.slot_sector.ensures);
      there = omega (arith, bounds.1, c.requires.can.there, c.slot_sector.ensures);
      room = c.requires.can.room;
      working = c.requires.can.working;
    }

pub returns-clause-stages : goal.returns-clause-stages
returns-clause-stages g c = stages_slot c.args.serial c.slot_sector.result unused c.args.log.now c.stage.new.self c.slot_sector.ensures c.stage.ensures.view c.stage.ensures.room c.stage.ensures.staged c.stage.ensures.device c.stage.ensures.failed c.stage.ensures.sectors

pub returns-clause-shows : goal.returns-clause-shows
returns-clause-shows g c v shown =
    let same : slots_of c.forget.new.self ≡ slots_of c.args.self.now = c.forget.ensures.slots in
    subst (λ (k : ℕ). Shows v (view c.stage.new.self) k c.forget.new.self) (sym same)
    (shown_removed v (slots_of c.args.self.now) c.args.serial (view c.args.log.now) (view c.stage.new.self) c.args.self.now c.forget.new.self shown (returns-clause-stages g c).view c.forget.ensures.names c.forget.ensures.seats)
