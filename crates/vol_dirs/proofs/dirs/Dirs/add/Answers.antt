use Rattle.std.proofs.Common.{◌≡◌, ◌∙◌, ℕ, List, sym, ap, subst, arith}
use Rattle.vol_sector.specs.Disk.{put}
use Rattle.vol_log.specs.Log.{view}
use Rattle.vol_inode.specs.Spelling.{spelling}
use Rattle.vol_dirs.specs.Names.{slots_of, Shows}
use Rattle.vol_dirs.proofs.StagedSlots.{stages_slot}
use Rattle.vol_dirs.proofs.Shown.{shown_added}
use Rattle.vol_dirs.proofs.dirs.Dirs.add.Goals as goal

pub returns-clause-stages : goal.returns-clause-stages
returns-clause-stages g c = stages_slot c.args.serial c.slot_sector.result (spelling c.args.entry.now) c.args.log.now c.stage.new.self c.slot_sector.ensures (c.stage.ensures.view ∙ ap (λ (b : List ℕ). put c.slot_sector.result b (view c.args.log.now)) c.write_entry.ensures.bytes) c.stage.ensures.room c.stage.ensures.staged c.stage.ensures.device c.stage.ensures.failed c.stage.ensures.sectors

pub returns-clause-shows : goal.returns-clause-shows
returns-clause-shows g c v right shown =
    let same : slots_of c.hold.new.self ≡ slots_of c.args.self.now = c.hold.ensures.slots in
    subst (λ (k : ℕ). Shows v (view c.stage.new.self) k c.hold.new.self) (sym same)
    (shown_added v (slots_of c.args.self.now) c.args.serial (view c.args.log.now) (view c.stage.new.self) c.args.self.now c.hold.new.self shown c.args.entry.now right c.requires.first c.requires.last c.requires.free (returns-clause-stages g c).view c.hold.ensures.names c.hold.ensures.seats)

pub stage-requires : goal.stage-requires
stage-requires g c = record {
  place = omega (arith, c.requires.first, c.slot_sector.ensures);
  there = omega (arith, c.requires.last, c.requires.can.there, c.slot_sector.ensures);
  room = c.requires.can.room;
  working = c.requires.can.working;
}
