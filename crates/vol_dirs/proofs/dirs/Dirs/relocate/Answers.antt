use Rattle.std.proofs.Common.{◌≡◌, ◌≢◌, ◌∙◌, ℕ, List, ◌⊎◌, ◌↔◌, inl, inr, refl, sym, ap, subst, ◌==◌, if◌then◌else◌, arith}
use Rattle.vol_sector.specs.Disk.{put}
use Rattle.vol_log.specs.Log.{view}
use Rattle.vol_inode.specs.Entry.{name_of}
use Rattle.vol_dirs.specs.Key.{key_of}
use Rattle.vol_inode.specs.Spelling.{spelling}
use Rattle.vol_dirs.specs.Names.{slots_of, Names, IsNameOf, Shows}
use Rattle.vol_dirs.specs.Seats.{seat_of, TakesSeat}
use Rattle.vol_dirs.specs.declared.seat.Seat.{Seat}
use Rattle.vol_dirs.proofs.StagedSlots.{stages_slot}
use Rattle.vol_dirs.proofs.Shown.{shown_put}
use Rattle.vol_dirs.proofs.dirs.Dirs.relocate.Goals as goal

pub slot_sector-requires : goal.slot_sector-requires
slot_sector-requires g c =
    let bounds = c.args.self.now.listing.numbered (key_of c.args.from.now.parent (name_of c.args.from.now)) c.args.serial c.requires.held.held in
    omega (arith, bounds.0, bounds.1)

pub stage-requires : goal.stage-requires
stage-requires g c =
    let bounds = c.args.self.now.listing.numbered (key_of c.args.from.now.parent (name_of c.args.from.now)) c.args.serial c.requires.held.held in
    record {
      place = omega (arith, bounds.0, c.slot_sector.ensures);
      there = omega (arith, bounds.1, c.requires.can.there, c.slot_sector.ensures);
      room = c.requires.can.room;
      working = c.requires.can.working;
    }

pub hold-requires-clause-first : goal.hold-requires-clause-first
hold-requires-clause-first g c =
    let bounds = c.args.self.now.listing.numbered (key_of c.args.from.now.parent (name_of c.args.from.now)) c.args.serial c.requires.held.held in
    bounds.0

pub hold-requires-clause-last : goal.hold-requires-clause-last
hold-requires-clause-last g c =
    let bounds = c.args.self.now.listing.numbered (key_of c.args.from.now.parent (name_of c.args.from.now)) c.args.serial c.requires.held.held in
    omega (arith, bounds.1, c.forget.ensures.slots)

pub hold-requires-clause-free : goal.hold-requires-clause-free
hold-requires-clause-free g c p n held = let old = (c.forget.ensures.names p n c.args.serial).0 held in old.1 refl

pub returns : goal.returns
returns g c =
    let stages = stages_slot c.args.serial c.slot_sector.result (spelling c.args.to.now) c.args.log.now c.stage.new.self c.slot_sector.ensures (c.stage.ensures.view ∙ ap (λ (b : List ℕ). put c.slot_sector.result b (view c.args.log.now)) c.write_entry.ensures.bytes) c.stage.ensures.room c.stage.ensures.staged c.stage.ensures.device c.stage.ensures.failed c.stage.ensures.sectors in
    record {
      names = λ p n s.
          let first = c.forget.ensures.names p n s in
          let next = c.hold.ensures.names p n s in (
            λ h. elim (next.0 h) [ inl kept ↦ inl (first.0 kept) | inr that ↦ inr that ],
            λ either. next.1 (elim either [ inl kept ↦ inl (first.1 kept) | inr that ↦ inr that ]),
          );
      slots = c.hold.ensures.slots ∙ c.forget.ensures.slots;
      stages = stages;
      shows = λ v right shown.
          let old = c.args.self.now in
          let bounds = old.listing.numbered (key_of c.args.from.now.parent (name_of c.args.from.now)) c.args.serial c.requires.held.held in
          let same : slots_of c.hold.new.self ≡ slots_of old = c.hold.ensures.slots ∙ c.forget.ensures.slots in
          let names : (p : ℕ) (n : List ℕ) (s : ℕ) → Names c.hold.new.self p n s ↔ (Names old p n s × (s ≢ c.args.serial) ⊎ IsNameOf c.args.to.now c.args.serial p n s) = λ p n s. (
            λ h. elim ((c.hold.ensures.names p n s).0 h) [ inl kept ↦ inl ((c.forget.ensures.names p n s).0 kept) | inr that ↦ inr that ],
            λ either. (c.hold.ensures.names p n s).1 (elim either [ inl kept ↦ inl ((c.forget.ensures.names p n s).1 kept) | inr that ↦ inr that ]),
          ) in
          let seats : TakesSeat old c.hold.new.self c.args.serial c.args.to.now = λ s from. c.hold.ensures.seats s from
          ∙ ap (λ (x : Seat). if s == c.args.serial then seat_of c.args.to.now else x) (c.forget.ensures.seats s from) in
          subst (λ (k : ℕ). Shows v (view c.stage.new.self) k c.hold.new.self) (sym same)
          (shown_put v (slots_of old) c.args.serial (view c.args.log.now) (view c.stage.new.self) old c.hold.new.self shown c.args.to.now right bounds.0 bounds.1 stages.view names seats);
    }
