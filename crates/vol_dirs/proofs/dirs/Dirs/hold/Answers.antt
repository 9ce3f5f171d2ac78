use Rattle.std.proofs.Common.{◌≤◌, ◌<◌, ◌^◌, ℕ, inl, inr, sym, subst, arith}
use Rattle.vol_inode.specs.Entry.{name_of}
use Rattle.vol_dirs.specs.internal.Listing.{AreMarked}
use Rattle.vol_dirs.specs.SlotMarks.{flags_of}
use Rattle.vol_dirs.specs.SerialOrder.{keys_of, serials_of, room_of, IsAbsent}
use Rattle.vol_dirs.specs.Names.{IsFree}
use Rattle.vol_dirs.specs.declared.dirs.Dirs.{Dirs}
use Rattle.vol_dirs.specs.Key.{key_of}
use Rattle.vol_dirs.proofs.Marks.{marks_more}
use Rattle.vol_dirs.proofs.Places.{key_held}
use Rattle.vol_dirs.proofs.Listings.{listing_more, names_more, key_free, child_free}
use Rattle.vol_dirs.proofs.Spelled.{plain_name_of}
use Rattle.vol_dirs.specs.Seats.{seat_of, no_seat}
use Rattle.vol_dirs.proofs.Seating.{seat_set}
use Rattle.vol_dirs.proofs.dirs.Dirs.hold.Goals as goal

-- the serial has no key and no child yet
no_key : (old : Dirs) (s : ℕ) → IsFree old s → IsAbsent old.keys s
no_key old s free has = key_free old.slots (keys_of old.keys) (keys_of old.children) old.listing s free _ (key_held old.keys.keys.items (serials_of old.keys) s has)

no_child : (old : Dirs) (s : ℕ) → IsFree old s → IsAbsent old.children s
no_child old s free has =
    let none = key_free old.slots (keys_of old.keys) (keys_of old.children) old.listing s free in
    child_free old.slots (keys_of old.keys) (keys_of old.children) old.listing s none _ (key_held old.children.keys.items (serials_of old.children) s has)

pub insert-requires : goal.insert-requires
insert-requires c =
    let old = c.args.self.now in
    let free : IsAbsent old.keys c.number-number.result = rw c.number-number.ensures (no_key old c.args.serial c.requires.free) in
    let first : 1 ≤ c.number-number.result = omega (arith, c.requires.first, c.number-number.ensures) in
    let last : c.number-number.result ≤ room_of old.keys = omega (arith, c.requires.last, c.number-number.ensures, old.keys_room) in
    (omega arith, (omega arith, (first, (last, free))))

pub insert-requires-2 : goal.insert-requires-2
insert-requires-2 c =
    let old = c.args.self.now in
    let free : IsAbsent old.children c.number-number.result = rw c.number-number.ensures (no_child old c.args.serial c.requires.free) in
    let first : 1 ≤ c.number-number.result = omega (arith, c.requires.first, c.number-number.ensures) in
    let last : c.number-number.result ≤ room_of old.children = omega (arith, c.requires.last, c.number-number.ensures, old.children_room) in
    (omega arith, (omega arith, (first, (last, free))))

pub invariant_of-self-clause-listing : goal.invariant_of-self-clause-listing
invariant_of-self-clause-listing c =
    let old = c.args.self.now in
    let e = c.args.entry.now in
    let free = key_free old.slots (keys_of old.keys) (keys_of old.children) old.listing c.args.serial c.requires.free in
    let more = rw (c.key_of-key.ensures, c.number-number.ensures) at c.insert.ensures.adds in
    let more_children = rw (c.child_key_of.ensures, c.number-number.ensures) at c.insert-2.ensures.adds in
    let narrow : e.parent < 2 ^ 32 = omega arith in
    listing_more old.slots (keys_of old.keys) (keys_of old.children) old.listing e.parent c.args.serial (name_of e) narrow (plain_name_of e c.requires.named) (keys_of c.insert.new.self) (keys_of c.insert-2.new.self)
    c.requires.first c.requires.last free more more_children

pub returns-clause-names : goal.returns-clause-names
returns-clause-names c p n s =
    let old = c.args.self.now in
    let e = c.args.entry.now in
    let more = rw (c.key_of-key.ensures, c.number-number.ensures) at c.insert.ensures.adds in
    let narrow : e.parent < 2 ^ 32 = omega arith in
    let names = names_more old.slots (keys_of old.keys) (keys_of old.children) old.listing e.parent c.args.serial (name_of e) narrow (plain_name_of e c.requires.named) (keys_of c.insert.new.self) (keys_of c.insert-2.new.self) more p n s in (
      λ h. elim (names.0 h) [ inl kept ↦ inl kept | inr (parent, name, serial) ↦ inr (record { parent_is = parent; name_is = name; serial_is = serial }) ],
      λ either. names.1 (elim either [ inl kept ↦ inl kept | inr that ↦ inr (that.parent_is, that.name_is, that.serial_is) ]),
    )

pub invariant_of-self-clause-marked : goal.invariant_of-self-clause-marked
invariant_of-self-clause-marked c =
    let old = c.args.self.now in
    let e = c.args.entry.now in
    let more = rw (c.key_of-key.ensures, c.number-number.ensures) at c.insert.ensures.adds in
    let is = rw c.number-number.ensures at c.mark.ensures in
    subst (AreMarked old.slots (keys_of c.insert.new.self)) (sym is) (marks_more old.slots (keys_of old.keys) (flags_of old.used) old.marked c.args.serial c.requires.first c.requires.last (key_of e.parent (name_of e)) (keys_of c.insert.new.self)
    (λ key t has. (old.listing.numbered key t has).0) more)

pub returns-clause-seats : goal.returns-clause-seats
returns-clause-seats c s from =
    let old = c.args.self.now in
    rw (c.seat_of.ensures, c.number-number.ensures) (seat_set old.seats.items c.args.serial s (seat_of c.args.entry.now) no_seat c.requires.first (omega (arith, old.seated, c.requires.last)) from)
