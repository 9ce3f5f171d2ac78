use Rattle.std.proofs.Common.{◌≡◌, inl, inr, List, ℕ, sym, subst, arith}
use Rattle.std.specs.List.{Contains}
use Rattle.byteorder.specs.Endian.{big_bytes}
use Rattle.vol_inode.specs.Entry.{name_of}
use Rattle.vol_dirs.specs.Key.{key_of}
use Rattle.vol_dirs.specs.Serials.{key_at}
use Rattle.vol_dirs.specs.internal.Listing.{AreMarked}
use Rattle.vol_dirs.specs.SlotMarks.{flags_of}
use Rattle.vol_dirs.specs.SerialOrder.{keys_of, serials_of}
use Rattle.vol_dirs.specs.internal.Rising.{Drops}
use Rattle.vol_dirs.specs.declared.dirs.Dirs.{Dirs}
use Rattle.vol_dirs.specs.declared.serial_order.SerialOrder.{SerialOrder}
use Rattle.vol_dirs.specs.Names.{Names}
use Rattle.vol_dirs.proofs.Marks.{marks_less}
use Rattle.vol_dirs.proofs.Places.{held_at, key_held, held_or_not}
use Rattle.vol_dirs.proofs.Listings.{listing_less, names_less, only_child}
use Rattle.vol_dirs.proofs.dirs.Dirs.forget.Goals as goal

-- the serial of an entry is a child's too
child_held : (old : Dirs) (p s : ℕ) (n : List ℕ) → Names old p n s → Contains (serials_of old.children) s
child_held old p s n held = elim (held_or_not (serials_of old.children) s) [
  | inl there ↦ there
  | inr absent ↦ absurd (old.listing.no_fewer (key_of p n) s held.held (λ has. absent (held_at old.children.keys.items (serials_of old.children) _ s has)))
]

pub remove-requires : goal.remove-requires
remove-requires c =
    let old = c.args.self.now in
    let e = c.args.entry.now in
    (omega arith, rw c.number-number.ensures (held_at old.keys.keys.items (serials_of old.keys) (key_of e.parent (name_of e)) c.args.serial c.requires.held.held))

pub remove-requires-2 : goal.remove-requires-2
remove-requires-2 c =
    let old = c.args.self.now in
    let e = c.args.entry.now in
    (omega arith, rw c.number-number.ensures (child_held old e.parent c.args.serial (name_of e) c.requires.held))

-- the key of a child that is held is that of its entry
own_child_less : (old : Dirs) (new : SerialOrder 4) (p s number : ℕ) (n : List ℕ) → number ≡ s → Names old p n s → Drops (keys_of old.children) (keys_of new) (key_at old.children.keys.items number) → Drops (keys_of old.children) (keys_of new) (big_bytes 4 p, s)
own_child_less old new p s number n is held less =
    let own = key_held old.children.keys.items (serials_of old.children) s (child_held old p s n held) in
    let same = only_child old.slots (keys_of old.keys) (keys_of old.children) old.listing p n s held _ own in
    subst (λ (k : List ℕ). Drops (keys_of old.children) (keys_of new) (k, s)) same (subst (λ (m : ℕ). Drops (keys_of old.children) (keys_of new) (key_at old.children.keys.items m)) is less)

-- the key of the serial is that of its entry
own_less : (old : Dirs) (new : SerialOrder 259) (p s number : ℕ) (n : List ℕ) → number ≡ s → Names old p n s → Drops (keys_of old.keys) (keys_of new) (key_at old.keys.keys.items number) → Drops (keys_of old.keys) (keys_of new) (key_of p n, s)
own_less old new p s number n is held less =
    let own = key_held old.keys.keys.items (serials_of old.keys) s (held_at old.keys.keys.items (serials_of old.keys) (key_of p n) s held.held) in
    let same = old.listing.one_each _ (key_of p n) s own held.held in
    subst (λ (k : List ℕ). Drops (keys_of old.keys) (keys_of new) (k, s)) same (subst (λ (m : ℕ). Drops (keys_of old.keys) (keys_of new) (key_at old.keys.keys.items m)) is less)

pub invariant_of-self-clause-listing : goal.invariant_of-self-clause-listing
invariant_of-self-clause-listing c =
    let old = c.args.self.now in
    let e = c.args.entry.now in
    let held = c.requires.held in
    let less = own_less old c.remove.new.self e.parent c.args.serial c.number-number.result (name_of e) c.number-number.ensures held c.remove.ensures.drops in
    listing_less old.slots (keys_of old.keys) (keys_of old.children) old.listing e.parent c.args.serial (name_of e) held.narrow held.plain (keys_of c.remove.new.self) (keys_of c.remove-2.new.self)
    held.held less (own_child_less old c.remove-2.new.self e.parent c.args.serial c.number-number.result (name_of e) c.number-number.ensures held c.remove-2.ensures.drops)

pub returns-clause-names : goal.returns-clause-names
returns-clause-names c p n s =
    let old = c.args.self.now in
    let e = c.args.entry.now in
    let held = c.requires.held in
    let less = own_less old c.remove.new.self e.parent c.args.serial c.number-number.result (name_of e) c.number-number.ensures held c.remove.ensures.drops in
    names_less old.slots (keys_of old.keys) (keys_of old.children) old.listing e.parent c.args.serial (name_of e) held.narrow held.plain (keys_of c.remove.new.self) (keys_of c.remove-2.new.self)
    held.held less p n s

pub overflow_sub-number : goal.overflow_sub-number
overflow_sub-number c =
    let bounds = c.args.self.now.listing.numbered (key_of c.args.entry.now.parent (name_of c.args.entry.now)) c.args.serial c.requires.held.held in
    omega (arith, bounds.0)

pub unmark-requires : goal.unmark-requires
unmark-requires c =
    let old = c.args.self.now in
    let bounds = old.listing.numbered (key_of c.args.entry.now.parent (name_of c.args.entry.now)) c.args.serial c.requires.held.held in
    omega (arith, bounds.0, bounds.1, old.marked.count)

pub invariant_of-self-clause-marked : goal.invariant_of-self-clause-marked
invariant_of-self-clause-marked c =
    let old = c.args.self.now in
    let e = c.args.entry.now in
    let held = c.requires.held in
    let less = own_less old c.remove.new.self e.parent c.args.serial c.number-number.result (name_of e) c.number-number.ensures held c.remove.ensures.drops in
    let bounds = old.listing.numbered (key_of e.parent (name_of e)) c.args.serial held.held in
    let is = rw c.number-number.ensures at c.unmark.ensures in
    subst (AreMarked old.slots (keys_of c.remove.new.self)) (sym is) (marks_less old.slots (keys_of old.keys) (flags_of old.used) old.marked c.args.serial bounds.0 bounds.1 (key_of e.parent (name_of e)) (keys_of c.remove.new.self)
    (λ key t has. (old.listing.numbered key t has).0) old.listing.one_each held.held less)
