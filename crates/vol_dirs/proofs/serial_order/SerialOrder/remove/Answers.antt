use Rattle.std.proofs.Common.{◌≡◌, ◌<◌, ◌≤◌, ◌*◌, ◌∷◌, ◌++◌, ℕ, List, length, refl, sym, ap, subst, arith}
use Rattle.std.specs.Prelude.{vec_len}
use Rattle.std.specs.List.Sorted.{IsPermutation}
use Rattle.vol_dirs.specs.internal.Rising.{AreApart, Drops}
use Rattle.vol_dirs.specs.Serials.{keys_in, AreSerials}
use Rattle.vol_dirs.specs.SerialOrder.{serials_of, keys_of, key_with}
use Rattle.vol_dirs.specs.declared.serial_order.SerialOrder.{SerialOrder}
use Rattle.vol_dirs.proofs.Places.{serial_in, serials_joined}
use Rattle.vol_dirs.proofs.Late.{less_apart, less_keys, late_less, long_less, taken_first}
use Rattle.vol_dirs.proofs.serial_order.SerialOrder.remove.Goals as goal

all_serials : {n : ℕ} (o : SerialOrder n) → AreSerials (vec_len o.keys) (serials_of o)
all_serials o = serials_joined (vec_len o.keys) o.long.items o.late.items o.long_serials o.late_serials

pub take_out-requires-then-not-take_out : goal.take_out-requires-then-not-take_out
take_out-requires-then-not-take_out g c =
    let o = c.args.self.now in
    let size : g.row.N * 1 < 9223372036854775808 = omega (arith, o.narrow) in
    let bounds = serial_in (vec_len o.keys) (serials_of o) c.args.serial (all_serials o) c.requires in
    let last : c.args.serial ≤ length o.keys.items = omega (arith, bounds.1, o.keys.ok.0) in
    let serials : AreSerials (length o.keys.items) o.long.items = λ k lt. ((o.long_serials k lt).0, omega (arith, (o.long_serials k lt).1, o.keys.ok.0)) in
    rw c.deref-then-not-take_out.ensures.value (size, (bounds.0, (last, (serials, o.long_rises))))

pub invariant_of-self : goal.invariant_of-self
invariant_of-self g c =
    let o = c.args.self.now in
    let s : ℕ = c.args.serial in
    let rest : List ℕ = c.take_out-then-not-take_out.new.serials.items in
    let same = c.if-not-take_out.ensures.same refl in
    let late_is : c.take_out.new.serials.items ≡ o.late.items = ap (λ v. v.items) same in
    let taken : IsPermutation o.long.items (s ∷ rest) = taken_first o.long.items o.late.items s rest c.take_out-then-not-take_out.result c.requires (c.if-not-take_out.ensures.absent refl) c.take_out-then-not-take_out.ensures.taken c.take_out-then-not-take_out.ensures.absent in
    let moved = long_less o.long.items o.late.items rest s taken in
    record {
      long_serials = λ k lt. let b = c.take_out-then-not-take_out.ensures.serials k lt in (b.0, omega (arith, b.1, c.deref-then-not-take_out.ensures.len));
      late_serials = λ k lt. let b = c.take_out.ensures.serials k lt in (b.0, omega (arith, b.1, c.deref.ensures.len));
      long_rises = rw c.deref-then-not-take_out.ensures.value at c.take_out-then-not-take_out.ensures.rises;
      late_rises = rw c.deref.ensures.value at c.take_out.ensures.rises;
      apart = subst (λ (l : List ℕ). AreApart (rest ++ l)) (sym late_is) (less_apart o.keys.items (serials_of o) (rest ++ o.late.items) s moved o.apart);
      narrow = o.narrow;
      within = o.within;
      keys_room = o.keys_room;
      long_room = omega (arith, o.long_room, c.take_out-then-not-take_out.ensures.capacity);
      late_room = omega (arith, o.late_room, c.take_out.ensures.capacity);
      spare_room = o.spare_room;
    }

pub invariant_of-self-else-not-take_out : goal.invariant_of-self-else-not-take_out
invariant_of-self-else-not-take_out g c =
    let o = c.args.self.now in
    let s : ℕ = c.args.serial in
    let rest : List ℕ = c.take_out.new.serials.items in
    let moved = late_less o.long.items o.late.items rest s (c.if-not-take_out.ensures.taken refl) in
    record {
      long_serials = o.long_serials;
      late_serials = λ k lt. let b = c.take_out.ensures.serials k lt in (b.0, omega (arith, b.1, c.deref.ensures.len));
      long_rises = o.long_rises;
      late_rises = rw c.deref.ensures.value at c.take_out.ensures.rises;
      apart = less_apart o.keys.items (serials_of o) (o.long.items ++ rest) s moved o.apart;
      narrow = o.narrow;
      within = o.within;
      keys_room = o.keys_room;
      long_room = o.long_room;
      late_room = omega (arith, o.late_room, c.take_out.ensures.capacity);
      spare_room = o.spare_room;
    }

pub returns-then-not-take_out-clause-drops : goal.returns-then-not-take_out-clause-drops
returns-then-not-take_out-clause-drops g c =
    let o = c.args.self.now in
    let s : ℕ = c.args.serial in
    let rest : List ℕ = c.take_out-then-not-take_out.new.serials.items in
    let same = c.if-not-take_out.ensures.same refl in
    let late_is : c.take_out.new.serials.items ≡ o.late.items = ap (λ v. v.items) same in
    let taken : IsPermutation o.long.items (s ∷ rest) = taken_first o.long.items o.late.items s rest c.take_out-then-not-take_out.result c.requires (c.if-not-take_out.ensures.absent refl) c.take_out-then-not-take_out.ensures.taken c.take_out-then-not-take_out.ensures.absent in
    let moved = long_less o.long.items o.late.items rest s taken in
    subst (λ (l : List ℕ). Drops (keys_of o) (keys_in o.keys.items (rest ++ l)) (key_with o s)) (sym late_is) (less_keys o.keys.items (serials_of o) (rest ++ o.late.items) s moved o.apart)

pub returns-else-not-take_out-clause-drops : goal.returns-else-not-take_out-clause-drops
returns-else-not-take_out-clause-drops g c =
    let o = c.args.self.now in
    let s : ℕ = c.args.serial in
    let rest : List ℕ = c.take_out.new.serials.items in
    let moved = late_less o.long.items o.late.items rest s (c.if-not-take_out.ensures.taken refl) in
    less_keys o.keys.items (serials_of o) (o.long.items ++ rest) s moved o.apart
