use Rattle.std.proofs.Common.{◌≡◌, ◌<◌, ◌≤◌, ◌*◌, ◌++◌, ℕ, List, [], length, sym, ◌∙◌, ap, ap₂, subst, arith}
use Rattle.std.specs.Prelude.{vec_len, vec_capacity}
use Rattle.std.specs.List.Sorted.{IsPermutation}
use Rattle.std.proofs.lemmas.List.{append-nil}
use Rattle.vol_dirs.specs.internal.Rising.{Rises}
use Rattle.vol_dirs.specs.internal.Listing.{key_order}
use Rattle.vol_dirs.specs.Serials.{keys_in, AreSerials}
use Rattle.vol_dirs.specs.SerialOrder.{serials_of}
use Rattle.vol_dirs.specs.declared.serial_order.SerialOrder.{SerialOrder}
use Rattle.vol_dirs.proofs.Places.{as_many, serials_joined, serials_moved}
use Rattle.vol_dirs.proofs.Apart.{moved_apart}
use Rattle.vol_dirs.proofs.Room.{few}
use Rattle.vol_dirs.proofs.serial_order.SerialOrder.merge.Goals as goal

all_serials : {n : ℕ} (o : SerialOrder n) → AreSerials (vec_len o.keys) (serials_of o)
all_serials o = serials_joined (vec_len o.keys) o.long.items o.late.items o.long_serials o.late_serials

pub merge-requires : goal.merge-requires
merge-requires g c =
    let o = c.args.self.now in
    let size : g.row.N * 1 < 9223372036854775808 = omega (arith, o.narrow) in
    let many : length (serials_of o) ≤ vec_len o.keys = few (vec_len o.keys) (serials_of o) (all_serials o) o.apart in
    let fits : length (serials_of o) ≤ vec_capacity c.clear.new.self = omega (arith, many, o.within, o.spare_room, c.clear.ensures.capacity) in
    let long_serials : AreSerials (length o.keys.items) o.long.items = λ k lt. ((o.long_serials k lt).0, omega (arith, (o.long_serials k lt).1, o.keys.ok.0)) in
    let late_serials : AreSerials (length o.keys.items) o.late.items = λ k lt. ((o.late_serials k lt).0, omega (arith, (o.late_serials k lt).1, o.keys.ok.0)) in
    rw (c.deref.ensures.value, c.deref-2.ensures.value, c.deref-3.ensures.value) (size, (long_serials, (late_serials, (o.long_rises, (o.late_rises, (o.apart, (c.clear.ensures.items, fits)))))))

pub invariant_of-self : goal.invariant_of-self
invariant_of-self g c =
    let o = c.args.self.now in
    let merged : List ℕ = c.merge.new.merged.items in
    let moved : IsPermutation (serials_of o) merged = rw (c.deref-2.ensures.value, c.deref-3.ensures.value) at c.merge.ensures.moved in
    let rises : Rises key_order (keys_in o.keys.items merged) = rw c.deref.ensures.value at c.merge.ensures.rises in
    let long_is : c.swap.new.x.items ≡ merged = ap (λ v. v.items) c.swap.ensures.x_after in
    let late_is : c.clear-2.new.self.items ≡ [] = c.clear-2.ensures.items in
    let none : length c.clear-2.new.self.items ≡ 0 = ap length late_is in
    let all_is : c.swap.new.x.items ++ c.clear-2.new.self.items ≡ merged = ap₂ (λ (p q : List ℕ). p ++ q) long_is late_is ∙ append-nil merged in
    let all_moved : IsPermutation (serials_of o) (c.swap.new.x.items ++ c.clear-2.new.self.items) = subst (λ (l : List ℕ). IsPermutation (serials_of o) l) (sym all_is) moved in
    let long_cap : vec_capacity c.swap.new.x ≡ vec_capacity c.merge.new.merged = ap (λ v. vec_capacity v) c.swap.ensures.x_after in
    let spare_cap : vec_capacity c.swap.new.y ≡ vec_capacity o.long = ap (λ v. vec_capacity v) c.swap.ensures.y_after in
    record {
      long_serials = subst (λ (l : List ℕ). AreSerials (vec_len o.keys) l) (sym long_is) (serials_moved (vec_len o.keys) (serials_of o) merged moved (all_serials o));
      late_serials = λ k lt. absurd (omega (arith, lt, none));
      long_rises = subst (λ (l : List ℕ). Rises key_order (keys_in o.keys.items l)) (sym long_is) rises;
      late_rises = λ i j d lt there. absurd (omega (arith, there, none, as_many o.keys.items c.clear-2.new.self.items));
      apart = moved_apart (serials_of o) (c.swap.new.x.items ++ c.clear-2.new.self.items) all_moved o.apart;
      narrow = o.narrow;
      within = o.within;
      keys_room = o.keys_room;
      long_room = omega (arith, long_cap, c.merge.ensures.capacity, c.clear.ensures.capacity, o.spare_room);
      late_room = omega (arith, c.clear-2.ensures.capacity, o.late_room);
      spare_room = omega (arith, spare_cap, o.long_room);
    }
