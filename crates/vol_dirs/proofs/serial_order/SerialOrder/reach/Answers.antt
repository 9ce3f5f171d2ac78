use Rattle.std.proofs.Common.{◌≡◌, ◌<◌, ◌*◌, ℕ, List, [], length, get_or, sym, subst, arith}
use Rattle.std.specs.Prelude.{vec_len}
use Rattle.vol_dirs.specs.internal.Rising.{Rises}
use Rattle.vol_dirs.specs.internal.Listing.{key_order}
use Rattle.vol_dirs.specs.Serials.{keys_in, AreSerials}
use Rattle.vol_dirs.specs.SerialOrder.{serials_of}
use Rattle.vol_dirs.specs.declared.serial_order.SerialOrder.{SerialOrder}
use Rattle.vol_dirs.proofs.Places.{lengthened, more_serials, serials_joined}
use Rattle.vol_dirs.proofs.serial_order.SerialOrder.reach.Goals as goal

same_keys : {n : ℕ} (o : SerialOrder n) (longer : List (List ℕ)) (order : List ℕ) → AreSerials (vec_len o.keys) order → ((k : ℕ) → k < vec_len o.keys → get_or longer k [] ≡ get_or o.keys.items k []) → keys_in longer order ≡ keys_in o.keys.items order
same_keys o longer order serials kept = lengthened o.keys.items longer order (more_serials (vec_len o.keys) (length o.keys.items) order (omega (arith, o.keys.ok.0)) serials) (λ k lt. kept k (omega (arith, lt, o.keys.ok.0)))

pub lengthen-requires : goal.lengthen-requires
lengthen-requires g c =
    let o = c.args.self.now in
    let size : g.row.N * 1 < 9223372036854775808 = omega (arith, o.narrow) in
    (size, (omega (arith, c.if-len-serial.true, c.len.ensures), omega (arith, c.requires, o.keys_room)))

pub invariant_of-self : goal.invariant_of-self
invariant_of-self g c =
    let o = c.args.self.now in
    let long = c.lengthen.ensures.count in
    record {
      long_serials = λ k lt. ((o.long_serials k lt).0, omega (arith, long, (o.long_serials k lt).1, c.if-len-serial.true, c.len.ensures));
      late_serials = λ k lt. ((o.late_serials k lt).0, omega (arith, long, (o.late_serials k lt).1, c.if-len-serial.true, c.len.ensures));
      long_rises = subst (Rises key_order) (sym (same_keys o c.lengthen.new.keys.items o.long.items o.long_serials c.lengthen.ensures.kept)) o.long_rises;
      late_rises = subst (Rises key_order) (sym (same_keys o c.lengthen.new.keys.items o.late.items o.late_serials c.lengthen.ensures.kept)) o.late_rises;
      apart = o.apart;
      narrow = o.narrow;
      within = omega (arith, long, c.requires);
      keys_room = omega (arith, c.lengthen.ensures.capacity, o.keys_room);
      long_room = o.long_room;
      late_room = o.late_room;
      spare_room = o.spare_room;
    }

pub returns-then-len-serial-clause-keys : goal.returns-then-len-serial-clause-keys
returns-then-len-serial-clause-keys g c =
    let o = c.args.self.now in
    same_keys o c.lengthen.new.keys.items (serials_of o) (serials_joined (vec_len o.keys) o.long.items o.late.items o.long_serials o.late_serials) c.lengthen.ensures.kept
