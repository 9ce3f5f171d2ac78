use Rattle.std.proofs.Common.{◌≡◌, ◌<◌, ◌≤◌, ◌-◌, ◌∷◌, ◌++◌, ℕ, List, length, set, Result, Ok, Err, IsOk, is_ok, if◌then◌else◌, refl, sym, ◌∙◌, ap, subst, arith}
use Rattle.std.specs.Prelude.{vec_len, vec_capacity}
use Rattle.std.specs.List.{insert}
use Rattle.std.proofs.lemmas.List.Sorted.{IsPermutation-insert}
use Rattle.vol_dirs.specs.internal.Rising.{Rises, IsFirstOver, AreApart, AddsItem}
use Rattle.vol_dirs.specs.internal.Listing.{key_order}
use Rattle.vol_dirs.specs.Serials.{keys_in, AreSerials, IsAbsentIn}
use Rattle.vol_dirs.specs.SerialOrder.{serials_of, keys_of}
use Rattle.vol_dirs.specs.declared.serial_order.SerialOrder.{SerialOrder}
use Rattle.vol_dirs.proofs.Places.{serials_moved, serials_front}
use Rattle.vol_dirs.proofs.Late.{more_apart, more_keys, long_stays, late_rises, adds_moved, moved_keys, absent_moved, absent_same}
use Rattle.vol_dirs.proofs.serial_order.SerialOrder.insert.Goals as goal

where_ok : {T E X : Type 0} (r : Result T E) (a b : X) → IsOk r → (if is_ok r then a else b) ≡ a
where_ok (Ok x) a b ok = refl
where_ok (Err e) a b ok = cc

fit : {n : ℕ} (o : SerialOrder n) (order : List ℕ) → AreSerials (vec_len o.keys) order → AreSerials (length o.keys.items) order
fit o order serials k lt = ((serials k lt).0, omega (arith, (serials k lt).1, o.keys.ok.0))

pub invariant_of-self : goal.invariant_of-self
invariant_of-self g c =
    let old = c.args.self.now in
    let mid = c.make_room.new.self in
    let o = c.reach.new.self in
    let keys : List (List ℕ) = o.keys.items in
    let long : List ℕ = o.long.items in
    let late : List ℕ = o.late.items in
    let key : List ℕ = c.args.key.now in
    let s : ℕ = c.args.serial in
    let at : ℕ = c.first_over-at.result in
    let long_is : long ≡ mid.long.items = ap (λ v. v.items) c.reach.ensures.long in
    let late_is : late ≡ mid.late.items = ap (λ v. v.items) c.reach.ensures.late in
    let absent : IsAbsentIn s (long ++ late) = absent_same mid.long.items mid.late.items long late s long_is late_is (absent_moved (serials_of old) (serials_of mid) s c.make_room.ensures.moved c.requires.free) in
    let last : s ≤ length keys = omega (arith, c.reach.ensures.reaches, o.keys.ok.0) in
    let found : IsFirstOver key_order (keys_in keys late) (key, s) at = rw (c.deref.ensures.value, c.deref-2.ensures.value) at c.first_over-at.ensures.first in
    let within : at ≤ length late = rw c.deref-2.ensures.value at c.first_over-at.ensures.within in
    let few_late : vec_len o.late ≡ vec_len mid.late = ap (λ v. vec_len v) c.reach.ensures.late in
    let room : vec_len o.late < vec_capacity o.late = omega (arith, few_late, c.make_room.ensures.late, o.late_room) in
    let is : c.insert.new.self.items ≡ insert late at s = c.insert.ensures.items ∙ where_ok c.insert.result _ _ (c.insert.ensures.succeeds room) in
    let long_serials = fit o long o.long_serials in
    let late_serials = fit o late o.late_serials in
    record {
      long_serials = o.long_serials;
      late_serials = subst (λ (l : List ℕ). AreSerials (vec_len o.keys) l) (sym is) (serials_moved (vec_len o.keys) (s ∷ late) (insert late at s) (IsPermutation-insert late at s) (serials_front (vec_len o.keys) late s c.requires.first c.reach.ensures.reaches o.late_serials));
      long_rises = long_stays keys long late long_serials late_serials o.apart key s c.requires.first last absent o.long_rises;
      late_rises = subst (λ (l : List ℕ). Rises key_order (keys_in (set keys (s - 1) key) l)) (sym is) (late_rises keys long late long_serials late_serials o.apart key s c.requires.first last absent o.late_rises at within found);
      apart = subst (λ (l : List ℕ). AreApart (long ++ l)) (sym is) (more_apart keys long late long_serials late_serials o.apart key s c.requires.first last absent at);
      narrow = o.narrow;
      within = o.within;
      keys_room = o.keys_room;
      long_room = o.long_room;
      late_room = omega (arith, c.insert.ensures.capacity, o.late_room);
      spare_room = o.spare_room;
    }

pub returns-in-Ok-clause-adds : goal.returns-in-Ok-clause-adds
returns-in-Ok-clause-adds g c =
    let old = c.args.self.now in
    let mid = c.make_room.new.self in
    let o = c.reach.new.self in
    let keys : List (List ℕ) = o.keys.items in
    let long : List ℕ = o.long.items in
    let late : List ℕ = o.late.items in
    let key : List ℕ = c.args.key.now in
    let s : ℕ = c.args.serial in
    let at : ℕ = c.first_over-at.result in
    let long_is : long ≡ mid.long.items = ap (λ v. v.items) c.reach.ensures.long in
    let late_is : late ≡ mid.late.items = ap (λ v. v.items) c.reach.ensures.late in
    let absent : IsAbsentIn s (long ++ late) = absent_same mid.long.items mid.late.items long late s long_is late_is (absent_moved (serials_of old) (serials_of mid) s c.make_room.ensures.moved c.requires.free) in
    let last : s ≤ length keys = omega (arith, c.reach.ensures.reaches, o.keys.ok.0) in
    let is : c.insert.new.self.items ≡ insert late at s = c.in-Ok.ensures.items in
    let new : List (List ℕ × ℕ) = keys_in (set keys (s - 1) key) (long ++ c.insert.new.self.items) in
    let adds : AddsItem (keys_of o) new (key, s) = subst (λ (l : List ℕ). AddsItem (keys_of o) (keys_in (set keys (s - 1) key) (long ++ l)) (key, s)) (sym is)
    (more_keys keys long late (fit o long o.long_serials) (fit o late o.late_serials) o.apart key s c.requires.first last absent at) in
    let moved = moved_keys old.keys.items mid.keys.items (serials_of old) (serials_of mid) (ap (λ v. v.items) c.make_room.ensures.keys) c.make_room.ensures.moved in
    adds_moved (keys_of old) (keys_of mid) new (key, s) moved (subst (λ (l : List (List ℕ × ℕ)). AddsItem l new (key, s)) c.reach.ensures.keys adds)
