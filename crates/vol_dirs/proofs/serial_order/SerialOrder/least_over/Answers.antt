use Rattle.std.proofs.Common.{◌≡◌, ◌++◌, ℕ, List, Option, IfSome, IfNone, Some, None, subst, arith}
use Rattle.std.specs.List.{Contains}
use Rattle.std.proofs.lemmas.List.Elements.{Contains-append_left, Contains-append_right}
use Rattle.vol_dirs.specs.internal.Rising.{IsLeastOver, NoneIsOver}
use Rattle.vol_dirs.specs.internal.Listing.{key_order}
use Rattle.vol_dirs.specs.Serials.{key_at, keys_in, IsHeldIn}
use Rattle.vol_dirs.specs.SerialOrder.{key_with}
use Rattle.vol_dirs.proofs.Late.{none_found, long_found, late_found, lesser_found, lesser_held}
use Rattle.vol_dirs.proofs.serial_order.SerialOrder.least_over.Goals as goal

-- what was found in one of the lists
found_in : (names : List (List ℕ)) (order : List ℕ) (bound : List ℕ × ℕ) (r : Option ℕ) (s : ℕ) → r ≡ Some s → IfSome r (λ t. IsLeastOver key_order (keys_in names order) bound (key_at names t)) → IsLeastOver key_order (keys_in names order) bound (key_at names s)
found_in names order bound r s is found = subst (λ (o : Option ℕ). IfSome o (λ t. IsLeastOver key_order (keys_in names order) bound (key_at names t))) is found

held_in : (order : List ℕ) (r : Option ℕ) (s : ℕ) → r ≡ Some s → IfSome r (λ t. IsHeldIn t order) → Contains order s
held_in order r s is held = subst (λ (o : Option ℕ). IfSome o (λ t. IsHeldIn t order)) is held

nothing_in : (names : List (List ℕ)) (order : List ℕ) (bound : List ℕ × ℕ) (r : Option ℕ) → r ≡ None → IfNone r (NoneIsOver key_order (keys_in names order) bound) → NoneIsOver key_order (keys_in names order) bound
nothing_in names order bound r is none = subst (λ (o : Option ℕ). IfNone o (NoneIsOver key_order (keys_in names order) bound)) is none

pub lesser-requires : goal.lesser-requires
lesser-requires g c =
    let o = c.args.self.now in
    let long = rw c.deref-2.ensures.value at c.least_over-long.ensures.held in
    let late = rw c.deref-4.ensures.value at c.least_over-late.ensures.held in (
      omega arith,
      (
        Contains-append_left o.long.items o.late.items c.in-Some-Some.one (held_in o.long.items c.least_over-long.result c.in-Some-Some.one c.in-Some-Some.is-0 long),
        Contains-append_right o.long.items o.late.items c.in-Some-Some.other (held_in o.late.items c.least_over-late.result c.in-Some-Some.other c.in-Some-Some.is-1 late),
      ),
    )

pub returns-in-Some-Some-clause-found : goal.returns-in-Some-Some-clause-found
returns-in-Some-Some-clause-found g c =
    let o = c.args.self.now in
    let bound : List ℕ × ℕ = (c.args.key.now, c.args.serial) in
    let long = rw (c.deref.ensures.value, c.deref-2.ensures.value) at c.least_over-long.ensures.found in
    let late = rw (c.deref-3.ensures.value, c.deref-4.ensures.value) at c.least_over-late.ensures.found in
    lesser_found o.keys.items o.long.items o.late.items bound c.in-Some-Some.one c.in-Some-Some.other c.lesser.result c.lesser.ensures
    (found_in o.keys.items o.long.items bound c.least_over-long.result c.in-Some-Some.one c.in-Some-Some.is-0 long)
    (found_in o.keys.items o.late.items bound c.least_over-late.result c.in-Some-Some.other c.in-Some-Some.is-1 late)

pub returns-in-Some-Some-clause-held : goal.returns-in-Some-Some-clause-held
returns-in-Some-Some-clause-held g c =
    let o = c.args.self.now in
    let long = rw c.deref-2.ensures.value at c.least_over-long.ensures.held in
    let late = rw c.deref-4.ensures.value at c.least_over-late.ensures.held in
    lesser_held (key_with o) (o.long.items ++ o.late.items) c.in-Some-Some.one c.in-Some-Some.other c.lesser.result c.lesser.ensures
    (Contains-append_left o.long.items o.late.items c.in-Some-Some.one (held_in o.long.items c.least_over-long.result c.in-Some-Some.one c.in-Some-Some.is-0 long))
    (Contains-append_right o.long.items o.late.items c.in-Some-Some.other (held_in o.late.items c.least_over-late.result c.in-Some-Some.other c.in-Some-Some.is-1 late))

pub returns-in-Some-None-clause-found : goal.returns-in-Some-None-clause-found
returns-in-Some-None-clause-found g c =
    let o = c.args.self.now in
    let bound : List ℕ × ℕ = (c.args.key.now, c.args.serial) in
    let long = rw (c.deref.ensures.value, c.deref-2.ensures.value) at c.least_over-long.ensures.found in
    let late = rw (c.deref-3.ensures.value, c.deref-4.ensures.value) at c.least_over-late.ensures.none in
    long_found o.keys.items o.long.items o.late.items bound c.in-Some-None.one
    (found_in o.keys.items o.long.items bound c.least_over-long.result c.in-Some-None.one c.in-Some-None.is-0 long)
    (nothing_in o.keys.items o.late.items bound c.least_over-late.result c.in-Some-None.is-1 late)

pub returns-in-None-default-clause-found : goal.returns-in-None-default-clause-found
returns-in-None-default-clause-found g c =
    let o = c.args.self.now in
    let bound : List ℕ × ℕ = (c.args.key.now, c.args.serial) in
    let long = rw (c.deref.ensures.value, c.deref-2.ensures.value) at c.least_over-long.ensures.none in
    let late = rw (c.deref-3.ensures.value, c.deref-4.ensures.value) at c.least_over-late.ensures.found in
    only_late o.keys.items o.long.items o.late.items bound c.least_over-late.result (nothing_in o.keys.items o.long.items bound c.least_over-long.result c.in-None-default.is-0 long) late
  where
    only_late : (names : List (List ℕ)) (long late : List ℕ) (bound : List ℕ × ℕ) (r : Option ℕ) → NoneIsOver key_order (keys_in names long) bound → IfSome r (λ t. IsLeastOver key_order (keys_in names late) bound (key_at names t))
        → IfSome r (λ t. IsLeastOver key_order (keys_in names (long ++ late)) bound (key_at names t))
    only_late names long late bound None none found = tt
    only_late names long late bound (Some s) none found = late_found names long late bound s none found

pub returns-in-None-default-clause-held : goal.returns-in-None-default-clause-held
returns-in-None-default-clause-held g c =
    let o = c.args.self.now in
    only_late o.long.items o.late.items c.least_over-late.result (rw c.deref-4.ensures.value at c.least_over-late.ensures.held)
  where
    only_late : (long late : List ℕ) (r : Option ℕ) → IfSome r (λ t. IsHeldIn t late) → IfSome r (λ t. IsHeldIn t (long ++ late))
    only_late long late None held = tt
    only_late long late (Some s) held = Contains-append_right long late s held

pub returns-in-None-default-clause-none : goal.returns-in-None-default-clause-none
returns-in-None-default-clause-none g c =
    let o = c.args.self.now in
    let bound : List ℕ × ℕ = (c.args.key.now, c.args.serial) in
    let long = rw (c.deref.ensures.value, c.deref-2.ensures.value) at c.least_over-long.ensures.none in
    let late = rw (c.deref-3.ensures.value, c.deref-4.ensures.value) at c.least_over-late.ensures.none in
    only_late o.keys.items o.long.items o.late.items bound c.least_over-late.result (nothing_in o.keys.items o.long.items bound c.least_over-long.result c.in-None-default.is-0 long) late
  where
    only_late : (names : List (List ℕ)) (long late : List ℕ) (bound : List ℕ × ℕ) (r : Option ℕ) → NoneIsOver key_order (keys_in names long) bound → IfNone r (NoneIsOver key_order (keys_in names late) bound)
        → IfNone r (NoneIsOver key_order (keys_in names (long ++ late)) bound)
    only_late names long late bound None first second = none_found names long late bound first second
    only_late names long late bound (Some s) first second = tt
