-- No serial comes twice: so there is room for those of all slots.
use Rattle.std.proofs.Common.{◌≡◌, ◌≢◌, ℕ, ◌-◌, ◌≤◌, ◌<◌, List, ◌∷◌, length, map, get_or, eqb, true, false, arith}
use Rattle.std.specs.List.{Contains, IsDistinct, list_any}
use Rattle.std.proofs.lemmas.Bool.Decides.{nat_tests}
use Rattle.std.proofs.lemmas.List.{get_or-map, length-map}
use Rattle.std.proofs.lemmas.List.Folds.{Any-from_list_any}
use Rattle.std.proofs.lemmas.Map.Keys.{IsDistinct-from_apart}
use Rattle.std.proofs.lemmas.Map.Steps.{length-le_from_distinct_below}
use Rattle.vol_dirs.specs.internal.Rising.{AreApart}
use Rattle.vol_dirs.specs.Serials.{AreSerials}
use Rattle.vol_dirs.proofs.Apart.{front_apart}
use Rattle.vol_dirs.proofs.Places.{serials_front}

unequal : (a b : ℕ) → a ≢ b → eqb a b ≡ false
unequal a b differ = grind (arith, nat_tests)

same : (a b : ℕ) → eqb a b ≡ true → a ≡ b
same a b equal = grind (arith, nat_tests)

-- serials from 1 to the number of slots, none of them twice
pub few : (slots : ℕ) (order : List ℕ) → AreSerials slots order → AreApart order → length order ≤ slots
few slots order serials apart =
    let places = map (λ (x : ℕ). x - 1) order in
    let long : length places ≡ length order = length-map order (λ (x : ℕ). x - 1) in
    let read : (k e : ℕ) → k < length order → get_or places k e ≡ get_or order k 0 - 1 = λ k e lt. get_or-map (λ (x : ℕ). x - 1) order k 0 e lt in
    let distinct : IsDistinct eqb places = IsDistinct-from_apart eqb places (λ i j e lt there. unequal _ _ (λ equal.
    let inside : j < length order = omega (arith, long) in
    let first = serials i (omega arith) in
    let second = serials j inside in
    apart i j 0 lt inside (omega (arith, read i e (omega arith), read j e inside, first.0, second.0)))) in
    let below : (q : ℕ) → list_any (eqb q) places ≡ true → q < slots = λ q any.
    let at = Any-from_list_any (eqb q) places any in
    let inside : at.0 < length order = omega (arith, long, at.2) in
    let bounds = serials at.0 inside in
    omega (arith, same q at.1 at.4, at.3, read at.0 at.1 inside, bounds.0, bounds.1) in
    omega (arith, long, length-le_from_distinct_below places slots distinct below)

-- so there is room for one that isn't there
pub room_for : (slots : ℕ) (order : List ℕ) → AreSerials slots order → AreApart order → (s : ℕ) → 1 ≤ s → s ≤ slots → (Contains order s → ⊥) → length order < slots
room_for slots order serials apart s first last absent = omega (arith, few slots (s ∷ order) (serials_front slots order s first last serials) (front_apart order s apart absent))
