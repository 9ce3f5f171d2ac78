-- What a call on one part leaves of the sectors in all of them.
use Rattle.std.proofs.Common.{◌≡◌, ℕ, zero, suc, ◌+◌, ◌-◌, ◌*◌, ◌/◌, ◌%◌, ◌≤◌, ◌<◌, List, [], ◌∷◌, ◌++◌, length, replicate, get_or, set, inl, inr, sym, refl, ◌∙◌, ap, subst, arith, length-append, length-set}
use Rattle.std.proofs.lemmas.List.{get_or_read, get_or_append_left, get_or-append_right, set-append_left, set-append_right, append-nil, length-replicate, replicate-append-replicate, replicate_more}
use Rattle.std.proofs.lemmas.Bool.{cases_lt}
use Rattle.std.proofs.lemmas.Nat.{div-add-mod', mod_below}
use Rattle.sandbox_device.specs.internal.InParts.{joined, IsInParts}

-- ---- where a sector stands

-- the sector with this number stands in this part, at this place
pub record StandsAt (parts : List (List (List ℕ))) (n q r : ℕ) : Type 0 where
  pub part : q < length parts
  pub place : r < length (get_or parts q [])
  pub read : get_or (joined parts) n [] ≡ get_or (get_or parts q []) r []
  pub written : (bytes : List ℕ) → joined (set parts q (set (get_or parts q []) r bytes)) ≡ set (joined parts) n bytes
  pub kept : (bytes : List ℕ) → IsInParts (set parts q (set (get_or parts q []) r bytes))

-- where no parts are left, neither are sectors
none_left : (parts : List (List (List ℕ))) → length parts ≡ 0 → length (joined parts) ≡ 0
none_left [] none = refl
none_left (part ∷ parts) none = absurd (omega (arith, none))

-- more than a first part holds: then it is full, and not the last
some_left : (part : List (List ℕ)) (parts : List (List (List ℕ))) (n : ℕ) → length part ≤ 131072 → 131072 ≤ n → n < length (part ++ joined parts) → 0 < length parts
some_left part parts n le far lt = elim (cases_lt 0 (length parts)) [
  | inl more ↦ more
  | inr none ↦ absurd (omega (arith, lt, far, le, length-append part (joined parts), none_left parts (omega (arith, none))))
]

-- a first part has the place, whether it is the last or not
has_place : (part : List (List ℕ)) (parts : List (List (List ℕ))) (r : ℕ) → (0 < length parts → length part ≡ 131072) → r < 131072 → r < length (part ++ joined parts) → r < length part
has_place part parts r full small lt = elim (cases_lt 0 (length parts)) [
  | inl more ↦ omega (arith, full more, small)
  | inr none ↦ omega (arith, lt, length-append part (joined parts), none_left parts (omega (arith, none)))
]

in_first : (part : List (List ℕ)) (parts : List (List (List ℕ))) (n r : ℕ) → IsInParts (part ∷ parts) → n ≡ r → r < length part → StandsAt (part ∷ parts) n 0 r
in_first part parts n r ok same here = record {
  part = omega arith;
  place = here;
  read = ap (λ (m : ℕ). get_or (part ++ joined parts) m []) same ∙ get_or_append_left part (joined parts) [] r here;
  written = λ bytes. sym (ap (λ (m : ℕ). set (part ++ joined parts) m bytes) same ∙ set-append_left part (joined parts) r bytes here);
  kept = λ bytes. (omega (arith, ok.0, length-set part r bytes), λ more. length-set part r bytes ∙ ok.1 more, ok.2);
}

in_later : (part : List (List ℕ)) (parts : List (List (List ℕ))) (n q r : ℕ) → IsInParts (part ∷ parts) → length part ≡ 131072 → 131072 ≤ n → StandsAt parts (n - 131072) q r
    → StandsAt (part ∷ parts) n (suc q) r
in_later part parts n q r ok long far below = record {
  part = omega (arith, below.part);
  place = below.place;
  read = get_or-append_right part (joined parts) 131072 n [] long far ∙ below.read;
  written = λ bytes. ap (λ (l : List (List ℕ)). part ++ l) (below.written bytes) ∙ sym (set-append_right part (joined parts) 131072 n bytes long far);
  kept = λ bytes. (ok.0, λ more. long, below.kept bytes);
}

pub stands_at : (parts : List (List (List ℕ))) (n q r : ℕ) → IsInParts parts → r < 131072 → n ≡ q * 131072 + r → n < length (joined parts) → StandsAt parts n q r
stands_at [] n q r ok small is lt = absurd (omega (arith, lt))
stands_at (part ∷ parts) n zero r ok small is lt =
    let same : n ≡ r = omega (arith, is) in
    in_first part parts n r ok same (has_place part parts r ok.1 small (omega (arith, lt, same)))
stands_at (part ∷ parts) n (suc q) r ok small is lt =
    let far : 131072 ≤ n = omega (arith, is) in
    let long : length part ≡ 131072 = ok.1 (some_left part parts n ok.0 far lt) in
    in_later part parts n q r ok long far
    (stands_at parts (n - 131072) q r ok.2 small (omega (arith, is)) (omega (arith, lt, far, long, length-append part (joined parts))))

-- the same of what dividing its number gives
pub found_in : (parts : List (List (List ℕ))) (now : List (List ℕ)) (n : ℕ) → IsInParts parts → joined parts ≡ now → n < length now → StandsAt parts n (n / 131072) (n % 131072)
found_in parts now n ok view lt = stands_at parts n (n / 131072) (n % 131072) ok (mod_below n 131072 (omega arith)) (sym (div-add-mod' n 131072)) (omega (arith, lt, ap length view))

-- ---- what `put` leaves, in the words of its steps

module _ (parts : List (List (List ℕ))) (now old part : List (List ℕ)) (n : ℕ) (bytes : List ℕ) (ok : IsInParts parts) (view : joined parts ≡ now) (lt : n < length now)
    (read : old ≡ get_or parts (n / 131072) old) (is : part ≡ set old (n % 131072) bytes) where
  spot : StandsAt parts n (n / 131072) (n % 131072)
  spot = found_in parts now n ok view lt

  part_is : part ≡ set (get_or parts (n / 131072) []) (n % 131072) bytes
  part_is = is ∙ ap (λ (l : List (List ℕ)). set l (n % 131072) bytes) (get_or_read parts (n / 131072) old spot.part read [])

  pub put_in_parts : IsInParts (set parts (n / 131072) part)
  put_in_parts = subst (λ (l : List (List ℕ)). IsInParts (set parts (n / 131072) l)) (sym part_is) (spot.kept bytes)

  pub put_joined : joined (set parts (n / 131072) part) ≡ set now n bytes
  put_joined = ap (λ (l : List (List ℕ)). joined (set parts (n / 131072) l)) part_is ∙ spot.written bytes ∙ ap (λ (l : List (List ℕ)). set l n bytes) view

-- ---- parts of zeros

-- one part more, and all of them
pub one_more : (parts all : List (List (List ℕ))) (new full : List (List ℕ)) (n : ℕ) → all ≡ parts ++ new ∷ [] → parts ≡ replicate n full → new ≡ full → all ≡ replicate (n + 1) full
one_more parts all new full n pushed so_far is = pushed ∙ ap (λ (l : List (List (List ℕ))). l ++ new ∷ []) so_far
    ∙ ap (λ (l : List (List ℕ)). replicate n full ++ l ∷ []) is ∙ replicate_more n full

pub all_made : (parts : List (List (List ℕ))) (full : List (List ℕ)) (n many : ℕ) → parts ≡ replicate n full → n ≡ many → parts ≡ replicate many full
all_made parts full n many so_far is = so_far ∙ ap (λ (m : ℕ). replicate m full) is

-- full parts, and the rest
abbrev pub full_and : ℕ → ℕ → ℕ → List ℕ → List (List (List ℕ))
full_and size many rest sector = replicate many (replicate size sector) ++ replicate rest sector ∷ []

pub full_joined : (size many rest total : ℕ) (sector : List ℕ) → size ≡ 131072 → total ≡ many * 131072 + rest → joined (full_and size many rest sector) ≡ replicate total sector
full_joined size zero rest total sector is sum = append-nil (replicate rest sector) ∙ ap (λ (m : ℕ). replicate m sector) (omega (arith, sum))
full_joined size (suc many) rest total sector is sum = ap (λ (l : List (List ℕ)). replicate size sector ++ l) (full_joined size many rest (many * 131072 + rest) sector is refl)
    ∙ replicate-append-replicate size (many * 131072 + rest) sector
    ∙ ap (λ (m : ℕ). replicate m sector) (omega (arith, is, sum))

pub full_in_parts : (size many rest : ℕ) (sector : List ℕ) → size ≡ 131072 → rest ≤ 131072 → IsInParts (full_and size many rest sector)
full_in_parts size zero rest sector is le = (omega (arith, le, length-replicate rest sector), λ more. absurd (omega (arith, more)), tt)
full_in_parts size (suc many) rest sector is le =
    let long : length (replicate size sector) ≡ 131072 = length-replicate size sector ∙ is in
    (omega (arith, long), λ more. long, full_in_parts size many rest sector is le)

-- what these are together, in the words of the steps of `zeros`
module _ (parts all : List (List (List ℕ))) (last : List (List ℕ)) (size count : ℕ) (sector : List ℕ) (is : size ≡ 131072)
    (full : parts ≡ replicate (count / 131072) (replicate size sector)) (rest : last ≡ replicate (count % 131072) sector) (pushed : all ≡ parts ++ last ∷ []) where
  all_are : all ≡ full_and size (count / 131072) (count % 131072) sector
  all_are = pushed ∙ ap (λ (l : List (List (List ℕ))). l ++ last ∷ []) full
      ∙ ap (λ (l : List (List ℕ)). replicate (count / 131072) (replicate size sector) ++ l ∷ []) rest

  pub zeros_joined : joined all ≡ replicate count sector
  zeros_joined = ap joined all_are ∙ full_joined size (count / 131072) (count % 131072) count sector is (sym (div-add-mod' count 131072))

  pub zeros_in_parts : IsInParts all
  zeros_in_parts = subst IsInParts (sym all_are)
      (full_in_parts size (count / 131072) (count % 131072) sector is (let lt : count % 131072 < 131072 = mod_below count 131072 (omega arith) in omega (arith, lt)))

  pub zeros_counted : length (joined all) ≡ count
  zeros_counted = ap length zeros_joined ∙ length-replicate count sector
