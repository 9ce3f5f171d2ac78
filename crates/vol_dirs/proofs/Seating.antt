-- The seats of the slots, from call to call.
use Rattle.std.proofs.Common.{◌≡◌, ◌≢◌, inl, inr, ℕ, ◌-◌, ◌≤◌, ◌<◌, ◌==◌, if◌then◌else◌, List, length, get_or, set, sym, ◌∙◌, arith}
use Rattle.std.proofs.lemmas.Bool.{cases_eq}
use Rattle.std.proofs.lemmas.Bool.Decides.{nat_tests}
use Rattle.std.proofs.lemmas.List.{get_or-set_same, get_or-set_other}
use Rattle.vol_dirs.specs.declared.seat.Seat.{Seat}

pub chosen : (t s : ℕ) (a b : Seat) → t ≡ s → (if t == s then a else b) ≡ a
chosen t s a b same = grind (arith, nat_tests)

pub not_chosen : (t s : ℕ) (a b : Seat) → t ≢ s → (if t == s then a else b) ≡ b
not_chosen t s a b differ = grind (arith, nat_tests)

-- one seat is taken
pub seat_set : (seats : List Seat) (s t : ℕ) (x d : Seat) → 1 ≤ s → s ≤ length seats → 1 ≤ t → get_or (set seats (s - 1) x) (t - 1) d ≡ (if t == s then x else get_or seats (t - 1) d)
seat_set seats s t x d first last from = elim (cases_eq t s) [
  | inl same ↦
      let place : t - 1 ≡ s - 1 = omega arith in
      let within : s - 1 < length seats = omega arith in
      (λ i. get_or (set seats (s - 1) x) (place i) d) ∙ get_or-set_same seats (s - 1) x d within ∙ sym (chosen t s x (get_or seats (t - 1) d) same)
  | inr differ ↦ get_or-set_other seats (s - 1) (t - 1) x d (λ same. differ (omega arith)) ∙ sym (not_chosen t s x (get_or seats (t - 1) d) differ)
]
