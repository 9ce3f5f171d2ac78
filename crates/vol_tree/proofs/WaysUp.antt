-- Ways up a table of parents.
use Rattle.std.proofs.Common.{◌≡◌, ◌≢◌, inl, inr, ◌+◌, ◌-◌, ◌<◌, ℕ, zero, suc, List, Bool, true, false, length, get_or, set, refl, sym, ◌∙◌, ap, subst, arith}
use Rattle.std.proofs.lemmas.Bool.{cases_eq, false≢true}
use Rattle.std.proofs.lemmas.List.{get_or-set_same, get_or-set_other, length-set}
use Rattle.vol_tree.specs.internal.Climbs.{climb, LeadsUp, AreMarked}

-- one step more, at the upper end
pub climb_more : (n : ℕ) (parents : List ℕ) (serial : ℕ) → climb (suc n) parents serial ≡ get_or parents (climb n parents serial - 1) 0
climb_more zero parents serial = refl
climb_more (suc n) parents serial = climb_more n parents (get_or parents (serial - 1) 0)

pub climb_next : (n : ℕ) (parents : List ℕ) (serial at up : ℕ) → at ≡ climb n parents serial → up ≡ get_or parents (at - 1) 0 → up ≡ climb (n + 1) parents serial
climb_next n parents serial at up is next =
    let one : suc n ≡ n + 1 = omega arith in
    next ∙ ap (λ (s : ℕ). get_or parents (s - 1) 0) is ∙ sym (climb_more n parents serial) ∙ ap (λ (k : ℕ). climb k parents serial) one

pub climb_sum : (n m : ℕ) (parents : List ℕ) (serial : ℕ) → climb (n + m) parents serial ≡ climb m parents (climb n parents serial)
climb_sum zero m parents serial = let none : 0 + m ≡ m = omega arith in ap (λ (k : ℕ). climb k parents serial) none
climb_sum (suc n) m parents serial =
    let one : suc n + m ≡ suc (n + m) = omega arith in
    ap (λ (k : ℕ). climb k parents serial) one ∙ climb_sum n m parents (get_or parents (serial - 1) 0)

-- where the way comes to an entry that leads up, it leads up
pub leads_from : (n : ℕ) (parents : List ℕ) (serial at : ℕ) → at ≡ climb n parents serial → LeadsUp parents at → LeadsUp parents serial
leads_from n parents serial at is leads = (n + leads.0, climb_sum n leads.0 parents serial ∙ ap (climb leads.0 parents) (sym is) ∙ leads.1)

pub leads_marked : (parents : List ℕ) (marks : List Bool) (at : ℕ) → AreMarked parents marks → at ≢ 0 → get_or marks (at - 1) false ≡ true → LeadsUp parents at
leads_marked parents marks at are some mark = let back : at - 1 + 1 ≡ at = omega (arith, some) in subst (LeadsUp parents) back (are.lead (at - 1) mark)

-- the way up of the next entry
pub leads_next : (parents : List ℕ) (at up : ℕ) → LeadsUp parents at → at ≢ 1 → up ≡ get_or parents (at - 1) 0 → LeadsUp parents up
leads_next parents at up (zero, is) other next = absurd (other is)
leads_next parents at up (suc n, is) other next = (n, ap (climb n parents) next ∙ is)

-- one mark more
pub mark_set : (parents : List ℕ) (marks : List Bool) (at : ℕ) → AreMarked parents marks → LeadsUp parents at → at ≢ 0 → at - 1 < length marks → AreMarked parents (set marks (at - 1) true)
mark_set parents marks at are leads some below = record {
  lead = λ s mark. elim (cases_eq s (at - 1)) [
    | inl same ↦ let here : at ≡ s + 1 = omega (arith, same, some) in subst (LeadsUp parents) here leads
    | inr other ↦ are.lead s (sym (get_or-set_other marks (at - 1) s true false other) ∙ mark)
  ];
  top = elim (cases_eq 0 (at - 1)) [
    | inl same ↦ ap (λ (k : ℕ). get_or (set marks (at - 1) true) k false) same ∙ get_or-set_same marks (at - 1) true false below
    | inr other ↦ get_or-set_other marks (at - 1) 0 true false other ∙ are.top
  ];
  count = length-set marks (at - 1) true ∙ are.count;
}

-- only the root's mark
pub top_marked : (parents : List ℕ) (flags : List Bool) → length flags ≡ length parents → 0 < length parents → ((s : ℕ) → get_or flags s false ≡ false) → AreMarked parents (set flags 0 true)
top_marked parents flags count some none = record {
  lead = λ s mark. elim (cases_eq s 0) [
    | inl same ↦ let one : s + 1 ≡ 1 = omega (arith, same) in (0, one)
    | inr other ↦ absurd (false≢true (sym (none s) ∙ sym (get_or-set_other flags 0 s true false other) ∙ mark))
  ];
  top = get_or-set_same flags 0 true false (omega (arith, count, some));
  count = length-set flags 0 true ∙ count;
}
