-- A way down from an entry to one in which nothing stands.
use Rattle.std.proofs.Common.{◌≡◌, ℕ, zero, suc, ◌+◌, ◌≤◌, Bool, true, false, ◌||◌, not, [], ◌∷◌, ◌++◌, length, get_or, Option, Some, None, IsSome, inl, inr, refl, sym, ◌∙◌, ap, subst, arith, length-append, eqb}
use Rattle.std.specs.Option.{option_map_or}
use Rattle.std.specs.List.{list_any}
use Rattle.std.proofs.lemmas.Option.{same_Some, none-some}
use Rattle.std.proofs.lemmas.Bool.{cases_Bool, cond-true, cond-false, eqb-true, false≢true, or_cases}
use Rattle.vol_tree.specs.Tree.{Tree, Path, Entry, entry, is_in, least_from, Leads, IsTree}
use Rattle.vol_tree.specs.Calls.{is_within, next_child}
use Rattle.vol_tree.proofs.Entries.{leads_on, one_path}
use Rattle.vol_tree.proofs.Within.{within_below}
use Rattle.vol_commands.specs.internal.Changing.{IsLeafBelow}

-- ---- a child, or none

found_from : (n : ℕ) (test : Option Entry → Bool) (T : Tree) (s : ℕ) → least_from n test T ≡ Some s → (i : ℕ) × (s ≡ n + i) × (test (get_or T i None) ≡ true)
found_from n test [] s h = absurd (none-some s h)
found_from n test (o ∷ T) s h = elim (cases_Bool (test o)) [
  | inl hit ↦ (0, (let same : n ≡ s = same_Some n s (sym (cond-true _ _ _ hit) ∙ h) in omega arith), hit)
  | inr miss ↦ let rest = found_from (suc n) test T s (sym (cond-false _ _ _ miss) ∙ h) in (suc rest.0, omega (arith, rest.1), rest.2)
]

none_from : (n : ℕ) (test : Option Entry → Bool) (T : Tree) → least_from n test T ≡ None → list_any test T ≡ false
none_from n test [] h = refl
none_from n test (o ∷ T) h = elim (cases_Bool (test o)) [
  | inl hit ↦ absurd (none-some n (sym h ∙ cond-true _ _ _ hit))
  | inr miss ↦ both (test o) (list_any test T) miss (none_from (suc n) test T (sym (cond-false _ _ _ miss) ∙ h))
]
  where
    both : (a b : Bool) → a ≡ false → b ≡ false → (a || b) ≡ false
    both true b h k = h
    both false b h k = k

in_is : (d : ℕ) (o : Option Entry) → is_in d o ≡ true → (e : Entry) × (o ≡ Some e) × (e.parent ≡ d)
in_is d None h = absurd (false≢true h)
in_is d (Some e) h = (e, refl, eqb-true e.parent d h)

-- ---- a way down

pub record IsWayDown (T : Tree) (from here depth : ℕ) : Type 0 where
  pub path : Path
  pub leads : Leads T from path here
  pub long : length path ≡ depth

pub way_first : (T : Tree) (from : ℕ) → IsWayDown T from from 0
way_first T from = record { path = []; leads = refl; long = refl }

pub way_next : (T : Tree) (from here depth child : ℕ) → IsWayDown T from here depth → next_child T here 0 ≡ Some child → IsWayDown T from child (depth + 1)
way_next T from here depth child way next =
    let found = found_from 1 (is_in here) T child next in
    let is = in_is here (get_or T found.0 None) found.2 in
    let at : entry T child ≡ Some is.0 = ap (entry T) (let same : child ≡ suc found.0 = omega (arith, found.1) in same) ∙ is.1 in
    record {
      path = is.0.name ∷ way.path;
      leads = (is.0, at, refl, subst (λ (x : ℕ). Leads T from way.path x) (sym is.2) way.leads);
      long = omega (arith, way.long);
    }

pub leaf_found : (T : Tree) (from here depth : ℕ) → IsWayDown T from here depth → next_child T here 0 ≡ None → IsLeafBelow T from here
leaf_found T from here depth way none = record { below = (way.path, way.leads); bare = ap not (none_from 1 (is_in here) T none) }

-- ---- it is no longer than there are slots

short_from : (T : Tree) (top n s : ℕ) → is_within n T top s ≡ true → (path : Path) × Leads T top path s × (length path ≤ n)
short_from T top zero s h = ([], eqb-true s top h, omega arith)
short_from T top (suc n) s h = elim (or_cases (eqb s top) _ h) [
  | inl here ↦ ([], eqb-true s top here, omega arith)
  | inr above ↦ go (λ d. short_from T top n d) (entry T s) refl above
]
  where
    go : ((d : ℕ) → is_within n T top d ≡ true → (path : Path) × Leads T top path d × (length path ≤ n)) → (o : Option Entry) → entry T s ≡ o → option_map_or (λ (e : Entry). is_within n T top e.parent) o false ≡ true
        → (path : Path) × Leads T top path s × (length path ≤ suc n)
    go on None e b = absurd (false≢true b)
    go on (Some d) e b = let above = on d.parent b in (d.name ∷ above.0, (d, e, refl, above.1), omega (arith, above.2))

-- two ways down to an entry are as long
same_long : (T : Tree) → IsTree T → (top : ℕ) → IsSome (entry T top) → (p q : Path) (s : ℕ) → Leads T top p s → Leads T top q s → length p ≡ length q
same_long T t top used p q s h g =
    let first = t.reached top used in
    let same = one_path T t (p ++ first.0) (q ++ first.0) s (leads_on T 1 top s first.0 p first.1 h) (leads_on T 1 top s first.0 q first.1 g) in
    omega (arith, ap length same, length-append p first.0, length-append q first.0)

pub way_ends : (T : Tree) (from here depth : ℕ) → IsTree T → IsSome (entry T from) → IsWayDown T from here depth → depth ≤ length T
way_ends T from here depth t used way =
    let short = short_from T from (length T) here ((within_below T from here t used).1 way.path way.leads) in
    let same = same_long T t from used way.path short.0 here way.leads short.1 in
    omega (arith, way.long, same, short.2)
