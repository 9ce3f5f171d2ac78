-- What the least key or child over a bound says of names.
use Rattle.std.proofs.Common.{◌≡◌, ◌≢◌, ◌⊎◌, inl, inr, ℕ, ◌≤◌, ◌<◌, ◌^◌, Bool, true, false, ◌&&◌, ◌==◌, List, Option, None, MatchOption, get_or, refl, sym, ◌∙◌, ap, subst, arith}
use Rattle.std.specs.List.{Contains, list_any}
use Rattle.std.specs.Cmp.Lexicographic.{slice_cmp}
use Rattle.std.specs.Ordering.{ordering_then, nat_cmp}
use Rattle.std.specs.Bool.{then_some}
use Rattle.std.specs.declared.cmp.Ordering.{Ordering}
use Rattle.std.specs.declared.cmp.Ordering.TheVariants.{Less, Equal, Greater}
use Rattle.std.proofs.lemmas.Bool.{cases_lt}
use Rattle.std.proofs.lemmas.Bool.Decides.{nat_tests}
use Rattle.std.proofs.lemmas.Cmp.{tied_itself, nat_list_cmp_total}
use Rattle.std.proofs.lemmas.List.Folds.{Any-from_list_any, list_any_at}
use Rattle.byteorder.specs.Endian.{big_bytes}
use Rattle.vol_dirs.specs.SerialOrder.{keys_of}
use Rattle.vol_dirs.specs.internal.Rising.{IsLeastOver, NoneIsOver}
use Rattle.vol_dirs.specs.Key.{key_of}
use Rattle.vol_dirs.specs.internal.Key.{parent_in, name_in}
use Rattle.vol_dirs.specs.Listing.{HoldsEntry}
use Rattle.vol_dirs.specs.internal.Listing.{IsListing, key_order}
use Rattle.vol_dirs.specs.Names.{NoChildOver, IsNextChild}
use Rattle.vol_dirs.specs.declared.dirs.Dirs.{Dirs}
use Rattle.vol_dirs.proofs.Orders.{key_ties}
use Rattle.vol_dirs.proofs.Spelled.{child_of_key, parent_by_child}
use Rattle.vol_dirs.proofs.Listings.{name_held}

-- what a test that gives a value or none has to show
pub one_or_none : (P : Type 0) (Q : ℕ → Type 0) (test : Bool) (s : ℕ) (r : Option ℕ) → r ≡ then_some test s → (test ≡ true → Q s) → (test ≡ false → P) → MatchOption r P Q
one_or_none P Q test s r is some none = subst (λ (o : Option ℕ). MatchOption o P Q) (sym is) (by test some none)
  where
    by : (b : Bool) → (b ≡ true → Q s) → (b ≡ false → P) → MatchOption (then_some b s) P Q
    by true some none = some refl
    by false some none = none refl

pub none_at_all : (P : Type 0) (Q : ℕ → Type 0) (r : Option ℕ) → r ≡ None → P → MatchOption r P Q
none_at_all P Q r is none = subst (λ (o : Option ℕ). MatchOption o P Q) (sym is) none

below : (a b : ℕ) → a < b → nat_cmp a b ≡ Less
below a b lt = grind (arith, nat_tests)

then_less : (o q : Ordering) → o ≡ Equal → q ≡ Less → ordering_then o q ≡ Less
then_less o q tied less = ap (λ (x : Ordering). ordering_then x q) tied ∙ less

first_less : (o q : Ordering) → o ≡ Less → ordering_then o q ≡ Less
first_less o q less = ap (λ (x : Ordering). ordering_then x q) less

-- less, and so less in the first part or tied there
less_parts : (o q : Ordering) → ordering_then o q ≡ Less → (o ≡ Less) ⊎ (o ≡ Equal) × (q ≡ Less)
less_parts Less q less = inl refl
less_parts Equal q less = inr (refl, less)
less_parts Greater q less = cc

list_ties : (a b : List ℕ) → slice_cmp nat_cmp a b ≡ Equal → a ≡ b
list_ties a b tied = ap (λ (x : List ℕ × ℕ). x.0) (key_ties (a, 0) (b, 0) (then_tied (slice_cmp nat_cmp a b) tied))
  where
    then_tied : (o : Ordering) → o ≡ Equal → ordering_then o (nat_cmp 0 0) ≡ Equal
    then_tied o equal = ap (λ (x : Ordering). ordering_then x (nat_cmp 0 0)) equal

number_less : (a b : ℕ) → nat_cmp a b ≡ Less → a < b
number_less a b less = grind (arith, nat_tests)

pub equal : (a b : ℕ) → (a == b) ≡ true → a ≡ b
equal a b test = grind (arith, nat_tests)

pub different : (a b : ℕ) → (a == b) ≡ false → a ≢ b
different a b test same = grind (arith, nat_tests)

-- a key with serial 0 is below that key with any other
over_bound : (key : List ℕ) (s : ℕ) → 1 ≤ s → key_order (key, 0) (key, s) ≡ Less
over_bound key s first = then_less (slice_cmp nat_cmp key key) (nat_cmp 0 s) (tied_itself nat_list_cmp_total key) (below 0 s (omega arith))

pub no_key : (keys : List (List ℕ × ℕ)) (key : List ℕ) (s : ℕ) → NoneIsOver key_order keys (key, 0) → 1 ≤ s → Contains keys (key, s) → ⊥
no_key keys key s none first has = none (key, s) has (over_bound key s first)

pub no_key_before : (keys : List (List ℕ × ℕ)) (key found : List ℕ) (t s : ℕ) → IsLeastOver key_order keys (key, 0) (found, t) → found ≢ key → 1 ≤ s → Contains keys (key, s) → ⊥
no_key_before keys key found t s least differ first has =
    let less : slice_cmp nat_cmp key found ≡ Less = elim (less_parts (slice_cmp nat_cmp key found) (nat_cmp 0 t) least.over) [
      | inl bytes ↦ bytes
      | inr (tied, serial) ↦ absurd (differ (sym (list_ties key found tied)))
    ] in
    least.least (key, s) has (over_bound key s first) (first_less (slice_cmp nat_cmp key found) (nat_cmp s t) less)

-- a key is found with its least serial
pub least_key : (keys : List (List ℕ × ℕ)) (key : List ℕ) (s t : ℕ) → IsLeastOver key_order keys (key, 0) (key, s) → 1 ≤ t → Contains keys (key, t) → s ≤ t
least_key keys key s t least first has = elim (cases_lt t s) [
  | inl less ↦ absurd (least.least (key, t) has (over_bound key t first) (then_less (slice_cmp nat_cmp key key) (nat_cmp t s) (tied_itself nat_list_cmp_total key) (below t s less)))
  | inr le ↦ le
]

module _ (slots : ℕ) (keys children : List (List ℕ × ℕ)) (is : IsListing slots keys children) (p : ℕ) (narrow : p < 2 ^ 32) where
  abbrev has_serial : ℕ → List ℕ × ℕ → Bool
  has_serial s x = (parent_in x.0 == p) && (x.1 == s)

  both_are : (s : ℕ) (x : List ℕ × ℕ) → has_serial s x ≡ true → (parent_in x.0 ≡ p) × (x.1 ≡ s)
  both_are s x test = parts (parent_in x.0) x.1 test
    where
      parts : (a b : ℕ) → ((a == p) && (b == s)) ≡ true → (a ≡ p) × (b ≡ s)
      parts a b t = (grind (arith, nat_tests), grind (arith, nat_tests))

  are_both : (s : ℕ) (x : List ℕ × ℕ) → parent_in x.0 ≡ p → x.1 ≡ s → has_serial s x ≡ true
  are_both s x parent serial = join (parent_in x.0) x.1 parent serial
    where
      join : (a b : ℕ) → a ≡ p → b ≡ s → ((a == p) && (b == s)) ≡ true
      join a b one other = grind (arith, nat_tests)

  -- the name of a child
  pub child_name : (s : ℕ) → Contains children (big_bytes 4 p, s) → (name : List ℕ) × HoldsEntry keys p name s
  child_name s has = by (list_any (has_serial s) keys) refl
    where
      by : (b : Bool) → list_any (has_serial s) keys ≡ b → (name : List ℕ) × HoldsEntry keys p name s
      by true some =
          let at = Any-from_list_any (has_serial s) keys some in
          let x = at.1 in
          let parts = both_are s x at.4 in
          let there : Contains keys (x.0, s) = subst (λ (t : ℕ). Contains keys (x.0, t)) parts.1 (at.0, at.2, at.3) in
          (name_in x.0, subst (λ (q : ℕ). HoldsEntry keys q (name_in x.0) s) parts.0 (name_held slots keys children is x.0 s there))
      by false none = absurd (is.no_more (big_bytes 4 p) s has (λ key held child.
          let d : List ℕ × ℕ = (key, s) in
          let parent : parent_in key ≡ p = parent_by_child p key narrow child (is.formed key s held) in
          let here : has_serial s (get_or keys held.0 d) ≡ true = ap (has_serial s) held.2 ∙ are_both s d parent refl in
          let found = list_any_at (has_serial s) keys held.0 d held.1 here in
          cc))

  -- a child has its pair
  pub child_there : (s : ℕ) (name : List ℕ) → HoldsEntry keys p name s → (Contains children (big_bytes 4 p, s) → ⊥) → ⊥
  child_there s name h none = is.no_fewer (key_of p name) s h.held (λ has. none (subst (λ (q : List ℕ). Contains children (q, s)) (child_of_key p name) has))

  -- children of one directory go by their serials
  same_parent : (a b : ℕ) → a < b → key_order (big_bytes 4 p, a) (big_bytes 4 p, b) ≡ Less
  same_parent a b lt = then_less (slice_cmp nat_cmp (big_bytes 4 p) (big_bytes 4 p)) (nat_cmp a b) (tied_itself nat_list_cmp_total (big_bytes 4 p)) (below a b lt)

  pub none_over : (after s : ℕ) (name : List ℕ) → NoneIsOver key_order children (big_bytes 4 p, after) → HoldsEntry keys p name s → s ≤ after
  none_over after s name none h = elim (cases_lt after s) [
    | inl more ↦ absurd (child_there s name h (λ has. none (big_bytes 4 p, s) has (same_parent after s more)))
    | inr le ↦ le
  ]

  pub none_before : (after t s : ℕ) (other name : List ℕ) → IsLeastOver key_order children (big_bytes 4 p, after) (other, t) → other ≢ big_bytes 4 p → HoldsEntry keys p name s → s ≤ after
  none_before after t s other name least differ h = elim (cases_lt after s) [
    | inl more ↦ absurd (child_there s name h (λ has.
        let less : slice_cmp nat_cmp (big_bytes 4 p) other ≡ Less = elim (less_parts (slice_cmp nat_cmp (big_bytes 4 p) other) (nat_cmp after t) least.over) [
          | inl bytes ↦ bytes
          | inr (tied, serial) ↦ absurd (differ (sym (list_ties (big_bytes 4 p) other tied)))
        ] in
        least.least (big_bytes 4 p, s) has (same_parent after s more) (first_less (slice_cmp nat_cmp (big_bytes 4 p) other) (nat_cmp s t) less)))
    | inr le ↦ le
  ]

  pub over_after : (after s : ℕ) → IsLeastOver key_order children (big_bytes 4 p, after) (big_bytes 4 p, s) → after < s
  over_after after s least = elim (less_parts (slice_cmp nat_cmp (big_bytes 4 p) (big_bytes 4 p)) (nat_cmp after s) least.over) [
    | inl bytes ↦ let tied = tied_itself nat_list_cmp_total (big_bytes 4 p) in cc
    | inr (tied, serial) ↦ number_less after s serial
  ]

  pub least_after : (after s t : ℕ) (name : List ℕ) → IsLeastOver key_order children (big_bytes 4 p, after) (big_bytes 4 p, s) → HoldsEntry keys p name t → after < t → s ≤ t
  least_after after s t name least h more = elim (cases_lt t s) [
    | inl less ↦ absurd (child_there t name h (λ has. least.least (big_bytes 4 p, t) has (same_parent after t more) (same_parent t s less)))
    | inr le ↦ le
  ]

-- the next child is the least over the bound, where that is the directory's
pub next_child_is : (dirs : Dirs) (p after s : ℕ) (found : List ℕ) → p < 2 ^ 32 → IsLeastOver key_order (keys_of dirs.children) (big_bytes 4 p, after) (found, s) → found ≡ big_bytes 4 p → IsNextChild dirs p after s
next_child_is dirs p after s found narrow least same =
    let own : IsLeastOver key_order (keys_of dirs.children) (big_bytes 4 p, after) (big_bytes 4 p, s) = subst (λ (x : List ℕ). IsLeastOver key_order (keys_of dirs.children) (big_bytes 4 p, after) (x, s)) same least in
    record {
      over = over_after dirs.slots (keys_of dirs.keys) (keys_of dirs.children) dirs.listing p narrow after s own;
      child = child_name dirs.slots (keys_of dirs.keys) (keys_of dirs.children) dirs.listing p narrow s own.there;
      least = λ t child more. least_after dirs.slots (keys_of dirs.keys) (keys_of dirs.children) dirs.listing p narrow after s t child.0 own child.1 more;
    }

pub no_child_is : (dirs : Dirs) (p after s : ℕ) (found : List ℕ) → p < 2 ^ 32 → IsLeastOver key_order (keys_of dirs.children) (big_bytes 4 p, after) (found, s) → found ≢ big_bytes 4 p → NoChildOver dirs p after
no_child_is dirs p after s found narrow least differ t child = none_before dirs.slots (keys_of dirs.keys) (keys_of dirs.children) dirs.listing p narrow after s t found child.0 least differ child.1

pub no_child_over : (dirs : Dirs) (p after : ℕ) → p < 2 ^ 32 → NoneIsOver key_order (keys_of dirs.children) (big_bytes 4 p, after) → NoChildOver dirs p after
no_child_over dirs p after narrow none t child = none_over dirs.slots (keys_of dirs.keys) (keys_of dirs.children) dirs.listing p narrow after t child.0 none child.1
