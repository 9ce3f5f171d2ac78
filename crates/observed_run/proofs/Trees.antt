-- One node more.
use Rattle.std.proofs.Common.{◌≡◌, ◌≤◌, ◌<◌, ◌+◌, ◌-◌, ◌^◌, ℕ, zero, suc, List, [], ◌∷◌, ◌++◌, Some, length, slice_get, slice_index, slice_set, slice_index_or, sum, drop, replicate, append_assoc, append-nil, length-append, Bool, true, false, not, if◌then◌else◌, true≢false, refl, sym, ap, subst, ◌∙◌, arith}
use Rattle.std.specs.List.{position}
use Rattle.std.specs.Option.{unwrap_or}
use Rattle.std.proofs.lemmas.List.Quantifiers.{position-Some}
use Rattle.std.proofs.lemmas.Option.{slice_get-get_or}
use Rattle.std.proofs.lemmas.List.{get_or-set_same, get_or-set_other, length-set}
use Rattle.std.proofs.lemmas.List.Sums.{sum_by-set, get_or-le-sum_by}
use Rattle.observed_run.specs.declared.stacks.Call.{Call}
use Rattle.observed_run.specs.Stacks.{Stacks, AddsUnits, Grows, IsNodeOf, IsStack, bottom, above}

some_same : {X : Type 0} {a b : X} → Some a ≡ Some b → a ≡ b
some_same {X} {a} {b} e = ap (λ o. unwrap_or o a) e

-- what is found by what only one thing passes is that thing
pub found_at : {X : Type 0} (test : X → Bool) (xs : List X) (i : ℕ) (y : X) → position test xs ≡ Some i → ((x : X) → test x ≡ true → x ≡ y) → slice_get xs i ≡ Some y
found_at test xs i y is same = let found = position-Some test xs i y is in slice_get-get_or xs i y found.0 ∙ ap (λ x. Some x) (same _ found.1)

-- what holds of each, and of one more at the end
each_more : {X : Type 0} (P : ℕ → X → Type 0) (xs : List X) (y : X) → ((k : ℕ) (x : X) → slice_get xs k ≡ Some x → P k x) → P (length xs) y → (k : ℕ) (x : X) → slice_get (xs ++ y ∷ []) k ≡ Some x → P k x
each_more P [] y h p zero x e = subst (λ z. P 0 z) (some_same e) p
each_more P [] y h p (suc k) x e = cc
each_more P (z ∷ xs) y h p zero x e = h zero x e
each_more P (z ∷ xs) y h p (suc k) x e = each_more (λ a b. P (suc a) b) xs y (λ a b f. h (suc a) b f) p k x e

-- callers stand below what they call, with one call more
pub callers_below : (calls : List Call) (last : Call) → ((k : ℕ) (call : Call) → slice_get calls k ≡ Some call → call.caller ≤ k) → last.caller ≤ length calls
    → (k : ℕ) (call : Call) → slice_get (calls ++ last ∷ []) k ≡ Some call → call.caller ≤ k
callers_below calls last all low = each_more (λ k call. call.caller ≤ k) calls last all low

-- the tree with a call more is one
pub grown_tree : (calls grown : List Call) (units more : List ℕ) (last : Call) → grown ≡ calls ++ last ∷ [] → more ≡ units ++ 0 ∷ [] → length units ≡ suc (length calls)
    → ((k : ℕ) (call : Call) → slice_get calls k ≡ Some call → call.caller ≤ k) → last.caller < length units
    → (length more ≡ suc (length grown)) × ((k : ℕ) (call : Call) → slice_get grown k ≡ Some call → call.caller ≤ k)
grown_tree calls grown units more last is more_is fits low there = (
  omega (arith, ap length is, length-append calls (last ∷ []), ap length more_is, length-append units (0 ∷ []), fits),
  subst (λ (calls : List Call). (k : ℕ) (call : Call) → slice_get calls k ≡ Some call → call.caller ≤ k) (sym is) (callers_below calls last low (omega (arith, fits, there))),
)

front : {X : Type 0} (xs ys : List X) (k : ℕ) (x : X) → slice_get xs k ≡ Some x → slice_get (xs ++ ys) k ≡ Some x
front [] ys k x e = cc
front (z ∷ xs) ys zero x e = e
front (z ∷ xs) ys (suc k) x e = front xs ys k x e

-- a stack keeps its node while others are added
pub still_stack : {calls : List Call} (added : List Call) {node : ℕ} {stack : List ℕ} → IsStack calls node stack → IsStack (calls ++ added) node stack
still_stack added bottom = bottom
still_stack {calls} added (above k call below at rest) = above k call below (front calls added k call at) (still_stack added rest)

-- one node more, with no units yet
pub grown : (old new : Stacks) (call : Call) (depth : ℕ) → new.calls ≡ old.calls ++ call ∷ [] → new.units ≡ old.units ++ 0 ∷ [] → new.is_cut ≡ old.is_cut → 0 < depth → new.room + depth ≤ old.room → Grows old new
grown old new call depth calls units cut some room = record { added = call ∷ []; calls = calls; units = units; whole = λ whole. sym cut ∙ whole; within = omega (arith, some, room) }

-- units of so many nodes that have none yet
abbrev zeros : ℕ → List ℕ
zeros n = replicate n 0

more_zeros : (xs ys : List Call) → zeros (length xs) ++ zeros (length ys) ≡ zeros (length (xs ++ ys))
more_zeros [] ys = refl
more_zeros (x ∷ xs) ys = ap (λ (rest : List ℕ). zero ∷ rest) (more_zeros xs ys)

-- nodes that were added, and then others
pub grows_on : (a b c : Stacks) → Grows a b → Grows b c → Grows a c
grows_on a b c first next = record {
  added = first.added ++ next.added;
  calls = next.calls ∙ ap (λ (calls : List Call). calls ++ next.added) first.calls ∙ append_assoc a.calls first.added next.added;
  units = next.units ∙ ap (λ (units : List ℕ). units ++ zeros (length next.added)) first.units ∙ append_assoc a.units (zeros (length first.added)) (zeros (length next.added))
      ∙ ap (λ (rest : List ℕ). a.units ++ rest) (more_zeros first.added next.added);
  whole = λ whole. first.whole (next.whole whole);
  within = omega (arith, first.within, next.within, length-append first.added next.added);
}

-- a stack keeps its node while the tree grows
pub keeps_stack : (a b : Stacks) → Grows a b → (node : ℕ) (stack : List ℕ) → IsStack a.calls node stack → IsStack b.calls node stack
keeps_stack a b grows node stack is = subst (λ calls. IsStack calls node stack) (sym grows.calls) (still_stack grows.added is)

-- what is left from here on begins with what stands here
pub split : (xs : List ℕ) (i : ℕ) → i < length xs → drop i xs ≡ slice_index xs i ∷ drop (suc i) xs
split [] i small = elim small [ ]
split (x ∷ xs) zero small = refl
split (x ∷ xs) (suc i) small = split xs i (omega (arith, small))

-- the outermost of these functions that is left is on top of those that were there
pub one_further : (s : Stacks) (functions : List ℕ) (n k caller : ℕ) (call : Call) → n < length functions → call.function ≡ slice_index functions n → slice_get s.calls k ≡ Some call
    → IsStack s.calls call.caller (drop (suc n) functions) → IsStack s.calls (suc k) (drop n functions)
one_further s functions n k caller call small is at below = subst (IsStack s.calls (suc k)) (ap (λ f. f ∷ drop (suc n) functions) is ∙ sym (split functions n small)) (above k call (drop (suc n) functions) at below)

-- what is inserted and wasn't there goes last
pub goes_last : {X : Type 0} (present : Bool) (old new : List X) (x : X) → new ≡ (if present then old else old ++ x ∷ []) → true ≡ not present → new ≡ old ++ x ∷ []
goes_last true old new x is absent = absurd (true≢false absent)
goes_last false old new x is absent = is

-- nothing was added
pub grows_none : (s : Stacks) → Grows s s
grows_none s = record { added = []; calls = sym (append-nil s.calls); units = sym (append-nil s.units); whole = λ whole. whole; within = omega arith }

-- no function is at work at the bottom
pub at_bottom : (s : Stacks) (functions : List ℕ) (node : ℕ) → node ≡ 0 → IsStack s.calls node (drop (length functions - 0) functions)
at_bottom s functions node is =
    let whole : length functions - 0 ≡ length functions = omega arith in
    subst (λ (n : ℕ). IsStack s.calls n (drop (length functions - 0) functions)) (sym is)
    (subst (λ (n : ℕ). IsStack s.calls 0 (drop n functions)) (sym whole) (subst (IsStack s.calls 0) (sym (all_dropped functions)) bottom))
  where
    all_dropped : (xs : List ℕ) → drop (length xs) xs ≡ []
    all_dropped [] = refl
    all_dropped (x ∷ xs) = all_dropped xs

-- one function more of these is at work, on top of those that were
pub further : (old new : Stacks) (functions : List ℕ) (depth node up : ℕ) (call : Call) → Grows old new → depth < length functions
    → call.caller ≡ node → call.function ≡ slice_index functions (length functions - 1 - depth) → (k : ℕ) × (up ≡ suc k) × (slice_get new.calls k ≡ Some call)
    → IsStack old.calls node (drop (length functions - depth) functions) → IsStack new.calls up (drop (length functions - (depth + 1)) functions)
further old new functions depth node up call grows small caller function (k, is, at) below =
    let n = length functions - (depth + 1) in
    let next : suc n ≡ length functions - depth = omega (arith, small) in
    let same : length functions - 1 - depth ≡ n = omega (arith, small) in
    let kept = keeps_stack old new grows node (drop (length functions - depth) functions) below in
    let lower = subst (λ (m : ℕ). IsStack new.calls call.caller (drop m functions)) (sym next) (subst (λ (m : ℕ). IsStack new.calls m (drop (length functions - depth) functions)) (sym caller) kept) in
    subst (λ (m : ℕ). IsStack new.calls m (drop n functions)) (sym is)
    (one_further new functions n k call.caller call (omega (arith, small)) (function ∙ ap (slice_index functions) same) at lower)

-- what is left out is said, and nothing else changes
pub cut_grows : (old grown cut : Stacks) → Grows old grown → cut ≡ record grown { is_cut = true } → Grows old cut
cut_grows old grown cut grows is = subst (Grows old) (sym is) (record { added = grows.added; calls = grows.calls; units = grows.units; whole = λ whole. absurd (true≢false whole); within = grows.within })

pub cut_node : (grown cut : Stacks) (functions : List ℕ) (node left_out : ℕ) → cut ≡ record grown { is_cut = true } → IsStack grown.calls node (drop left_out functions) → IsNodeOf cut functions node
cut_node grown cut functions node left_out is stack =
    subst (λ (s : Stacks). IsNodeOf s functions node) (sym is) (record { left_out = left_out; stack = stack; whole = λ whole. absurd (true≢false whole) })

-- one function more is found, and the node below it is next
pub found_below : (calls : List Call) (node at : ℕ) (call : Call) (found more : List ℕ) → 0 < at → slice_get calls (at - 1) ≡ Some call → more ≡ found ++ call.function ∷ []
    → ((below : List ℕ) → IsStack calls at below → IsStack calls node (found ++ below)) → (below : List ℕ) → IsStack calls call.caller below → IsStack calls node (more ++ below)
found_below calls node at call found more some there is so below rest =
    let next : suc (at - 1) ≡ at = omega (arith, some) in
    subst (IsStack calls node) (sym (ap (λ (xs : List ℕ). xs ++ below) is ∙ append_assoc found (call.function ∷ []) below))
    (so (call.function ∷ below) (subst (λ (n : ℕ). IsStack calls n (call.function ∷ below)) next (above (at - 1) call below there rest)))

-- all are found
pub found_all : (calls : List Call) (node at : ℕ) (found : List ℕ) → at ≡ 0 → ((below : List ℕ) → IsStack calls at below → IsStack calls node (found ++ below)) → IsStack calls node found
found_all calls node at found is so = subst (IsStack calls node) (append-nil found) (so [] (subst (λ (n : ℕ). IsStack calls n []) (sym is) bottom))

-- a node that was there is there when the tree has grown and is cut
pub still_there : (old grown cut : Stacks) (node : ℕ) → Grows old grown → cut ≡ record grown { is_cut = true } → node < length old.units → node < length cut.units
still_there old grown cut node grows is small =
    omega (arith, small, ap (λ (s : Stacks). length s.units) is, ap length grows.units, length-append old.units (zeros (length grows.added)))

-- ---- units of a node

any_or : (units : List ℕ) (node found : ℕ) → node < length units → found ≡ slice_index_or units node found → found ≡ slice_index units node
any_or [] node found small is = elim small [ ]
any_or (u ∷ units) zero found small is = is
any_or (u ∷ units) (suc node) found small is = any_or units node found (omega (arith, small)) is

pub adds : (calls : List Call) (units : List ℕ) (cut : Bool) (room node found more : ℕ) → node < length units → found ≡ slice_index_or units node found
    → AddsUnits (record { calls = calls; units = units; is_cut = cut; room = room }) (record { calls = calls; units = slice_set units node (found + more); is_cut = cut; room = room }) node more
adds calls units cut room node found more small is =
    let was : found ≡ slice_index units node = any_or units node found small is in
    record {
      calls = refl;
      is_cut = refl;
      room = refl;
      nodes = length-set units node (found + more);
      there = get_or-set_same units node (found + more) 0 small ∙ ap (λ n. n + more) was;
      elsewhere = λ k other. get_or-set_other units node k (found + more) 0 other;
      in_all = omega (arith, sum_by-set (λ n. n) units node (found + more) 0 small, was);
    }

-- they fit, since all of them do
pub units_fit : (units : List ℕ) (node found more : ℕ) → node < length units → found ≡ slice_index_or units node found → sum units + more < 2 ^ 64 → found + more < 2 ^ 64
units_fit units node found more small is few = omega (arith, any_or units node found small is, get_or-le-sum_by (λ n. n) units node 0 small, few)
