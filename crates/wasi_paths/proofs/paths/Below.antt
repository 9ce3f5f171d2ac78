-- Whether an entry is another one, or stands below it.
use Rattle.std.proofs.Common.{◌≡◌, ◌≢◌, ℕ, zero, suc, ◌≤◌, ◌||◌, Bool, true, false, cond, not, [], ◌∷◌, length, Option, Some, IsSome, is_some, refl, sym, ◌∙◌, ap, arith}
use Rattle.std.specs.Option.{option_map_or}
use Rattle.std.specs.List.{list_any}
use Rattle.std.proofs.lemmas.Bool.{eq-eqb, ne_eqb}
use Rattle.vol_tree.specs.Tree.{Tree, Entry, entry, IsTree, is_in, least_from}
use Rattle.vol_tree.specs.Calls.{is_within, next_child}
use Rattle.vol_tree.proofs.Within.{within_below}
use Rattle.wasi_paths.specs.internal.paths.Climbing.{IsAbove}

pub within_here : (k : ℕ) (T : Tree) (top at : ℕ) → at ≡ top → is_within k T top at ≡ true
within_here zero T top at same = eq-eqb at top same
within_here (suc k) T top at same = ap (λ (b : Bool). b || option_map_or (λ (e : Entry). is_within k T top e.parent) (entry T at) false) (eq-eqb at top same)

within_none : (k : ℕ) (T : Tree) (top : ℕ) → 1 ≤ top → is_within k T top 0 ≡ false
within_none zero T top first = ne_eqb 0 top (λ same. omega arith)
within_none (suc k) T top first = ap (λ (b : Bool). b || false) (ne_eqb 0 top (λ same. omega arith))

-- the root is below no other entry
pub within_root : (k : ℕ) (T : Tree) (top : ℕ) → IsTree T → 1 ≤ top → 1 ≢ top → is_within k T top 1 ≡ false
within_root zero T top t first other = ne_eqb 1 top other
within_root (suc k) T top t first other =
    ap (λ (b : Bool). b || option_map_or (λ (e : Entry). is_within k T top e.parent) (entry T 1) false) (ne_eqb 1 top other)
    ∙ (ap (λ (o : Option Entry). option_map_or (λ (e : Entry). is_within k T top e.parent) o false) t.top ∙ within_none k T top first)

pub within_step : (k : ℕ) (T : Tree) (top at p : ℕ) → at ≢ top → IsAbove T at p → is_within (suc k) T top at ≡ is_within k T top p
within_step k T top at p differ above =
    ap (λ (b : Bool). b || option_map_or (λ (e : Entry). is_within k T top e.parent) (entry T at) false) (ne_eqb at top differ)
    ∙ (ap (λ (o : Option Entry). option_map_or (λ (e : Entry). is_within k T top e.parent) o false) above.at ∙ ap (is_within k T top) above.is)

pub above_used : (T : Tree) → IsTree T → (at p : ℕ) → at ≢ 1 → IsAbove T at p → IsSome (entry T p)
above_used T t at p other above = let up = t.inside at above.below above.at other in ap is_some (ap (entry T) (sym above.is) ∙ up.1)

-- each entry is below the root
pub below_root : (T : Tree) (serial : ℕ) → IsTree T → IsSome (entry T serial) → is_within (length T) T 1 serial ≡ true
below_root T serial t used =
    let path = t.reached serial used in
    (within_below T 1 serial t (ap is_some t.top)).1 path.0 path.1

-- ---- an empty directory

some_in : (n : ℕ) (test : Option Entry → Bool) (T : Tree) → is_some (least_from n test T) ≡ list_any test T
some_in n test [] = refl
some_in n test (o ∷ T) = by_test (test o) (some_in (suc n) test T)
  where
    by_test : (b : Bool) → is_some (least_from (suc n) test T) ≡ list_any test T → is_some (cond b (Some n) (least_from (suc n) test T)) ≡ (b || list_any test T)
    by_test true rest = refl
    by_test false rest = rest

pub some_next : (T : Tree) (directory : ℕ) → is_some (next_child T directory 0) ≡ list_any (is_in directory) T
some_next T directory = some_in 1 (is_in directory) T

-- the test that nothing is there
pub flipped : (b c : Bool) → c ≡ not b → b ≡ not c
flipped true c h = sym (ap not h)
flipped false c h = sym (ap not h)
