-- A walk component by component.
use Rattle.std.proofs.Common.{◌≡◌, ℕ, zero, suc, ◌+◌, ◌<◌, ◌≤◌, Bool, true, false, cond, not, List, [], ◌∷◌, length, get_or, take, drop, Option, Some, None, Result, Ok, Err, refl, sym, ◌∙◌, ap, inl, inr, arith, ltb}
use Rattle.std.specs.Prelude.{◌==◌}
use Rattle.std.specs.Option.{option_map_or}
use Rattle.std.specs.List.{All, filter, position_or_len}
use Rattle.std.proofs.lemmas.Bool.{cases_lt, cond-true, cond-false, eq-eqb, ne_eqb, lt-ltb, le-ltb}
use Rattle.std.proofs.lemmas.List.{take_all}
use Rattle.std.proofs.lemmas.List.Sums.{position_or_len_is}
use Rattle.std.proofs.lemmas.List.Splits.{slice_split_first, slice_split_none, length-slice_split}
use Rattle.vol_tree.specs.declared.errno.Errno.{Errno}
use Rattle.vol_tree.specs.declared.errno.Errno.TheVariants as errno
use Rattle.vol_tree.specs.Tree.{Tree, Name, IsTree, same_name, lookup}
use Rattle.vol_tree.specs.Calls.{directory_at}
use Rattle.path_walk.specs.Paths.{Reached, missing, stepped, parent_at, dots, slash, is_skipped, components_of, parts_of, stays_inside, last_or, resolved, as_wanted, ◌>>=◌}
use Rattle.path_walk.proofs.Walks.{by_parents}
use Rattle.path_walk.specs.internal.Turns.{turned, ends, counting, IsPartLen}

abbrev is_slash : ℕ → Bool
is_slash c = c == slash

first_slash : (text : List ℕ) (n : ℕ) → IsPartLen text n → position_or_len is_slash text ≡ n
first_slash text n p = position_or_len_is is_slash text n 0 p.within (λ k l. ne_eqb (get_or text k 0) slash (p.before k l)) (λ l. eq-eqb (get_or text n 0) slash (p.at l))

-- the components after the first part
abbrev pub left : List ℕ → ℕ → List Name
left text n = cond (ltb n (length text)) (components_of (drop (n + 1) text)) []

abbrev parts_left : List ℕ → ℕ → List Name
parts_left text n = cond (ltb n (length text)) (parts_of (drop (n + 1) text)) []

any_default : (text : List ℕ) (k d e : ℕ) → k < length text → get_or text k d ≡ get_or text k e
any_default [] k d e l = absurd (omega arith)
any_default (c ∷ text) zero d e l = refl
any_default (c ∷ text) (suc k) d e l = any_default text k d e (omega arith)

next_part : (text : List ℕ) (n : ℕ) → IsPartLen text n → parts_of text ≡ take n text ∷ parts_left text n
next_part text n p = elim (cases_lt n (length text)) [
  | inl more ↦
      let at = first_slash text n p in
      let is = slice_split_first is_slash text 0 (omega (arith, at, more)) in
      is ∙ ap (λ (k : ℕ). take k text ∷ parts_of (drop (k + 1) text)) at
      ∙ ap (λ (ps : List Name). take n text ∷ ps) (sym (cond-true _ (parts_of (drop (n + 1) text)) [] (lt-ltb n (length text) more)))
  | inr last ↦
      let all : length text ≡ n = omega (arith, p.within, last) in
      let none : All (λ c. is_slash c ≡ false) text = λ k d l. ne_eqb (get_or text k d) slash (λ same. p.before k (omega (arith, l, all)) (any_default text k 0 d l ∙ same)) in
      slice_split_none is_slash text none ∙ ap (λ (t : Name). t ∷ []) (sym (take_all n text (omega (arith, all))))
      ∙ ap (λ (ps : List Name). take n text ∷ ps) (sym (cond-false _ (parts_of (drop (n + 1) text)) [] (le-ltb n (length text) last)))
]

kept_left : (text : List ℕ) (n : ℕ) → filter (λ part. not (is_skipped part)) (parts_left text n) ≡ left text n
kept_left text n = go (ltb n (length text))
  where
    go : (b : Bool) → filter (λ part. not (is_skipped part)) (cond b (parts_of (drop (n + 1) text)) []) ≡ cond b (components_of (drop (n + 1) text)) []
    go true = refl
    go false = refl

pub components_next : (text : List ℕ) (n : ℕ) → IsPartLen text n → components_of text ≡ counting (take n text) (left text n)
components_next text n p = ap (filter (λ part. not (is_skipped part))) (next_part text n p) ∙ go (is_skipped (take n text))
  where
    go : (b : Bool) → cond (not b) (take n text ∷ filter (λ part. not (is_skipped part)) (parts_left text n)) (filter (λ part. not (is_skipped part)) (parts_left text n)) ≡ cond b (left text n) (take n text ∷ left text n)
    go true = kept_left text n
    go false = ap (λ (ps : List Name). take n text ∷ ps) (kept_left text n)

pub skipped : (text : List ℕ) (n : ℕ) → IsPartLen text n → is_skipped (take n text) ≡ true → components_of text ≡ left text n
skipped text n p skips = ap (filter (λ part. not (is_skipped part))) (next_part text n p) ∙ (cond-false _ _ _ (ap not skips) ∙ kept_left text n)

pub counted : (text : List ℕ) (n : ℕ) → IsPartLen text n → is_skipped (take n text) ≡ false → components_of text ≡ take n text ∷ left text n
counted text n p counts = ap (filter (λ part. not (is_skipped part))) (next_part text n p) ∙ (cond-true _ _ _ (ap not counts) ∙ ap (λ (ps : List Name). take n text ∷ ps) (kept_left text n))

module _ (T : Tree) (here : ℕ) (part : Name) (names : List Name) where
  -- what a component leads to
  on_turn : (d up : Bool) (parent : ℕ) (found : Option ℕ) (turn : Result (Option ℕ) Errno)
      → cond (not d) (Err errno.NotDirectory) (cond up (Ok (Some parent)) (Ok found)) ≡ turn
      → cond (not d) (Err errno.NotDirectory) (cond up (stepped T parent names) (option_map_or (λ child. stepped T child names) found (missing here part names)))
      ≡ elim turn as (λ r. Result Reached Errno) [ Ok next ↦ option_map_or (λ child. stepped T child names) next (missing here part names) | Err e ↦ Err e ]
  on_turn false up parent found turn h = ap (λ (r : Result (Option ℕ) Errno). elim r as (λ r. Result Reached Errno) [ Ok next ↦ option_map_or (λ child. stepped T child names) next (missing here part names) | Err e ↦ Err e ]) h
  on_turn true true parent found turn h = ap (λ (r : Result (Option ℕ) Errno). elim r as (λ r. Result Reached Errno) [ Ok next ↦ option_map_or (λ child. stepped T child names) next (missing here part names) | Err e ↦ Err e ]) h
  on_turn true false parent found turn h = ap (λ (r : Result (Option ℕ) Errno). elim r as (λ r. Result Reached Errno) [ Ok next ↦ option_map_or (λ child. stepped T child names) next (missing here part names) | Err e ↦ Err e ]) h

  pub ends_next : (next : ℕ) → turned T here part ≡ Ok (Some next) → ends T here None (part ∷ names) ≡ ends T next None names
  ends_next next h = on_turn (directory_at T here) (same_name part dots) (parent_at T here) (lookup T here part) (Ok (Some next)) h

  pub ends_none : turned T here part ≡ Ok None → ends T here None (part ∷ names) ≡ ends T here (Some part) names
  ends_none h = on_turn (directory_at T here) (same_name part dots) (parent_at T here) (lookup T here part) (Ok None) h

  pub ends_err : (e : Errno) → turned T here part ≡ Err e → ends T here None (part ∷ names) ≡ Err e
  ends_err e h = on_turn (directory_at T here) (same_name part dots) (parent_at T here) (lookup T here part) (Err e) h

pub left_none : (text : List ℕ) (n : ℕ) → length text ≤ n → left text n ≡ []
left_none text n l = cond-false _ (components_of (drop (n + 1) text)) [] (le-ltb n (length text) l)

pub left_more : (text : List ℕ) (n : ℕ) → n < length text → left text n ≡ components_of (drop (n + 1) text)
left_more text n l = cond-true _ (components_of (drop (n + 1) text)) [] (lt-ltb n (length text) l)

-- one part more: what the walk comes to is what it was to come to
pub onward : (T V : Tree) (here : ℕ) (m : Option Name) (more : Bool) (rest part : List ℕ) (names : List Name) (n : ℕ) (W X : Result Reached Errno)
    → V ≡ T → more ≡ true → IsPartLen rest n → part ≡ take n rest → left rest n ≡ names
    → ends T here m (cond more (components_of rest) []) ≡ W → ends V here m (counting part names) ≡ X → X ≡ W
onward T V here m more rest part names n W X same is p front remainder goes step =
    let all : cond more (components_of rest) [] ≡ counting part names =
    cond-true _ (components_of rest) [] is ∙ (components_next rest n p ∙ (λ i. counting (sym front i) (remainder i))) in
    sym step ∙ (ap (λ (T : Tree). ends T here m (counting part names)) same ∙ (sym (ap (ends T here m) all) ∙ goes))

-- one part more of the test that a path stays inside
pub inward : (depth : ℕ) (more : Bool) (rest part : List ℕ) (names : List Name) (n : ℕ) (W X : Bool) → more ≡ true → IsPartLen rest n → part ≡ take n rest → left rest n ≡ names
    → stays_inside depth (cond more (components_of rest) []) ≡ W → stays_inside depth (counting part names) ≡ X → X ≡ W
inward depth more rest part names n W X is p front remainder goes step =
    let all : cond more (components_of rest) [] ≡ counting part names =
    cond-true _ (components_of rest) [] is ∙ (components_next rest n p ∙ (λ i. counting (sym front i) (remainder i))) in
    sym step ∙ (sym (ap (stays_inside depth) all) ∙ goes)

-- ---- the last part

last_of_some : (p : Name) (ps : List Name) → 0 < length ps → last_or p ps ≡ last_or [] ps
last_of_some p [] l = absurd (omega arith)
last_of_some p (q ∷ ps) l = refl

pub last_part : (text : List ℕ) (n : ℕ) → IsPartLen text n → length text ≤ n → last_or [] (parts_of text) ≡ take n text
last_part text n p l = ap (last_or []) (next_part text n p ∙ ap (λ (ps : List Name). take n text ∷ ps) (cond-false _ (parts_of (drop (n + 1) text)) [] (le-ltb n (length text) l)))

pub later_part : (text : List ℕ) (n : ℕ) → IsPartLen text n → n < length text → last_or [] (parts_of text) ≡ last_or [] (parts_of (drop (n + 1) text))
later_part text n p l =
    ap (last_or []) (next_part text n p ∙ ap (λ (ps : List Name). take n text ∷ ps) (cond-true _ (parts_of (drop (n + 1) text)) [] (lt-ltb n (length text) l)))
    ∙ last_of_some (take n text) (parts_of (drop (n + 1) text)) (omega (arith, length-slice_split is_slash (drop (n + 1) text)))

-- ---- all of a walk

pub resolves : (T : Tree) (directory : ℕ) (wants : Bool) (names : List Name) → IsTree T → 1 ≤ directory → stays_inside 0 names ≡ true
    → resolved T directory wants names ≡ (stepped T directory names >>= as_wanted T wants)
resolves T directory wants names is_tree first inside = cond-true _ _ _ inside ∙ ap (λ (r : Result Reached Errno). r >>= as_wanted T wants) (by_parents T directory names is_tree first inside)

pub leaves : (T : Tree) (directory : ℕ) (wants : Bool) (names : List Name) → stays_inside 0 names ≡ false → resolved T directory wants names ≡ Err errno.NotCapable
leaves T directory wants names out = cond-false _ _ _ out

pub resolves_as : (T : Tree) (directory : ℕ) (wants : Bool) (names : List Name) (r : Result Reached Errno) → IsTree T → 1 ≤ directory → stays_inside 0 names ≡ true → stepped T directory names ≡ r
    → resolved T directory wants names ≡ (r >>= as_wanted T wants)
resolves_as T directory wants names r is_tree first inside is = resolves T directory wants names is_tree first inside ∙ ap (λ (r : Result Reached Errno). r >>= as_wanted T wants) is
