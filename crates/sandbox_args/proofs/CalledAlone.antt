-- A command that the first word calls has no other's part in its answer: the walk over the words stops there, and goes on at
-- that command.
use Rattle.std.proofs.Common.{◌≡◌, ◌<◌, ◌∙◌, ◌&&◌, ◌||◌, ◌++◌, Bool, arith, get_or, length, cond, true, false, List, [], ◌∷◌, Option, Some, None, refl, sym, subst, ap, ap₂, map, codes, append_assoc, append-nil, true≢false}
use Rattle.std.specs.Prelude.{IfSome, if◌then◌else◌, is_some}
use Rattle.std.specs.Borrow.{Bor}
use Rattle.std.specs.Str.{bytes_eq}
use Rattle.std.proofs.lemmas.Slice.Eq.{bytes_eq-Decides}
use Rattle.std.specs.List.{find, fold, list_all}
use Rattle.std.specs.Option.{option_copied, option_map, option_map_or}
use Rattle.clap.specs.Faults.{built_fault, check_fault, defaults_fault, entered_fault, fault_of, is_simple_and_free, level_fault, other_fault, settle_fault, step_fault, walk_fault}
use Rattle.clap.specs.Kinds.{Kinds, or_else}
use Rattle.clap.specs.Simple.{App, Shape, built, built_leaf, entered, inherited, is_simple, label_of, marked_built, names_of, new_app, on_top, rows_at, subcommand_of, with_filled_rules, with_help_flag, with_leaf_noted, with_rule, with_subcommand, with_version_flag}
use Rattle.clap.specs.Walk.{Names, Rule, Walk, after_step, answers_to, finished, idle, nothing_held, settled, subcommand_or_other, walk, walk_from, walked}
use Rattle.clap.proofs.OnLiterals.{clap_on_literals}
use Rattle.clap.proofs.WalkLemmas.{find-map, walk_stopped}
use Rattle.clap.proofs.FaultLemmas.{stopped_fault}
use Rattle.sandbox_args.specs.Request.{Text}
use Rattle.sandbox_args.specs.CommandLine.{faults_app, program, run_rules, table_apps, with_apps, with_rules}
use Rattle.sandbox_args.specs.declared.table.Subcommand.{Subcommand}
use Rattle.sandbox_args.specs.internal.Table.{AnswersAsAll, app_for, app_named, program_with, rules_for}
use Rattle.sandbox_args.proofs.CommandLines.{program_is_free}

-- ---- lists

find_passes : {X : Type 0} (p : X → Bool) (xs : List X) (x : X) → find p xs ≡ Some x → p x ≡ true
find_passes p [] x e = cc
find_passes p (y ∷ ys) x e = go (p y) refl e (find_passes p ys x)
  where
    go : (b : Bool) → p y ≡ b → cond b (Some y) (find p ys) ≡ Some x → (find p ys ≡ Some x → p x ≡ true) → p x ≡ true
    go true t h later = cc
    go false t h later = later h

found_has : {X : Type 0} (p q : X → Bool) (xs : List X) (x : X) → find p xs ≡ Some x → list_all q xs ≡ true → q x ≡ true
found_has p q [] x e all = cc
found_has p q (y ∷ ys) x e all = go (p y) (q y) refl e all (found_has p q ys x)
  where
    go : (b c : Bool) → q y ≡ c → cond b (Some y) (find p ys) ≡ Some x → c && list_all q ys ≡ true
        → (find p ys ≡ Some x → list_all q ys ≡ true → q x ≡ true) → q x ≡ true
    go true true t h all later = cc
    go false true t h all later = later h all
    go true false t h all later = absurd (true≢false (sym all))
    go false false t h all later = absurd (true≢false (sym all))

-- ---- the program, with some of its commands

abbrev app : Shape → List Shape → App
app top subs = record { top = top; subs = subs }

-- arguments leave a command its names
pub label_kept : (rules : List Rule) (a : App) → label_of (with_rules a rules).top ≡ label_of a.top
label_kept [] a = refl
label_kept (r ∷ rest) a = label_kept rest (with_rule a r)

abbrev tops : List App → List Shape
tops = map (λ a. a.top)

subs_of : (apps : List App) (b : App) → (with_apps b apps).subs ≡ b.subs ++ tops apps
subs_of [] b = sym (append-nil b.subs)
subs_of (a ∷ rest) b = subs_of rest (with_subcommand b a.top) ∙ append_assoc b.subs (a.top ∷ []) (tops rest)

abbrev branch : Shape → Shape
branch s = record s { is_leaf = false }

top_of : (apps : List App) (b : App) → branch (with_apps b apps).top ≡ branch b.top
top_of [] b = refl
top_of (a ∷ rest) b = top_of rest (with_subcommand b a.top)

abbrev first : App
first = on_top (λ s. record s { subcommand_required = true; has_version = true }) (new_app (codes "sandbox"))

-- `faults` stands behind the others
abbrev listed : List App → App
listed apps = app (branch first.top) (tops apps ++ faults_app.top ∷ [])

program_is : (apps : List App) → program_with apps ≡ listed apps
program_is apps = ap₂ (λ (t : Shape) (xs : List Shape). app t (xs ++ faults_app.top ∷ [])) (top_of apps first) (subs_of apps first)

-- a command as building leaves it
abbrev made : Shape → Shape
made s = built_leaf (inherited (with_leaf_noted (marked_built (branch first.top))) s)

made_label : (s : Shape) → label_of (made s) ≡ label_of s
made_label s = go s.is_built
  where
    over : Shape
    over = inherited (with_leaf_noted (marked_built (branch first.top))) s

    go : (b : Bool) → label_of (if b then over else with_filled_rules (with_version_flag (with_help_flag (with_leaf_noted (marked_built over))))) ≡ label_of s
    go true = refl
    go false = refl

-- the command that a word names, as building leaves it
found_in : (apps : List App) (n : Text) (a : App) → app_named n apps ≡ Some a
    → find (λ s. answers_to n (label_of s)) (built (listed apps)).subs ≡ Some (made a.top)
found_in [] n a e = cc
found_in (x ∷ rest) n a e = go (answers_to n (label_of x.top)) refl e (found_in rest n a)
  where
    later : Option Shape
    later = find (λ s. answers_to n (label_of s)) (built (listed rest)).subs

    here : answers_to n (label_of (made x.top)) ≡ answers_to n (label_of x.top)
    here = ap (answers_to n) (made_label x.top)

    go : (b : Bool) → answers_to n (label_of x.top) ≡ b → cond b (Some x) (app_named n rest) ≡ Some a → (app_named n rest ≡ Some a → later ≡ Some (made a.top))
        → cond (answers_to n (label_of (made x.top))) (Some (made x.top)) later ≡ Some (made a.top)
    go true t h further = ap (λ b. cond b (Some (made x.top)) later) (here ∙ t) ∙ ap (option_map (λ (c : App). made c.top)) h
    go false t h further = ap (λ b. cond b (Some (made x.top)) later) (here ∙ t) ∙ further h

-- ---- the walk over the words

module _ (s : Shape) (names : Names) (n : Text) (rest : List Text) (named : option_map (λ (m : Text × List Text). m.0) (find (answers_to n) names) ≡ Some n) where
  -- where the walk stops
  abbrev halt : Walk
  halt = record (walk_from nothing_held) { stopped = Some (n, rest) }

  begun : walked s.rules names (walk_from nothing_held) n ≡ record (walk_from nothing_held) { stopped = Some (n, []) }
  unfolding walked
  begun = ap (λ o. let met = subcommand_or_other s.rules o idle 1 n nothing_held in after_step s.rules n (walk_from nothing_held) met.0 met.1) named

  pub halts : walk s.rules names nothing_held (n ∷ rest) ≡ halt
  halts = ap (λ w. fold (walked s.rules names) w rest) begun ∙ sym (walk_stopped s.rules names (walk_from nothing_held) n [] rest)

  pub walk_fails : walk_fault s names (walk_from nothing_held) (n ∷ rest) ≡ or_else (or_else (other_fault s (Some n) n nothing_held) []) []
  unfolding walk_fault
  walk_fails = ap₂ or_else
      (ap (λ o. let met = subcommand_or_other s.rules o idle 1 n nothing_held in or_else (other_fault s o n nothing_held) (step_fault s 1 met.0 met.1)) named)
      (ap (λ w. walk_fault s names w rest) begun ∙ stopped_fault s names (walk_from nothing_held) (n, []) rest)

-- how a parse may fail, by its walk and by the command that it entered
abbrev whole_fault : Shape → Walk → Kinds → Bool → Kinds → Kinds
whole_fault s end walking entered below = or_else walking
    (or_else below (or_else (settle_fault s.rules s.args_override_self end.held)
    (or_else (defaults_fault (settled s.rules end.held).rows s.rules)
    (check_fault s (finished s.rules end.held) entered))))

-- how it may fail where it enters this one at once
abbrev called_fault : Shape → Text → List Text → Shape → Kinds
called_fault s n rest sub = whole_fault s (record (walk_from nothing_held) { stopped = Some (n, rest) })
    (or_else (or_else (other_fault s (Some n) n nothing_held) []) []) true (level_fault sub [] nothing_held rest false [])

module _ (s : Shape) (xs : List Shape) (n : Text) (rest : List Text) (sub : Shape) (found : find (λ (t : Shape). answers_to n (label_of t)) xs ≡ Some sub) (same : sub.name ≡ n) where
  named : option_map (λ (m : Text × List Text). m.0) (find (answers_to n) (names_of (app s xs))) ≡ Some n
  named = ap (option_map (λ (m : Text × List Text). m.0)) (sym (find-map (answers_to n) label_of xs) ∙ ap (option_map label_of) found) ∙ ap Some same

  pub enters : entered (app s xs) ((walk s.rules (names_of (app s xs)) nothing_held (n ∷ rest)).stopped) ≡ Some (rows_at sub rest)
  enters = ap (λ (w : Walk). entered (app s xs) w.stopped) (halts s (names_of (app s xs)) n rest named) ∙ ap (option_map (λ (t : Shape). rows_at t rest)) found

  pub fails : built_fault (app s xs) nothing_held (n ∷ rest) ≡ called_fault s n rest sub
  fails =
      let names = names_of (app s xs) in
      ap₂ (λ (w : Walk) (k : Kinds). whole_fault s w k (is_some (entered (app s xs) w.stopped)) (entered_fault (app s xs) w.stopped))
      (halts s names n rest named) (walk_fails s names n rest named)
      ∙ ap (λ (o : Option Shape). whole_fault s (halt s names n rest named) (or_else (or_else (other_fault s (Some n) n nothing_held) []) [])
      (is_some (option_map (λ (t : Shape). rows_at t rest) o)) (option_map_or (λ (t : Shape). level_fault t [] nothing_held rest false []) o [])) found

-- ---- what the program answers

module _ (apps : List App) (a : App) (w n : Text) (rest : List Text) (same : a.top.name ≡ n) (e : app_named n apps ≡ Some a) where
  abbrev top : Shape
  top = (built (listed [])).top

  name_made : (made a.top).name ≡ n
  name_made = ap (λ (l : Text × List Text). l.0) (made_label a.top) ∙ same

  pub asks : subcommand_of (program_with apps) (w ∷ n ∷ rest) ≡ Some (rows_at (made a.top) rest)
  asks = ap (λ (p : App). subcommand_of p (w ∷ n ∷ rest)) (program_is apps) ∙ enters top (built (listed apps)).subs n rest (made a.top) (found_in apps n a e) name_made

  pub faults : fault_of (program_with apps) (w ∷ n ∷ rest) ≡ called_fault top n rest (made a.top)
  faults = ap (λ (p : App). fault_of p (w ∷ n ∷ rest)) (program_is apps) ∙ fails top (built (listed apps)).subs n rest (made a.top) (found_in apps n a e) name_made

-- each command alone makes a program of which clap's model says all
all_are_free : list_all (λ a. is_simple_and_free (program_with (a ∷ []))) table_apps ≡ true
unfolding table_apps run_rules clap_on_literals
all_are_free = refl

-- a command has to be there
pub requires_one : (apps : List App) → (program_with apps).top.subcommand_required ≡ true
requires_one apps = ap (λ (p : App). p.top.subcommand_required) (program_is apps)

and_first : (a b : Bool) → a && b ≡ true → a ≡ true
and_first true b e = refl
and_first false b e = absurd (true≢false (sym e))

pub simple_too : (apps : List App) (words : List Text) → AnswersAsAll apps words → is_simple (program_with apps) ≡ true
simple_too apps words as_all = and_first _ _ as_all.free

-- all commands
pub as_all : (words : List Text) → AnswersAsAll table_apps words
unfolding program
as_all words = record { free = program_is_free; subcommand = refl; fault = refl }

-- the one that is called, alone
pub as_alone : (a : App) (w n : Text) (rest : List Text) → a.top.name ≡ n → app_named n table_apps ≡ Some a → AnswersAsAll (a ∷ []) (w ∷ n ∷ rest)
unfolding program
as_alone a w n rest same e =
    let passes = find_passes (λ (b : App). answers_to n (label_of b.top)) table_apps a e in
    let itself : app_named n (a ∷ []) ≡ Some a = ap (λ b. cond b (Some a) None) passes in
    record {
      free = found_has (λ (b : App). answers_to n (label_of b.top)) (λ (b : App). is_simple_and_free (program_with (b ∷ []))) table_apps a e all_are_free;
      subcommand = asks (a ∷ []) a w n rest same itself ∙ sym (asks table_apps a w n rest same e);
      fault = faults (a ∷ []) a w n rest same itself ∙ sym (faults table_apps a w n rest same e);
    }

-- ---- the rows of the table

or_false : (b : Bool) → b || false ≡ b
or_false true = refl
or_false false = refl

-- the first row of a name is the first command of it
named_row : (rows : List Subcommand) (n : Text) (row : Subcommand) → find (λ (r : Subcommand). bytes_eq r.name.now n) rows ≡ Some row → app_named n (map app_for rows) ≡ Some (app_for row)
named_row [] n row e = cc
named_row (x ∷ rest) n row e = go (bytes_eq x.name.now n) refl e (named_row rest n row)
  where
    here : answers_to n (label_of (app_for x).top) ≡ bytes_eq x.name.now n
    here = ap (answers_to n) (label_kept (rules_for x.arguments) (new_app x.name.now)) ∙ or_false (bytes_eq x.name.now n)

    go : (b : Bool) → bytes_eq x.name.now n ≡ b → cond b (Some x) (find (λ (r : Subcommand). bytes_eq r.name.now n) rest) ≡ Some row
        → (find (λ (r : Subcommand). bytes_eq r.name.now n) rest ≡ Some row → app_named n (map app_for rest) ≡ Some (app_for row))
        → cond (answers_to n (label_of (app_for x).top)) (Some (app_for x)) (app_named n (map app_for rest)) ≡ Some (app_for row)
    go true t h later = ap (λ b. cond b (Some (app_for x)) (app_named n (map app_for rest))) (here ∙ t) ∙ ap (option_map app_for) h
    go false t h later = ap (λ b. cond b (Some (app_for x)) (app_named n (map app_for rest))) (here ∙ t) ∙ later h

pub found_row : (rows : List Subcommand) (n : Text) (o : Option (Bor Subcommand)) → option_copied o ≡ find (λ (r : Subcommand). bytes_eq r.name.now n) rows
    → map app_for rows ≡ table_apps → IfSome o (λ row. (row.now.name.now ≡ n) × (app_named n table_apps ≡ Some (app_for row.now)))
found_row rows n None e t = tt
found_row rows n (Some row) e t = (
  (bytes_eq-Decides row.now.name.now n).0 (find_passes (λ (r : Subcommand). bytes_eq r.name.now n) rows row.now (sym e)),
  subst (λ (apps : List App). app_named n apps ≡ Some (app_for row.now)) t (named_row rows n row.now (sym e)),
)

-- its name is that of its row
app_name : (row : Subcommand) → (app_for row).top.name ≡ row.name.now
app_name row = ap (λ (l : Text × List Text). l.0) (label_kept (rules_for row.arguments) (new_app row.name.now))

-- the command of a row, called by the word behind the program's name
pub as_called : {X : Type 0} (f : X → Text) (row : Subcommand) (xs : List X) (x : X) (n : Text) → 1 < length xs → x ≡ get_or xs 1 x → f x ≡ n → row.name.now ≡ n
    → app_named n table_apps ≡ Some (app_for row) → AnswersAsAll (app_for row ∷ []) (map f xs)
as_called f row [] x n lt at is same e = absurd (omega arith)
as_called f row (w ∷ []) x n lt at is same e = absurd (omega arith)
as_called f row (w ∷ y ∷ rest) x n lt at is same e =
    subst (λ (t : Text). AnswersAsAll (app_for row ∷ []) (f w ∷ t ∷ map f rest)) (sym is ∙ ap f at) (as_alone (app_for row) (f w) n (map f rest) (app_name row ∙ same) e)
