-- What a rename does to the map from paths.
use Rattle.std.proofs.Common.{is_some, ◌≡◌, ◌≢◌, ◌⊎◌, ◌↔◌, inl, inr, ℕ, zero, suc, Bool, true, false, not, ◌&&◌, ◌==◌, List, [], ◌∷◌, length, set, get_or, Option, Some, None, Result, Ok, refl, sym, ◌∙◌, ap, subst}
use Rattle.std.specs.Option.{option_map, option_map_or}
use Rattle.std.proofs.lemmas.Bool.{cases_eq, cases_Bool, cond-false, false≢true, eqb-true, eq-eqb}
use Rattle.std.proofs.lemmas.Option.{same_Some, none-some}
use Rattle.vol_tree.specs.declared.errno.Errno.{Errno}
use Rattle.vol_tree.specs.declared.errno.Errno.TheVariants as errno
use Rattle.vol_tree.specs.Tree.{Tree, Path, Name, Node, Entry, entry, changed, Leads, IsTree, lookup, is_empty}
use Rattle.vol_tree.specs.Calls.{unless, moved, moved_onto, is_within, directory_at}
use Rattle.vol_tree.specs.PathLaws.{Maps, IsBelow, IsMoved, RenamedMap}
use Rattle.vol_tree.specs.internal.Moves.{MovesIn, MovesToName}
use Rattle.vol_tree.proofs.Climbing.{may_move_in, onto_itself, moves_after, leads_left, parent_apart}
use Rattle.vol_tree.proofs.Entries.{entry-changed_same, entry-changed_other}
use Rattle.vol_tree.proofs.Lookups.{looked_up}
use Rattle.vol_tree.proofs.PathMaps.{moved_map, removed_map}
use Rattle.vol_tree.proofs.Trees.{Childless, empty_childless, file_childless, is_directory_at, leads_without, without_is_tree}

abbrev node_in : Tree → ℕ → Option Node
node_in T s = option_map (λ (e : Entry). e.node) (entry T s)

abbrev IsRenamed : Tree → ℕ → ℕ → Name → Path → ℕ → Node → Type 0
IsRenamed T serial parent name path s m = Maps T path s m × (IsBelow T serial s → ⊥) × (lookup T parent name ≡ Some s → ⊥) ⊎ IsMoved T serial parent name path s × (node_in T s ≡ Some m)

to_renamed : (T : Tree) (serial parent : ℕ) (name : Name) (path : Path) (s : ℕ) (m : Node) → ((IsBelow T serial s → ⊥) → lookup T parent name ≡ Some s → ⊥)
    → (Maps T path s m × (IsBelow T serial s → ⊥) ⊎ IsMoved T serial parent name path s × (node_in T s ≡ Some m)) → IsRenamed T serial parent name path s m
to_renamed T serial parent name path s m none (inl (old, apart)) = inl (old, apart, none apart)
to_renamed T serial parent name path s m none (inr on) = inr on

from_renamed : (T : Tree) (serial parent : ℕ) (name : Name) (path : Path) (s : ℕ) (m : Node) → IsRenamed T serial parent name path s m
    → (Maps T path s m × (IsBelow T serial s → ⊥) ⊎ IsMoved T serial parent name path s × (node_in T s ≡ Some m))
from_renamed T serial parent name path s m (inl (old, apart, none)) = inl (old, apart)
from_renamed T serial parent name path s m (inr on) = inr on

pub passes : {X : Type 0} (c : Bool) (e : Errno) (checks : List (Bool × Errno)) (x : Result X Errno) (y : X) → unless ((c, e) ∷ checks) x ≡ Ok y → (c ≡ false) × (unless checks x ≡ Ok y)
passes true e checks x y h = absurd (cc)
passes false e checks x y h = (refl, h)

pub ok_same : {X : Type 0} (x y : X) → ◌≡◌ {A = Result X Errno} (Ok x) (Ok y) → x ≡ y
ok_same x y h = cc

set_same : (T : Tree) (s : ℕ) (o : Option Entry) → get_or T s None ≡ o → set T s o ≡ T
set_same [] s o is = refl
set_same (x ∷ T) zero o is = ap (λ (y : Option Entry). y ∷ T) (sym is)
set_same (x ∷ T) (suc s) o is = ap (λ (U : Tree). x ∷ U) (set_same T s o is)

changed_same : (T : Tree) (s : ℕ) (e : Entry) → entry T s ≡ Some e → changed T s (Some e) ≡ T
changed_same T zero e is = refl
changed_same T (suc s) e is = set_same T s (Some e) is

is_opened : (o : Option Entry) → is_some o ≡ true → (e : Entry) × (o ≡ Some e)
is_opened None h = absurd (false≢true h)
is_opened (Some e) h = (e, refl)

both_false : (a b : Bool) → (a && b) ≡ false → a ≡ true → b ≡ false
both_false true b h is = h
both_false false b h is = absurd (false≢true is)

pub not_false : (b : Bool) → not b ≡ false → b ≡ true
not_false true h = refl
not_false false h = absurd (false≢true (sym h))

module _ (T U : Tree) (serial parent : ℕ) (name : Name) (t : IsTree T) (e : Entry) (h : entry T serial ≡ Some e) (m : MovesIn T serial parent) where
  abbrev Holds : Tree → Path → ℕ → Node → Type 0
  Holds V path s n = Maps V path s n ↔ IsRenamed T serial parent name path s n

  by_move : (path : Path) (s : ℕ) (n : Node) → ((IsBelow T serial s → ⊥) → lookup T parent name ≡ Some s → ⊥) → Holds (moved T serial parent name) path s n
  by_move path s n none =
      let mv = moved_map T serial parent name e t m.not_top h (λ (below, leads). m.outside below leads) path s n in
      (λ g. to_renamed T serial parent name path s n none (mv.0 g), λ r. mv.1 (from_renamed T serial parent name path s n r))

  -- to the same place
  by_nothing : lookup T parent name ≡ Some serial → (path : Path) (s : ℕ) (n : Node) → Holds T path s n
  by_nothing some path s n =
      let found = looked_up T parent serial name some in
      let own : found.0 ≡ e = same_Some found.0 e (sym found.1 ∙ h) in
      let same : record e { parent = parent; name = name } ≡ e = λ i. record e { parent = (sym found.2 ∙ ap (λ (d : Entry). d.parent) own) i; name = (sym found.3 ∙ ap (λ (d : Entry). d.name) own) i } in
      let back : moved T serial parent name ≡ T =
      ap (λ (o : Option Entry). option_map_or (λ (e : Entry). changed T serial (Some (record e { parent = parent; name = name }))) o T) h
      ∙ ap (λ (d : Entry). changed T serial (Some d)) same ∙ changed_same T serial e h in
      subst (λ (V : Tree). Holds V path s n) back (by_move path s n (λ apart is. apart ([], same_Some s serial (sym is ∙ some))))

  -- onto another entry
  module _ (target : ℕ) (differ : target ≢ serial) (some : lookup T parent name ≡ Some target) (bare : Childless T target) where
    abbrev Less : Tree
    Less = changed T target None

    there : (d : Entry) × (entry T target ≡ Some d) × (d.parent ≡ parent) × (d.name ≡ name)
    there = looked_up T parent target name some

    not_top : target ≢ 1
    not_top same =
        let up = m.inside in
        let is_root = same_Some there.0 _ (sym there.1 ∙ (ap (entry T) same ∙ t.top)) in
        let none : parent ≡ 0 = sym there.2 ∙ ap (λ (d : Entry). d.parent) is_root in
        none-some up.0 (ap (entry T) (sym none) ∙ up.1)

    after : MovesToName Less serial parent name
    after = moves_after T t serial parent target name m differ some bare

    less_tree : IsTree Less
    less_tree = without_is_tree T t target there.0 there.1 not_top bare

    at_less : entry Less serial ≡ Some e
    at_less = entry-changed_other T target serial None (λ same. differ (sym same)) ∙ h

    down : (above : ℕ) (path : Path) (x : ℕ) → Leads Less above path x → Leads T above path x
    down above path x leads = leads_left T t serial parent target name m differ some bare above path x leads

    up : (above : ℕ) (path : Path) (x : ℕ) → x ≢ target → Leads T above path x → Leads Less above path x
    up above path x apart leads = leads_without T t target there.0 there.1 not_top bare above path x apart leads

    apart_from : parent ≢ target
    apart_from = parent_apart T t serial parent target name m differ some bare

    node_stays : (s : ℕ) → s ≢ target → node_in Less s ≡ node_in T s
    node_stays s apart = ap (option_map (λ (d : Entry). d.node)) (entry-changed_other T target s None apart)

    gone : node_in Less target ≡ None
    gone = ap (option_map (λ (d : Entry). d.node)) (entry-changed_same T target there.0 None there.1)

    not_target : (below : Path) → Leads T serial below target → ⊥
    not_target [] leads = differ leads
    not_target (n ∷ below) leads =
        let own : leads.0 ≡ there.0 = same_Some leads.0 there.0 (sym leads.1 ∙ there.1) in
        m.outside below (subst (λ (p : ℕ). Leads T serial below p) (ap (λ (d : Entry). d.parent) own ∙ there.2) leads.3)

    by_replacing : (path : Path) (s : ℕ) (n : Node) → Holds (moved Less serial parent name) path s n
    by_replacing path s n =
        let mv = moved_map Less serial parent name e less_tree after.into.not_top at_less (λ (below, leads). after.into.outside below leads) path s n in
        let rm = removed_map T target there.0 t there.1 bare path s n in (
          λ g. elim (mv.0 g) [
            | inl (old, apart) ↦
                let was = rm.0 old in
                inl (was.0, λ (below, leads). apart (below, up serial below s was.1 leads), λ is. was.1 (same_Some s target (sym is ∙ some)))
            | inr (on, is) ↦
                let other : s ≢ target = λ same. none-some n (sym gone ∙ sym (ap (node_in Less) same) ∙ is) in
                inr (record { below = on.below; above = on.above; at = down 1 on.above parent on.at; leads = down serial on.below s on.leads; is = on.is }, sym (node_stays s other) ∙ is)
          ],
          λ r. mv.1 (elim r [
            | inl (old, apart, none) ↦
                let other : s ≢ target = λ same. none (some ∙ ap Some (sym same)) in
                inl (rm.1 (old, other), λ (below, leads). apart (below, down serial below s leads))
            | inr (on, is) ↦
                let other : s ≢ target = λ same. not_target on.below (subst (λ (x : ℕ). Leads T serial on.below x) same on.leads) in
                inr (record { below = on.below; above = on.above; at = up 1 on.above parent apart_from on.at; leads = up serial on.below s other on.leads; is = on.is }, node_stays s other ∙ is)
          ]),
        )

  -- where it may go, nothing stands in the target
  target_bare : (target : ℕ) → lookup T parent name ≡ Some target → (b : Bool) → directory_at T target ≡ b → (directory_at T target && not (is_empty T target)) ≡ false → Childless T target
  target_bare target some true is full = empty_childless T target (not_false (is_empty T target) (both_false (directory_at T target) (not (is_empty T target)) full is))
  target_bare target some false is full =
      let found = looked_up T parent target name some in
      file_childless T t target found.0 found.1 (sym (is_directory_at T target found.0 found.1) ∙ is)

  by_target : (target : ℕ) → lookup T parent name ≡ Some target → moved_onto T serial parent name target ≡ Ok U → (path : Path) (s : ℕ) (n : Node) → Holds U path s n
  by_target target some done path s n = elim (cases_eq target serial) [
    | inl same ↦ subst (λ (V : Tree). Holds V path s n) (ok_same T U (sym (onto_itself T serial parent target name same) ∙ done)) (by_nothing (some ∙ ap Some same) path s n)
    | inr differ ↦
        let other : (target == serial) ≡ false = elim (cases_Bool (target == serial)) [ inl is ↦ absurd (differ (eqb-true target serial is)) | inr isnt ↦ isnt ] in
        let checked = sym (cond-false (target == serial) _ _ other) ∙ done in
        let answer : Result Tree Errno = Ok (moved (changed T target None) serial parent name) in
        let last : List (Bool × Errno) = (directory_at T target && not (is_empty T target), errno.NotEmpty) ∷ [] in
        let later : List (Bool × Errno) = (not (directory_at T serial) && directory_at T target, errno.IsDirectory) ∷ last in
        let one = passes (directory_at T serial && not (directory_at T target)) errno.NotDirectory later answer U checked in
        let two = passes (not (directory_at T serial) && directory_at T target) errno.IsDirectory last answer U one.1 in
        let three = passes (directory_at T target && not (is_empty T target)) errno.NotEmpty [] answer U two.1 in
        let bare = target_bare target some (directory_at T target) refl three.0 in
        subst (λ (V : Tree). Holds V path s n) (ok_same (moved (changed T target None) serial parent name) U three.1) (by_replacing target differ some bare path s n)
  ]

  by_lookup : (o : Option ℕ) → lookup T parent name ≡ o → option_map_or (moved_onto T serial parent name) o (Ok (moved T serial parent name)) ≡ Ok U → (path : Path) (s : ℕ) (n : Node) → Holds U path s n
  by_lookup None none done path s n = subst (λ (V : Tree). Holds V path s n) (ok_same (moved T serial parent name) U done) (by_move path s n (λ apart is. none-some s (sym none ∙ is)))
  by_lookup (Some target) some done path s n = by_target target some done path s n

pub renamed_map : RenamedMap
renamed_map T U serial parent name t used inside done path s n =
    let answer : Result Tree Errno = option_map_or (moved_onto T serial parent name) (lookup T parent name) (Ok (moved T serial parent name)) in
    let root = passes (serial == 1) errno.Invalid ((is_within (length T) T serial parent, errno.Invalid) ∷ []) answer U done in
    let within = passes (is_within (length T) T serial parent) errno.Invalid [] answer U root.1 in
    let other : serial ≢ 1 = λ same. false≢true (sym root.0 ∙ eq-eqb serial 1 same) in
    let e = is_opened (entry T serial) used in
    by_lookup T U serial parent name t e.0 e.1 (may_move_in T t serial parent used other inside within.0) (lookup T parent name) refl within.1 path s n
