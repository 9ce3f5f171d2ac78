-- `path_rename`: its checks and the calls of the tree.
use Rattle.std.proofs.Common.{◌≡◌, ◌≢◌, ◌⊎◌, ℕ, Bool, true, false, cond, not, ◌&&◌, ◌||◌, ◌==◌, [], length, Option, Some, None, IsSome, Result, Ok, Err, MatchResult, refl, sym, ◌∙◌, ap, subst, inl, inr, arith}
use Rattle.std.specs.Option.{option_map_or}
use Rattle.std.proofs.lemmas.Bool.{cases_eq, cases_Bool, cond-true, cond-false, ne_eqb, and_parts, or_parts, eq-eqb}
use Rattle.vol_tree.specs.declared.errno.Errno.{Errno}
use Rattle.vol_tree.specs.declared.errno.Errno.TheVariants as errno
use Rattle.vol_tree.specs.Tree.{Tree, Name, Entry as TreeEntry, entry, IsTree, is_empty, lookup}
use Rattle.vol_tree.specs.Calls.{directory_at, is_within, renamed, moved, moved_onto, with_unit, parent_at, name_at}
use Rattle.vol_tree.specs.Numbers.{number_of}
use Rattle.vol_tree.specs.Clauses.{Answers, is_io}
use Rattle.vol_tree.specs.Opened.{Opened, Keeps, geometry}
use Rattle.vol_tree.proofs.Trees.{empty_childless, is_directory_at}
use Rattle.wasm_store.specs.declared.call.Errno.{Errno as Number}
use Rattle.path_walk.specs.Paths.{Reached, Found, Missing}
use Rattle.wasi_fd.specs.Table.{Table}
use Rattle.wasi_bodies.specs.supplies.Random.{listed}
use Rattle.wasi_bodies.specs.World.{World, held_open}
use Rattle.wasi_bodies.specs.Checks.{Checked, and_then, guard, tree_call, numbered}
use Rattle.wasi_bodies.specs.paths.Rows.{rename_to}
use Rattle.wasi_paths.specs.declared.paths.renaming.Facts.{Facts}
use Rattle.wasi_bodies.specs.internal.Entries.{with_volume}
use Rattle.wasi_bodies.specs.internal.Asking.{StopsNext}
use Rattle.wasi_paths.specs.internal.paths.Renaming.{AreFacts, facts_of, replace_checked, replace_row, ReplacesAs, RenamesTo}
use Rattle.wasi_bodies.proofs.checks.Chains.{goes_on, stops, guard_passes, guard_fails, passed}
use Rattle.wasi_paths.proofs.runs.ReachedEntries.{only_itself}
use Rattle.wasi_bodies.proofs.bodies.VolumeCalls.{io_or, same_volume, gone, never_after, never_guard, never_if, ok_no_io, numbered_io, tree_called_alive}
use Rattle.wasi_bodies.proofs.bodies.AskingCalls.{and_then_assoc, ok_then}

-- ---- no check answers 29

pub replace_never : (f : Facts) (held : Bool) → replace_checked f held ≢ Err 29
replace_never f held =
    never_after (guard (not (f.source_is_directory && f.is_within)) 28) _ (never_guard _ 28 (λ is. absurd (omega (arith, is))))
    (λ _ _. never_after (guard (not (f.source_is_directory && not f.target_is_directory)) 54) _ (never_guard _ 54 (λ is. absurd (omega (arith, is))))
    (λ _ _. never_after (guard (not (f.target_is_directory && not f.source_is_directory)) 31) _ (never_guard _ 31 (λ is. absurd (omega (arith, is))))
    (λ _ _. never_after (guard (not held) 10) _ (never_guard _ 10 (λ is. absurd (omega (arith, is))))
    (λ _ _. never_guard _ 55 (λ is. absurd (omega (arith, is)))))))

invalid_no_io : errno.Invalid ≢ errno.Io
invalid_no_io is = cc

other_kind_no_io : errno.NotDirectory ≢ errno.Io
other_kind_no_io is = cc

directory_no_io : errno.IsDirectory ≢ errno.Io
directory_no_io is = cc

full_no_io : errno.NotEmpty ≢ errno.Io
full_no_io is = cc

either_never : (b : Bool) (x y : Result Tree Errno) → x ≢ Err errno.Io → y ≢ Err errno.Io → cond b x y ≢ Err errno.Io
either_never true x y first second = first
either_never false x y first second = second

onto_never : (T : Tree) (serial parent target : ℕ) (name : Name) → moved_onto T serial parent name target ≢ Err errno.Io
onto_never T serial parent target name =
    either_never (target == serial) _ _ (ok_no_io _)
    (never_if _ errno.NotDirectory _ other_kind_no_io (never_if _ errno.IsDirectory _ directory_no_io (never_if _ errno.NotEmpty _ full_no_io (ok_no_io _))))

renamed_never : (T : Tree) (serial parent : ℕ) (name : Name) → renamed T serial parent name ≢ Err errno.Io
renamed_never T serial parent name =
    never_if _ errno.Invalid _ invalid_no_io (never_if _ errno.Invalid _ invalid_no_io (by_lookup (lookup T parent name)))
  where
    by_lookup : (o : Option ℕ) → option_map_or (moved_onto T serial parent name) o (Ok (moved T serial parent name)) ≢ Err errno.Io
    by_lookup None = ok_no_io _
    by_lookup (Some target) = onto_never T serial parent target name

renames_never : (w : World) (source parent : ℕ) (name : Name) → w.volume_failed ≡ false → tree_call w (renamed w.tree source parent name) ≢ Err 29
renames_never w source parent name alive = λ is. numbered_io _ (renamed_never w.tree source parent name) (sym (tree_called_alive w (renamed w.tree source parent name) alive) ∙ is)

-- ---- a target that is there

abbrev pub onto : World → ℕ → ℕ → Checked Tree
onto w source target = tree_call w (renamed w.tree source (parent_at w.tree target) (name_at w.tree target))

found_cut : (w : World) (source target : ℕ) (slash : Bool) (b : Bool) → (target == source) ≡ b → b ≡ false → rename_to w source slash (Found target) ≡ and_then (replace_row w source target) (λ _. onto w source target)
found_cut w source target slash b is apart = cond-false (target == source) _ _ (is ∙ apart) ∙ sym (simp (and_then_assoc, ok_then))

pub to_onto : (w : World) (source target : ℕ) (slash : Bool) → target ≢ source → rename_to w source slash (Found target) ≡ and_then (replace_row w source target) (λ _. onto w source target)
to_onto w source target slash apart = found_cut w source target slash false (ne_eqb target source apart) refl

pub found_never : (w : World) (source target : ℕ) (slash : Bool) → w.volume_failed ≡ false → target ≢ source → rename_to w source slash (Found target) ≢ Err 29
found_never w source target slash alive apart = λ is.
    never_after (replace_row w source target) (λ _. onto w source target) (replace_never (facts_of w.tree source target) (held_open w target)) (λ _ _. renames_never w source (parent_at w.tree target) (name_at w.tree target) alive) (sym (to_onto w source target slash apart) ∙ is)

pub facts_are : (T : Tree) (source target : ℕ) (f : Facts) → AreFacts T source target f → f ≡ facts_of T source target
facts_are T source target f h = λ i. record { source_is_directory = h.source_is i; is_within = h.within i; target_is_directory = h.target_is i; is_empty = h.empty i }

pub replaces_as : {D : Type 0} (w : World) (new : Opened D) (source target : ℕ) (r : Checked (Unit {0})) (result : Result (Unit {0}) Number) → r ≡ replace_row w source target → with_volume new w ≡ w
    → MatchResult result (λ u. r ≡ Ok u) (λ e. r ≡ Err e.0) → ReplacesAs source target w new result
replaces_as w new source target r (Ok u) same shown h = (sym same ∙ h, shown)
replaces_as w new source target r (Err e) same shown h = inl (record { is = sym same ∙ h; same = shown })

-- the root isn't replaced, since it holds the source
pub not_root : (T : Tree) (source target : ℕ) (held : Bool) → IsTree T → IsSome (entry T source) → target ≢ source → replace_checked (facts_of T source target) held ≡ Ok tt → target ≢ 1
not_root T source target held t used apart passes here =
    let one = passed _ 28 _ tt passes in
    let two = passed _ 54 _ tt one.1 in
    let three = passed _ 31 _ tt two.1 in
    let four = passed _ 10 _ tt three.1 in
    let directory : directory_at T target ≡ true = ap (directory_at T) here ∙ is_directory_at T 1 _ t.top in
    let last : (not (directory_at T target) || is_empty T target) ≡ true = passes_guard (not (directory_at T target) || is_empty T target) 55 four.1 in
    let empty : is_empty T 1 ≡ true = ap (is_empty T) (sym here) ∙ (sym (ap (λ (b : Bool). not b || is_empty T target) directory) ∙ last) in
    let path = t.reached source used in
    apart (here ∙ sym (only_itself T 1 (empty_childless T 1 empty) path.0 source path.1))
  where
    passes_guard : (b : Bool) (e : ℕ) → guard b e ≡ Ok tt → b ≡ true
    passes_guard b e h = elim (cases_Bool b) [
      | inl holds ↦ holds
      | inr fails ↦ let never : ◌≡◌ {A = Checked (Unit {0})} (Err e) (Ok tt) = sym (guard_fails b e fails) ∙ h in cc
    ]

pub onto_answers : (T mid U : Tree) (source target p : ℕ) (n : Name) (e : TreeEntry) (result : Result (Unit {0}) Errno) → mid ≡ T → entry T target ≡ Some e → p ≡ e.parent → n ≡ e.name
    → Answers (with_unit (renamed mid source p n)) mid U result → Answers (with_unit (renamed T source (parent_at T target) (name_at T target))) T U result
onto_answers T mid U source target p n e result tree used parent name h =
    let parents : p ≡ parent_at T target = parent ∙ sym (ap (λ (o : Option TreeEntry). option_map_or (λ (e : TreeEntry). e.parent) o 0) used) in
    let names : n ≡ name_at T target = name ∙ sym (ap (λ (o : Option TreeEntry). option_map_or (λ (e : TreeEntry). e.name) o []) used) in
    let meant : ◌≡◌ {A = Result (Tree × Unit {0}) Errno} (with_unit (renamed mid source p n)) (with_unit (renamed T source (parent_at T target) (name_at T target))) =
    λ i. with_unit (renamed (tree i) source (parents i) (names i)) in
    subst (λ (V : Tree). Answers (with_unit (renamed T source (parent_at T target) (name_at T target))) V U result) tree
    (subst (λ (r : Result (Tree × Unit {0}) Errno). Answers r mid U result) meant h)

pub onto_done : (w : World) (source target : ℕ) (slash : Bool) → target ≢ source → w.volume_failed ≡ false → replace_row w source target ≡ Ok tt
    → rename_to w source slash (Found target) ≡ numbered (renamed w.tree source (parent_at w.tree target) (name_at w.tree target))
onto_done w source target slash apart alive passes =
    to_onto w source target slash apart ∙ (goes_on _ _ tt passes ∙ tree_called_alive w (renamed w.tree source (parent_at w.tree target) (name_at w.tree target)) alive)

pub onto_stops : {D : Type 0} (w : World) (new : Opened D) (source target : ℕ) (slash : Bool) (e : ℕ) → target ≢ source → w.volume_failed ≡ false
    → StopsNext (λ v. replace_row v source target) w new e → StopsNext (λ v. rename_to v source slash (Found target)) w new e
onto_stops w new source target slash e apart alive (inl r) = inl (record { is = to_onto w source target slash apart ∙ stops _ _ e r.is; same = r.same })
onto_stops w new source target slash e apart alive (inr f) = inr (record { answer = f.answer; never = found_never w source target slash alive apart; after = f.after })

-- a world with this volume and this table
abbrev pub world_with : {D : Type 0} → Opened D → Table → World
world_with v table = record {
  volume = geometry v.numbers;
  tree = v.tree;
  table = table;
  input = [];
  pieces = [];
  output = [];
  errors = [];
  random = listed [];
  given = record { args = []; env = []; moment = 0 };
  interactive = None;
  volume_failed = v.failed;
  input_failed = false;
  input_ended = false;
  output_failed = false;
  errors_failed = false;
}

-- ---- a name that isn't there

invalid_either : (a b : Bool) (rest : Result Tree Errno) → b ≡ true → ◌≡◌ {A = Result Tree Errno} (cond a (Err errno.Invalid) (cond b (Err errno.Invalid) rest)) (Err errno.Invalid)
invalid_either true b rest h = refl
invalid_either false b rest h = cond-true b (Err errno.Invalid) rest h

module _ (w : World) (source parent : ℕ) (slash : Bool) (name : Name) where
  abbrev within : Bool
  within = is_within (length w.tree) w.tree source parent

  abbrev may_slash : Bool
  may_slash = not slash || directory_at w.tree source

  pub missing_refused : may_slash ≡ false → rename_to w source slash (Missing parent name) ≡ Err 54
  missing_refused refused =
      let file : directory_at w.tree source ≡ false = (or_parts (not slash) (directory_at w.tree source) refused).1 in
      goes_on _ _ tt (guard_passes _ 28 (ap (λ (b : Bool). not (b && within)) file)) ∙ stops _ _ 54 (guard_fails _ 54 refused)

  pub missing_done : w.volume_failed ≡ false → may_slash ≡ true → rename_to w source slash (Missing parent name) ≡ numbered (renamed w.tree source parent name)
  missing_done alive passes = elim (cases_Bool (directory_at w.tree source && within)) [
    | inl below ↦ stops _ _ 28 (guard_fails _ 28 (ap not below)) ∙ sym (ap numbered (invalid_either (source == 1) within _ (and_parts _ _ below).1))
    | inr apart ↦
        goes_on _ _ tt (guard_passes _ 28 (ap not apart)) ∙ (goes_on _ _ tt (guard_passes _ 54 passes) ∙ tree_called_alive w (renamed w.tree source parent name) alive)
  ]

  pub missing_never : w.volume_failed ≡ false → rename_to w source slash (Missing parent name) ≢ Err 29
  missing_never alive =
      never_after (guard (not (directory_at w.tree source && within)) 28) _ (never_guard _ 28 (λ is. absurd (omega (arith, is))))
      (λ _ _. never_after (guard may_slash 54) _ (never_guard _ 54 (λ is. absurd (omega (arith, is)))) (λ _ _. renames_never w source parent name alive))

-- ---- what stands then

unit_is : (r : Result Tree Errno) (T : Tree) → with_unit r ≡ Ok (T, tt) → r ≡ Ok T
unit_is (Ok U) T h =
    let both : ◌≡◌ {A = Tree × Unit {0}} (U, tt) (T, tt) = same_pair U T h in
    ap (λ (p : Tree × Unit {0}). Ok p.0) both
  where
    same_pair : (U T : Tree) → ◌≡◌ {A = Result (Tree × Unit {0}) Errno} (Ok (U, tt)) (Ok (T, tt)) → ◌≡◌ {A = Tree × Unit {0}} (U, tt) (T, tt)
    same_pair U T h = cc
unit_is (Err e) T h = cc

unit_not : (r : Result Tree Errno) (e : Errno) → with_unit r ≡ Err e → r ≡ Err e
unit_not (Ok U) e h = cc
unit_not (Err d) e h = let same : d ≡ e = cc in ap Err same

module _ {D : Type 0} (honest : D → Type 0) (sectors_on failures : D → ℕ) (w : World) (source : ℕ) (slash : Bool) (r : Reached) (between new : Opened D) (meant : Tree → Result Tree Errno)
    (shown : with_volume between w ≡ w) (alive : w.volume_failed ≡ false) (row : rename_to w source slash r ≡ numbered (meant w.tree)) where
  -- the call of the tree changed it
  pub renames_ok : Keeps honest sectors_on failures between new false → with_unit (meant between.tree) ≡ Ok (new.tree, tt) → RenamesTo source slash r w new (Ok tt)
  renames_ok k is =
      let tree : between.tree ≡ w.tree = ap (λ (w : World). w.tree) shown in
      let numbers : geometry new.numbers ≡ w.volume = ap geometry k.numbers ∙ ap (λ (w : World). w.volume) shown in
      let works : new.failed ≡ w.volume_failed = k.failed ∙ sym alive in (
        row ∙ ap numbered (ap meant (sym tree) ∙ unit_is _ new.tree is),
        λ i. record w { volume = numbers i; tree = new.tree; volume_failed = works i },
      )

  -- it refused, or the volume failed in it
  pub renames_err : rename_to w source slash r ≢ Err 29 → (e : Errno) → Keeps honest sectors_on failures between new (is_io {X = Unit {0}} (Err e)) → new.tree ≡ between.tree
      → (with_unit (meant between.tree) ≡ Err e) ⊎ (e ≡ errno.Io) → StopsNext (λ v. rename_to v source slash r) w new (number_of e)
  renames_err never e k same is = elim (io_or (Unit {0}) e) [
    | inl (io, fails) ↦ inr (record { answer = ap number_of io; never = never; after = gone w [] between new (sym shown) k.numbers same (k.failed ∙ fails) })
    | inr (other, works) ↦
        let tree : between.tree ≡ w.tree = ap (λ (w : World). w.tree) shown in
        let working : between.failed ≡ false = ap (λ (w : World). w.volume_failed) shown ∙ alive in
        inl (record {
          is = row ∙ ap numbered (elim is [ inl refused ↦ ap meant (sym tree) ∙ unit_not _ e refused | inr io ↦ absurd (other (ap number_of io)) ]);
          same = same_volume w [] between new (sym shown) k.numbers same (k.failed ∙ (works ∙ sym working));
        })
  ]

pub rename_never : (w : World) (source : ℕ) (slash : Bool) (r : Reached) → w.volume_failed ≡ false → rename_to w source slash r ≢ Err 29
rename_never w source slash (Missing parent name) alive = missing_never w source parent slash name alive
rename_never w source slash (Found target) alive = elim (cases_eq target source) [
  | inl here ↦ λ is. let same : rename_to w source slash (Found target) ≡ Ok w.tree = cond-true (target == source) _ _ (eq-eqb target source here) in
      let both : ◌≡◌ {A = Checked Tree} (Ok w.tree) (Err 29) = sym same ∙ is in cc
  | inr apart ↦ found_never w source target slash alive apart
]
