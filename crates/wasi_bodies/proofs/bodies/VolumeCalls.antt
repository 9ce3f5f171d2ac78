-- Calls that reach the volume: their checks refuse, the volume fails, or the row is done.
use Rattle.std.proofs.Common.{◌≡◌, ◌≢◌, ◌⊎◌, ℕ, Bool, true, false, cond, not, List, Option, Some, None, Result, Ok, Err, refl, sym, ◌∙◌, ap, subst, inl, inr, arith}
use Rattle.std.proofs.lemmas.Bool.{false≢true}
use Rattle.vol_sector.specs.Disk.{Image, Disk, Leaves, counted}
use Rattle.vol_tree.specs.declared.errno.Errno.{Errno}
use Rattle.vol_tree.specs.declared.errno.Errno.TheVariants as errno
use Rattle.vol_tree.specs.Tree.{Tree, Name, Node, lookup, least_from, is_unused}
use Rattle.vol_tree.specs.Stands.{StandsAs}
use Rattle.vol_tree.specs.declared.superblock.Superblock.{Superblock}
use Rattle.std.specs.Option.{option_map_or}
use Rattle.wasi_bodies.specs.internal.paths.Walks.{StillWorks}
use Rattle.vol_tree.specs.Numbers.{number_of}
use Rattle.vol_tree.specs.Clauses.{is_io}
use Rattle.vol_tree.specs.Opened.{Opened, Keeps, GoesOn, ReflectsOr, geometry}
use Rattle.vol_tree.proofs.GoingOn.{goes_then}
use Rattle.vol_tree.specs.Space.{Geometry}
use Rattle.vol_tree.specs.Calls.{with_unit, created, if_it_fits, resized, directory_removed}
use Rattle.wasi_bodies.specs.World.{World, with_volume_failed}
use Rattle.wasi_bodies.specs.Checks.{Checked, Done, put, guard, and_then, only_world, tree_call, numbered}
use Rattle.wasi_bodies.specs.Calls.{Answered, by_row, volume_fails}
use Rattle.wasi_bodies.specs.host.Worlds.{VolumeStep}
use Rattle.wasi_bodies.specs.internal.Entries.{with_volume}
use Rattle.wasi_bodies.proofs.checks.Chains.{guard_passes, guard_fails, goes_on, stops}
use Rattle.wasi_bodies.proofs.bodies.Answering.{answers_done, answers_refused}

-- ---- what the volume's answer says of its failure

failed_or : (b : Bool) → (b ≡ true) ⊎ (b ≡ false)
failed_or true = inl refl
failed_or false = inr refl

-- an error is 29 or one of the others
pub io_or : (X : Type 0) (e : Errno) → ((e ≡ errno.Io) × (is_io {X = X} (Err e) ≡ true)) ⊎ ((number_of e ≢ 29) × (is_io {X = X} (Err e) ≡ false))
io_or X errno.Exist = inr ((λ h. absurd (omega (arith, h))), refl)
io_or X errno.TooBig = inr ((λ h. absurd (omega (arith, h))), refl)
io_or X errno.BadText = inr ((λ h. absurd (omega (arith, h))), refl)
io_or X errno.Invalid = inr ((λ h. absurd (omega (arith, h))), refl)
io_or X errno.Io = inl (refl, refl)
io_or X errno.IsDirectory = inr ((λ h. absurd (omega (arith, h))), refl)
io_or X errno.NameTooLong = inr ((λ h. absurd (omega (arith, h))), refl)
io_or X errno.NotFound = inr ((λ h. absurd (omega (arith, h))), refl)
io_or X errno.NoSpace = inr ((λ h. absurd (omega (arith, h))), refl)
io_or X errno.NotDirectory = inr ((λ h. absurd (omega (arith, h))), refl)
io_or X errno.NotEmpty = inr ((λ h. absurd (omega (arith, h))), refl)
io_or X errno.NotCapable = inr ((λ h. absurd (omega (arith, h))), refl)

module _ {D : Type 0} (honest : D → Type 0) (sectors_on failures : D → ℕ) where
  -- a volume that answered had not failed
  pub was_working : (old new : Opened D) (io : Bool) → Keeps honest sectors_on failures old new io → io ≡ false → old.failed ≡ false
  was_working old new io k none = elim (failed_or old.failed) [
    | inl failed ↦ absurd (false≢true (sym none ∙ (k.idle failed).1))
    | inr working ↦ working
  ]

-- the tree of an answer, or another
abbrev tree_in : {X : Type 0} → Result (Tree × X) Errno → Tree → Tree
tree_in (Ok p) T = p.0
tree_in (Err e) T = T

pub same_tree : (T U : Tree) → ◌≡◌ {A = Result (Tree × Unit {0}) Errno} (Ok (T, tt)) (Ok (U, tt)) → U ≡ T
same_tree T U h = sym (ap (λ (r : Result (Tree × Unit {0}) Errno). tree_in r T) h)

-- ---- rows that don't answer 29

pub is_no_err : (r : Checked Done) (d : Done) (e : ℕ) → r ≡ Ok d → r ≢ Err e
is_no_err r d e is = λ also. let both : ◌≡◌ {A = Checked Done} (Ok d) (Err e) = sym is ∙ also in cc

pub never_after : {A B : Type 0} (r : Checked A) (f : A → Checked B) → r ≢ Err 29 → ((a : A) → r ≡ Ok a → f a ≢ Err 29) → and_then r f ≢ Err 29
unfolding and_then
never_after (Ok a) f h k = k a refl
never_after (Err e) f h k = λ is. h (let same : e ≡ 29 = cc in ap Err same)

pub never_guard : (b : Bool) (e : ℕ) → e ≢ 29 → guard b e ≢ Err 29
unfolding guard
never_guard true e other = λ is. cc
never_guard false e other = λ is. other cc

module _ {D : Type 0} (w : World) (m : List ℕ) where
  pub same_volume : (v v' : Opened D) → w ≡ with_volume v w → v'.numbers ≡ v.numbers → v'.tree ≡ v.tree → v'.failed ≡ v.failed → with_volume v' w ≡ w
  same_volume v v' shown numbers tree failed = (λ i. record w { volume = geometry (numbers i); tree = tree i; volume_failed = failed i }) ∙ sym shown

  pub gone : (v v' : Opened D) → w ≡ with_volume v w → v'.numbers ≡ v.numbers → v'.tree ≡ v.tree → v'.failed ≡ true → with_volume v' w ≡ with_volume_failed w
  gone v v' shown numbers tree failed =
      (λ i. record w { volume = geometry (numbers i); tree = tree i; volume_failed = failed i }) ∙ ap with_volume_failed (sym shown)

  -- a check refused, before the volume was asked
  pub refused_first : (run : World → Checked Done) (v : Opened D) (e : ℕ) → w ≡ with_volume v w → run w ≡ Err e → Answered run w m (with_volume v w) m e
  refused_first run v e shown is = by_row (answers_refused (run w) w m (with_volume v w) m e is (sym shown) refl)

  -- the volume refused
  pub refused_by : (run : World → Checked Done) (v v' : Opened D) (e : ℕ) → w ≡ with_volume v w → v'.numbers ≡ v.numbers → v'.tree ≡ v.tree → v'.failed ≡ v.failed
      → run w ≡ Err e → Answered run w m (with_volume v' w) m e
  refused_by run v v' e shown numbers tree failed is = by_row (answers_refused (run w) w m (with_volume v' w) m e is (same_volume v v' shown numbers tree failed) refl)

  -- the row is done
  pub done_by : (run : World → Checked Done) (v' : Opened D) (m' : List ℕ) (d : Done) → run w ≡ Ok d → with_volume v' w ≡ d.world → m' ≡ put (put m d.fills) d.results
      → Answered run w m (with_volume v' w) m' 0
  done_by run v' m' d is world bytes = by_row (answers_done (run w) w m (with_volume v' w) m' d is world bytes)

  -- the volume failed, in the call or before it
  pub failed_by : (run : World → Checked Done) (v v' : Opened D) → w ≡ with_volume v w → v'.numbers ≡ v.numbers → v'.tree ≡ v.tree → v'.failed ≡ true
      → run (with_volume_failed w) ≡ Err 29 → (w.volume_failed ≡ false → run w ≢ Err 29) → Answered run w m (with_volume v' w) m 29
  failed_by run v v' shown numbers tree failed is only_so = elim (failed_or w.volume_failed) [
    | inl before ↦
        let same : with_volume_failed w ≡ w = λ i. record w { volume_failed = sym before i } in
        by_row (answers_refused (run w) w m (with_volume v' w) m 29 (ap run (sym same) ∙ is) (gone v v' shown numbers tree failed ∙ same) refl)
    | inr working ↦ volume_fails (record {
      reaches = record { refused = is; only_so = only_so working };
      answer = refl;
      after = gone v v' shown numbers tree failed;
      bytes = record { as_long = refl; each = λ i. inl refl };
    })
  ]

  -- what the volume refused: by the row, or since it failed
  pub tree_refuses : (honest : D → Type 0) (sectors_on failures : D → ℕ) (X : Type 0) (run : World → Checked Done) (v v' : Opened D) (e : Errno)
      → Keeps honest sectors_on failures v v' (is_io {X = X} (Err e)) → w ≡ with_volume v w → v'.tree ≡ v.tree
      → (w.volume_failed ≡ false → e ≢ errno.Io → run w ≡ Err (number_of e)) → run (with_volume_failed w) ≡ Err 29 → (w.volume_failed ≡ false → run w ≢ Err 29)
      → Answered run w m (with_volume v' w) m (number_of e)
  tree_refuses honest sectors_on failures X run v v' e k shown tree by_tree is only_so = elim (io_or X e) [
    | inl (io, fails) ↦
        subst (λ (e : Errno). Answered run w m (with_volume v' w) m (number_of e)) (sym io) (failed_by run v v' shown k.numbers tree (k.failed ∙ fails) is only_so)
    | inr (other, works) ↦
        let working : v.failed ≡ false = was_working honest sectors_on failures v v' _ k works in
        let alive : w.volume_failed ≡ false = ap (λ (w : World). w.volume_failed) shown ∙ working in
        refused_by run v v' (number_of e) shown k.numbers tree (k.failed ∙ (works ∙ sym working)) (by_tree alive (λ io. other (ap number_of io)))
  ]

-- ---- rows that end in one change of the tree

unit_ok : (r : Result Tree Errno) (T : Tree) → with_unit r ≡ Ok (T, tt) → r ≡ Ok T
unit_ok (Ok U) T h = ap Ok (sym (same_tree U T h))
unit_ok (Err e) T h = cc

unit_err : (r : Result Tree Errno) (e : Errno) → with_unit r ≡ Err e → r ≡ Err e
unit_err (Ok U) e h = cc
unit_err (Err d) e h = let same : d ≡ e = cc in ap Err same

pub numbered_io : {X : Type 0} (r : Result X Errno) → r ≢ Err errno.Io → numbered r ≢ Err 29
numbered_io (Ok x) never = λ is. cc
numbered_io (Err e) never = elim (io_or (Unit {0}) e) [
  | inl (io, fails) ↦ λ is. never (ap Err io)
  | inr (other, works) ↦ λ is. other (let same : number_of e ≡ 29 = cc in same)
]

-- a call of the tree in a world whose volume works, or has failed
pub tree_called_alive : {X : Type 0} (w : World) (r : Result X Errno) → w.volume_failed ≡ false → tree_call w r ≡ numbered r
tree_called_alive w r alive = goes_on _ _ tt (guard_passes _ 29 (ap not alive))

pub tree_called_gone : {X : Type 0} (w : World) (r : Result X Errno) → tree_call (with_volume_failed w) r ≡ Err 29
tree_called_gone w r = stops _ _ 29 (guard_fails _ 29 refl)

-- the tree that the call gives, and nothing else changed
abbrev pub changing : (World → Result Tree Errno) → World → Checked Done
changing r u = and_then (tree_call u (r u)) (λ T. Ok (only_world (record u { tree = T })))

module _ {D : Type 0} (honest : D → Type 0) (sectors_on failures : D → ℕ) (w : World) (m : List ℕ) (run : World → Checked Done) (r : World → Result Tree Errno)
    (v v' : Opened D) (shown : w ≡ with_volume v w) (same : run w ≡ changing r w) where
  pub changed_ok : Keeps honest sectors_on failures v v' false → with_unit (r (with_volume v w)) ≡ Ok (v'.tree, tt) → Answered run w m (with_volume v' w) m 0
  changed_ok k is =
      let working : v.failed ≡ false = was_working honest sectors_on failures v v' false k refl in
      let alive : w.volume_failed ≡ false = ap (λ (w : World). w.volume_failed) shown ∙ working in
      let gives : r w ≡ Ok v'.tree = ap r shown ∙ unit_ok _ v'.tree is in
      let all : run w ≡ Ok (only_world (record w { tree = v'.tree })) = same ∙ goes_on _ _ v'.tree (tree_called_alive w (r w) alive ∙ ap numbered gives) in
      done_by w m run v' m (only_world (record w { tree = v'.tree })) all
      ((λ i. record w { volume = geometry (k.numbers i); tree = v'.tree; volume_failed = (k.failed ∙ sym working) i })
      ∙ λ i. record w { volume = (sym shown i).volume; tree = v'.tree; volume_failed = (sym shown i).volume_failed })
      refl

  pub changed_err : run (with_volume_failed w) ≡ changing r (with_volume_failed w) → r w ≢ Err errno.Io → (e : Errno) → Keeps honest sectors_on failures v v' (is_io {X = Unit {0}} (Err e)) → v'.tree ≡ v.tree
      → (with_unit (r (with_volume v w)) ≡ Err e) ⊎ (e ≡ errno.Io) → Answered run w m (with_volume v' w) m (number_of e)
  changed_err same_gone never e k tree meant =
      tree_refuses w m honest sectors_on failures (Unit {0}) run v v' e k shown tree
      (λ alive other. elim meant [
        | inl is ↦ same ∙ stops _ _ (number_of e) (tree_called_alive w (r w) alive ∙ ap numbered (ap r shown ∙ unit_err _ e is))
        | inr io ↦ absurd (other io)
      ])
      (same_gone ∙ stops _ _ 29 (tree_called_gone w (r (with_volume_failed w))))
      (λ alive. λ is. never_after (tree_call w (r w)) (λ T. Ok (only_world (record w { tree = T })))
      (λ h. numbered_io (r w) never (sym (tree_called_alive w (r w) alive) ∙ h)) (λ T _ h. cc) (sym same ∙ is))

-- ---- the calls of a tree never say that the device failed

pub never_if : {X : Type 0} (b : Bool) (e : Errno) (r : Result X Errno) → e ≢ errno.Io → r ≢ Err errno.Io → cond b (Err e) r ≢ Err errno.Io
never_if true e r other never = λ is. other (let same : e ≡ errno.Io = cc in same)
never_if false e r other never = never

pub ok_no_io : {X : Type 0} (x : X) → ◌≢◌ {A = Result X Errno} (Ok x) (Err errno.Io)
ok_no_io x is = cc

big_no_io : errno.TooBig ≢ errno.Io
big_no_io is = cc

space_no_io : errno.NoSpace ≢ errno.Io
space_no_io is = cc

pub fits_never : (volume : Geometry) (T : Tree) (file : ℕ) (bytes : List ℕ) → if_it_fits volume T file bytes ≢ Err errno.Io
fits_never volume T file bytes =
    never_if _ errno.TooBig _ big_no_io (never_if _ errno.NoSpace _ space_no_io (ok_no_io _))

pub resized_never : (volume : Geometry) (T : Tree) (file size : ℕ) → resized volume T file size ≢ Err errno.Io
resized_never volume T file size = fits_never volume T file _

some_never : {X Y : Type 0} (f : X → Result Y Errno) (o : Option X) (r : Result Y Errno) → ((x : X) → f x ≢ Err errno.Io) → r ≢ Err errno.Io → option_map_or f o r ≢ Err errno.Io
some_never f None r some none = none
some_never f (Some x) r some none = some x

exist_no_io : {X : Type 0} → ◌≢◌ {A = Result X Errno} (Err errno.Exist) (Err errno.Io)
exist_no_io is = cc

full_no_io : {X : Type 0} → ◌≢◌ {A = Result X Errno} (Err errno.NoSpace) (Err errno.Io)
full_no_io is = cc

pub created_never : (T : Tree) (parent : ℕ) (name : Name) (node : Node) → created T parent name node ≢ Err errno.Io
created_never T parent name node = some_never _ (lookup T parent name) _ (λ x. exist_no_io) (some_never _ (least_from 1 is_unused T) _ (λ x. ok_no_io _) full_no_io)

-- ---- rows that end in a new entry

abbrev pub making : (World → Result (Tree × ℕ) Errno) → World → Checked Done
making r u = and_then (tree_call u (r u)) (λ made. Ok (only_world (record u { tree = made.0 })))

pub making_never : (r : World → Result (Tree × ℕ) Errno) (w : World) → w.volume_failed ≡ false → r w ≢ Err errno.Io → making r w ≢ Err 29
making_never r w alive never = never_after (tree_call w (r w)) (λ made. Ok (only_world (record w { tree = made.0 })))
    (λ h. numbered_io (r w) never (sym (tree_called_alive w (r w) alive) ∙ h)) (λ made _ h. cc)

module _ {D : Type 0} (honest : D → Type 0) (sectors_on failures : D → ℕ) (w : World) (m : List ℕ) (run : World → Checked Done) (r : World → Result (Tree × ℕ) Errno)
    (v v' : Opened D) (shown : w ≡ with_volume v w) (same : run w ≡ making r w) where
  pub made_ok : Keeps honest sectors_on failures v v' false → (serial : ℕ) → r (with_volume v w) ≡ Ok (v'.tree, serial) → Answered run w m (with_volume v' w) m 0
  made_ok k serial is =
      let working : v.failed ≡ false = was_working honest sectors_on failures v v' false k refl in
      let alive : w.volume_failed ≡ false = ap (λ (w : World). w.volume_failed) shown ∙ working in
      let gives : r w ≡ Ok (v'.tree, serial) = ap r shown ∙ is in
      let all : run w ≡ Ok (only_world (record w { tree = v'.tree })) = same ∙ goes_on _ _ (v'.tree, serial) (tree_called_alive w (r w) alive ∙ ap numbered gives) in
      done_by w m run v' m (only_world (record w { tree = v'.tree })) all
      ((λ i. record w { volume = geometry (k.numbers i); tree = v'.tree; volume_failed = (k.failed ∙ sym working) i })
      ∙ λ i. record w { volume = (sym shown i).volume; tree = v'.tree; volume_failed = (sym shown i).volume_failed })
      refl

  pub made_err : run (with_volume_failed w) ≡ Err 29 → r w ≢ Err errno.Io → (e : Errno) → Keeps honest sectors_on failures v v' (is_io {X = ℕ} (Err e)) → v'.tree ≡ v.tree
      → (r (with_volume v w) ≡ Err e) ⊎ (e ≡ errno.Io) → Answered run w m (with_volume v' w) m (number_of e)
  made_err gone never e k tree meant =
      tree_refuses w m honest sectors_on failures ℕ run v v' e k shown tree
      (λ alive other. elim meant [
        | inl is ↦ same ∙ stops _ _ (number_of e) (tree_called_alive w (r w) alive ∙ ap numbered (ap r shown ∙ is))
        | inr io ↦ absurd (other io)
      ])
      gone
      (λ alive is. making_never r w alive never (sym same ∙ is))

-- ---- a step after the volume was asked

pub steps_after : {D : Type 0} (honest : D → Type 0) (disk : D → Disk) (sectors_on failures : D → ℕ) (device_goes_on : ℕ → D → D → Type 0) (a b c : Opened D)
    → StillWorks honest disk sectors_on failures device_goes_on a b → VolumeStep honest disk sectors_on failures device_goes_on b c → VolumeStep honest disk sectors_on failures device_goes_on a c
steps_after honest disk sectors_on failures device_goes_on a b c first second =
    let k = first.kept in
    let l = second.kept in
    record {
      kept = record {
        numbers = l.numbers ∙ k.numbers;
        failed = refl;
        failures = λ working. l.failures k.failed ∙ ap (counted c.failed) (k.failures working);
        idle = λ failed. absurd (false≢true (k.idle failed).1);
        honest = ((λ h. l.honest.0 (k.honest.0 h)), (λ h. k.honest.1 (l.honest.1 h)));
        size = l.size ∙ k.size;
      };
      crash = λ h.
          let before = first.crash h in
          let after = second.crash (k.honest.0 h) in
          let first_numbers = λ (image : Image) (T : Tree) (stands : StandsAs image b.numbers T). subst (λ (v : Superblock). StandsAs image v T) k.numbers stands in
          let as_at_first = λ (image : Image) (stands : StandsAs image b.numbers b.tree). subst (λ (T : Tree). StandsAs image a.numbers T) (first.tree h) (first_numbers image b.tree stands) in
          record {
            later = omega (arith, before.later, after.later);
            since = λ t image low left. elim (after.since t image (omega (arith, before.later)) left) [
              | inl still ↦ elim (before.since t image low still) [ inl then ↦ inl then | inr never ↦ absurd never ]
              | inr (inl r) ↦ inr (inl (record { earlier = r.earlier; could = elim (before.now r.earlier r.could) [ inl then ↦ then | inr never ↦ absurd never ]; tree = r.tree; stood = first_numbers r.earlier r.tree r.stood; stands = first_numbers image r.tree r.stands }))
              | inr (inr stands) ↦ inr (inr (as_at_first image stands))
            ];
            now = λ image left. elim (after.now image left) [
              | inl still ↦ elim (before.now image still) [ inl then ↦ inl then | inr never ↦ absurd never ]
              | inr (inl r) ↦ inr (inl (record { earlier = r.earlier; could = elim (before.now r.earlier r.could) [ inl then ↦ then | inr never ↦ absurd never ]; tree = r.tree; stood = first_numbers r.earlier r.tree r.stood; stands = first_numbers image r.tree r.stands }))
              | inr (inr stands) ↦ inr (inr (as_at_first image stands))
            ];
          };
      goes = goes_then device_goes_on a b c k.numbers first.goes second.goes;
    }

-- one operation of the volume is a step
pub steps : {D : Type 0} (honest : D → Type 0) (disk : D → Disk) (sectors_on failures : D → ℕ) (device_goes_on : ℕ → D → D → Type 0) (a b : Opened D) (io : Bool) → Keeps honest sectors_on failures a b io
    → (honest a.device → Leaves (disk a.device) (disk b.device) (ReflectsOr (disk a.device) a.numbers a.tree)) → GoesOn device_goes_on a b → VolumeStep honest disk sectors_on failures device_goes_on a b
steps honest disk sectors_on failures device_goes_on a b io k crash goes = record { kept = subst (Keeps honest sectors_on failures a b) (sym k.failed) k; crash = crash; goes = goes }

-- ---- more calls of a tree never say that the device failed

invalid_no_io : errno.Invalid ≢ errno.Io
invalid_no_io is = cc

not_empty_no_io : errno.NotEmpty ≢ errno.Io
not_empty_no_io is = cc

pub removed_never : (T : Tree) (directory : ℕ) → directory_removed T directory ≢ Err errno.Io
removed_never T directory = never_if _ errno.Invalid _ invalid_no_io (never_if _ errno.NotEmpty _ not_empty_no_io (ok_no_io _))
