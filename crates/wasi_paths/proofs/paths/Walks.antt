-- Walks of a guest's paths.
use Rattle.std.proofs.Common.{◌≡◌, ◌≢◌, ◌⊎◌, ℕ, Bool, true, false, cond, not, List, [], ◌∷◌, Option, Some, None, Result, Ok, Err, refl, sym, ◌∙◌, ap, subst, inl, inr, arith}
use Rattle.std.specs.Option.{option_map_or}
use Rattle.std.proofs.lemmas.Bool.{false≢true}
use Rattle.vol_sector.specs.Disk.{Disk, Leaves}
use Rattle.vol_tree.specs.declared.errno.Errno.{Errno}
use Rattle.vol_tree.specs.declared.errno.Errno.TheVariants as errno
use Rattle.vol_tree.specs.Numbers.{number_of}
use Rattle.vol_tree.specs.Tree.{Tree, Node, Directory, File, Entry as TreeEntry, entry, Name, IsDirectory, same_name, lookup}
use Rattle.vol_tree.specs.Calls.{is_directory, directory_at}
use Rattle.vol_tree.specs.Clauses.{is_io}
use Rattle.vol_tree.specs.Opened.{Opened, Keeps, GoesOn}
use Rattle.path_walk.specs.declared.walking.Reached.{Reached as ReachedValue}
use Rattle.path_walk.specs.declared.walking.Reached.TheVariants as values
use Rattle.path_walk.proofs.Walks.{missing_free}
use Rattle.path_walk.specs.Walk.{GivesOrIo}
use Rattle.path_walk.specs.Paths.{Reached, Found, Missing, path_read, wants_directory, stays_inside, resolved, walked, as_wanted, missing, dots, ◌>>=◌}
use Rattle.wasi_fd.specs.declared.descriptor.Opened.{Opened as OpenedEntry}
use Rattle.wasi_bodies.specs.World.{World, with_volume_failed}
use Rattle.wasi_bodies.specs.Checks.{Checked, guard, numbered, walk, found}
use Rattle.wasi_bodies.specs.paths.Rows as rows
use Rattle.wasi_bodies.specs.host.Worlds.{VolumeStep}
use Rattle.wasi_bodies.specs.internal.Entries.{with_volume}
use Rattle.wasi_bodies.specs.internal.paths.Walks.{ReachesFrom, Places}
use Rattle.wasi_bodies.proofs.checks.Chains.{guard_passes, guard_fails, goes_on, stops}
use Rattle.wasi_bodies.proofs.bodies.Resting.{volume_rests}
use Rattle.wasi_bodies.proofs.bodies.VolumeCalls.{gone, io_or, never_after, never_guard, never_if, ok_no_io, numbered_io, same_volume, was_working}

-- ---- a walk never says that the device failed

not_dir : errno.NotDirectory ≢ errno.Io
not_dir is = cc

not_found : errno.NotFound ≢ errno.Io
not_found is = cc

not_capable : errno.NotCapable ≢ errno.Io
not_capable is = cc

err_no_io : {X : Type 0} (e : Errno) → e ≢ errno.Io → ◌≢◌ {A = Result X Errno} (Err e) (Err errno.Io)
err_no_io e other is = other (let same : e ≡ errno.Io = cc in same)

missing_never : (here : ℕ) (name : Name) (names : List Name) → missing here name names ≢ Err errno.Io
missing_never here name [] = ok_no_io _
missing_never here name (next ∷ names) = err_no_io errno.NotFound not_found

child_never : (f : ℕ → Result Reached Errno) (o : Option ℕ) (r : Result Reached Errno) → ((c : ℕ) → f c ≢ Err errno.Io) → r ≢ Err errno.Io → option_map_or f o r ≢ Err errno.Io
child_never f None r some none = none
child_never f (Some c) r some none = some c

either_never : (b : Bool) (x y : Result Reached Errno) → x ≢ Err errno.Io → y ≢ Err errno.Io → cond b x y ≢ Err errno.Io
either_never true x y first second = first
either_never false x y first second = second

walked_never : (T : Tree) (names : List Name) (here : ℕ) (above : List ℕ) → walked T here above names ≢ Err errno.Io
walked_never T [] here above = ok_no_io _
walked_never T (name ∷ names) here above =
    never_if (not (directory_at T here)) errno.NotDirectory _ not_dir
    (either_never (same_name name dots) _ _ (walked_never T names _ _)
    (child_never _ (lookup T here name) _ (λ c. walked_never T names c (here ∷ above)) (missing_never here name names)))

wanted_never : (T : Tree) (wants : Bool) (r : Reached) → as_wanted T wants r ≢ Err errno.Io
wanted_never T wants (Found serial) = never_if _ errno.NotDirectory _ not_dir (ok_no_io _)
wanted_never T wants (Missing parent name) = ok_no_io _

bind_never : (r : Result Reached Errno) (f : Reached → Result Reached Errno) → r ≢ Err errno.Io → ((x : Reached) → f x ≢ Err errno.Io) → (r >>= f) ≢ Err errno.Io
bind_never (Ok x) f first second = second x
bind_never (Err e) f first second = first

resolved_never : (T : Tree) (directory : ℕ) (wants : Bool) (names : List Name) → resolved T directory wants names ≢ Err errno.Io
resolved_never T directory wants names =
    either_never (stays_inside 0 names) _ _ (bind_never _ _ (walked_never T names directory []) (wanted_never T wants)) (err_no_io errno.NotCapable not_capable)

other_errno : {X : Type 0} (e : ℕ) → e ≢ 29 → ◌≢◌ {A = Checked X} (Err e) (Err 29)
other_errno e other is = other (let same : e ≡ 29 = cc in same)

pub found_never : (r : Reached) → found r ≢ Err 29
found_never (Found serial) = λ is. cc
found_never (Missing parent name) = other_errno 44 (λ is. absurd (omega (arith, is)))

-- ---- by the checks of a walk

pub by_text : (w : World) (o : OpenedEntry) (text : List ℕ) (e : Errno) → path_read text ≡ Err e → walk w o text ≡ Err (number_of e)
by_text w o text e is = stops _ _ _ (ap numbered is)

module _ (w : World) (o : OpenedEntry) (text : List ℕ) (names : List Name) (read : path_read text ≡ Ok names) where
  by_outside : stays_inside 0 names ≡ false → walk w o text ≡ Err 76
  by_outside out = goes_on _ _ names (ap numbered read) ∙ stops _ _ 76 (guard_fails _ 76 out)

  by_walk : stays_inside 0 names ≡ true → w.volume_failed ≡ false → walk w o text ≡ numbered (resolved w.tree o.serial (wants_directory text) names)
  by_walk inside alive = goes_on _ _ names (ap numbered read) ∙ (goes_on _ _ tt (guard_passes _ 76 inside) ∙ goes_on _ _ tt (guard_passes _ 29 (ap not alive)))

  by_gone : stays_inside 0 names ≡ true → walk (with_volume_failed w) o text ≡ Err 29
  by_gone inside = goes_on _ _ names (ap numbered read) ∙ (goes_on _ _ tt (guard_passes _ 76 inside) ∙ stops _ _ 29 (guard_fails _ 29 refl))

module _ {D : Type 0} (honest : D → Type 0) (disk : D → Disk) (sectors_on failures : D → ℕ) (device_goes_on : ℕ → D → D → Type 0) where
  -- what a walk over the volume says of that in the world
  reaches_if : (b : Bool) (v v' : Opened D) (w : World) (o : OpenedEntry) (text : List ℕ) (names : List Name) (result : Result ReachedValue Errno)
      → path_read text ≡ Ok names → stays_inside 0 names ≡ b → w ≡ with_volume v w → v'.tree ≡ v.tree
      → GivesOrIo (resolved v.tree o.serial (wants_directory text) names) result
      → (b ≡ true → Keeps honest sectors_on failures v v' (is_io result)) → (b ≡ false → (v' ≡ v) × (result ≡ Err errno.NotCapable))
      → ReachesFrom v' w o text result
  reaches_if true v v' w o text names (Ok r) read inside shown tree gives kept out =
      let k = kept refl in
      let working : v.failed ≡ false = was_working honest sectors_on failures v v' false k refl in
      let alive : w.volume_failed ≡ false = ap (λ (w : World). w.volume_failed) shown ∙ working in
      record {
        is = by_walk w o text names read inside alive ∙ ap numbered (ap (λ (w : World). resolved w.tree o.serial (wants_directory text) names) shown ∙ gives);
        gone = by_gone w o text names read inside;
        same = same_volume w [] v v' shown k.numbers tree (k.failed ∙ sym working);
        working = alive;
      }
  reaches_if true v v' w o text names (Err e) read inside shown tree gives kept out = elim (io_or ReachedValue e) [
    | inl (io, fails) ↦ inr (record {
      answer = ap number_of io;
      gone = by_gone w o text names read inside;
      never = λ alive is. numbered_io _ (resolved_never w.tree o.serial (wants_directory text) names) (sym (by_walk w o text names read inside alive) ∙ is);
      after = gone w [] v v' shown (kept refl).numbers tree ((kept refl).failed ∙ fails);
    })
    | inr (other, works) ↦
        let k = kept refl in
        let working : v.failed ≡ false = was_working honest sectors_on failures v v' _ k works in
        let alive : w.volume_failed ≡ false = ap (λ (w : World). w.volume_failed) shown ∙ working in
        inl (record {
          is = elim gives [
            | inl is ↦ by_walk w o text names read inside alive ∙ ap numbered (ap (λ (w : World). resolved w.tree o.serial (wants_directory text) names) shown ∙ is)
            | inr io ↦ absurd (other (ap number_of io))
          ];
          same = same_volume w [] v v' shown k.numbers tree (k.failed ∙ (works ∙ sym working));
        })
  ]
  reaches_if false v v' w o text names (Ok r) read inside shown tree gives kept out = let both = (out refl).1 in absurd (let never : ◌≡◌ {A = Result ReachedValue Errno} (Ok r) (Err errno.NotCapable) = both in cc)
  reaches_if false v v' w o text names (Err e) read inside shown tree gives kept out =
      let both : ◌≡◌ {A = Result ReachedValue Errno} (Err e) (Err errno.NotCapable) = (out refl).1 in
      let same : e ≡ errno.NotCapable = cc in
      inl (record {
        is = by_outside w o text names read inside ∙ ap (λ (e : Errno). Err (number_of e)) (sym same);
        same = ap (λ (v : Opened D). with_volume v w) (out refl).0 ∙ sym shown;
      })

  pub reaches_by : (v v' : Opened D) (w : World) (o : OpenedEntry) (text : List ℕ) (names : List Name) (result : Result ReachedValue Errno)
      → path_read text ≡ Ok names → w ≡ with_volume v w → v'.tree ≡ v.tree
      → GivesOrIo (resolved v.tree o.serial (wants_directory text) names) result
      → (stays_inside 0 names ≡ true → Keeps honest sectors_on failures v v' (is_io result)) → (stays_inside 0 names ≡ false → (v' ≡ v) × (result ≡ Err errno.NotCapable))
      → ReachesFrom v' w o text result
  reaches_by v v' w o text names result read shown tree gives kept out =
      reaches_if (stays_inside 0 names) v v' w o text names result read refl shown tree gives kept out

  pub same_or_kept : (b : Bool) (v v' : Opened D) (io : Bool) → (b ≡ true → Keeps honest sectors_on failures v v' io) → (b ≡ false → v' ≡ v) → (v' ≡ v) ⊎ Keeps honest sectors_on failures v v' io
  same_or_kept true v v' io kept same = inr (kept refl)
  same_or_kept false v v' io kept same = inl (same refl)

  step_if : (b : Bool) (v v' : Opened D) (io : Bool) → (b ≡ true → Keeps honest sectors_on failures v v' io) → (b ≡ false → v' ≡ v)
      → (honest v.device → Leaves (disk v.device) (disk v'.device) (λ c. ⊥)) → GoesOn device_goes_on v v' → VolumeStep honest disk sectors_on failures device_goes_on v v'
  step_if true v v' io kept same crash goes = let k = kept refl in record {
    kept = subst (Keeps honest sectors_on failures v v') (sym k.failed) k;
    crash = λ h. let l = crash h in record {
      later = l.later;
      since = λ t c low left. elim (l.since t c low left) [ inl before ↦ inl before | inr never ↦ absurd never ];
      now = λ c left. elim (l.now c left) [ inl before ↦ inl before | inr never ↦ absurd never ];
    };
    goes = goes;
  }
  step_if false v v' io kept same crash goes = subst (VolumeStep honest disk sectors_on failures device_goes_on v) (sym (same refl)) (volume_rests honest disk sectors_on failures device_goes_on v)

  pub step_by : (names : List Name) (v v' : Opened D) (io : Bool) → (stays_inside 0 names ≡ true → Keeps honest sectors_on failures v v' io) → (stays_inside 0 names ≡ false → v' ≡ v)
      → (honest v.device → Leaves (disk v.device) (disk v'.device) (λ c. ⊥)) → GoesOn device_goes_on v v' → VolumeStep honest disk sectors_on failures device_goes_on v v'
  step_by names v v' io kept same crash goes = step_if (stays_inside 0 names) v v' io kept same crash goes

-- ---- where a missing name may be made

node_is : (n : Node) → is_directory n ≡ true → n ≡ Directory
node_is Directory h = refl
node_is (File bytes) h = absurd (false≢true h)

is_directory_if : (T : Tree) (serial : ℕ) (o : Option TreeEntry) → entry T serial ≡ o → option_map_or (λ (e : TreeEntry). is_directory e.node) o false ≡ true → IsDirectory T serial
is_directory_if T serial None is h = absurd (false≢true h)
is_directory_if T serial (Some e) is h = (e, is, node_is e.node h)

pub places : (T : Tree) (directory : ℕ) (wants : Bool) (names : List Name) (result : Result ReachedValue Errno) → GivesOrIo (resolved T directory wants names) result → Places T result
places T directory wants names (Ok (values.Found serial)) gives = tt
places T directory wants names (Ok (values.Missing parent name)) gives =
    is_directory_if T parent (entry T parent) refl (missing_free T directory parent name.now wants names gives).directory
places T directory wants names (Err e) gives = tt

pub missing_name_never : (r : Reached) → rows.missing r ≢ Err 29
missing_name_never (Found serial) = other_errno 20 (λ is. absurd (omega (arith, is)))
missing_name_never (Missing parent name) = λ is. cc

-- ---- a walk in a world whose volume works never answers 29

no_text : errno.BadText ≢ errno.Io
no_text is = cc

invalid : errno.Invalid ≢ errno.Io
invalid is = cc

too_long : errno.NameTooLong ≢ errno.Io
too_long is = cc

read_never : (text : List ℕ) → path_read text ≢ Err errno.Io
read_never text =
    never_if _ errno.NotFound _ not_found (never_if _ errno.BadText _ no_text (never_if _ errno.Invalid _ invalid
    (never_if _ errno.NotCapable _ not_capable (never_if _ errno.NameTooLong _ too_long (ok_no_io _)))))

pub walk_never : (w : World) (o : OpenedEntry) (text : List ℕ) → w.volume_failed ≡ false → walk w o text ≢ Err 29
walk_never w o text alive =
    never_after (numbered (path_read text)) _ (numbered_io (path_read text) (read_never text))
    (λ names _. never_after (guard (stays_inside 0 names) 76) _ (never_guard _ 76 (λ is. absurd (omega (arith, is))))
    (λ _ _. never_after (guard (not w.volume_failed) 29) _ (passing_never (not w.volume_failed) (ap not alive))
    (λ _ _. numbered_io _ (resolved_never w.tree o.serial (wants_directory text) names))))
  where
    passing_never : (b : Bool) → b ≡ true → guard b 29 ≢ Err 29
    passing_never b holds is = let both : ◌≡◌ {A = Checked (Unit {0})} (Ok tt) (Err 29) = sym (guard_passes b 29 holds) ∙ is in cc
