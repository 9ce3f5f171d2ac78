-- What a path reaches stands below the directory that it starts from.
use Rattle.std.proofs.Common.{◌≡◌, ◌≤◌, ℕ, zero, suc, ◌<◌, Bool, true, false, cond, not, ◌&&◌, ltb, List, [], ◌∷◌, length, get_or, drop, Option, Some, None, Result, Ok, Err, refl, sym, ◌∙◌, ap, subst, inl, inr, arith, add-one}
use Rattle.std.specs.Option.{option_map_or}
use Rattle.std.specs.List.{Contains}
use Rattle.std.proofs.lemmas.Bool.{cases_Bool, cond-true, cond-false, and_parts, ltb-true, ne_eqb, false≢true}
use Rattle.std.proofs.lemmas.Option.{same_Some, none-some}
use Rattle.std.proofs.lemmas.List.{length-drop}
use Rattle.vol_tree.specs.Tree.{Tree, Path, Name, Entry, IsTree, root, entry, lookup, Leads, same_name}
use Rattle.vol_tree.specs.Calls.{directory_at}
use Rattle.path_walk.specs.Paths.{Reached, Found, Missing, walked, stepped, parent_at, missing, resolved, ◌>>=◌, stays_inside, names_left, dots, as_wanted}
use Rattle.path_walk.specs.Laws.{WalksStayBelow, MissingStaysBelow, MissingIsFree, StepsByParents}
use Rattle.vol_tree.specs.declared.errno.Errno.{Errno}
use Rattle.vol_tree.specs.declared.errno.Errno.TheVariants as errno
use Rattle.vol_tree.proofs.Lookups.{looked_up}

-- the directories above are those that the path goes through
abbrev Trail : Tree → ℕ → ℕ → List ℕ → Path → Type 0
Trail T directory here [] [] = here ≡ directory
Trail T directory here [] (n ∷ path) = ⊥
Trail T directory here (d ∷ above) [] = ⊥
Trail T directory here (d ∷ above) (n ∷ path) = (e : Entry) × (entry T here ≡ Some e) × (e.name ≡ n) × (e.parent ≡ d) × Trail T directory d above path

trail_leads : (T : Tree) (directory here : ℕ) (above : List ℕ) (path : Path) → Trail T directory here above path → Leads T directory path here
trail_leads T directory here [] [] h = h
trail_leads T directory here [] (n ∷ path) h = absurd h
trail_leads T directory here (d ∷ above) [] h = absurd h
trail_leads T directory here (d ∷ above) (n ∷ path) h = (h.0, h.1, h.2, subst (λ (s : ℕ). Leads T directory path s) (sym h.3) (trail_leads T directory d above path h.4))

-- one step back
trail_up : (T : Tree) (directory here : ℕ) (above : List ℕ) (path : Path) → 0 < length path → Trail T directory here above path → Trail T directory (get_or above 0 here) (drop 1 above) (drop 1 path)
trail_up T directory here [] [] l h = absurd (omega arith)
trail_up T directory here [] (n ∷ path) l h = absurd h
trail_up T directory here (d ∷ above) [] l h = absurd h
trail_up T directory here (d ∷ above) (n ∷ path) l h = h.4

-- what an answer says of where it lies, the names that are left being path
abbrev Reaches : Tree → ℕ → Path → Reached → Type 0
Reaches T directory left (Found serial) = Leads T directory left serial
Reaches T directory left (Missing parent name) = (path : Path) × Leads T directory path parent × (left ≡ name ∷ path)

err_ok : {X : Type 0} (e : Errno) (x : X) → Err e ≡ Ok x → ⊥
err_ok e x h = cc

module _ (T : Tree) (directory : ℕ) where
  missing_at : (here : ℕ) (above : List ℕ) (path : Path) (name : Name) (names : List Name) (r : Reached)
      → Trail T directory here above path → missing here name names ≡ Ok r → same_name name dots ≡ false → Reaches T directory (names_left (name ∷ path) names) r
  missing_at here above path name [] r t h plain =
      let same : Missing here name ≡ r = cc in
      subst (λ (r : Reached). Reaches T directory (name ∷ path) r) same (path, trail_leads T directory here above path t, refl)
  missing_at here above path name (n ∷ names) r t h plain = absurd (err_ok errno.NotFound r h)

  -- that a walk over these names goes on below
  abbrev WalksOn : List Name → Type 0
  WalksOn names = (here : ℕ) (above : List ℕ) (path : Path) (r : Reached) → Trail T directory here above path
      → stays_inside (length path) names ≡ true → walked T here above names ≡ Ok r → Reaches T directory (names_left path names) r

  child : (name : Name) (names : List Name) (here : ℕ) (above : List ℕ) (path : Path) (r : Reached) (found : Option ℕ) → WalksOn names → lookup T here name ≡ found
      → same_name name dots ≡ false → Trail T directory here above path → stays_inside (suc (length path)) names ≡ true
      → option_map_or (λ child. walked T child (here ∷ above) names) found (missing here name names) ≡ Ok r → Reaches T directory (names_left (name ∷ path) names) r
  child name names here above path r None on is plain t inside h = missing_at here above path name names r t h plain
  child name names here above path r (Some down) on is plain t inside h =
      let l = looked_up T here down name is in
      on down (here ∷ above) (name ∷ path) r (l.0, l.1, l.3, l.2, t) inside h

  walks : (names : List Name) → WalksOn names
  walks [] here above path r t inside h =
      let same : Found here ≡ r = cc in
      subst (λ (r : Reached). Reaches T directory path r) same (trail_leads T directory here above path t)
  walks (name ∷ names) here above path r t inside h = elim (cases_Bool (directory_at T here)) [
    | inl directory_here ↦ elim (cases_Bool (same_name name dots)) [
      | inl up ↦
          let asked = and_parts (ltb 0 (length path)) _ (sym (cond-true _ _ _ up) ∙ inside) in
          let above_here = trail_up T directory here above path (ltb-true 0 (length path) asked.0) t in
          let inside_there : stays_inside (length (drop 1 path)) names ≡ true = rw length-drop asked.1 in
          subst (λ (p : Path). Reaches T directory (names_left p names) r) (sym (cond-true _ _ _ up))
          (walks names (get_or above 0 here) (drop 1 above) (drop 1 path) r above_here inside_there
          (sym (cond-true _ _ _ up) ∙ (sym (cond-false _ _ _ (ap not directory_here)) ∙ h)))
      | inr plain ↦
          let inside_there : stays_inside (suc (length path)) names ≡ true = rw (← add-one) (sym (cond-false _ _ _ plain) ∙ inside) in
          subst (λ (p : Path). Reaches T directory (names_left p names) r) (sym (cond-false _ _ _ plain))
          (child name names here above path r (lookup T here name) (walks names) refl plain t inside_there
          (sym (cond-false _ _ _ plain) ∙ (sym (cond-false _ _ _ (ap not directory_here)) ∙ h)))
    ]
    | inr file_here ↦ absurd (err_ok errno.NotDirectory r (sym (cond-true _ _ _ (ap not file_here)) ∙ h))
  ]

  -- a directory where one is wanted is what was reached
  wanted : (wants : Bool) (reached answer : Reached) → as_wanted T wants reached ≡ Ok answer → reached ≡ answer
  wanted wants (Found serial) answer h = elim (cases_Bool (wants && not (directory_at T serial))) [
    | inl refused ↦ absurd (err_ok errno.NotDirectory answer (sym (cond-true _ _ _ refused) ∙ h))
    | inr taken ↦ let same : Ok (Found serial) ≡ Ok answer = sym (cond-false _ _ _ taken) ∙ h in cc
  ]
  wanted wants (Missing parent name) answer h = cc

  bound : (walk : Result Reached Errno) (wants : Bool) (answer : Reached) → (walk >>= as_wanted T wants) ≡ Ok answer → walk ≡ Ok answer
  bound (Ok reached) wants answer h = ap Ok (wanted wants reached answer h)
  bound (Err e) wants answer h = absurd (err_ok e answer h)

  resolves : (wants : Bool) (names : List Name) (r : Reached) → resolved T directory wants names ≡ Ok r → Reaches T directory (names_left [] names) r
  resolves wants names r h = elim (cases_Bool (stays_inside 0 names)) [
    | inl inside ↦ walks names directory [] [] r refl inside (bound (walked T directory [] names) wants r (sym (cond-true _ _ _ inside) ∙ h))
    | inr outside ↦ absurd (err_ok errno.NotCapable r (sym (cond-false _ _ _ outside) ∙ h))
  ]

-- ---- what a walk misses

contains_first : (name : Name) (names : List Name) → Contains (name ∷ names) name
contains_first name names = (0, omega arith, refl)

contains_later : (n name : Name) (names : List Name) → Contains names name → Contains (n ∷ names) name
contains_later n name names (k, l, is) = (suc k, omega arith, is)

module _ (T : Tree) where
  abbrev MissedBy : List Name → Reached → Type 0
  MissedBy names (Found serial) = Unit {0}
  MissedBy names (Missing parent name) = (directory_at T parent ≡ true) × (lookup T parent name ≡ None) × Contains names name × (same_name name dots ≡ false)

  later : (n : Name) (names : List Name) (r : Reached) → MissedBy names r → MissedBy (n ∷ names) r
  later n names (Found serial) m = tt
  later n names (Missing parent name) m = (m.0, m.1, contains_later n name names m.2, m.3)

  missed_here : (here : ℕ) (name : Name) (names : List Name) (r : Reached) → directory_at T here ≡ true → lookup T here name ≡ None → same_name name dots ≡ false
      → missing here name names ≡ Ok r → MissedBy (name ∷ names) r
  missed_here here name [] r directory free plain h =
      let same : Missing here name ≡ r = cc in
      subst (λ (r : Reached). MissedBy (name ∷ []) r) same (directory, free, contains_first name [], plain)
  missed_here here name (n ∷ names) r directory free plain h = absurd (err_ok errno.NotFound r h)

  missed_on : (here : ℕ) (above : List ℕ) (name : Name) (names : List Name) (r : Reached) (found : Option ℕ)
      → ((here : ℕ) (above : List ℕ) (r : Reached) → walked T here above names ≡ Ok r → MissedBy names r)
      → directory_at T here ≡ true → lookup T here name ≡ found → same_name name dots ≡ false
      → option_map_or (λ child. walked T child (here ∷ above) names) found (missing here name names) ≡ Ok r → MissedBy (name ∷ names) r
  missed_on here above name names r None on directory is plain h = missed_here here name names r directory is plain h
  missed_on here above name names r (Some down) on directory is plain h = later name names r (on down (here ∷ above) r h)

  missed : (names : List Name) (here : ℕ) (above : List ℕ) (r : Reached) → walked T here above names ≡ Ok r → MissedBy names r
  missed [] here above r h =
      let same : Found here ≡ r = cc in
      subst (λ (r : Reached). MissedBy [] r) same tt
  missed (name ∷ names) here above r h = elim (cases_Bool (directory_at T here)) [
    | inl directory_here ↦ elim (cases_Bool (same_name name dots)) [
      | inl up ↦ later name names r (missed names (get_or above 0 here) (drop 1 above) r
          (sym (cond-true _ _ _ up) ∙ (sym (cond-false _ _ _ (ap not directory_here)) ∙ h)))
      | inr plain ↦ missed_on here above name names r (lookup T here name) (missed names) directory_here refl plain
          (sym (cond-false _ _ _ plain) ∙ (sym (cond-false _ _ _ (ap not directory_here)) ∙ h))
    ]
    | inr file_here ↦ absurd (err_ok errno.NotDirectory r (sym (cond-true _ _ _ (ap not file_here)) ∙ h))
  ]

-- ---- up by parents

module _ (T : Tree) (directory : ℕ) (is_tree : IsTree T) (first : 1 ≤ directory) where
  -- an entry of the trail has a number
  numbered : (here : ℕ) (above : List ℕ) (path : Path) → Trail T directory here above path → 1 ≤ here
  numbered here [] [] h = omega (arith, first, h)
  numbered here [] (n ∷ path) h = absurd h
  numbered here (d ∷ above) [] h = absurd h
  numbered zero (d ∷ above) (n ∷ path) h = absurd (none-some h.0 h.1)
  numbered (suc slot) (d ∷ above) (n ∷ path) h = omega arith

  -- the root stands below nothing
  no_root : (here d : ℕ) (above : List ℕ) (n : Name) (path : Path) → Trail T directory here (d ∷ above) (n ∷ path) → here ≡ 1 → ⊥
  no_root here d above n path h is =
      let top : h.0 ≡ root = same_Some h.0 root (sym h.1 ∙ ap (λ (s : ℕ). entry T s) is ∙ is_tree.top) in
      let none : d ≡ 0 = sym h.3 ∙ ap (λ (e : Entry). e.parent) top in
      omega (arith, none, numbered d above path h.4)

  abbrev SameSteps : List Name → Type 0
  SameSteps names = (here : ℕ) (above : List ℕ) (path : Path) → Trail T directory here above path → stays_inside (length path) names ≡ true → walked T here above names ≡ stepped T here names

  parent_is_back : (here : ℕ) (above : List ℕ) (path : Path) → 0 < length path → Trail T directory here above path → get_or above 0 here ≡ parent_at T here
  parent_is_back here [] [] l h = absurd (omega arith)
  parent_is_back here [] (n ∷ path) l h = absurd h
  parent_is_back here (d ∷ above) [] l h = absurd h
  parent_is_back here (d ∷ above) (n ∷ path) l h =
      sym h.3 ∙ (sym (ap (λ (o : Option Entry). option_map_or (λ (e : Entry). e.parent) o here) h.1) ∙ sym (cond-false _ 1 _ (ne_eqb here 1 (no_root here d above n path h))))

  same_child : (name : Name) (names : List Name) (here : ℕ) (above : List ℕ) (path : Path) (found : Option ℕ) → SameSteps names → lookup T here name ≡ found
      → Trail T directory here above path → stays_inside (suc (length path)) names ≡ true
      → option_map_or (λ child. walked T child (here ∷ above) names) found (missing here name names) ≡ option_map_or (λ child. stepped T child names) found (missing here name names)
  same_child name names here above path None on is t inside = refl
  same_child name names here above path (Some down) on is t inside =
      let l = looked_up T here down name is in
      on down (here ∷ above) (name ∷ path) (l.0, l.1, l.3, l.2, t) inside

  steps : (names : List Name) → SameSteps names
  steps [] here above path t inside = refl
  steps (name ∷ names) here above path t inside = ap (λ (r : Result Reached Errno). cond (not (directory_at T here)) (Err errno.NotDirectory) r) (elim (cases_Bool (same_name name dots)) [
    | inl up ↦
        let asked = and_parts (ltb 0 (length path)) _ (sym (cond-true _ _ _ up) ∙ inside) in
        let some : 0 < length path = ltb-true 0 (length path) asked.0 in
        let inside_there : stays_inside (length (drop 1 path)) names ≡ true = rw length-drop asked.1 in
        cond-true _ _ _ up ∙ (steps names (get_or above 0 here) (drop 1 above) (drop 1 path) (trail_up T directory here above path some t) inside_there
        ∙ (ap (λ (s : ℕ). stepped T s names) (parent_is_back here above path some t) ∙ sym (cond-true _ _ _ up)))
    | inr plain ↦
        let inside_there : stays_inside (suc (length path)) names ≡ true = rw (← add-one) (sym (cond-false _ _ _ plain) ∙ inside) in
        cond-false _ _ _ plain ∙ (same_child name names here above path (lookup T here name) (steps names) refl t inside_there ∙ sym (cond-false _ _ _ plain))
  ])

pub by_parents : StepsByParents
by_parents T directory names is_tree first inside = steps T directory is_tree first names directory [] [] refl inside

same_dots : same_name dots dots ≡ true
same_dots = refl

pub missing_free : MissingIsFree
missing_free T directory parent name wants names h = elim (cases_Bool (stays_inside 0 names)) [
  | inl inside ↦
      let m = missed T names directory [] (Missing parent name) (bound T directory (walked T directory [] names) wants (Missing parent name) (sym (cond-true _ _ _ inside) ∙ h)) in
      record {
        directory = m.0;
        free = m.1;
        asked = m.2;
        no_dots = λ same. false≢true (sym m.3 ∙ (ap (λ (n : Name). same_name n dots) same ∙ same_dots));
      }
  | inr outside ↦ absurd (err_ok errno.NotCapable (Missing parent name) (sym (cond-false _ _ _ outside) ∙ h))
]

pub walks_below : WalksStayBelow
walks_below T directory serial wants names h = resolves T directory wants names (Found serial) h

pub missing_below : MissingStaysBelow
missing_below T directory parent name wants names h = resolves T directory wants names (Missing parent name) h
