-- A guest stays confined.
use Rattle.std.proofs.Common.{is_some, ◌≡◌, ◌≢◌, ◌⊎◌, ℕ, zero, suc, ◌<◌, Bool, true, List, [], ◌∷◌, Option, Some, None, Ok, Err, refl, sym, ◌∙◌, ap, subst, inl, inr, arith}
use Rattle.std.proofs.lemmas.Option.{same_Some, none-some}
use Rattle.std.proofs.lemmas.Bool.{cases_eq, false≢true}
use Rattle.wasm_store.specs.declared.call.HostCall.{HostCall}
use Rattle.wasm_store.specs.declared.call.HostCall.TheVariants as call
use Rattle.wasm_store.specs.declared.call.Errno.{Errno}
use Rattle.wasm_store.specs.declared.call.Answer.{Answer}
use Rattle.wasm_steps.specs.Configuration.{Instance, Configuration}
use Rattle.wasm_steps.specs.Steps.{CallsOf, Event, Step, plain_step, free_step, host_answers, host_exits, in_label, in_frame, Reach, stays, goes}
use Rattle.vol_tree.specs.Tree.{Tree, Path, Name, Entry as TreeEntry, entry, lookup, Leads, IsAt, IsTree, IsDirectory, root}
use Rattle.vol_tree.specs.Calls.{is_directory}
use Rattle.vol_tree.proofs.Entries.{one_path}
use Rattle.vol_tree.proofs.Lookups.{looked_up}
use Rattle.vol_tree.proofs.Grows.{not_there}
use Rattle.path_walk.specs.Paths.{Reached, Found, Missing, resolved, names_left}
use Rattle.path_walk.proofs.Walks.{walks_below, missing_below}
use Rattle.wasi_fd.specs.declared.descriptor.Descriptor.{Descriptor}
use Rattle.wasi_fd.specs.declared.descriptor.Descriptor.TheVariants.{Stream, Entry}
use Rattle.wasi_fd.specs.declared.descriptor.Opened.{Opened}
use Rattle.wasi_fd.specs.Table.{Table}
use Rattle.wasi_bodies.specs.World.{World}
use Rattle.wasi_bodies.specs.Checks.{Checked, Done}
use Rattle.wasi_bodies.specs.Calls.{row, Calls, Answers, Answered, by_row, volume_fails, input_fails, output_fails, errors_fail}
use Rattle.wasi_bodies.specs.laws.Confined.{Tops, IsOutside, IsWithin, StandsWithin, walk_end, IsConfined, named_by, HasOnlyDirectoriesOpen, Confines, IsHostOf, ConfinesHost}
use Rattle.wasi_bodies.proofs.checks.Chains.{Yields, known}
use Rattle.wasi_bodies.proofs.runs.HeldAlongRuns.{is_directory_kind, Holds, below_not_root, outside_above}
use Rattle.wasi_paths.proofs.runs.ReachedEntries.{IsFound, found_from}
use Rattle.wasi_fd.specs.declared.table.TheConstants.{PLACES}
use Rattle.wasi_calls.proofs.runs.RowsKeep.{row_keeps}

-- ---- which entries are open can be decided

abbrev Opens : Table → ℕ → ℕ → Type 0
Opens table n s = named_by table s ⊎ ((fd : ℕ) (o : Opened) → fd < n → table fd ≡ Some (Entry o) → o.serial ≢ s)

opens_more : (table : Table) (n s : ℕ) (d : Option Descriptor) → table n ≡ d → Opens table n s → Opens table (suc n) s
opens_more table n s d is (inl found) = inl found
opens_more table n s None is (inr none) = inr (λ fd o l g. elim (cases_eq fd n) [
  | inl here ↦ absurd (none-some (Entry o) (sym is ∙ (ap table (sym here) ∙ g)))
  | inr apart ↦ none fd o (omega arith) g
])
opens_more table n s (Some (Stream x)) is (inr none) = inr (λ fd o l g. elim (cases_eq fd n) [
  | inl here ↦ let same : Some (Stream x) ≡ Some (Entry o) = sym is ∙ (ap table (sym here) ∙ g) in cc
  | inr apart ↦ none fd o (omega arith) g
])
opens_more table n s (Some (Entry p)) is (inr none) = elim (cases_eq p.serial s) [
  | inl here ↦ inl (n, p, is, here)
  | inr other ↦ inr (λ fd o l g. elim (cases_eq fd n) [
    | inl here ↦ λ serial. let same : Some (Entry p) ≡ Some (Entry o) = sym is ∙ (ap table (sym here) ∙ g) in
        let one : p ≡ o = cc in other (ap (λ (o : Opened). o.serial) one ∙ serial)
    | inr apart ↦ none fd o (omega arith) g
  ])
]

opens : (table : Table) (s n : ℕ) → Opens table n s
opens table s zero = inr (λ fd o l g. absurd (omega arith))
opens table s (suc n) = opens_more table n s (table n) refl (opens table s n)

module _ (T0 : Tree) (t0 : IsTree T0) (tops : Tops) (directories : (top : ℕ) → tops top → IsDirectory T0 top)
    (decide : (s : ℕ) → tops s ⊎ (tops s → ⊥)) where
  -- below one of the directories, or below none
  abbrev Sides : ℕ → Type 0
  Sides s = ((top : ℕ) × (path : Path) × tops top × Leads T0 top path s) ⊎ ((top : ℕ) (path : Path) → tops top → Leads T0 top path s → ⊥)

  sides : (path : Path) (s : ℕ) → IsAt T0 path s → Sides s
  sides [] s g = elim (decide s) [
    | inl is ↦ inl (s, [], is, refl)
    | inr none ↦ inr (λ top path is l. elim path as (λ path. Leads T0 top path s → ⊥) [
      | [] ↦ λ here. none (subst tops (sym here) is)
      | n ∷ path ↦ λ l. let d = directories top is in below_not_root T0 t0 top d.0 d.1 n path s l g
    ] l)
  ]
  sides (n ∷ path) s g = elim (decide s) [
    | inl is ↦ inl (s, [], is, refl)
    | inr none ↦ elim (sides path g.0.parent g.3) [
      | inl below ↦ inl (below.0, g.0.name ∷ below.1, below.2, (g.0, g.1, refl, below.3))
      | inr never ↦ inr (λ top path is l. elim path as (λ path. Leads T0 top path s → ⊥) [
        | [] ↦ λ here. none (subst tops (sym here) is)
        | m ∷ path ↦ λ l. let same : l.0 ≡ g.0 = same_Some l.0 g.0 (sym l.1 ∙ g.1) in never top path is (subst (λ (e : TreeEntry). Leads T0 top path e.parent) same l.3)
      ] l)
    ]
  ]

  side_of : (s : ℕ) (o : Option TreeEntry) → entry T0 s ≡ o → IsOutside T0 tops s ⊎ ((IsOutside T0 tops s → ⊥) × (is_some o ≡ true → (top : ℕ) × (path : Path) × tops top × Leads T0 top path s))
  side_of s None is = inr ((λ out. none-some out.e (sym is ∙ out.used)), λ some. absurd (false≢true some))
  side_of s (Some e) is =
      let path = t0.reached s (ap is_some is) in
      elim (sides path.0 s path.1) [
        | inl below ↦ inr ((λ out. out.below_none below.0 below.1 below.2 below.3), λ some. below)
        | inr never ↦ inl (record { e = e; used = is; below_none = never })
      ]

  paths_still : (T : Tree) (table : Table) → Holds T0 tops T table → (path : Path) (s : ℕ) → IsOutside T0 tops s → IsAt T0 path s → IsAt T path s
  paths_still T table h [] s out g = g
  paths_still T table h (n ∷ path) s out g = (
    g.0,
    h.same s out ∙ g.1,
    g.2,
    paths_still T table h path g.0.parent (outside_above T0 t0 tops directories s g.0 out g.1 (below_not_root T0 t0 1 root t0.top n path s g)) g.3,
  )

  -- an entry that is not outside has a path that begins with that of one of the directories
  within : (T : Tree) (table : Table) → Holds T0 tops T table → (path : Path) (s : ℕ) → IsAt T path s → (IsOutside T0 tops s → ⊥) → IsWithin T0 tops path
  within T table h [] s g inside = elim (side_of s (Some root) (ap (entry T0) g ∙ t0.top)) [
    | inl out ↦ absurd (inside out)
    | inr side ↦ let below = side.1 refl in elim below.1 as (λ path. Leads T0 below.0 path s → IsWithin T0 tops []) [
      | [] ↦ λ here. (below.0, [], [], below.2, sym here ∙ g, refl)
      | n ∷ path ↦ λ l. let d = directories below.0 below.2 in absurd (below_not_root T0 t0 below.0 d.0 d.1 n path s l g)
    ] below.3
  ]
  within T table h (n ∷ path) s g inside = elim (side_of g.0.parent (entry T0 g.0.parent) refl) [
    | inr side ↦ let above = within T table h path g.0.parent g.3 side.0 in (above.0, n ∷ above.1, above.2, above.3, above.4, ap (λ (p : Path). n ∷ p) above.5)
    | inl out ↦
        let before : entry T0 s ≡ Some g.0 = h.gained s g.0 g.1 out in
        elim (side_of s (Some g.0) before) [
          | inl out_too ↦ absurd (inside out_too)
          | inr side ↦ let below = side.1 refl in elim below.1 as (λ p. Leads T0 below.0 p s → IsWithin T0 tops (n ∷ path)) [
            | [] ↦ λ here.
                let first = t0.reached g.0.parent (ap is_some out.used) in
                let now = paths_still T table h first.0 g.0.parent out first.1 in
                let same : first.0 ≡ path = one_path T h.tree first.0 path g.0.parent now g.3 in
                let at : IsAt T0 (n ∷ path) s = (g.0, before, g.2, subst (λ (p : Path). IsAt T0 p g.0.parent) same first.1) in
                (below.0, [], n ∷ path, below.2, subst (λ (s : ℕ). IsAt T0 (n ∷ path) s) here at, refl)
            | m ∷ p ↦ λ l.
                let this : l.0 ≡ g.0 = same_Some l.0 g.0 (sym l.1 ∙ before) in
                absurd (out.below_none below.0 p below.2 (subst (λ (e : TreeEntry). Leads T0 below.0 p e.parent) this l.3))
          ] below.3
        ]
  ]

  stands : (T : Tree) (table : Table) → Holds T0 tops T table → (s : ℕ) (e : TreeEntry) → entry T s ≡ Some e → (IsOutside T0 tops s → ⊥) → StandsWithin T0 tops T s
  stands T table h s e used inside =
      let path = h.tree.reached s (ap is_some used) in
      (path.0, path.1, (λ other g. one_path T h.tree other path.0 s g path.1), within T table h path.0 s path.1 inside)

  -- a directory outside has the same entries by name
  same_child : (T : Tree) (table : Table) → Holds T0 tops T table → (s : ℕ) (name : Name) → IsOutside T0 tops s → (x y : Option ℕ) → lookup T s name ≡ x → lookup T0 s name ≡ y → x ≡ y
  same_child T table h s name out None None now first = refl
  same_child T table h s name out (Some c) None now first =
      let l = looked_up T s c name now in
      let before = h.gained c l.0 l.1 (subst (IsOutside T0 tops) (sym l.2) out) in
      absurd (not_there T0 s name first c l.0 before l.2 l.3)
  same_child T table h s name out None (Some c) now first =
      let l = looked_up T0 s c name first in
      let after = h.lost c l.0 l.1 (subst (IsOutside T0 tops) (sym l.2) out) in
      absurd (not_there T s name now c l.0 after l.2 l.3)
  same_child T table h s name out (Some c) (Some d) now first =
      let l = looked_up T s c name now in
      let before = h.gained c l.0 l.1 (subst (IsOutside T0 tops) (sym l.2) out) in
      let k = looked_up T0 s d name first in
      ap Some (t0.apart c d l.0 k.0 before k.1 (l.2 ∙ sym k.2) (l.3 ∙ sym k.3))

  from_found : (w : World) → Holds T0 tops w.tree w.table → (o : Opened) (s : ℕ) → IsFound T0 t0 tops directories w o s → StandsWithin T0 tops w.tree s
  from_found w h o s f = stands w.tree w.table h s f.e f.used f.inside

  walked_within : (w : World) → Holds T0 tops w.tree w.table → (fd : ℕ) (o : Opened) (wants : Bool) (names : List Name) → w.table fd ≡ Some (Entry o)
      → (reached : Reached) → resolved w.tree o.serial wants names ≡ Ok reached → StandsWithin T0 tops w.tree (walk_end reached)
  walked_within w h fd o wants names g (Found s) is =
      from_found w h o s (found_from T0 t0 tops directories w fd o h g (names_left [] names) s (walks_below w.tree o.serial s wants names is))
  walked_within w h fd o wants names g (Missing parent name) is =
      let below = missing_below w.tree o.serial parent name wants names is in
      from_found w h o parent (found_from T0 t0 tops directories w fd o h g below.0 parent below.1)

  pub confined : (w : World) → Holds T0 tops w.tree w.table → IsConfined T0 tops w.tree w.table
  confined w h = record {
    tree = h.tree;
    same = h.same;
    paths = λ s path out g. paths_still w.tree w.table h path s out g;
    children = λ s name out. same_child w.tree w.table h s name out (lookup w.tree s name) (lookup T0 s name) refl refl;
    descriptors = λ fd o g. let good = h.named fd o g in stands w.tree w.table h o.serial good.e good.used good.inside;
    walks = λ fd o wants names reached g is. walked_within w h fd o wants names g reached is;
  }

  -- ---- calls, steps and runs

  abbrev Kept : World → Type 0
  Kept w = Holds T0 tops w.tree w.table

  by_answer : (r : Checked Done) (w : World) (m : List ℕ) (w' : World) (m' : List ℕ) (e : ℕ) → Yields (λ (d : Done). Kept d.world) r → Answers r w m w' m' e → Kept w → Kept w'
  by_answer (Ok done) w m w' m' e y (zero_is, is, bytes) h = subst Kept (sym is) (known (λ (d : Done). Kept d.world) (Ok done) done y refl)
  by_answer (Err n) w m w' m' e y (errno_is, is, bytes) h = subst Kept (sym is) h

  pub answered_keeps : (run : World → Checked Done) (w : World) (m : List ℕ) (w' : World) (m' : List ℕ) (e : ℕ) → Yields (λ (d : Done). Kept d.world) (run w)
      → Answered run w m w' m' e → Kept w → Kept w'
  answered_keeps run w m w' m' e y (by_row a) h = by_answer (run w) w m w' m' e y a h
  answered_keeps run w m w' m' e y (volume_fails f) h = subst Kept (sym f.after) h
  answered_keeps run w m w' m' e y (input_fails f) h = subst Kept (sym f.after) h
  answered_keeps run w m w' m' e y (output_fails f) h = subst Kept (sym f.after) h
  answered_keeps run w m w' m' e y (errors_fail f) h = subst Kept (sym f.after) h

  call_keeps : (c : HostCall) (w : World) (m : List ℕ) (used : ℕ) (args : List ℕ) (w' : World) (m' : List ℕ) (answer : Answer) → Calls w m used c args w' m' answer → Kept w → Kept w'
  call_keeps call.ProcExit w m used args w' m' answer (is, same, bytes) h = subst Kept (sym same) h
  call_keeps other w m used args w' m' answer (e, is, a) h =
      answered_keeps (λ v. row other v m used args) w m w' m' e.0 (row_keeps T0 t0 tops directories other w m used args h) a h

  step_keeps : (i : Instance) (n : ℕ) (w : World) (c : Configuration) (ev : Event) (w' : World) (c' : Configuration) → Step World Calls i n w c ev w' c' → Kept w → Kept w'
  step_keeps i n w c ev w' c' (plain_step r) h = h
  step_keeps i n w c ev w' c' (free_step r) h = h
  step_keeps i n w c ev w' c' (host_answers {call = x} args vs callee all count a) h = call_keeps x w _ _ _ w' _ _ a h
  step_keeps i n w c ev w' c' (host_exits {call = x} args vs callee all count a) h = call_keeps x w _ _ _ w' _ _ a h
  step_keeps i n w c ev w' c' (in_label s) h = step_keeps i n w _ ev w' _ s h
  step_keeps i n w c ev w' c' (in_frame s) h = step_keeps i _ w _ ev w' _ s h

  pub reach_keeps : (i : Instance) (w : World) (c : Configuration) (answers : List (HostCall × Errno)) (w' : World) (c' : Configuration) → Reach World Calls i w c answers w' c' → Kept w → Kept w'
  reach_keeps i w c answers w' c' stays h = h
  reach_keeps i w c answers w' c' (goes {h' = v} {c' = d} ev later s r) h = reach_keeps i v d later w' c' r (step_keeps i 0 w c ev v d s h)

-- how a world begins
module _ (w : World) (begins : HasOnlyDirectoriesOpen w) where
  abbrev tops : Tops
  tops = named_by w.table

  directories_first : (top : ℕ) → named_by w.table top → IsDirectory w.tree top
  directories_first top is = subst (IsDirectory w.tree) is.3 (begins.directories is.0 is.1 is.2).0

  decided : (s : ℕ) → named_by w.table s ⊎ (named_by w.table s → ⊥)
  decided s = elim (opens w.table s PLACES) [
    | inl is ↦ inl is
    | inr none ↦ inr (λ is. none is.0 is.1 (begins.few is.0 is.1 is.2) is.2 is.3)
  ]

  first : Holds w.tree (named_by w.table) w.tree w.table
  first = record {
    tree = begins.tree;
    same = λ s out. refl;
    gained = λ s e used out. used;
    lost = λ s e used out. used;
    named = λ fd o g. let d = begins.directories fd o g in record {
      few = begins.few fd o g;
      e = d.0.0;
      used = d.0.1;
      kind = ap is_directory d.0.2 ∙ sym (ap is_directory_kind d.1);
      inside = λ out. out.below_none o.serial [] (fd, o, g, refl) refl;
    };
  }

pub confines : Confines
confines i w w' c c' answers begins reach =
    let d = directories_first w begins in
    confined w.tree begins.tree (named_by w.table) d (decided w begins) w'
    (reach_keeps w.tree begins.tree (named_by w.table) d (decided w begins) i w c answers w' c' reach (first w begins))

-- ---- over any host

module _ (T0 : Tree) (t0 : IsTree T0) (tops : Tops) (directories : (top : ℕ) → tops top → IsDirectory T0 top) (decide : (s : ℕ) → tops s ⊎ (tops s → ⊥))
    {H : Type 0} (CallsH : CallsOf H) (shows : H → World → Type 0) (honest : H → Type 0) (is : IsHostOf CallsH shows honest) where
  -- of each world that the host shows
  abbrev KeptBy : H → Type 0
  KeptBy h = honest h × ((w : World) → shows h w → Holds T0 tops w.tree w.table)

  host_call_keeps : (x : HostCall) (h h' : H) (m m' : List ℕ) (used : ℕ) (args : List ℕ) (answer : Answer) → CallsH h m used x args h' m' answer → KeptBy h → KeptBy h'
  host_call_keeps x h h' m m' used args answer a (is_honest, kept) =
      let (still, told) = is.answers h h' m m' used x args answer is_honest a in
      let (w, w', shows_old, shows_new, meaning) = told in
      let after = call_keeps T0 t0 tops directories decide x w m used args w' m' answer meaning (kept w shows_old) in
      (still, λ v shown. subst (λ (t : Table). Holds T0 tops v.tree t) (is.table h' w' v shows_new shown) (subst (λ (T : Tree). Holds T0 tops T w'.table) (is.tree h' w' v shows_new shown) after))

  host_step_keeps : (i : Instance) (n : ℕ) (h : H) (c : Configuration) (ev : Event) (h' : H) (c' : Configuration) → Step H CallsH i n h c ev h' c' → KeptBy h → KeptBy h'
  host_step_keeps i n h c ev h' c' (plain_step r) k = k
  host_step_keeps i n h c ev h' c' (free_step r) k = k
  host_step_keeps i n h c ev h' c' (host_answers {call = x} args vs callee all count a) k = host_call_keeps x h h' _ _ _ _ _ a k
  host_step_keeps i n h c ev h' c' (host_exits {call = x} args vs callee all count a) k = host_call_keeps x h h' _ _ _ _ _ a k
  host_step_keeps i n h c ev h' c' (in_label s) k = host_step_keeps i n h _ ev h' _ s k
  host_step_keeps i n h c ev h' c' (in_frame s) k = host_step_keeps i _ h _ ev h' _ s k

  host_reach_keeps : (i : Instance) (h : H) (c : Configuration) (answers : List (HostCall × Errno)) (h' : H) (c' : Configuration) → Reach H CallsH i h c answers h' c' → KeptBy h → KeptBy h'
  host_reach_keeps i h c answers h' c' stays k = k
  host_reach_keeps i h c answers h' c' (goes {h' = g} {c' = d} ev later s r) k = host_reach_keeps i g d later h' c' r (host_step_keeps i 0 h c ev g d s k)

pub confines_host : {H : Type 0} (CallsH : CallsOf H) (shows : H → World → Type 0) (honest : H → Type 0) → ConfinesHost CallsH shows honest
confines_host CallsH shows honest i h h' w w' c c' answers is is_honest shown begins reach shown_after =
    let d = directories_first w begins in
    let kept = λ (v : World) (s : shows h v). subst (λ (t : Table). Holds w.tree (named_by w.table) v.tree t) (is.table h w v shown s)
    (subst (λ (T : Tree). Holds w.tree (named_by w.table) T w.table) (is.tree h w v shown s) (first w begins)) in
    confined w.tree begins.tree (named_by w.table) d (decided w begins) w'
    ((host_reach_keeps w.tree begins.tree (named_by w.table) d (decided w begins) CallsH shows honest is i h c answers h' c' reach (is_honest, kept)).1 w' shown_after)

-- a world is such a host, which shows itself
pub world_is_host : IsHostOf Calls (λ (h w : World). w ≡ h) (λ (h : World). Unit {0})
world_is_host = record {
  tree = λ h v w is also. ap (λ (w : World). w.tree) (is ∙ sym also);
  table = λ h v w is also. ap (λ (w : World). w.table) (is ∙ sym also);
  answers = λ h h' m m' used x args answer always a. (tt, (h, h', refl, refl, a));
}
