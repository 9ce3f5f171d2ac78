-- What a walk from a descriptor reaches, and what the calls of the tree on it keep.
use Rattle.std.proofs.Common.{is_some, ◌≡◌, ◌≢◌, ℕ, Bool, true, false, not, ◌&&◌, ◌==◌, List, [], ◌∷◌, length, Option, Some, None, Result, Ok, refl, sym, ◌∙◌, ap, subst, inl, inr}
use Rattle.std.specs.Option.{option_map_or}
use Rattle.std.proofs.lemmas.Option.{none-some}
use Rattle.std.proofs.lemmas.Bool.{cases_eq, cases_Bool, cond-false, false≢true, eq-eqb, ne_eqb}
use Rattle.vol_inode.specs.Name.{IsName}
use Rattle.vol_tree.specs.declared.errno.Errno.{Errno}
use Rattle.std.specs.Prelude.{nat_lt}
use Rattle.vol_inode.specs.Space.{size_limit}
use Rattle.vol_tree.specs.declared.errno.Errno.TheVariants as errno
use Rattle.vol_tree.specs.Space.{Geometry, space}
use Rattle.vol_tree.specs.Tree.{Tree, Path, Name, File, Entry as TreeEntry, entry, changed, lookup, is_empty, Leads, IsTree, IsDirectory}
use Rattle.vol_tree.specs.Calls.{is_directory, directory_at, with_bytes, if_it_fits, written, resized, renamed, moved, moved_onto, is_within}
use Rattle.vol_tree.proofs.Entries.{entry-changed_same, entry-changed_other}
use Rattle.vol_tree.proofs.Lookups.{looked_up}
use Rattle.vol_tree.proofs.Grows.{not_there}
use Rattle.vol_tree.proofs.Within.{within_below}
use Rattle.path_walk.specs.Paths.{Reached, Found, Missing, path_read, resolved, names_left}
use Rattle.path_walk.proofs.Walks.{walks_below, missing_below, missing_free}
use Rattle.path_walk.proofs.Names.{read_names}
use Rattle.wasi_fd.specs.declared.descriptor.Descriptor.TheVariants.{Entry}
use Rattle.wasi_fd.specs.declared.descriptor.Opened.{Opened}
use Rattle.wasi_bodies.specs.World.{World, held_open, is_of}
use Rattle.wasi_bodies.specs.Checks.{walk}
use Rattle.wasi_bodies.specs.laws.Confined.{Tops, IsOutside}
use Rattle.vol_tree.proofs.Trees.{Childless, is_directory_at, directory_is, empty_childless, file_childless}
use Rattle.wasi_bodies.proofs.runs.HeldAlongRuns.{Holds, below_not_root, inside_below, keeps_rewritten, keeps_removed, keeps_moved}
use Rattle.wasi_fd.specs.declared.table.TheConstants.{PLACES}
use Rattle.wasi_bodies.proofs.checks.Passing.{passes_on, not_held, walked_to}

pub live_below : (T : Tree) (d s : ℕ) (e : TreeEntry) → entry T d ≡ Some e → (path : Path) → Leads T d path s → (f : TreeEntry) × (entry T s ≡ Some f)
live_below T d s e used [] g = (e, ap (entry T) g ∙ used)
live_below T d s e used (n ∷ path) g = (g.0, g.1)

-- strictly below: by at least one name
pub strictly : (T : Tree) (d s : ℕ) (path : Path) → Leads T d path s → d ≢ s → (n : Name) × (up : Path) × Leads T d (n ∷ up) s
strictly T d s [] g apart = absurd (apart (sym g))
strictly T d s (n ∷ path) g apart = (n, path, g)

-- nothing is below an entry without children
pub only_itself : (T : Tree) (s : ℕ) → Childless T s → (path : Path) (x : ℕ) → Leads T s path x → x ≡ s
only_itself T s childless [] x g = g
only_itself T s childless (n ∷ path) x g = absurd (childless x g.0 g.1 (only_itself T s childless path g.0.parent g.3))

module _ (T0 : Tree) (t0 : IsTree T0) (tops : Tops) (directories : (top : ℕ) → tops top → IsDirectory T0 top) where
  abbrev pub W : World → Type 0
  W w = Holds T0 tops w.tree w.table

  -- what a walk finds is there, below the directory, and not outside
  pub record IsFound (w : World) (o : Opened) (s : ℕ) : Type 0 where
    pub path : Path
    pub leads : Leads w.tree o.serial path s
    pub e : TreeEntry
    pub used : entry w.tree s ≡ Some e
    pub inside : IsOutside T0 tops s → ⊥

  pub record IsMissed (w : World) (o : Opened) (parent : ℕ) (name : Name) : Type 0 where
    pub path : Path
    pub leads : Leads w.tree o.serial path parent
    pub inside : IsOutside T0 tops parent → ⊥
    pub directory : IsDirectory w.tree parent
    pub free : lookup w.tree parent name ≡ None
    pub is_name : IsName name

  abbrev pub IsReached : World → Opened → Reached → Type 0
  IsReached w o (Found s) = IsFound w o s
  IsReached w o (Missing parent name) = IsMissed w o parent name

  pub found_from : (w : World) (fd : ℕ) (o : Opened) → W w → w.table fd ≡ Some (Entry o) → (path : Path) (s : ℕ) → Leads w.tree o.serial path s → IsFound w o s
  found_from w fd o h g path s leads =
      let good = h.named fd o g in
      let live = live_below w.tree o.serial s good.e good.used path leads in
      record {
        path = path;
        leads = leads;
        e = live.0;
        used = live.1;
        inside = inside_below T0 t0 tops directories w.tree w.table h o.serial good.e good.used good.inside path s leads;
      }

  pub reached_as : (w : World) (fd : ℕ) (o : Opened) (text : List ℕ) (names : List Name) (wants : Bool) → W w → w.table fd ≡ Some (Entry o) → path_read text ≡ Ok names
      → (r : Reached) → resolved w.tree o.serial wants names ≡ Ok r → IsReached w o r
  reached_as w fd o text names wants h g read (Found s) is = found_from w fd o h g (names_left [] names) s (walks_below w.tree o.serial s wants names is)
  reached_as w fd o text names wants h g read (Missing parent name) is =
      let below = missing_below w.tree o.serial parent name wants names is in
      let m = missing_free w.tree o.serial parent name wants names is in
      let f = found_from w fd o h g below.0 parent below.1 in
      record {
        path = below.0;
        leads = below.1;
        inside = f.inside;
        directory = directory_is w.tree parent m.directory;
        free = m.free;
        is_name = read_names text names name read m.asked m.no_dots;
      }

  pub reaches : (w : World) (fd : ℕ) (o : Opened) (text : List ℕ) (r : Reached) → W w → w.table fd ≡ Some (Entry o) → walk w o text ≡ Ok r → IsReached w o r
  reaches w fd o text r h g walked =
      let to = walked_to w o text r walked in
      reached_as w fd o text to.0 _ h g to.1 r to.2

  -- ---- removing

  held : (w : World) (s : ℕ) → W w → held_open w s ≡ false → (fd : ℕ) (o : Opened) → w.table fd ≡ Some (Entry o) → o.serial ≢ s
  held w s h free fd o g same =
      let good = h.named fd o g in
      false≢true (sym (not_held PLACES s w.table free fd good.few) ∙ (ap (is_of s) g ∙ eq-eqb o.serial s same))

  -- an entry that is below a descriptor's: it is no root, and it stands in one that is not outside
  pub record IsBelow (w : World) (s : ℕ) : Type 0 where
    pub e : TreeEntry
    pub used : entry w.tree s ≡ Some e
    pub not_top : s ≢ 1
    pub inside : IsOutside T0 tops s → ⊥
    pub above : IsOutside T0 tops e.parent → ⊥

  pub is_below : (w : World) (fd : ℕ) (o : Opened) (s : ℕ) → W w → w.table fd ≡ Some (Entry o) → IsFound w o s → o.serial ≢ s → IsBelow w s
  is_below w fd o s h g f apart =
      let good = h.named fd o g in
      let strict = strictly w.tree o.serial s f.path f.leads apart in
      record {
        e = strict.2.0;
        used = strict.2.1;
        not_top = below_not_root w.tree h.tree o.serial good.e good.used strict.0 strict.1 s strict.2;
        inside = f.inside;
        above = inside_below T0 t0 tops directories w.tree w.table h o.serial good.e good.used good.inside strict.1 strict.2.0.parent strict.2.3;
      }

  pub not_its_own : (w : World) (fd : ℕ) (o : Opened) (s : ℕ) → W w → w.table fd ≡ Some (Entry o) → held_open w s ≡ false → o.serial ≢ s
  not_its_own w fd o s h g free = held w s h free fd o g

  pub removes : (w : World) (s : ℕ) → W w → (b : IsBelow w s) → held_open w s ≡ false → Childless w.tree s → Holds T0 tops (changed w.tree s None) w.table
  removes w s h b free childless =
      keeps_removed T0 t0 tops directories w.tree w.table s b.e h b.used b.not_top b.inside b.above childless (held w s h free)

  -- ---- bytes

  pub rewrites : (w : World) (s : ℕ) (e : TreeEntry) (bytes : List ℕ) (U : Tree) → W w → (IsOutside T0 tops s → ⊥) → entry w.tree s ≡ Some e → is_directory e.node ≡ false
      → with_bytes w.tree s bytes ≡ U → Holds T0 tops U w.table
  rewrites w s e bytes U h inside used file is =
      let new : Option TreeEntry → Tree = λ o. option_map_or (λ (e : TreeEntry). changed w.tree s (Some (record e { node = File bytes }))) o w.tree in
      subst (λ (U : Tree). Holds T0 tops U w.table) (sym (ap new used) ∙ is)
      (keeps_rewritten T0 t0 tops directories w.tree w.table s e bytes h inside used file)

  same_tree : (x y : Tree) → ◌≡◌ {A = Result Tree Errno} (Ok x) (Ok y) → x ≡ y
  same_tree x y h = cc

  pub fits : (v : Geometry) (T U : Tree) (s : ℕ) (bytes : List ℕ) → if_it_fits v T s bytes ≡ Ok U → with_bytes T s bytes ≡ U
  fits v T U s bytes h =
      let one = passes_on (nat_lt (size_limit v.version) (length bytes)) errno.TooBig _ U h in
      let two = passes_on (nat_lt v.data_sectors (space (with_bytes T s bytes))) errno.NoSpace _ U one.1 in
      same_tree _ U two.1

  pub writes : (w : World) (s : ℕ) (e : TreeEntry) (at : ℕ) (bytes : List ℕ) (U : Tree) → W w → (IsOutside T0 tops s → ⊥) → entry w.tree s ≡ Some e → is_directory e.node ≡ false
      → written w.volume w.tree s at bytes ≡ Ok U → Holds T0 tops U w.table
  writes w s e at [] U h inside used file is = let same : w.tree ≡ U = cc in subst (λ (U : Tree). Holds T0 tops U w.table) same h
  writes w s e at (b ∷ bytes) U h inside used file is = rewrites w s e _ U h inside used file (fits w.volume w.tree U s _ is)

  pub resizes : (w : World) (s : ℕ) (e : TreeEntry) (size : ℕ) (U : Tree) → W w → (IsOutside T0 tops s → ⊥) → entry w.tree s ≡ Some e → is_directory e.node ≡ false
      → resized w.volume w.tree s size ≡ Ok U → Holds T0 tops U w.table
  resizes w s e size U h inside used file is = rewrites w s e _ U h inside used file (fits w.volume w.tree U s _ is)

  -- ---- renaming

  -- the move that a rename makes where nothing else has the name
  moved_as : (T : Tree) (s : ℕ) (e : TreeEntry) (parent : ℕ) (name : Name) → entry T s ≡ Some e → moved T s parent name ≡ changed T s (Some (record e { parent = parent; name = name }))
  moved_as T s e parent name used = ap (λ (o : Option TreeEntry). option_map_or (λ (e : TreeEntry). changed T s (Some (record e { parent = parent; name = name }))) o T) used

  -- what a rename that answers says, before it looks for the name
  abbrev pub Renames : Tree → ℕ → ℕ → Name → Tree → Type 0
  Renames T s parent name U = ((below : Path) → Leads T s below parent → ⊥)
      × (◌≡◌ {A = Result Tree Errno} (option_map_or (moved_onto T s parent name) (lookup T parent name) (Ok (moved T s parent name))) (Ok U))

  renaming : (T : Tree) → IsTree T → (s : ℕ) (e : TreeEntry) → entry T s ≡ Some e → (parent : ℕ) (name : Name) (U : Tree) → renamed T s parent name ≡ Ok U → Renames T s parent name U
  renaming T t s e used parent name U h =
      let one = passes_on (s == 1) _ _ U h in
      let two = passes_on (is_within (length T) T s parent) _ _ U one.1 in
      ((λ below leads. false≢true (sym two.0 ∙ (within_below T s parent t (ap is_some used)).1 below leads)), two.1)

  pub renames_free : (w : World) (s : ℕ) (fd : ℕ) (o : Opened) (parent : ℕ) (name : Name) (U : Tree) → W w → IsBelow w s → IsMissed w o parent name
      → renamed w.tree s parent name ≡ Ok U → Holds T0 tops U w.table
  renames_free w s fd o parent name U h b m is =
      let r = renaming w.tree h.tree s b.e b.used parent name U is in
      let onto : Option ℕ → Result Tree Errno = λ found. option_map_or (moved_onto w.tree s parent name) found (Ok (moved w.tree s parent name)) in
      let there : ◌≡◌ {A = Result Tree Errno} (Ok (moved w.tree s parent name)) (Ok U) = sym (ap onto m.free) ∙ r.1 in
      let same : moved w.tree s parent name ≡ U = cc in
      subst (λ (U : Tree). Holds T0 tops U w.table) (sym (moved_as w.tree s b.e parent name b.used) ∙ same)
      (keeps_moved T0 t0 tops directories w.tree w.table s b.e parent name h b.used b.not_top b.inside b.above m.inside m.is_name m.directory r.0
      (λ x d g p n. absurd (not_there w.tree parent name m.free x d g p n)))

  back : (T : Tree) (t : ℕ) (e : TreeEntry) → entry T t ≡ Some e → (x : ℕ) (d : TreeEntry) → entry (changed T t None) x ≡ Some d → (x ≢ t) × (entry T x ≡ Some d)
  back T t e used x d g = elim (cases_eq x t) [
    | inl same ↦ absurd (none-some d (sym (ap (entry (changed T t None)) same ∙ entry-changed_same T t e None used) ∙ g))
    | inr apart ↦ (apart, sym (entry-changed_other T t x None apart) ∙ g)
  ]

  leads_back : (T : Tree) (t : ℕ) (e : TreeEntry) → entry T t ≡ Some e → (a : ℕ) (path : Path) (x : ℕ) → Leads (changed T t None) a path x → Leads T a path x
  leads_back T t e used a [] x g = g
  leads_back T t e used a (n ∷ path) x g = (g.0, (back T t e used x g.0 g.1).1, g.2, leads_back T t e used a path g.0.parent g.3)

  -- a move onto another entry: that one goes first
  replaces : (w : World) (s t : ℕ) (U : Tree) → W w → IsBelow w s → (b : IsBelow w t) → t ≢ s → held_open w t ≡ false → Childless w.tree t
      → ((below : Path) → Leads w.tree s below b.e.parent → ⊥) → moved (changed w.tree t None) s b.e.parent b.e.name ≡ U → Holds T0 tops U w.table
  replaces w s t U h a b apart free childless outside is =
      let T : Tree = changed w.tree t None in
      let gone : Holds T0 tops T w.table = removes w t h b free childless in
      let used : entry T s ≡ Some a.e = entry-changed_other w.tree t s None (λ same. apart (sym same)) ∙ a.used in
      let above = h.tree.inside t b.e b.used b.not_top in
      let directory : IsDirectory T b.e.parent = (above.0, entry-changed_other w.tree t b.e.parent None (childless t b.e b.used) ∙ above.1, above.2) in
      subst (λ (U : Tree). Holds T0 tops U w.table) (sym (moved_as T s a.e b.e.parent b.e.name used) ∙ is)
      (keeps_moved T0 t0 tops directories T w.table s a.e b.e.parent b.e.name gone used a.not_top a.inside a.above b.above (h.tree.named t b.e b.used b.not_top) directory
      (λ below leads. outside below (leads_back w.tree t b.e b.used s below b.e.parent leads))
      (λ x d g p n. let was = back w.tree t b.e b.used x d g in absurd (was.0 (h.tree.apart x t d b.e was.1 b.used p n))))

  -- the entry of a name in a directory is the one that has it
  finds : (T : Tree) → IsTree T → (t : ℕ) (e : TreeEntry) → entry T t ≡ Some e → (o : Option ℕ) → lookup T e.parent e.name ≡ o → o ≡ Some t
  finds T tree t e used None is = absurd (not_there T e.parent e.name is t e used refl refl)
  finds T tree t e used (Some x) is = let l = looked_up T e.parent x e.name is in ap Some (tree.apart x t l.0 e l.1 used l.2 l.3)

  empty_or_file : (T : Tree) → IsTree T → (t : ℕ) (e : TreeEntry) → entry T t ≡ Some e → (directory_at T t ≡ true → is_empty T t ≡ true) → Childless T t
  empty_or_file T tree t e used empty = elim (cases_Bool (directory_at T t)) [
    | inl directory ↦ empty_childless T t (empty directory)
    | inr file ↦ file_childless T tree t e used (sym (is_directory_at T t e used) ∙ file)
  ]

  empty_there : (d empty : Bool) → (d && not empty) ≡ false → d ≡ true → empty ≡ true
  empty_there d true h is = refl
  empty_there true false h is = absurd (false≢true (sym h))
  empty_there false false h is = absurd (false≢true is)

  pub renames_onto : (w : World) (s t : ℕ) (U : Tree) → W w → IsBelow w s → (b : IsBelow w t) → t ≢ s → held_open w t ≡ false
      → renamed w.tree s b.e.parent b.e.name ≡ Ok U → Holds T0 tops U w.table
  renames_onto w s t U h a b apart free is =
      let T : Tree = w.tree in
      let parent : ℕ = b.e.parent in
      let name : Name = b.e.name in
      let r = renaming T h.tree s a.e a.used parent name U is in
      let onto : Option ℕ → Result Tree Errno = λ found. option_map_or (moved_onto T s parent name) found (Ok (moved T s parent name)) in
      let there : moved_onto T s parent name t ≡ Ok U = sym (ap onto (finds T h.tree t b.e b.used (lookup T parent name) refl)) ∙ r.1 in
      let other : (t == s) ≡ false = ne_eqb t s apart in
      let zero = sym (cond-false _ _ _ other) ∙ there in
      let one = passes_on (directory_at T s && not (directory_at T t)) errno.NotDirectory _ U zero in
      let two = passes_on (not (directory_at T s) && directory_at T t) errno.IsDirectory _ U one.1 in
      let three = passes_on (directory_at T t && not (is_empty T t)) errno.NotEmpty _ U two.1 in
      let same : moved (changed T t None) s parent name ≡ U = same_tree _ U three.1 in
      let childless : Childless T t = empty_or_file T h.tree t b.e b.used (empty_there (directory_at T t) (is_empty T t) three.0) in
      replaces w s t U h a b apart free childless r.0 same
