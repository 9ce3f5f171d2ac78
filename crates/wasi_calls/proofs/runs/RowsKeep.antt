-- Each row keeps what holds.
use Rattle.std.proofs.Common.{◌≡◌, ℕ, Bool, true, false, cond, not, ◌&&◌, ◌==◌, List, [], take, Option, Some, None, Result, Ok, Err, refl, sym, ◌∙◌, ap, subst, arith}
use Rattle.std.proofs.lemmas.Option.{none-some}
use Rattle.std.proofs.lemmas.Bool.{false≢true, and_parts, eq-eqb}
use Rattle.vol_tree.specs.Tree.{Tree, Name, Directory, File, Entry as TreeEntry, entry, changed, IsTree, IsDirectory, is_empty}
use Rattle.vol_body.specs.Bytes.{resized_bytes}
use Rattle.vol_tree.specs.Calls.{is_directory, directory_at, renamed, resized, bytes_at}
use Rattle.std.specs.Option.{option_map_or}
use Rattle.vol_tree.proofs.Entries.{entry-changed_same}
use Rattle.vol_tree.specs.declared.errno.Errno.{Errno}
use Rattle.vol_tree.specs.declared.errno.Errno.TheVariants as errno
use Rattle.path_walk.specs.Paths.{Reached, Found, Missing}
use Rattle.wasi_fd.specs.declared.descriptor.Stream.{Stream as StreamValue}
use Rattle.wasi_fd.specs.declared.descriptor.Stream.TheVariants.{Input, Output, Error}
use Rattle.wasi_fd.specs.declared.descriptor.Descriptor.{Descriptor}
use Rattle.wasi_fd.specs.declared.descriptor.Descriptor.TheVariants.{Stream, Entry}
use Rattle.wasi_fd.specs.declared.descriptor.EntryKind.TheVariants as kinds
use Rattle.wasi_fd.specs.declared.descriptor.Opened.{Opened}
use Rattle.wasi_fd.specs.Table.{Table}
use Rattle.wasm_store.specs.declared.call.HostCall.{HostCall}
use Rattle.wasm_store.specs.declared.call.HostCall.TheVariants as call
use Rattle.wasi_bodies.specs.World.{World, with_descriptor, moved_to, with_output, held_open}
use Rattle.wasi_bodies.specs.Checks.{Done, walk, found, no_directories, only_files, sized, of_kind}
use Rattle.wasi_bodies.specs.supplies.Rows.{sizes_get, texts_get, clock_res_get, clock_time_get, random_get}
use Rattle.wasi_bodies.specs.descriptors.Rows.{fd_close, fd_fdstat_get, fd_filestat_get, fd_prestat_get, fd_prestat_dir_name, fd_seek, fd_tell}
use Rattle.wasi_bodies.specs.files.Rows.{fd_read, fd_pread, fd_write, fd_pwrite, fd_filestat_set_size, fd_sync, fd_readdir, read_from, write_to, stream_write, file_write}
use Rattle.wasi_bodies.specs.paths.Rows.{path_create_directory, path_filestat_get, path_open, path_remove_directory, path_rename, path_unlink_file, missing, open_entry, rename_to, is_set, trunc}
use Rattle.wasi_bodies.specs.Calls.{row, word, long}
use Rattle.wasi_bodies.specs.laws.Confined.{Tops, IsOutside}
use Rattle.wasi_bodies.proofs.checks.Chains.{Yields, after, guarded, yields, known, chosen, answered}
use Rattle.vol_tree.proofs.Trees.{Childless, is_directory_at, empty_childless, file_childless}
use Rattle.vol_body.specs.declared.writing.TheConstants.{PIECE}
use Rattle.wasi_bodies.proofs.runs.HeldAlongRuns.{is_directory_kind, IsGood, Holds, keeps_at, keeps_created}
use Rattle.wasi_bodies.proofs.checks.Passing.{same_Ok, ok_or_some, tree_called, passes_on, not_true, not_false, described, entered, opened_is, is_file_kind, same_entry, least_closed_below, found_is}
use Rattle.wasi_fd.specs.declared.table.TheConstants.{PLACES}
use Rattle.wasi_paths.proofs.runs.ReachedEntries.{W, IsFound, IsReached, IsBelow, reaches, is_below, not_its_own, removes, writes, resizes, renames_free, renames_onto, fits}

module _ (T0 : Tree) (t0 : IsTree T0) (tops : Tops) (directories : (top : ℕ) → tops top → IsDirectory T0 top) where
  abbrev D : Done → Type 0
  D d = W T0 t0 tops directories d.world

  abbrev H : World → Type 0
  H w = W T0 t0 tops directories w

  -- ---- supplies

  sizes : (texts : List (List ℕ)) (w : World) (m : List ℕ) (a b : ℕ) → H w → Yields D (sizes_get texts w m a b)
  sizes texts w m a b h = guarded _ _ _ _ (λ p. guarded _ _ _ _ (λ q. yields _ _ h))

  texts_of : (texts : List (List ℕ)) (w : World) (m : List ℕ) (a b : ℕ) → H w → Yields D (texts_get texts w m a b)
  texts_of texts w m a b h = guarded _ _ _ _ (λ p. guarded _ _ _ _ (λ q. yields _ _ h))

  clock_res : (w : World) (m : List ℕ) (a b : ℕ) → H w → Yields D (clock_res_get w m a b)
  clock_res w m a b h = guarded _ _ _ _ (λ p. guarded _ _ _ _ (λ q. yields _ _ h))

  clock_time : (w : World) (m : List ℕ) (u a b : ℕ) → H w → Yields D (clock_time_get w m u a b)
  clock_time w m u a b h = guarded _ _ _ _ (λ p. guarded _ _ _ _ (λ q. yields _ _ h))

  random : (w : World) (m : List ℕ) (a b : ℕ) → H w → Yields D (random_get w m a b)
  random w m a b h = guarded _ _ _ _ (λ p. guarded _ _ _ _ (λ q. yields _ _ h))

  -- ---- descriptors

  -- the same descriptor at another position
  repositioned : (w : World) (fd : ℕ) (o : Opened) (at : ℕ) → H w → w.table fd ≡ Some (Entry o) → H (with_descriptor fd (moved_to o at) w)
  repositioned w fd o at h g = keeps_at T0 t0 tops directories w.tree w.table fd (moved_to o at) h (λ p is.
      let same : record o { position = at } ≡ p = same_entry (record o { position = at }) p is in
      let good = h.named fd o g in
      subst (IsGood T0 tops w.tree fd) same (record { few = good.few; e = good.e; used = good.used; kind = good.kind; inside = good.inside }))

  close : (w : World) (fd : ℕ) → H w → Yields D (fd_close w fd)
  close w fd h = after _ _ _ (λ d is. yields _ _ (keeps_at T0 t0 tops directories w.tree w.table fd None h (λ o none. absurd (none-some (Entry o) none))))

  fdstat : (w : World) (m : List ℕ) (fd r : ℕ) → H w → Yields D (fd_fdstat_get w m fd r)
  fdstat w m fd r h = after _ _ _ (λ d is. guarded _ _ _ _ (λ p. yields _ _ h))

  filestat : (w : World) (m : List ℕ) (fd r : ℕ) → H w → Yields D (fd_filestat_get w m fd r)
  filestat w m fd r h = after _ _ _ (λ d is. guarded _ _ _ _ (λ p. after _ _ _ (λ b q. yields _ _ h)))

  prestat : (w : World) (m : List ℕ) (fd r : ℕ) → H w → Yields D (fd_prestat_get w m fd r)
  prestat w m fd r h = after _ _ _ (λ d is. after _ _ _ (λ n p. guarded _ _ _ _ (λ q. yields _ _ h)))

  prestat_name : (w : World) (m : List ℕ) (fd p len : ℕ) → H w → Yields D (fd_prestat_dir_name w m fd p len)
  prestat_name w m fd p len h = after _ _ _ (λ d is. after _ _ _ (λ n q. guarded _ _ _ _ (λ r. guarded _ _ _ _ (λ s. yields _ _ h))))

  seek : (w : World) (m : List ℕ) (fd delta whence r : ℕ) → H w → Yields D (fd_seek w m fd delta whence r)
  seek w m fd delta whence r h = after _ _ _ (λ d is. after _ _ _ (λ k q. guarded _ _ _ _ (λ a. guarded _ _ _ _ (λ b. guarded _ _ _ _ (λ c.
      after _ _ _ (λ o opens. after _ _ _ (λ from f. after _ _ _ (λ at g. guarded _ _ _ _ (λ l.
      yields _ _ (repositioned w fd o at h (ok_or_some (w.table fd) 8 d is ∙ ap Some (opened_is d o opens))))))))))))

  tell : (w : World) (m : List ℕ) (fd r : ℕ) → H w → Yields D (fd_tell w m fd r)
  tell w m fd r h = after _ _ _ (λ d is. after _ _ _ (λ k q. guarded _ _ _ _ (λ a. guarded _ _ _ _ (λ b. after _ _ _ (λ o p. yields _ _ h)))))

  -- ---- bytes

  reads : (w : World) (fd : ℕ) (d : Descriptor) (len : ℕ) → H w → w.table fd ≡ Some d → Yields (λ (r : World × List ℕ). H r.0) (read_from w fd d len)
  reads w fd (Stream s) len h g = guarded _ _ _ _ (λ p. yields _ _ h)
  reads w fd (Entry o) len h g = after _ _ _ (λ bytes p. yields _ _ (repositioned w fd o _ h g))

  read : (w : World) (m : List ℕ) (fd a b c : ℕ) → H w → Yields D (fd_read w m fd a b c)
  read w m fd a b c h = after _ _ _ (λ d is. after _ _ _ (λ bs p. guarded _ _ _ _ (λ q. after _ _ _ (λ r r_is.
      yields _ _ (known _ _ _ (reads w fd d _ h (described w fd _ _ d is).0) r_is)))))

  pread : (w : World) (m : List ℕ) (fd a b c e : ℕ) → H w → Yields D (fd_pread w m fd a b c e)
  pread w m fd a b c e h = after _ _ _ (λ d is. after _ _ _ (λ bs p. guarded _ _ _ _ (λ q. after _ _ _ (λ r r_is. yields _ _ h))))

  output_holds : (w : World) (s : StreamValue) (bytes : List ℕ) → H w → H (with_output w s bytes)
  output_holds w Input bytes h = h
  output_holds w Output bytes h = h
  output_holds w Error bytes h = h

  -- an open file
  pub file_of : (w : World) (fd : ℕ) (o : Opened) → H w → w.table fd ≡ Some (Entry o) → is_directory_kind o.kind ≡ false
      → (e : TreeEntry) × (entry w.tree o.serial ≡ Some e) × (is_directory e.node ≡ false) × (IsOutside T0 tops o.serial → ⊥)
  file_of w fd o h g file = let good = h.named fd o g in (good.e, good.used, good.kind ∙ file, good.inside)

  abbrev Kept : World → World × ℕ → Type 0
  Kept w r = H r.0 × (r.0.table ≡ w.table)

  file_writes : (w : World) (fd : ℕ) (o : Opened) (at : ℕ) (bytes : List ℕ) → H w → w.table fd ≡ Some (Entry o) → is_directory_kind o.kind ≡ false
      → Yields (Kept w) (file_write w o at bytes)
  file_writes w fd o at bytes h g file = after _ _ _ (λ U is.
      let f = file_of w fd o h g file in
      yields _ _ (writes T0 t0 tops directories w o.serial f.0 at (take PIECE bytes) U h f.3 f.1 f.2 (tree_called w _ U is), refl))

  stream_writes : (w : World) (s : StreamValue) (bytes : List ℕ) → H w → Yields (λ (r : World × ℕ). H r.0) (stream_write w (Stream s) bytes)
  stream_writes w s bytes h = guarded _ _ _ _ (λ p. yields _ _ (output_holds w s bytes h))

  moved_on : (w v : World) (fd : ℕ) (o : Opened) (at : ℕ) (b : Bool) → H v → v.table ≡ w.table → w.table fd ≡ Some (Entry o) → H (cond b v (with_descriptor fd (moved_to o at) v))
  moved_on w v fd o at true h same g = h
  moved_on w v fd o at false h same g = repositioned v fd o at h (ap (λ (t : Table). t fd) same ∙ g)

  write_holds : (w : World) (fd : ℕ) (d : Descriptor) (bytes : List ℕ) → H w → w.table fd ≡ Some d → of_kind no_directories d ≡ Ok tt
      → Yields (λ (r : World × ℕ). H r.0) (write_to w fd d bytes)
  write_holds w fd (Stream s) bytes h g k = stream_writes w s bytes h
  write_holds w fd (Entry o) bytes h g k = after _ _ _ (λ r r_is.
      let kept = known (Kept w) _ r (file_writes w fd o _ bytes h g (is_file_kind no_directories 31 refl o.kind k)) r_is in
      yields _ _ (moved_on w r.0 fd o _ (r.1 == 0) kept.0 kept.1 g))

  write : (w : World) (m : List ℕ) (fd a b c : ℕ) → H w → Yields D (fd_write w m fd a b c)
  write w m fd a b c h = after _ _ _ (λ d is. after _ _ _ (λ bs p. guarded _ _ _ _ (λ q. after _ _ _ (λ r r_is.
      let of = described w fd _ _ d is in
      yields _ _ (known _ _ _ (write_holds w fd d _ h of.0 of.1) r_is)))))

  pwrite : (w : World) (m : List ℕ) (fd a b c e : ℕ) → H w → Yields D (fd_pwrite w m fd a b c e)
  pwrite w m fd a b c e h = after _ _ _ (λ o is. after _ _ _ (λ bs p. guarded _ _ _ _ (λ q. after _ _ _ (λ r r_is.
      let of = entered w fd _ _ o is in
      yields _ _ (known (Kept w) _ r (file_writes w fd o _ _ h of.0 (is_file_kind only_files 31 refl o.kind of.1)) r_is).0))))

  set_size : (w : World) (fd size : ℕ) → H w → Yields D (fd_filestat_set_size w fd size)
  set_size w fd size h = after _ _ _ (λ o is. after _ _ _ (λ U U_is.
      let of = entered w fd _ _ o is in
      let f = file_of w fd o h of.0 (is_file_kind sized 31 refl o.kind of.1) in
      yields _ _ (resizes T0 t0 tops directories w o.serial f.0 size U h f.3 f.1 f.2 (tree_called w _ U U_is))))

  sync : (w : World) (fd right : ℕ) → H w → Yields D (fd_sync w fd right)
  sync w fd right h = after _ _ _ (λ o is. after _ _ _ (λ u p. yields _ _ h))

  readdir : (w : World) (m : List ℕ) (fd a b c e : ℕ) → H w → Yields D (fd_readdir w m fd a b c e)
  readdir w m fd a b c e h = after _ _ _ (λ o is. guarded _ _ _ _ (λ p. guarded _ _ _ _ (λ q. after _ _ _ (λ all r. yields _ _ h))))

  -- ---- paths

  missing_is : (r : Reached) (p : ℕ × Name) → missing r ≡ Ok p → r ≡ Missing p.0 p.1
  missing_is (Found s) p h = cc
  missing_is (Missing parent name) p h = let same : (parent, name) ≡ p = same_Ok (parent, name) p h in ap (λ (p : ℕ × Name). Missing p.0 p.1) same

  reached : (w : World) (fd : ℕ) (o : Opened) (text : List ℕ) (r : Reached) → H w → w.table fd ≡ Some (Entry o) → walk w o text ≡ Ok r → IsReached T0 t0 tops directories w o r
  reached w fd o text r h g is = reaches T0 t0 tops directories w fd o text r h g is

  found_at : (w : World) (fd : ℕ) (o : Opened) (text : List ℕ) (r : Reached) (s : ℕ) → H w → w.table fd ≡ Some (Entry o) → walk w o text ≡ Ok r → found r ≡ Ok s → IsFound T0 t0 tops directories w o s
  found_at w fd o text r s h g walked is =
      subst (IsReached T0 t0 tops directories w o) (found_is r s is) (reached w fd o text r h g walked)

  create_directory : (w : World) (m : List ℕ) (fd a b : ℕ) → H w → Yields D (path_create_directory w m fd a b)
  create_directory w m fd a b h = after _ _ _ (λ o is. guarded _ _ _ _ (λ p. after _ _ _ (λ r r_is. after _ _ _ (λ place place_is. after _ _ _ (λ made made_is.
      let of = entered w fd _ _ o is in
      let at = subst (IsReached T0 t0 tops directories w o) (missing_is r place place_is) (reached w fd o _ r h of.0 r_is) in
      yields _ _ (keeps_created T0 t0 tops directories w.tree made.0 w.table place.0 made.1 place.1 Directory h at.inside at.is_name at.directory (tree_called w _ made made_is)).0)))))

  path_stat : (w : World) (m : List ℕ) (fd a b c : ℕ) → H w → Yields D (path_filestat_get w m fd a b c)
  path_stat w m fd a b c h = after _ _ _ (λ o is. guarded _ _ _ _ (λ p. guarded _ _ _ _ (λ q. after _ _ _ (λ r r_is. after _ _ _ (λ s s_is. after _ _ _ (λ bytes t. yields _ _ h))))))

  same_tree : (x y : Tree) → ◌≡◌ {A = Result Tree Errno} (Ok x) (Ok y) → x ≡ y
  same_tree x y h = cc

  -- what a call removes is below its descriptor's directory, which is held
  removed : (w : World) (fd : ℕ) (o : Opened) (s : ℕ) (U : Tree) → H w → w.table fd ≡ Some (Entry o) → IsFound T0 t0 tops directories w o s → held_open w s ≡ false
      → ((e : TreeEntry) → entry w.tree s ≡ Some e → Childless w.tree s) → changed w.tree s None ≡ U → Holds T0 tops U w.table
  removed w fd o s U h g f free childless is =
      let b = is_below T0 t0 tops directories w fd o s h g f (not_its_own T0 t0 tops directories w fd o s h g free) in
      subst (λ (U : Tree). Holds T0 tops U w.table) is (removes T0 t0 tops directories w s h b free (childless b.e b.used))

  remove_directory : (w : World) (m : List ℕ) (fd a b : ℕ) → H w → Yields D (path_remove_directory w m fd a b)
  remove_directory w m fd a b h = after _ _ _ (λ o is. guarded _ _ _ _ (λ p. after _ _ _ (λ r r_is. after _ _ _ (λ s s_is. guarded _ _ _ _ (λ directory. guarded _ _ _ _ (λ free.
      after _ _ _ (λ U U_is.
      let of = entered w fd _ _ o is in
      let one = passes_on (s == 1) errno.Invalid _ U (tree_called w _ U U_is) in
      let two = passes_on (not (is_empty w.tree s)) errno.NotEmpty _ U one.1 in
      yields _ _ (removed w fd o s U h of.0 (found_at w fd o _ r s h of.0 r_is s_is) (not_true _ free)
      (λ e used. empty_childless w.tree s (not_false _ two.0)) (same_tree _ U two.1)))))))))

  unlink : (w : World) (m : List ℕ) (fd a b : ℕ) → H w → Yields D (path_unlink_file w m fd a b)
  unlink w m fd a b h = after _ _ _ (λ o is. guarded _ _ _ _ (λ p. after _ _ _ (λ r r_is. after _ _ _ (λ s s_is. guarded _ _ _ _ (λ file. guarded _ _ _ _ (λ free.
      after _ _ _ (λ U U_is.
      let of = entered w fd _ _ o is in
      yields _ _ (removed w fd o s U h of.0 (found_at w fd o _ r s h of.0 r_is s_is) (not_true _ free)
      (λ e used. file_childless w.tree h.tree s e used (sym (is_directory_at w.tree s e used) ∙ not_true _ file)) (same_tree _ U (tree_called w _ U U_is))))))))))

  -- ---- path_open

  -- the entry is there in the new tree, and it is not outside
  pub record IsMade (w : World) (made : Tree × ℕ) : Type 0 where
    pub holds : Holds T0 tops made.0 w.table
    pub e : TreeEntry
    pub used : entry made.0 made.1 ≡ Some e
    pub inside : IsOutside T0 tops made.1 → ⊥

  resized_there : (w : World) (s : ℕ) (e : TreeEntry) (size : ℕ) (U : Tree) → entry w.tree s ≡ Some e → resized w.volume w.tree s size ≡ Ok U → (f : TreeEntry) × (entry U s ≡ Some f)
  resized_there w s e size U used is =
      let bytes : List ℕ = resized_bytes size (bytes_at w.tree s) in
      let new : Option TreeEntry → Tree = λ o. option_map_or (λ (e : TreeEntry). changed w.tree s (Some (record e { node = File bytes }))) o w.tree in
      let U_is : changed w.tree s (Some (record e { node = File bytes })) ≡ U = sym (ap new used) ∙ fits T0 t0 tops directories w.volume w.tree U s bytes is in
      (record e { node = File bytes }, ap (λ (U : Tree). entry U s) (sym U_is) ∙ entry-changed_same w.tree s e (Some (record e { node = File bytes })) used)

  opens : (w : World) (o : Opened) (oflags : ℕ) (r : Reached) → H w → IsReached T0 t0 tops directories w o r → Yields (IsMade w) (open_entry w oflags r)
  opens w o oflags (Found s) h f = chosen _ (not (directory_at w.tree s) && is_set oflags trunc) _ _
      (λ both. after _ _ _ (λ U U_is.
      let file = sym (is_directory_at w.tree s f.e f.used) ∙ not_true _ (and_parts _ _ both).0 in
      let is = tree_called w _ U U_is in
      let there = resized_there w s f.e 0 U f.used is in
      yields _ _ (record { holds = resizes T0 t0 tops directories w s f.e 0 U h f.inside f.used file is; e = there.0; used = there.1; inside = f.inside })))
      (λ as_it_is. yields _ _ (record { holds = h; e = f.e; used = f.used; inside = f.inside }))
  opens w o oflags (Missing parent name) h m = guarded _ _ _ _ (λ alive. answered _ _ (λ made is.
      let kept = keeps_created T0 t0 tops directories w.tree made.0 w.table parent made.1 name (File []) h m.inside m.is_name m.directory is in
      record { holds = kept.0; e = record { parent = parent; name = name; node = File [] }; used = kept.1; inside = kept.2 }))

  kind_of : (b : Bool) → b ≡ is_directory_kind (cond b kinds.Directory kinds.File)
  kind_of true = refl
  kind_of false = refl

  open_path : (w : World) (m : List ℕ) (fd a b c d e f g : ℕ) → H w → Yields D (path_open w m fd a b c d e f g)
  open_path w m fd a b c d e f g h = after _ _ _ (λ o is. guarded _ _ _ _ (λ p. guarded _ _ _ _ (λ q. guarded _ _ _ _ (λ r. guarded _ _ _ _ (λ s. guarded _ _ _ _ (λ t.
      after _ _ _ (λ to to_is. after _ _ _ (λ checks c_is. after _ _ _ (λ n n_is. after _ _ _ (λ made made_is.
      let of = entered w fd _ _ o is in
      let new = known (IsMade w) _ made (opens w o c to h (reached w fd o _ to h of.0 to_is)) made_is in
      yields _ _ (keeps_at T0 t0 tops directories made.0 w.table n _ new.holds (λ p p_is.
      subst (IsGood T0 tops made.0 n) (same_entry _ p p_is) (record {
        few = omega (arith, least_closed_below PLACES 0 w.table n (ok_or_some _ 33 n n_is));
        e = new.e;
        used = new.used;
        kind = sym (is_directory_at made.0 made.1 new.e new.used) ∙ kind_of (directory_at made.0 made.1);
        inside = new.inside;
      })))))))))))))

  -- ---- path_rename

  renames : (w : World) (fd : ℕ) (o : Opened) (s : ℕ) (slash : Bool) (r : Reached) → H w → w.table fd ≡ Some (Entry o) → IsBelow T0 t0 tops directories w s
      → IsReached T0 t0 tops directories w o r → Yields (λ (U : Tree). Holds T0 tops U w.table) (rename_to w s slash r)
  renames w fd o s slash (Found t) h g a f = chosen _ (t == s) _ _
      (λ same. yields _ _ h)
      (λ other. guarded _ _ _ _ (λ p. guarded _ _ _ _ (λ q. guarded _ _ _ _ (λ r. guarded _ _ _ _ (λ free. guarded _ _ _ _ (λ u. guarded _ _ _ _ (λ alive. answered _ _ (λ U is.
      let not_open = not_true _ free in
      let b = is_below T0 t0 tops directories w fd o t h g f (not_its_own T0 t0 tops directories w fd o t h g not_open) in
      let at : Option TreeEntry → Result Tree Errno = λ o. renamed w.tree s (option_map_or (λ (e : TreeEntry). e.parent) o 0) (option_map_or (λ (e : TreeEntry). e.name) o []) in
      renames_onto T0 t0 tops directories w s t U h a b (λ same. false≢true (sym other ∙ eq-eqb t s same)) not_open (sym (ap at b.used) ∙ is)))))))))
  renames w fd o s slash (Missing parent name) h g a m = guarded _ _ _ _ (λ p. guarded _ _ _ _ (λ q. guarded _ _ _ _ (λ alive. answered _ _ (λ U is.
      renames_free T0 t0 tops directories w s fd o parent name U h a m is))))

  rename : (w : World) (m : List ℕ) (a b c d e f : ℕ) → H w → Yields D (path_rename w m a b c d e f)
  rename w m a b c d e f h = after _ _ _ (λ from from_is. after _ _ _ (λ to to_is. after _ _ _ (λ k k_is. after _ _ _ (λ l l_is.
      guarded _ _ _ _ (λ p. guarded _ _ _ _ (λ q. guarded _ _ _ _ (λ r. guarded _ _ _ _ (λ s.
      after _ _ _ (λ o o_is. after _ _ _ (λ v v_is. after _ _ _ (λ moved moved_is. after _ _ _ (λ target target_is. after _ _ _ (λ source source_is. guarded _ _ _ _ (λ apart. after _ _ _ (λ U U_is.
      let o_at = ok_or_some (w.table a) 8 from from_is ∙ ap Some (opened_is from o o_is) in
      let v_at = ok_or_some (w.table d) 8 to to_is ∙ ap Some (opened_is to v v_is) in
      let found_source = found_at w a o _ moved source h o_at moved_is source_is in
      let below = is_below T0 t0 tops directories w a o source h o_at found_source (λ same. false≢true (sym (not_true _ apart) ∙ eq-eqb source o.serial (sym same))) in
      yields _ _ (known _ _ U (renames w d v source _ target h v_at below (reached w d v _ target h v_at target_is)) U_is))))))))))))))))

  -- ---- any call

  refused : (e : ℕ) → Yields D (Err e)
  unfolding Yields
  refused e = tt

  pub row_keeps : (c : HostCall) (w : World) (m : List ℕ) (u : ℕ) (a : List ℕ) → H w → Yields D (row c w m u a)
  row_keeps call.ArgsSizesGet w m u a h = sizes w.given.args w m _ _ h
  row_keeps call.ArgsGet w m u a h = texts_of w.given.args w m _ _ h
  row_keeps call.EnvironSizesGet w m u a h = sizes w.given.env w m _ _ h
  row_keeps call.EnvironGet w m u a h = texts_of w.given.env w m _ _ h
  row_keeps call.ClockResGet w m u a h = clock_res w m _ _ h
  row_keeps call.ClockTimeGet w m u a h = clock_time w m _ _ _ h
  row_keeps call.RandomGet w m u a h = random w m _ _ h
  row_keeps call.ProcExit w m u a h = refused 52
  row_keeps call.FdClose w m u a h = close w _ h
  row_keeps call.FdFdstatGet w m u a h = fdstat w m _ _ h
  row_keeps call.FdFilestatGet w m u a h = filestat w m _ _ h
  row_keeps call.FdFilestatSetSize w m u a h = set_size w _ _ h
  row_keeps call.FdPrestatGet w m u a h = prestat w m _ _ h
  row_keeps call.FdPrestatDirName w m u a h = prestat_name w m _ _ _ h
  row_keeps call.FdRead w m u a h = read w m _ _ _ _ h
  row_keeps call.FdPread w m u a h = pread w m _ _ _ _ _ h
  row_keeps call.FdWrite w m u a h = write w m _ _ _ _ h
  row_keeps call.FdPwrite w m u a h = pwrite w m _ _ _ _ _ h
  row_keeps call.FdSeek w m u a h = seek w m (word a 0) (long a 1) (word a 2) (word a 3) h
  row_keeps call.FdTell w m u a h = tell w m _ _ h
  row_keeps call.FdSync w m u a h = sync w _ _ h
  row_keeps call.FdDatasync w m u a h = sync w _ _ h
  row_keeps call.FdReaddir w m u a h = readdir w m _ _ _ _ _ h
  row_keeps call.PathCreateDirectory w m u a h = create_directory w m _ _ _ h
  row_keeps call.PathFilestatGet w m u a h = path_stat w m _ _ _ _ h
  row_keeps call.PathOpen w m u a h = open_path w m _ _ _ _ _ _ _ _ h
  row_keeps call.PathRemoveDirectory w m u a h = remove_directory w m _ _ _ h
  row_keeps call.PathRename w m u a h = rename w m _ _ _ _ _ _ h
  row_keeps call.PathUnlinkFile w m u a h = unlink w m _ _ _ h
  row_keeps call.Nosys w m u a h = refused 52
