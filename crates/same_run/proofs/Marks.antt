-- No row sets a mark of failure, or takes one away.
use Rattle.std.proofs.Common.{◌≡◌, ℕ, Bool, true, false, cond, ◌==◌, List, Ok, Err, refl, subst}
use Rattle.wasi_fd.specs.declared.descriptor.Stream.{Stream as StreamValue}
use Rattle.wasi_fd.specs.declared.descriptor.Stream.TheVariants.{Input, Output, Error}
use Rattle.wasi_fd.specs.declared.descriptor.Descriptor.{Descriptor}
use Rattle.wasi_fd.specs.declared.descriptor.Descriptor.TheVariants.{Stream, Entry}
use Rattle.wasi_fd.specs.declared.descriptor.Opened.{Opened}
use Rattle.wasm_store.specs.declared.call.HostCall.{HostCall}
use Rattle.wasm_store.specs.declared.call.HostCall.TheVariants as call
use Rattle.wasi_bodies.specs.World.{World, with_descriptor, moved_to, with_output}
use Rattle.wasi_bodies.specs.Checks.{Checked, ◌>>=◌, and_then, guard, Done}
use Rattle.wasi_bodies.specs.supplies.Rows.{sizes_get, texts_get, clock_res_get, clock_time_get, random_get}
use Rattle.wasi_bodies.specs.descriptors.Rows.{fd_close, fd_fdstat_get, fd_filestat_get, fd_prestat_get, fd_prestat_dir_name, fd_seek, fd_tell}
use Rattle.wasi_bodies.specs.files.Rows.{fd_read, fd_pread, fd_write, fd_pwrite, fd_filestat_set_size, fd_sync, fd_readdir, read_from, write_to, file_write}
use Rattle.wasi_bodies.specs.paths.Rows.{path_create_directory, path_filestat_get, path_open, path_remove_directory, path_rename, path_unlink_file}
use Rattle.wasi_bodies.specs.Calls.{row, word, long}
use Rattle.same_run.specs.Failures.{has_failed}

-- ---- what holds of each answer of a chain of checks

unfoldable pub Yields : {X : Type 0} → (X → Type 0) → Checked X → Type 0
Yields P (Ok x) = P x
Yields P (Err e) = Unit {0}

module _ {B : Type 0} (P : B → Type 0) where
  after : {A : Type 0} (r : Checked A) (f : A → Checked B) → ((a : A) → r ≡ Ok a → Yields P (f a)) → Yields P (r >>= f)
  unfolding Yields and_then
  after (Ok a) f h = h a refl
  after (Err e) f h = tt

  guarded : (b : Bool) (e : ℕ) (f : Unit {0} → Checked B) → (b ≡ true → Yields P (f tt)) → Yields P (guard b e >>= f)
  unfolding Yields and_then guard
  guarded true e f h = h refl
  guarded false e f h = tt

  yields : (x : B) → P x → Yields P (Ok x)
  unfolding Yields
  yields x p = p

same_answer : {B : Type 0} (y x : B) → ◌≡◌ {A = Checked B} (Ok y) (Ok x) → y ≡ x
same_answer y x is = cc

known : {B : Type 0} (P : B → Type 0) (r : Checked B) (x : B) → Yields P r → r ≡ Ok x → P x
unfolding Yields
known P (Ok y) x h is = subst P (same_answer y x is) h
known P (Err e) x h is = cc

-- ---- rows

module _ (b : Bool) where
  abbrev H : World → Type 0
  H w = has_failed w ≡ b

  abbrev D : Done → Type 0
  D d = H d.world

  -- ---- supplies

  sizes : (texts : List (List ℕ)) (w : World) (m : List ℕ) (p q : ℕ) → H w → Yields D (sizes_get texts w m p q)
  sizes texts w m p q h = guarded _ _ _ _ (λ _. guarded _ _ _ _ (λ _. yields _ _ h))

  texts_of : (texts : List (List ℕ)) (w : World) (m : List ℕ) (p q : ℕ) → H w → Yields D (texts_get texts w m p q)
  texts_of texts w m p q h = guarded _ _ _ _ (λ _. guarded _ _ _ _ (λ _. yields _ _ h))

  clock_res : (w : World) (m : List ℕ) (p q : ℕ) → H w → Yields D (clock_res_get w m p q)
  clock_res w m p q h = guarded _ _ _ _ (λ _. guarded _ _ _ _ (λ _. yields _ _ h))

  clock_time : (w : World) (m : List ℕ) (u p q : ℕ) → H w → Yields D (clock_time_get w m u p q)
  clock_time w m u p q h = guarded _ _ _ _ (λ _. guarded _ _ _ _ (λ _. yields _ _ h))

  random : (w : World) (m : List ℕ) (p q : ℕ) → H w → Yields D (random_get w m p q)
  random w m p q h = guarded _ _ _ _ (λ _. guarded _ _ _ _ (λ _. yields _ _ h))

  -- ---- descriptors

  close : (w : World) (fd : ℕ) → H w → Yields D (fd_close w fd)
  close w fd h = after _ _ _ (λ _ _. yields _ _ h)

  fdstat : (w : World) (m : List ℕ) (fd r : ℕ) → H w → Yields D (fd_fdstat_get w m fd r)
  fdstat w m fd r h = after _ _ _ (λ _ _. guarded _ _ _ _ (λ _. yields _ _ h))

  filestat : (w : World) (m : List ℕ) (fd r : ℕ) → H w → Yields D (fd_filestat_get w m fd r)
  filestat w m fd r h = after _ _ _ (λ _ _. guarded _ _ _ _ (λ _. after _ _ _ (λ _ _. yields _ _ h)))

  prestat : (w : World) (m : List ℕ) (fd r : ℕ) → H w → Yields D (fd_prestat_get w m fd r)
  prestat w m fd r h = after _ _ _ (λ _ _. after _ _ _ (λ _ _. guarded _ _ _ _ (λ _. yields _ _ h)))

  prestat_name : (w : World) (m : List ℕ) (fd p len : ℕ) → H w → Yields D (fd_prestat_dir_name w m fd p len)
  prestat_name w m fd p len h = after _ _ _ (λ _ _. after _ _ _ (λ _ _. guarded _ _ _ _ (λ _. guarded _ _ _ _ (λ _. yields _ _ h))))

  seek : (w : World) (m : List ℕ) (fd delta whence r : ℕ) → H w → Yields D (fd_seek w m fd delta whence r)
  seek w m fd delta whence r h = after _ _ _ (λ _ _. after _ _ _ (λ _ _. guarded _ _ _ _ (λ _. guarded _ _ _ _ (λ _. guarded _ _ _ _ (λ _.
      after _ _ _ (λ _ _. after _ _ _ (λ _ _. after _ _ _ (λ _ _. guarded _ _ _ _ (λ _. yields _ _ h)))))))))

  tell : (w : World) (m : List ℕ) (fd r : ℕ) → H w → Yields D (fd_tell w m fd r)
  tell w m fd r h = after _ _ _ (λ _ _. after _ _ _ (λ _ _. guarded _ _ _ _ (λ _. guarded _ _ _ _ (λ _. after _ _ _ (λ _ _. yields _ _ h)))))

  -- ---- bytes

  reads : (w : World) (fd : ℕ) (d : Descriptor) (len : ℕ) → H w → Yields (λ (r : World × List ℕ). H r.0) (read_from w fd d len)
  reads w fd (Stream s) len h = guarded _ _ _ _ (λ _. yields _ _ h)
  reads w fd (Entry o) len h = after _ _ _ (λ _ _. yields _ _ h)

  read : (w : World) (m : List ℕ) (fd p q r : ℕ) → H w → Yields D (fd_read w m fd p q r)
  read w m fd p q r h = after _ _ _ (λ d _. after _ _ _ (λ _ _. guarded _ _ _ _ (λ _. after _ _ _ (λ x is. yields _ _ (known _ _ _ (reads w fd d _ h) is)))))

  pread : (w : World) (m : List ℕ) (fd p q r e : ℕ) → H w → Yields D (fd_pread w m fd p q r e)
  pread w m fd p q r e h = after _ _ _ (λ _ _. after _ _ _ (λ _ _. guarded _ _ _ _ (λ _. after _ _ _ (λ _ _. yields _ _ h))))

  output_keeps : (w : World) (s : StreamValue) (bytes : List ℕ) → H w → H (with_output w s bytes)
  output_keeps w Input bytes h = h
  output_keeps w Output bytes h = h
  output_keeps w Error bytes h = h

  file_writes : (w : World) (o : Opened) (at : ℕ) (bytes : List ℕ) → H w → Yields (λ (r : World × ℕ). H r.0) (file_write w o at bytes)
  file_writes w o at bytes h = after _ _ _ (λ _ _. yields _ _ h)

  moved_on : (w : World) (fd : ℕ) (o : Opened) (at : ℕ) (c : Bool) → H w → H (cond c w (with_descriptor fd (moved_to o at) w))
  moved_on w fd o at true h = h
  moved_on w fd o at false h = h

  writes : (w : World) (fd : ℕ) (d : Descriptor) (bytes : List ℕ) → H w → Yields (λ (r : World × ℕ). H r.0) (write_to w fd d bytes)
  writes w fd (Stream s) bytes h = guarded _ _ _ _ (λ _. yields _ _ (output_keeps w s bytes h))
  writes w fd (Entry o) bytes h = after _ _ _ (λ r is. yields _ _ (moved_on r.0 fd o _ (r.1 == 0) (known (λ (r : World × ℕ). H r.0) _ r (file_writes w o _ bytes h) is)))

  write : (w : World) (m : List ℕ) (fd p q r : ℕ) → H w → Yields D (fd_write w m fd p q r)
  write w m fd p q r h = after _ _ _ (λ d _. after _ _ _ (λ _ _. guarded _ _ _ _ (λ _. after _ _ _ (λ x is. yields _ _ (known _ _ _ (writes w fd d _ h) is)))))

  pwrite : (w : World) (m : List ℕ) (fd p q r e : ℕ) → H w → Yields D (fd_pwrite w m fd p q r e)
  pwrite w m fd p q r e h = after _ _ _ (λ o _. after _ _ _ (λ _ _. guarded _ _ _ _ (λ _. after _ _ _ (λ x is.
      yields _ _ (known (λ (r : World × ℕ). H r.0) _ x (file_writes w o _ _ h) is)))))

  set_size : (w : World) (fd size : ℕ) → H w → Yields D (fd_filestat_set_size w fd size)
  set_size w fd size h = after _ _ _ (λ _ _. after _ _ _ (λ _ _. yields _ _ h))

  sync : (w : World) (fd right : ℕ) → H w → Yields D (fd_sync w fd right)
  sync w fd right h = after _ _ _ (λ _ _. after _ _ _ (λ _ _. yields _ _ h))

  readdir : (w : World) (m : List ℕ) (fd p q r e : ℕ) → H w → Yields D (fd_readdir w m fd p q r e)
  readdir w m fd p q r e h = after _ _ _ (λ _ _. guarded _ _ _ _ (λ _. guarded _ _ _ _ (λ _. after _ _ _ (λ _ _. yields _ _ h))))

  -- ---- paths

  create_directory : (w : World) (m : List ℕ) (fd p q : ℕ) → H w → Yields D (path_create_directory w m fd p q)
  create_directory w m fd p q h = after _ _ _ (λ _ _. guarded _ _ _ _ (λ _. after _ _ _ (λ _ _. after _ _ _ (λ _ _. after _ _ _ (λ _ _. yields _ _ h)))))

  path_stat : (w : World) (m : List ℕ) (fd p q r : ℕ) → H w → Yields D (path_filestat_get w m fd p q r)
  path_stat w m fd p q r h = after _ _ _ (λ _ _. guarded _ _ _ _ (λ _. guarded _ _ _ _ (λ _. after _ _ _ (λ _ _. after _ _ _ (λ _ _. after _ _ _ (λ _ _. yields _ _ h))))))

  remove_directory : (w : World) (m : List ℕ) (fd p q : ℕ) → H w → Yields D (path_remove_directory w m fd p q)
  remove_directory w m fd p q h = after _ _ _ (λ _ _. guarded _ _ _ _ (λ _. after _ _ _ (λ _ _. after _ _ _ (λ _ _. guarded _ _ _ _ (λ _. guarded _ _ _ _ (λ _.
      after _ _ _ (λ _ _. yields _ _ h)))))))

  unlink : (w : World) (m : List ℕ) (fd p q : ℕ) → H w → Yields D (path_unlink_file w m fd p q)
  unlink w m fd p q h = after _ _ _ (λ _ _. guarded _ _ _ _ (λ _. after _ _ _ (λ _ _. after _ _ _ (λ _ _. guarded _ _ _ _ (λ _. guarded _ _ _ _ (λ _.
      after _ _ _ (λ _ _. yields _ _ h)))))))

  open_path : (w : World) (m : List ℕ) (fd p q r x y z result : ℕ) → H w → Yields D (path_open w m fd p q r x y z result)
  open_path w m fd p q r x y z result h = after _ _ _ (λ _ _. guarded _ _ _ _ (λ _. guarded _ _ _ _ (λ _. guarded _ _ _ _ (λ _. guarded _ _ _ _ (λ _. guarded _ _ _ _ (λ _.
      after _ _ _ (λ _ _. after _ _ _ (λ _ _. after _ _ _ (λ _ _. after _ _ _ (λ _ _. yields _ _ h))))))))))

  rename : (w : World) (m : List ℕ) (p q r x y z : ℕ) → H w → Yields D (path_rename w m p q r x y z)
  rename w m p q r x y z h = after _ _ _ (λ _ _. after _ _ _ (λ _ _. after _ _ _ (λ _ _. after _ _ _ (λ _ _.
      guarded _ _ _ _ (λ _. guarded _ _ _ _ (λ _. guarded _ _ _ _ (λ _. guarded _ _ _ _ (λ _.
      after _ _ _ (λ _ _. after _ _ _ (λ _ _. after _ _ _ (λ _ _. after _ _ _ (λ _ _. after _ _ _ (λ _ _. guarded _ _ _ _ (λ _. after _ _ _ (λ _ _. yields _ _ h)))))))))))))))

  -- ---- any call

  refused : (e : ℕ) → Yields D (Err e)
  unfolding Yields
  refused e = tt

  pub row_keeps : (c : HostCall) (w : World) (m : List ℕ) (u : ℕ) (a : List ℕ) → H w → Yields D (row c w m u a)
  row_keeps call.ArgsSizesGet w m u a h = sizes w.given.args w m _ _ h
  row_keeps call.ArgsGet w m u a h = texts_of w.given.args w m _ _ h
  row_keeps call.EnvironSizesGet w m u a h = sizes w.given.env w m _ _ h
  row_keeps call.EnvironGet w m u a h = texts_of w.given.env w m _ _ h
  row_keeps call.ClockResGet w m u a h = clock_res w m _ _ h
  row_keeps call.ClockTimeGet w m u a h = clock_time w m _ _ _ h
  row_keeps call.RandomGet w m u a h = random w m _ _ h
  row_keeps call.ProcExit w m u a h = refused 52
  row_keeps call.FdClose w m u a h = close w _ h
  row_keeps call.FdFdstatGet w m u a h = fdstat w m _ _ h
  row_keeps call.FdFilestatGet w m u a h = filestat w m _ _ h
  row_keeps call.FdFilestatSetSize w m u a h = set_size w _ _ h
  row_keeps call.FdPrestatGet w m u a h = prestat w m _ _ h
  row_keeps call.FdPrestatDirName w m u a h = prestat_name w m _ _ _ h
  row_keeps call.FdRead w m u a h = read w m _ _ _ _ h
  row_keeps call.FdPread w m u a h = pread w m _ _ _ _ _ h
  row_keeps call.FdWrite w m u a h = write w m _ _ _ _ h
  row_keeps call.FdPwrite w m u a h = pwrite w m _ _ _ _ _ h
  row_keeps call.FdSeek w m u a h = seek w m (word a 0) (long a 1) (word a 2) (word a 3) h
  row_keeps call.FdTell w m u a h = tell w m _ _ h
  row_keeps call.FdSync w m u a h = sync w _ _ h
  row_keeps call.FdDatasync w m u a h = sync w _ _ h
  row_keeps call.FdReaddir w m u a h = readdir w m _ _ _ _ _ h
  row_keeps call.PathCreateDirectory w m u a h = create_directory w m _ _ _ h
  row_keeps call.PathFilestatGet w m u a h = path_stat w m _ _ _ _ h
  row_keeps call.PathOpen w m u a h = open_path w m _ _ _ _ _ _ _ _ h
  row_keeps call.PathRemoveDirectory w m u a h = remove_directory w m _ _ _ h
  row_keeps call.PathRename w m u a h = rename w m _ _ _ _ _ _ h
  row_keeps call.PathUnlinkFile w m u a h = unlink w m _ _ _ h
  row_keeps call.Nosys w m u a h = refused 52
