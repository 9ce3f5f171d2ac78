-- Each row answers alike wherever the names of directories stand.
use Rattle.std.proofs.Common.{◌≡◌, ℕ, zero, suc, ◌+◌, length, Bool, true, false, cond, not, ◌&&◌, ◌||◌, ◌==◌, List, Option, Some, None, Ok, Err, refl, sym, ap, subst}
use Rattle.std.specs.Option.{option_map, ok_or, option_map_or, is_none}
use Rattle.std.specs.Borrow.{Bor}
use Rattle.byteorder.specs.Endian.{little_bytes}
use Rattle.vol_tree.specs.Tree.{Tree}
use Rattle.vol_tree.specs.Calls.{bytes_at}
use Rattle.path_walk.specs.Paths.{Reached, Found, Missing}
use Rattle.wasi_fd.specs.declared.descriptor.Stream.{Stream as StreamValue}
use Rattle.wasi_fd.specs.declared.descriptor.Stream.TheVariants.{Input, Output, Error}
use Rattle.wasi_fd.specs.declared.descriptor.Descriptor.{Descriptor}
use Rattle.wasi_fd.specs.declared.descriptor.Descriptor.TheVariants.{Stream, Entry}
use Rattle.wasi_fd.specs.declared.descriptor.Opened.{Opened}
use Rattle.wasi_fd.specs.declared.table.TheConstants.{PLACES}
use Rattle.wasi_fd.specs.Table.{Table}
use Rattle.wasi_fd.specs.Rights.{FD_SEEK, FD_TELL}
use Rattle.wasm_store.specs.declared.call.HostCall.{HostCall}
use Rattle.wasm_store.specs.declared.call.HostCall.TheVariants as call
use Rattle.wasi_bodies.specs.World.{World, with_descriptor, moved_to, is_of, holds_below, held_open, least_closed, has_stream_failed, with_output}
use Rattle.wasi_bodies.specs.Checks.{Checked, ◌>>=◌, and_then, guard, Done, only_world, with_result, Refusals, of_kind, has, get, descriptor, opened_entry, entry_at}
use Rattle.wasi_bodies.specs.supplies.Rows.{sizes_get, texts_get, clock_res_get, clock_time_get, random_get}
use Rattle.wasi_bodies.specs.declared.streams.Terminals.{Terminals}
use Rattle.wasi_bodies.specs.descriptors.Rows.{fd_close, fd_fdstat_get, fd_filestat_get, fd_prestat_get, fd_prestat_dir_name, fd_seek, fd_tell, fdstat, stat_of, guest_name}
use Rattle.wasi_bodies.specs.files.Rows.{fd_read, fd_pread, fd_write, fd_pwrite, fd_filestat_set_size, fd_sync, fd_readdir, read_from, write_to, file_write}
use Rattle.wasi_bodies.specs.paths.Rows.{path_create_directory, path_filestat_get, path_open, path_remove_directory, path_rename, path_unlink_file, open_checks, open_entry, new_number, new_descriptor, rename_to}
use Rattle.wasi_bodies.specs.Calls.{row, word, long}
use Rattle.same_run.specs.SameWorld.{unplaced_name, unplaced_entry, unplaced, unplaced_world}

-- ---- two chains of checks

unfoldable pub Both : {X Y : Type 0} → (X → Y → Type 0) → Checked X → Checked Y → Type 0
Both P (Ok x) (Ok y) = P x y
Both P (Ok x) (Err e) = ⊥
Both P (Err e) (Ok y) = ⊥
Both P (Err e) (Err d) = e ≡ d

module _ {B C : Type 0} (P : B → C → Type 0) where
  -- both go on with what is told
  after : {A A' : Type 0} (e : A → A') (r : Checked A) (s : Checked A') (f : A → Checked B) (g : A' → Checked C)
      → Both (λ (a : A) (b : A'). b ≡ e a) r s → ((a : A) → Both P (f a) (g (e a))) → Both P (r >>= f) (s >>= g)
  unfolding Both and_then
  after {A' = A'} e (Ok a) (Ok b) f g is h = subst (λ (x : A'). Both P (f a) (g x)) (sym is) (h a)
  after e (Err x) (Err y) f g is h = is
  after e (Ok a) (Err y) f g is h = absurd is
  after e (Err x) (Ok b) f g is h = absurd is

  goes_on : {A : Type 0} (r : Checked A) (f : A → Checked B) (g : A → Checked C) → ((a : A) → Both P (f a) (g a)) → Both P (r >>= f) (r >>= g)
  unfolding Both and_then
  goes_on (Ok a) f g h = h a
  goes_on (Err e) f g h = refl

  -- the same check in both
  same : {A : Type 0} (r s : Checked A) (f : A → Checked B) (g : A → Checked C) → r ≡ s → ((a : A) → Both P (f a) (g a)) → Both P (r >>= f) (s >>= g)
  same {A} r s f g is h = subst (λ (x : Checked A). Both P (r >>= f) (x >>= g)) is (goes_on r f g h)

  by_test : (b : Bool) (e : ℕ) (f : Unit {0} → Checked B) (g : Unit {0} → Checked C) → Both P (f tt) (g tt) → Both P (guard b e >>= f) (guard b e >>= g)
  unfolding Both and_then guard
  by_test true e f g h = h
  by_test false e f g h = refl

  guarded : (b c : Bool) (e : ℕ) (f : Unit {0} → Checked B) (g : Unit {0} → Checked C) → b ≡ c → Both P (f tt) (g tt) → Both P (guard b e >>= f) (guard c e >>= g)
  guarded b c e f g is h = subst (λ (x : Bool). Both P (guard b e >>= f) (guard x e >>= g)) is (by_test b e f g h)

  branch : (b : Bool) (x y : Checked B) (x' y' : Checked C) → Both P x x' → Both P y y' → Both P (cond b x y) (cond b x' y')
  branch true x y x' y' p q = p
  branch false x y x' y' p q = q

  ends : (x : B) (y : C) → P x y → Both P (Ok x) (Ok y)
  unfolding Both
  ends x y p = p

  refused : (e : ℕ) → Both P (Err e) (Err e)
  unfolding Both
  refused e = refl

itself : {X : Type 0} (r : Checked X) → Both (λ (a b : X). b ≡ a) r r
unfolding Both
itself (Ok x) = refl
itself (Err e) = refl

-- ---- descriptors

abbrev U : World → World
U = unplaced_world

name_kept : (o : Option (Bor (List ℕ))) → option_map_or (λ (name : Bor (List ℕ)). Some name.now) o None ≡ option_map_or (λ (name : Bor (List ℕ)). Some name.now) (option_map unplaced_name o) None
name_kept None = refl
name_kept (Some name) = refl

guest_name_kept : (d : Descriptor) → guest_name d ≡ guest_name (unplaced d)
guest_name_kept (Stream s) = refl
guest_name_kept (Entry o) = name_kept o.guest_name

of_kind_kept : (r : Refusals) (d : Descriptor) → of_kind r d ≡ of_kind r (unplaced d)
of_kind_kept r (Stream s) = refl
of_kind_kept r (Entry o) = refl

has_kept : (d : Descriptor) (rights : ℕ) → has d rights ≡ has (unplaced d) rights
has_kept (Stream s) rights = refl
has_kept (Entry o) rights = refl

fdstat_kept : (t : Option Terminals) (d : Descriptor) → fdstat t d ≡ fdstat t (unplaced d)
fdstat_kept t (Stream s) = refl
fdstat_kept t (Entry o) = refl

stat_kept : (w : World) (d : Descriptor) → stat_of w d ≡ stat_of (U w) (unplaced d)
stat_kept w (Stream s) = refl
stat_kept w (Entry o) = refl

of_place : (o : Option Descriptor) → Both (λ (d e : Descriptor). e ≡ unplaced d) (ok_or o 8) (ok_or (option_map unplaced o) 8)
unfolding Both
of_place None = refl
of_place (Some d) = refl

got : (w : World) (fd : ℕ) → Both (λ (d e : Descriptor). e ≡ unplaced d) (get w fd) (get (U w) fd)
got w fd = of_place (w.table fd)

opened : (d : Descriptor) → Both (λ (o p : Opened). p ≡ unplaced_entry o) (opened_entry d) (opened_entry (unplaced d))
unfolding Both
opened (Stream s) = refl
opened (Entry o) = refl

described : (w : World) (fd : ℕ) (r : Refusals) (rights : ℕ) → Both (λ (d e : Descriptor). e ≡ unplaced d) (descriptor w fd r rights) (descriptor (U w) fd r rights)
described w fd r rights = after _ unplaced _ _ _ _ (got w fd) (λ d. same _ _ _ _ _ (of_kind_kept r d) (λ _. guarded _ _ _ _ _ _ (has_kept d rights) (ends _ _ _ refl)))

entered : (w : World) (fd : ℕ) (r : Refusals) (rights : ℕ) → Both (λ (o p : Opened). p ≡ unplaced_entry o) (entry_at w fd r rights) (entry_at (U w) fd r rights)
entered w fd r rights = after _ unplaced _ _ _ _ (described w fd r rights) (λ d. opened d)

-- ---- tables

at_one : (b : Bool) (d e : Option Descriptor) → cond b (option_map unplaced d) (option_map unplaced e) ≡ option_map unplaced (cond b d e)
at_one true d e = refl
at_one false d e = refl

pub placed : (fd : ℕ) (d : Option Descriptor) (w : World) → with_descriptor fd (option_map unplaced d) (U w) ≡ U (with_descriptor fd d w)
placed fd d w = λ i. record w { table = λ n. at_one (n == fd) d (w.table n) i }

is_of_kept : (serial : ℕ) (o : Option Descriptor) → is_of serial o ≡ is_of serial (option_map unplaced o)
is_of_kept serial None = refl
is_of_kept serial (Some (Stream s)) = refl
is_of_kept serial (Some (Entry o)) = refl

holds_kept : (n serial : ℕ) (table : Table) → holds_below n serial table ≡ holds_below n serial (λ k. option_map unplaced (table k))
holds_kept zero serial table = refl
holds_kept (suc n) serial table = λ i. is_of_kept serial (table n) i || holds_kept n serial table i

held_kept : (w : World) (serial : ℕ) → held_open w serial ≡ held_open (U w) serial
held_kept w serial = holds_kept PLACES serial w.table

none_kept : (o : Option Descriptor) → is_none o ≡ is_none (option_map unplaced o)
none_kept None = refl
none_kept (Some d) = refl

least_kept : (count n : ℕ) (table : Table) → least_closed count n table ≡ least_closed count n (λ k. option_map unplaced (table k))
least_kept zero n table = refl
least_kept (suc count) n table = λ i. cond (none_kept (table n) i) (Some n) (least_kept count (suc n) table i)

number_kept : (w : World) → new_number w ≡ new_number (U w)
number_kept w = ap (λ (o : Option ℕ). ok_or o 33) (least_kept PLACES 0 w.table)

-- ---- supplies

abbrev pub IsUnplaced : Done → Done → Type 0
IsUnplaced d e = e ≡ record d { world = U d.world }

sizes : (texts : List (List ℕ)) (w : World) (m : List ℕ) (p q : ℕ) → Both IsUnplaced (sizes_get texts w m p q) (sizes_get texts (U w) m p q)
sizes texts w m p q = guarded _ _ _ _ _ _ refl (guarded _ _ _ _ _ _ refl (ends _ _ _ refl))

texts_of : (texts : List (List ℕ)) (w : World) (m : List ℕ) (p q : ℕ) → Both IsUnplaced (texts_get texts w m p q) (texts_get texts (U w) m p q)
texts_of texts w m p q = guarded _ _ _ _ _ _ refl (guarded _ _ _ _ _ _ refl (ends _ _ _ refl))

clock_res : (w : World) (m : List ℕ) (p q : ℕ) → Both IsUnplaced (clock_res_get w m p q) (clock_res_get (U w) m p q)
clock_res w m p q = guarded _ _ _ _ _ _ refl (guarded _ _ _ _ _ _ refl (ends _ _ _ refl))

clock_time : (w : World) (m : List ℕ) (u p q : ℕ) → Both IsUnplaced (clock_time_get w m u p q) (clock_time_get (U w) m u p q)
clock_time w m u p q = guarded _ _ _ _ _ _ refl (guarded _ _ _ _ _ _ refl (ends _ _ _ refl))

random : (w : World) (m : List ℕ) (p q : ℕ) → Both IsUnplaced (random_get w m p q) (random_get (U w) m p q)
random w m p q = guarded _ _ _ _ _ _ refl (guarded _ _ _ _ _ _ refl (ends _ _ _ refl))

-- ---- calls of descriptors

close : (w : World) (fd : ℕ) → Both IsUnplaced (fd_close w fd) (fd_close (U w) fd)
close w fd = after _ unplaced _ _ _ _ (got w fd) (λ d. ends _ _ _ (ap only_world (placed fd None w)))

fdstat_get : (w : World) (m : List ℕ) (fd r : ℕ) → Both IsUnplaced (fd_fdstat_get w m fd r) (fd_fdstat_get (U w) m fd r)
fdstat_get w m fd r = after _ unplaced _ _ _ _ (got w fd) (λ d. guarded _ _ _ _ _ _ refl (ends _ _ _ (ap (with_result (U w) r) (sym (fdstat_kept w.interactive d)))))

filestat_get : (w : World) (m : List ℕ) (fd r : ℕ) → Both IsUnplaced (fd_filestat_get w m fd r) (fd_filestat_get (U w) m fd r)
filestat_get w m fd r = after _ unplaced _ _ _ _ (described w fd _ _) (λ d. guarded _ _ _ _ _ _ refl (same _ _ _ _ _ (stat_kept w d) (λ _. ends _ _ _ refl)))

prestat : (w : World) (m : List ℕ) (fd r : ℕ) → Both IsUnplaced (fd_prestat_get w m fd r) (fd_prestat_get (U w) m fd r)
prestat w m fd r = after _ unplaced _ _ _ _ (got w fd) (λ d. same _ _ _ _ _ (ap (λ o. ok_or o 8) (guest_name_kept d)) (λ _. guarded _ _ _ _ _ _ refl (ends _ _ _ refl)))

prestat_name : (w : World) (m : List ℕ) (fd p len : ℕ) → Both IsUnplaced (fd_prestat_dir_name w m fd p len) (fd_prestat_dir_name (U w) m fd p len)
prestat_name w m fd p len = after _ unplaced _ _ _ _ (got w fd) (λ d. same _ _ _ _ _ (ap (λ o. ok_or o 8) (guest_name_kept d))
    (λ _. guarded _ _ _ _ _ _ refl (guarded _ _ _ _ _ _ refl (ends _ _ _ refl))))

seek : (w : World) (m : List ℕ) (fd delta whence r : ℕ) → Both IsUnplaced (fd_seek w m fd delta whence r) (fd_seek (U w) m fd delta whence r)
seek w m fd delta whence r = after _ unplaced _ _ _ _ (got w fd) (λ d. same _ _ _ _ _ (of_kind_kept _ d)
    (λ _. guarded _ _ _ _ _ _ (λ i. has_kept d FD_SEEK i || ((delta == 0) && (whence == 1) && has_kept d FD_TELL i))
    (guarded _ _ _ _ _ _ refl (guarded _ _ _ _ _ _ refl
    (after _ unplaced_entry _ _ _ _ (opened d) (λ o. same _ _ _ _ _ refl (λ from. same _ _ _ _ _ refl (λ at.
    guarded _ _ _ _ _ _ refl (ends _ _ _ (ap (λ (v : World). with_result v r (little_bytes 8 at)) (placed fd (moved_to o at) w)))))))))))

tell : (w : World) (m : List ℕ) (fd r : ℕ) → Both IsUnplaced (fd_tell w m fd r) (fd_tell (U w) m fd r)
tell w m fd r = after _ unplaced _ _ _ _ (got w fd) (λ d. same _ _ _ _ _ (of_kind_kept _ d)
    (λ _. guarded _ _ _ _ _ _ (λ i. has_kept d FD_SEEK i || has_kept d FD_TELL i) (guarded _ _ _ _ _ _ refl
    (after _ unplaced_entry _ _ _ _ (opened d) (λ o. ends _ _ _ refl)))))

-- ---- bytes

-- a world and something beside it
abbrev beside : {X : Type 0} → World × X → World × X
beside r = (U r.0, r.1)

failed_kept : (w : World) (s : StreamValue) → not (has_stream_failed w s) ≡ not (has_stream_failed (U w) s)
failed_kept w Input = refl
failed_kept w Output = refl
failed_kept w Error = refl

reads : (w : World) (fd : ℕ) (d : Descriptor) (len : ℕ) → Both (λ (r s : World × List ℕ). s ≡ beside r) (read_from w fd d len) (read_from (U w) fd (unplaced d) len)
reads w fd (Stream s) len = guarded _ _ _ _ _ _ (failed_kept w s) (ends _ _ _ refl)
reads w fd (Entry o) len = same _ _ _ _ _ refl (λ bytes. ends _ _ _ (λ i. (placed fd (moved_to o (o.position + length bytes)) w i, bytes)))

read : (w : World) (m : List ℕ) (fd p q r : ℕ) → Both IsUnplaced (fd_read w m fd p q r) (fd_read (U w) m fd p q r)
read w m fd p q r = after _ unplaced _ _ _ _ (described w fd _ _) (λ d. same _ _ _ _ _ refl (λ bs. guarded _ _ _ _ _ _ refl (after _ beside _ _ _ _ (reads w fd d _) (λ x. ends _ _ _ refl))))

pread : (w : World) (m : List ℕ) (fd p q r e : ℕ) → Both IsUnplaced (fd_pread w m fd p q r e) (fd_pread (U w) m fd p q r e)
pread w m fd p q r e = after _ unplaced_entry _ _ _ _ (entered w fd _ _) (λ o. same _ _ _ _ _ refl (λ bs. guarded _ _ _ _ _ _ refl (same _ _ _ _ _ refl (λ bytes. ends _ _ _ refl))))

output_kept : (w : World) (s : StreamValue) (bytes : List ℕ) → with_output (U w) s bytes ≡ U (with_output w s bytes)
output_kept w Input bytes = refl
output_kept w Output bytes = refl
output_kept w Error bytes = refl

file_writes : (w : World) (o : Opened) (at : ℕ) (bytes : List ℕ) → Both (λ (r s : World × ℕ). s ≡ beside r) (file_write w o at bytes) (file_write (U w) (unplaced_entry o) at bytes)
file_writes w o at bytes = same _ _ _ _ _ refl (λ T. ends _ _ _ refl)

moved_on : (w : World) (fd : ℕ) (o : Opened) (at : ℕ) (b : Bool) → cond b (U w) (with_descriptor fd (moved_to (unplaced_entry o) at) (U w)) ≡ U (cond b w (with_descriptor fd (moved_to o at) w))
moved_on w fd o at true = refl
moved_on w fd o at false = placed fd (moved_to o at) w

-- where a write begins
abbrev written_at : World → Opened → ℕ
written_at w o = cond o.append (length (bytes_at w.tree o.serial)) o.position

writes : (w : World) (fd : ℕ) (d : Descriptor) (bytes : List ℕ) → Both (λ (r s : World × ℕ). s ≡ beside r) (write_to w fd d bytes) (write_to (U w) fd (unplaced d) bytes)
writes w fd (Stream s) bytes = guarded _ _ _ _ _ _ (failed_kept w s) (ends _ _ _ (λ i. (output_kept w s bytes i, length bytes)))
writes w fd (Entry o) bytes = after _ beside _ _ _ _ (file_writes w o (written_at w o) bytes) (λ r. ends _ _ _ (λ i. (moved_on r.0 fd o (written_at w o + r.1) (r.1 == 0) i, r.1)))

write : (w : World) (m : List ℕ) (fd p q r : ℕ) → Both IsUnplaced (fd_write w m fd p q r) (fd_write (U w) m fd p q r)
write w m fd p q r = after _ unplaced _ _ _ _ (described w fd _ _) (λ d. same _ _ _ _ _ refl (λ bs. guarded _ _ _ _ _ _ refl (after _ beside _ _ _ _ (writes w fd d _) (λ x. ends _ _ _ refl))))

pwrite : (w : World) (m : List ℕ) (fd p q r e : ℕ) → Both IsUnplaced (fd_pwrite w m fd p q r e) (fd_pwrite (U w) m fd p q r e)
pwrite w m fd p q r e = after _ unplaced_entry _ _ _ _ (entered w fd _ _) (λ o. same _ _ _ _ _ refl (λ bs. guarded _ _ _ _ _ _ refl (after _ beside _ _ _ _ (file_writes w o _ _) (λ x. ends _ _ _ refl))))

set_size : (w : World) (fd size : ℕ) → Both IsUnplaced (fd_filestat_set_size w fd size) (fd_filestat_set_size (U w) fd size)
set_size w fd size = after _ unplaced_entry _ _ _ _ (entered w fd _ _) (λ o. same _ _ _ _ _ refl (λ T. ends _ _ _ refl))

sync : (w : World) (fd right : ℕ) → Both IsUnplaced (fd_sync w fd right) (fd_sync (U w) fd right)
sync w fd right = after _ unplaced_entry _ _ _ _ (entered w fd _ _) (λ o. same _ _ _ _ _ refl (λ u. ends _ _ _ refl))

readdir : (w : World) (m : List ℕ) (fd p q r e : ℕ) → Both IsUnplaced (fd_readdir w m fd p q r e) (fd_readdir (U w) m fd p q r e)
readdir w m fd p q r e = after _ unplaced_entry _ _ _ _ (entered w fd _ _) (λ o. guarded _ _ _ _ _ _ refl (guarded _ _ _ _ _ _ refl (same _ _ _ _ _ refl (λ all. ends _ _ _ refl))))

-- ---- paths

create_directory : (w : World) (m : List ℕ) (fd p q : ℕ) → Both IsUnplaced (path_create_directory w m fd p q) (path_create_directory (U w) m fd p q)
create_directory w m fd p q = after _ unplaced_entry _ _ _ _ (entered w fd _ _) (λ o. guarded _ _ _ _ _ _ refl (same _ _ _ _ _ refl (λ reached. same _ _ _ _ _ refl (λ place. same _ _ _ _ _ refl (λ made. ends _ _ _ refl)))))

path_stat : (w : World) (m : List ℕ) (fd p q r : ℕ) → Both IsUnplaced (path_filestat_get w m fd p q r) (path_filestat_get (U w) m fd p q r)
path_stat w m fd p q r = after _ unplaced_entry _ _ _ _ (entered w fd _ _) (λ o. guarded _ _ _ _ _ _ refl (guarded _ _ _ _ _ _ refl (same _ _ _ _ _ refl (λ reached. same _ _ _ _ _ refl (λ serial. same _ _ _ _ _ refl (λ bytes. ends _ _ _ refl))))))

remove_directory : (w : World) (m : List ℕ) (fd p q : ℕ) → Both IsUnplaced (path_remove_directory w m fd p q) (path_remove_directory (U w) m fd p q)
remove_directory w m fd p q = after _ unplaced_entry _ _ _ _ (entered w fd _ _) (λ o. guarded _ _ _ _ _ _ refl (same _ _ _ _ _ refl (λ reached. same _ _ _ _ _ refl (λ serial.
    guarded _ _ _ _ _ _ refl (guarded _ _ _ _ _ _ (ap not (held_kept w serial)) (same _ _ _ _ _ refl (λ T. ends _ _ _ refl)))))))

unlink : (w : World) (m : List ℕ) (fd p q : ℕ) → Both IsUnplaced (path_unlink_file w m fd p q) (path_unlink_file (U w) m fd p q)
unlink w m fd p q = after _ unplaced_entry _ _ _ _ (entered w fd _ _) (λ o. guarded _ _ _ _ _ _ refl (same _ _ _ _ _ refl (λ reached. same _ _ _ _ _ refl (λ serial.
    guarded _ _ _ _ _ _ refl (guarded _ _ _ _ _ _ (ap not (held_kept w serial)) (same _ _ _ _ _ refl (λ T. ends _ _ _ refl)))))))

checks_kept : (w : World) (oflags : ℕ) (slash : Bool) (r : Reached) → open_checks w oflags slash r ≡ open_checks (U w) oflags slash r
checks_kept w oflags slash (Found serial) = refl
checks_kept w oflags slash (Missing parent name) = refl

opening_kept : (w : World) (oflags : ℕ) (r : Reached) → open_entry w oflags r ≡ open_entry (U w) oflags r
opening_kept w oflags (Found serial) = refl
opening_kept w oflags (Missing parent name) = refl

open_path : (w : World) (m : List ℕ) (fd p q r x y z result : ℕ) → Both IsUnplaced (path_open w m fd p q r x y z result) (path_open (U w) m fd p q r x y z result)
open_path w m fd p q r x y z result = after _ unplaced_entry _ _ _ _ (entered w fd _ _) (λ o. guarded _ _ _ _ _ _ refl (guarded _ _ _ _ _ _ refl (guarded _ _ _ _ _ _ refl (guarded _ _ _ _ _ _ refl (guarded _ _ _ _ _ _ refl
    (same _ _ _ _ _ refl (λ reached. same _ _ _ _ _ (checks_kept w r _ reached) (λ _. same _ _ _ _ _ (number_kept w) (λ number. same _ _ _ _ _ (opening_kept w r reached) (λ made.
    ends _ _ _ (ap (λ (v : World). with_result v result (little_bytes 4 number)) (placed number (Some (new_descriptor made.0 o made.1 x y z)) (record w { tree = made.0 }))))))))))))
    )

renames : (w : World) (source : ℕ) (slash : Bool) (r : Reached) → Both (λ (T V : Tree). V ≡ T) (rename_to w source slash r) (rename_to (U w) source slash r)
renames w source slash (Found target) = branch _ _ _ _ _ _ (ends _ _ _ refl)
    (guarded _ _ _ _ _ _ refl (guarded _ _ _ _ _ _ refl (guarded _ _ _ _ _ _ refl (guarded _ _ _ _ _ _ (ap not (held_kept w target)) (guarded _ _ _ _ _ _ refl (itself _))))))
renames w source slash (Missing parent name) = guarded _ _ _ _ _ _ refl (guarded _ _ _ _ _ _ refl (itself _))

rename : (w : World) (m : List ℕ) (p q r x y z : ℕ) → Both IsUnplaced (path_rename w m p q r x y z) (path_rename (U w) m p q r x y z)
rename w m p q r x y z = after _ unplaced _ _ _ _ (got w p) (λ d. after _ unplaced _ _ _ _ (got w x) (λ e. same _ _ _ _ _ (of_kind_kept _ d) (λ _. same _ _ _ _ _ (of_kind_kept _ e) (λ _.
    guarded _ _ _ _ _ _ (has_kept d _) (guarded _ _ _ _ _ _ (has_kept e _) (guarded _ _ _ _ _ _ refl (guarded _ _ _ _ _ _ refl
    (after _ unplaced_entry _ _ _ _ (opened d) (λ from. after _ unplaced_entry _ _ _ _ (opened e) (λ to.
    same _ _ _ _ _ refl (λ moved. same _ _ _ _ _ refl (λ target. same _ _ _ _ _ refl (λ source. guarded _ _ _ _ _ _ refl
    (after _ (λ T. T) _ _ _ _ (renames w source _ target) (λ T. ends _ _ _ refl)))))))))))))))

-- ---- any call

pub row_unplaced : (c : HostCall) (w : World) (m : List ℕ) (u : ℕ) (a : List ℕ) → Both IsUnplaced (row c w m u a) (row c (U w) m u a)
row_unplaced call.ArgsSizesGet w m u a = sizes w.given.args w m _ _
row_unplaced call.ArgsGet w m u a = texts_of w.given.args w m _ _
row_unplaced call.EnvironSizesGet w m u a = sizes w.given.env w m _ _
row_unplaced call.EnvironGet w m u a = texts_of w.given.env w m _ _
row_unplaced call.ClockResGet w m u a = clock_res w m _ _
row_unplaced call.ClockTimeGet w m u a = clock_time w m _ _ _
row_unplaced call.RandomGet w m u a = random w m _ _
row_unplaced call.ProcExit w m u a = refused _ _
row_unplaced call.FdClose w m u a = close w _
row_unplaced call.FdFdstatGet w m u a = fdstat_get w m _ _
row_unplaced call.FdFilestatGet w m u a = filestat_get w m _ _
row_unplaced call.FdFilestatSetSize w m u a = set_size w _ _
row_unplaced call.FdPrestatGet w m u a = prestat w m _ _
row_unplaced call.FdPrestatDirName w m u a = prestat_name w m _ _ _
row_unplaced call.FdRead w m u a = read w m _ _ _ _
row_unplaced call.FdPread w m u a = pread w m _ _ _ _ _
row_unplaced call.FdWrite w m u a = write w m _ _ _ _
row_unplaced call.FdPwrite w m u a = pwrite w m _ _ _ _ _
row_unplaced call.FdSeek w m u a = seek w m (word a 0) (long a 1) (word a 2) (word a 3)
row_unplaced call.FdTell w m u a = tell w m _ _
row_unplaced call.FdSync w m u a = sync w _ _
row_unplaced call.FdDatasync w m u a = sync w _ _
row_unplaced call.FdReaddir w m u a = readdir w m _ _ _ _ _
row_unplaced call.PathCreateDirectory w m u a = create_directory w m _ _ _
row_unplaced call.PathFilestatGet w m u a = path_stat w m _ _ _ _
row_unplaced call.PathOpen w m u a = open_path w m _ _ _ _ _ _ _ _
row_unplaced call.PathRemoveDirectory w m u a = remove_directory w m _ _ _
row_unplaced call.PathRename w m u a = rename w m _ _ _ _ _ _
row_unplaced call.PathUnlinkFile w m u a = unlink w m _ _ _
row_unplaced call.Nosys w m u a = refused _ _
