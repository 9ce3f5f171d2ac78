-- `path_open`: its checks, its number and what it opens.
use Rattle.std.proofs.Common.{◌≡◌, ◌≢◌, ◌≤◌, ◌<◌, ◌+◌, ◌==◌, ◌&&◌, ℕ, zero, suc, Bool, true, false, cond, not, List, [], length, Option, Some, None, Result, Ok, Err, refl, sym, ◌∙◌, ap, subst, inl, inr, arith}
use Rattle.std.specs.Option.{option_map_or, ok_or, is_none}
use Rattle.std.proofs.lemmas.Option.{none-some}
use Rattle.std.proofs.lemmas.Bool.{cases_eq, cond-true, cond-false, eq-eqb, ne_eqb}
use Rattle.wasm_store.specs.Bytes.{bytes_at}
use Rattle.wasm_store.specs.declared.call.Errno.{Errno as Number}
use Rattle.vol_tree.specs.declared.errno.Errno.{Errno}
use Rattle.vol_tree.specs.declared.errno.Errno.TheVariants as errno
use Rattle.vol_tree.specs.Tree.{Tree, Name, File, Entry as TreeEntry, entry, changed}
use Rattle.vol_tree.specs.Space.{Geometry, space}
use Rattle.vol_body.specs.Bytes.{resized_bytes}
use Rattle.vol_tree.specs.Calls.{directory_at, created, resized, with_bytes, bytes_at as tree_bytes}
use Rattle.vol_tree.specs.Opened.{Opened as OpenedVolume, geometry, IsSerial}
use Rattle.vol_tree.proofs.Trees.{is_directory_at}
use Rattle.vol_tree.proofs.LeastSerial.{created_least}
use Rattle.vol_tree.proofs.Entries.{entry-changed_same}
use Rattle.vol_inode.specs.Space.{size_limit}
use Rattle.vol_tree.specs.declared.superblock.Superblock.{Superblock}
use Rattle.std.specs.Prelude.{nat_lt}
use Rattle.path_walk.specs.Paths.{Reached, Found, Missing, path_read, wants_directory}
use Rattle.wasi_fd.specs.declared.descriptor.Descriptor.{Descriptor}
use Rattle.wasi_fd.specs.declared.descriptor.Descriptor.TheVariants as descriptors
use Rattle.wasi_fd.specs.declared.descriptor.Opened.{Opened}
use Rattle.wasi_fd.specs.Table.{Table, with_at}
use Rattle.wasi_bodies.specs.World.{World, least_closed, with_descriptor, with_volume_failed}
use Rattle.wasi_bodies.specs.Checks.{Checked, Done, and_then, guard, tree_call, numbered, with_result}
use Rattle.wasi_bodies.specs.paths.Rows.{path_open, path_at, open_checks, open_entry, new_number, is_set, trunc, creat, excl, new_descriptor}
use Rattle.byteorder.specs.Endian.{little_bytes}
use Rattle.wasi_paths.specs.declared.paths.opening.OpenCall.{OpenCall}
use Rattle.wasi_paths.specs.declared.paths.opening.PathTarget.{PathTarget}
use Rattle.wasi_paths.specs.declared.paths.opening.PathTarget.TheVariants as targets
use Rattle.wasi_bodies.specs.internal.Entries.{with_volume}
use Rattle.wasi_bodies.specs.internal.Asking.{Passes, Stops, StopsNext}
use Rattle.wasi_paths.specs.internal.paths.Opening.{open_part, open_entered, found_checked, missing_checked, ChecksAs, ReachesTarget as Finds, IsTarget, made, with_serial, target_is_directory, with_both, AreSerials}
use Rattle.wasi_bodies.proofs.checks.Chains.{goes_on, stops}
use Rattle.wasi_bodies.proofs.checks.Passing.{passes_on, walked_to}
use Rattle.wasi_bodies.proofs.bodies.VolumeCalls.{never_after, never_guard, numbered_io, tree_called_alive, resized_never, created_never}
use Rattle.wasi_bodies.proofs.bodies.AskingCalls.{and_then_assoc, ok_then, refuses_on, fails_on, passes_as, passes_on as part_passes, stops_as}
use Rattle.wasi_fd.specs.declared.table.TheConstants.{PLACES}

-- ---- no check answers 29

either_never : {X : Type 0} (b : Bool) (x y : Checked X) → x ≢ Err 29 → y ≢ Err 29 → cond b x y ≢ Err 29
either_never true x y first second = first
either_never false x y first second = second

pub found_checked_never : (oflags : ℕ) (d : Bool) → found_checked oflags d ≢ Err 29
found_checked_never oflags d =
    never_after (guard (not (is_set oflags creat && is_set oflags excl)) 20) _ (never_guard _ 20 (λ is. absurd (omega (arith, is))))
    (λ _ _. either_never d _ _ (never_guard _ 31 (λ is. absurd (omega (arith, is)))) (never_guard _ 54 (λ is. absurd (omega (arith, is)))))

pub missing_checked_never : (oflags : ℕ) (slash : Bool) → missing_checked oflags slash ≢ Err 29
missing_checked_never oflags slash =
    never_after (guard (is_set oflags creat) 44) _ (never_guard _ 44 (λ is. absurd (omega (arith, is)))) (λ _ _. never_guard _ 31 (λ is. absurd (omega (arith, is))))

checks_never : (w : World) (oflags : ℕ) (slash : Bool) (r : Reached) → open_checks w oflags slash r ≢ Err 29
checks_never w oflags slash (Found serial) = found_checked_never oflags (directory_at w.tree serial)
checks_never w oflags slash (Missing parent name) = missing_checked_never oflags slash

number_if : (o : Option ℕ) → ◌≢◌ {A = Checked ℕ} (ok_or o 33) (Err 29)
number_if None = λ is. let same : ◌≡◌ {A = ℕ} 33 29 = cc in absurd (omega (arith, same))
number_if (Some n) = λ is. cc

number_never : (w : World) → new_number w ≢ Err 29
number_never w = number_if (least_closed PLACES 0 w.table)

-- the part from the walk on
abbrev pub after_walk : World → OpenCall → List ℕ → Opened → Reached → Checked (Opened × Reached × ℕ)
after_walk w a m o r = and_then (open_checks w a.oflags (wants_directory (bytes_at m a.path a.len)) r) (λ _. and_then (new_number w) (λ n. Ok (o, r, n)))

last_never : (w : World) (o : Opened) (r : Reached) → ◌≢◌ {A = Checked (Opened × Reached × ℕ)} (and_then (new_number w) (λ n. Ok (o, r, n))) (Err 29)
last_never w o r = never_after {B = Opened × Reached × ℕ} (new_number w) (λ n. Ok (o, r, n)) (number_never w) (λ n _ is. cc)

pub after_walk_never : (w : World) (a : OpenCall) (m : List ℕ) (o : Opened) (r : Reached) → after_walk w a m o r ≢ Err 29
after_walk_never w a m o r =
    never_after (open_checks w a.oflags (wants_directory (bytes_at m a.path a.len)) r) (λ _. and_then (new_number w) (λ n. Ok (o, r, n)))
    (checks_never w a.oflags (wants_directory (bytes_at m a.path a.len)) r) (λ _ _. last_never w o r)

pub entered_part : (w : World) (m : List ℕ) (a : OpenCall) (o : Opened) → open_entered w m a ≡ Ok o → open_part w m a ≡ and_then (path_at w m o a.path a.len) (after_walk w a m o)
entered_part w m a o is = goes_on _ _ o is

-- the checks end the call
pub checks_stop : {D : Type 0} (w : World) (a : OpenCall) (m : List ℕ) (o : Opened) (between new : OpenedVolume D) (r : Reached) (e : ℕ) → Passes (λ v. path_at v m o a.path a.len) w between r
    → StopsNext (λ v. open_checks v a.oflags (wants_directory (bytes_at m a.path a.len)) r) w new e
    → Stops (λ v. and_then (path_at v m o a.path a.len) (after_walk v a m o)) w new e
checks_stop w a m o between new r e p (inl s) =
    refuses_on w (λ v. path_at v m o a.path a.len) (λ v. after_walk v a m o) between r p new e s.same (stops _ _ e s.is)
checks_stop w a m o between new r e p (inr f) =
    subst (λ (n : ℕ). Stops (λ v. and_then (path_at v m o a.path a.len) (after_walk v a m o)) w new n) (sym f.answer)
    (fails_on w (λ v. path_at v m o a.path a.len) (λ v. after_walk v a m o) between r p new f.after (after_walk_never w a m o r))

-- ---- the least number that isn't open

closed_if : (count n k : ℕ) (d : Option Descriptor) (rest : Option ℕ) (t : Table) → t n ≡ d → cond (is_none d) (Some n) rest ≡ None
    → (rest ≡ None → (k : ℕ) → suc n ≤ k → k < suc n + count → t k ≢ None) → n ≤ k → k < n + suc count → t k ≢ None
closed_if count n k None rest t at is on low high = absurd (none-some n (sym is))
closed_if count n k (Some d) rest t at is on low high = elim (cases_eq k n) [
  | inl here ↦ λ none. none-some d (sym none ∙ (ap t here ∙ at))
  | inr apart ↦ on is k (omega arith) (omega arith)
]

all_open : (count n : ℕ) (t : Table) → least_closed count n t ≡ None → (k : ℕ) → n ≤ k → k < n + count → t k ≢ None
all_open zero n t is k low high = absurd (omega arith)
all_open (suc count) n t is k low high = closed_if count n k (t n) (least_closed count (suc n) t) t refl is (λ rest. all_open count (suc n) t rest) low high

not_none : (d : Option Descriptor) → d ≢ None → is_none d ≡ false
not_none None h = absurd (h refl)
not_none (Some d) h = refl

none_closed : (count n : ℕ) (t : Table) → ((k : ℕ) → n ≤ k → k < n + count → t k ≢ None) → least_closed count n t ≡ None
none_closed zero n t h = refl
none_closed (suc count) n t h =
    cond-false (is_none (t n)) (Some n) (least_closed count (suc n) t) (not_none (t n) (h n (omega arith) (omega arith)))
    ∙ none_closed count (suc n) t (λ k low high. h k (omega arith) (omega arith))

is_none_of : (d : Option Descriptor) → d ≡ None → is_none d ≡ true
is_none_of None h = refl
is_none_of (Some d) h = absurd (none-some d (sym h))

least_is : (count n k : ℕ) (t : Table) → n ≤ k → k < n + count → t k ≡ None → ((j : ℕ) → n ≤ j → j < k → t j ≢ None) → least_closed count n t ≡ Some k
least_is zero n k t low high free below = absurd (omega arith)
least_is (suc count) n k t low high free below = elim (cases_eq k n) [
  | inl here ↦ cond-true (is_none (t n)) (Some n) (least_closed count (suc n) t) (is_none_of (t n) (sym (ap t here) ∙ free)) ∙ ap Some (sym here)
  | inr apart ↦
      cond-false (is_none (t n)) (Some n) (least_closed count (suc n) t) (not_none (t n) (below n (omega arith) (omega arith)))
      ∙ least_is count (suc n) k t (omega arith) (omega arith) free (λ j l h. below j (omega arith) h)
]

abbrev pub IsFull : Table → Type 0
IsFull t = (k : ℕ) → k < PLACES → t k ≢ None

pub no_number : (w : World) (t : Table) → w.table ≡ t → IsFull t → new_number w ≡ Err 33
no_number w t table full = ap (λ (t : Table). ok_or (least_closed PLACES 0 t) 33) table ∙ ap (λ (o : Option ℕ). ok_or o 33) (none_closed PLACES 0 t (λ k _ high. full k (omega arith)))

number_from : (w : World) (o : Option ℕ) → least_closed PLACES 0 w.table ≡ o → (o ≡ None → ⊥) → (n : ℕ) × (new_number w ≡ Ok n)
number_from w None is some = absurd (some refl)
number_from w (Some n) is some = (n, ap (λ (o : Option ℕ). ok_or o 33) is)

pub some_number : (w : World) (t : Table) → w.table ≡ t → (IsFull t → ⊥) → (n : ℕ) × (new_number w ≡ Ok n)
some_number w t table open_ =
    number_from w (least_closed PLACES 0 w.table) refl
    (λ is. open_ (λ k low. all_open PLACES 0 t (sym (ap (least_closed PLACES 0) table) ∙ is) k (omega arith) (omega arith)))

ok_is : (n k : ℕ) → ◌≡◌ {A = Checked ℕ} (Ok n) (Ok k) → n ≡ k
ok_is n k is = cc

pub same_number : (w : World) (t : Table) (n k : ℕ) → w.table ≡ t → new_number w ≡ Ok n → k < PLACES → t k ≡ None → ((j : ℕ) → j < k → t j ≢ None) → k ≡ n
same_number w t n k table is low free below =
    ok_is k n (sym (ap (λ (t : Table). ok_or (least_closed PLACES 0 t) 33) table ∙ ap (λ (o : Option ℕ). ok_or o 33) (least_is PLACES 0 k t (omega arith) (omega arith) free (λ j _ high. below j high))) ∙ is)

err_ok : (n e : ℕ) → ◌≡◌ {A = Checked ℕ} (Ok n) (Err e) → ⊥
err_ok n e is = cc

pub not_full : (w : World) (t : Table) (n : ℕ) → w.table ≡ t → new_number w ≡ Ok n → IsFull t → ⊥
not_full w t n table is full = err_ok n 33 (sym is ∙ no_number w t table full)

-- ---- what is opened

mapped : (r : Result Tree Errno) (serial : ℕ) → and_then (numbered r) (λ T. Ok (T, serial)) ≡ numbered (with_serial serial r)
unfolding and_then
mapped (Ok T) serial = refl
mapped (Err e) serial = refl

-- in a world whose volume works
pub opens_as : (w : World) (oflags : ℕ) (r : Reached) (t : PathTarget) → w.volume_failed ≡ false → IsTarget w.tree oflags r t → open_entry w oflags r ≡ numbered (made w.volume w.tree t)
opens_as w oflags r (targets.Entry serial kind) alive h =
    ap (open_entry w oflags) h.0 ∙ cond-false (not (directory_at w.tree serial) && is_set oflags trunc) _ _ h.2
opens_as w oflags r (targets.Cut serial) alive h =
    ap (open_entry w oflags) h.0
    ∙ (cond-true (not (directory_at w.tree serial) && is_set oflags trunc) _ _ (ap (λ (b : Bool). not b && is_set oflags trunc) h.1 ∙ h.2)
    ∙ (ap (λ (c : Checked Tree). and_then c (λ T. Ok (T, serial))) (tree_called_alive w (resized w.volume w.tree serial 0) alive)
    ∙ mapped (resized w.volume w.tree serial 0) serial))
opens_as w oflags r (targets.New parent name) alive h = ap (open_entry w oflags) h ∙ tree_called_alive w (created w.tree parent name.now (File [])) alive

alive_never : {X : Type 0} (w : World) (r : Result X Errno) → w.volume_failed ≡ false → r ≢ Err errno.Io → tree_call w r ≢ Err 29
alive_never w r alive never = λ is. numbered_io r never (sym (tree_called_alive w r alive) ∙ is)

pub entry_never : (w : World) (oflags : ℕ) (r : Reached) → w.volume_failed ≡ false → open_entry w oflags r ≢ Err 29
entry_never w oflags (Found serial) alive =
    either_never (not (directory_at w.tree serial) && is_set oflags trunc) _ _
    (never_after (tree_call w (resized w.volume w.tree serial 0)) (λ T. Ok (T, serial)) (alive_never w _ alive (resized_never w.volume w.tree serial 0)) (λ T _ is. cc))
    (λ is. cc)
entry_never w oflags (Missing parent name) alive = alive_never w _ alive (created_never w.tree parent name (File []))

-- ---- the whole row

-- what the row does with it
abbrev pub opened_done : World → OpenCall → (Opened × Reached × ℕ) → Tree × ℕ → Done
opened_done w a p made =
    with_result (with_descriptor p.2 (Some (new_descriptor made.0 p.0 made.1 a.base a.inheriting a.fdflags)) (record w { tree = made.0 })) a.result_at (little_bytes 4 p.2)

abbrev pub after_part : World → OpenCall → (Opened × Reached × ℕ) → Checked Done
after_part w a p = and_then (open_entry w a.oflags p.1) (λ made. Ok (opened_done w a p made))

abbrev pub open_by : World → List ℕ → OpenCall → Checked Done
open_by w m a = path_open w m a.fd a.path a.len a.oflags a.base a.inheriting a.fdflags a.result_at

pub to_opening : (w : World) (m : List ℕ) (a : OpenCall) → open_by w m a ≡ and_then (open_part w m a) (after_part w a)
to_opening w m a = simp (and_then_assoc, ok_then)

pub after_part_never : (w : World) (a : OpenCall) (p : Opened × Reached × ℕ) → w.volume_failed ≡ false → after_part w a p ≢ Err 29
after_part_never w a p alive = never_after (open_entry w a.oflags p.1) (λ made. Ok (opened_done w a p made)) (entry_never w a.oflags p.1 alive) (λ made _ is. cc)

pub both_same : {D : Type 0} (v : OpenedVolume D) (t : Table) (w : World) → w.table ≡ t → with_both v t w ≡ with_volume v w
both_same v t w table = λ i. record w { volume = geometry v.numbers; tree = v.tree; volume_failed = v.failed; table = sym table i }

-- ---- the entry that is opened

with_bytes_if : (T : Tree) (serial : ℕ) (bytes : List ℕ) (o : Option TreeEntry) → entry T serial ≡ o → directory_at T serial ≡ false
    → directory_at (option_map_or (λ (e : TreeEntry). changed T serial (Some (record e { node = File bytes }))) o T) serial ≡ false
with_bytes_if T serial bytes None is file = file
with_bytes_if T serial bytes (Some e) is file = is_directory_at _ serial (record e { node = File bytes }) (entry-changed_same T serial e (Some (record e { node = File bytes })) is)

resized_file : (volume : Geometry) (T U : Tree) (serial size : ℕ) → directory_at T serial ≡ false → resized volume T serial size ≡ Ok U → directory_at U serial ≡ false
resized_file volume T U serial size file is =
    let bytes : List ℕ = resized_bytes size (tree_bytes T serial) in
    let one = passes_on (nat_lt (size_limit volume.version) (length bytes)) errno.TooBig _ U is in
    let two = passes_on (nat_lt volume.data_sectors (space (with_bytes T serial bytes))) errno.NoSpace _ U one.1 in
    let both : ◌≡◌ {A = Result Tree Errno} (Ok (with_bytes T serial bytes)) (Ok U) = two.1 in
    let same : with_bytes T serial bytes ≡ U = cc in
    ap (λ (U : Tree). directory_at U serial) (sym same) ∙ with_bytes_if T serial bytes (entry T serial) refl file

with_serial_ok : (serial s : ℕ) (r : Result Tree Errno) (U : Tree) → with_serial serial r ≡ Ok (U, s) → (r ≡ Ok U) × (s ≡ serial)
with_serial_ok serial s (Ok T) U h =
    let both : ◌≡◌ {A = Tree × ℕ} (T, serial) (U, s) = cc in
    (ap (λ (p : Tree × ℕ). Ok p.0) both, sym (ap (λ (p : Tree × ℕ). p.1) both))
with_serial_ok serial s (Err e) U h = cc

pair_is : (T U : Tree) (a b : ℕ) → ◌≡◌ {A = Result (Tree × ℕ) Errno} (Ok (T, a)) (Ok (U, b)) → ◌≡◌ {A = Tree × ℕ} (T, a) (U, b)
pair_is T U a b h = cc

-- what it is in the tree that the call leaves
pub opened_is : (volume : Geometry) (T U : Tree) (oflags : ℕ) (r : Reached) (t : PathTarget) (serial : ℕ) → IsTarget T oflags r t → made volume T t ≡ Ok (U, serial)
    → directory_at U serial ≡ target_is_directory t
opened_is volume T U oflags r (targets.Entry s kind) serial h is =
    let both : ◌≡◌ {A = Tree × ℕ} (T, s) (U, serial) = pair_is T U s serial is in
    sym (ap (λ (p : Tree × ℕ). directory_at p.0 p.1) both) ∙ h.1
opened_is volume T U oflags r (targets.Cut s) serial h is =
    let of = with_serial_ok s serial (resized volume T s 0) U is in
    ap (directory_at U) of.1 ∙ resized_file volume T U s 0 h.1 of.0
opened_is volume T U oflags r (targets.New parent name) serial h is =
    let e : TreeEntry = record { parent = parent; name = name.now; node = File [] } in
    is_directory_at U serial e (created_least T U parent serial name.now (File []) is).there

-- ---- what stands then

entry_is : (a b : Opened) → ◌≡◌ {A = Option Descriptor} (Some (descriptors.Entry a)) (Some (descriptors.Entry b)) → a ≡ b
entry_is a b h = cc

some_is : (a b : Descriptor) → ◌≡◌ {A = Option Descriptor} (Some a) (Some b) → a ≡ b
some_is a b h = cc

pub serials_stand : (numbers : Superblock) (old new : Table) (n : ℕ) (d : Descriptor) (serial : ℕ) → AreSerials numbers old → ((k : ℕ) → new k ≡ with_at n (Some d) old k)
    → IsSerial numbers serial → ((o : Opened) → d ≡ descriptors.Entry o → o.serial ≡ serial) → AreSerials numbers new
serials_stand numbers old new n d serial known opened in_range of fd o is = elim (cases_eq fd n) [
  | inl here ↦
      let this : d ≡ descriptors.Entry o = some_is d (descriptors.Entry o) (sym (opened fd ∙ cond-true (fd == n) (Some d) (old fd) (eq-eqb fd n here)) ∙ is) in
      subst (IsSerial numbers) (sym (of o this)) in_range
  | inr apart ↦ known fd o (sym (opened fd ∙ cond-false (fd == n) (Some d) (old fd) (ne_eqb fd n apart)) ∙ is)
]

pub opened_world : {D : Type 0} (w : World) (between new : OpenedVolume D) (old table : Table) (n k : ℕ) (d e : Descriptor) → with_volume between w ≡ w → new.numbers ≡ between.numbers
    → new.failed ≡ false → w.volume_failed ≡ false → w.table ≡ old → k ≡ n → d ≡ e → ((j : ℕ) → table j ≡ with_at k (Some d) old j)
    → with_both new table w ≡ with_descriptor n (Some e) (record w { tree = new.tree })
opened_world w between new old table n k d e shown numbers failed alive same number descriptor opened =
    let volume : geometry new.numbers ≡ w.volume = ap geometry numbers ∙ ap (λ (w : World). w.volume) shown in
    let works : new.failed ≡ w.volume_failed = failed ∙ sym alive in
    let tables : table ≡ with_at n (Some e) w.table = (λ i j. opened j i) ∙ (λ i. with_at (number i) (Some (descriptor i)) (sym same i)) in
    λ i. record w { volume = volume i; tree = new.tree; volume_failed = works i; table = tables i }

-- ---- what is found to be opened

module _ {D : Type 0} (between new : OpenedVolume D) (w : World) (m : List ℕ) (a : OpenCall) (o : Opened) (text : List ℕ) (bytes : text ≡ bytes_at m a.path a.len)
    (enters : (v : World) → v.table ≡ w.table → open_entered v m a ≡ Ok o) (r : Reached) (walked : Passes (λ v. path_at v m o a.path a.len) w between r) where
  -- what the checks on what was reached say
  abbrev Checks : Result PathTarget Number → Type 0
  Checks result = (v : World) (names : List Name) → path_read text ≡ Ok names → v.volume_failed ≡ false → v ≡ with_volume between v → ChecksAs a.oflags (wants_directory text) r v new result

  checked : (result : Result PathTarget Number) → Checks result → ChecksAs a.oflags (wants_directory (bytes_at m a.path a.len)) r w new result
  checked result checks =
      let to = walked_to w o (bytes_at m a.path a.len) r walked.is in
      subst (λ (l : List ℕ). ChecksAs a.oflags (wants_directory l) r w new result) bytes (checks w to.0 (ap path_read bytes ∙ to.1) walked.working (sym walked.same))

  abbrev part : World → Checked (Opened × Reached × ℕ)
  part v = and_then (path_at v m o a.path a.len) (after_walk v a m o)

  as_part : (v : World) → v.table ≡ w.table → open_part v m a ≡ part v
  as_part v same = entered_part v m a o (enters v same)

  stops_open : (e : ℕ) → Stops part w new e → Stops (λ v. open_part v m a) w new e
  stops_open e stop = stops_as w (λ v. open_part v m a) part new e (as_part w refl) (as_part (with_volume_failed w) refl) stop

  pub checks_refuse : (e : Number) → Checks (Err e) → Stops (λ v. open_part v m a) w new e.0
  checks_refuse e checks = stops_open e.0 (checks_stop w a m o between new r e.0 walked (checked (Err e) checks))

  pub no_place : (t : PathTarget) → Checks (Ok t) → new_number w ≡ Err 33 → Stops (λ v. open_part v m a) w new 33
  no_place t checks none =
      let holds = checked (Ok t) checks in
      stops_open 33 (refuses_on w (λ v. path_at v m o a.path a.len) (λ v. after_walk v a m o) between r walked new 33 holds.2 (goes_on _ _ tt holds.0 ∙ stops _ _ 33 none))

  pub finds_target : (t : PathTarget) → Checks (Ok t) → (n : ℕ) × (new_number w ≡ Ok n) → Finds m a w new o t
  finds_target t checks (n, free) =
      let holds = checked (Ok t) checks in
      record {
        reached = r;
        number = n;
        free = free;
        passes = passes_as w (λ v. open_part v m a) part new (o, r, n) (as_part w refl) (as_part (with_volume_failed w) refl)
            (part_passes w (λ v. path_at v m o a.path a.len) (λ v. after_walk v a m o) between r walked new (o, r, n) holds.2 (goes_on _ _ tt holds.0 ∙ goes_on _ _ n free));
        target = holds.1;
      }
