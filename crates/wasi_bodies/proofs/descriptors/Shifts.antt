-- Where a position is moved.
use Rattle.std.proofs.Common.{◌≡◌, ◌≢◌, ℕ, ◌+◌, ◌-◌, ◌^◌, ◌<◌, ◌≤◌, true, false, nat_lt, nat_le, min, ◌==◌, ◌&&◌, ◌||◌, Bool, List, Result, IfOk, IfErr, MatchResult, Option, Some, None, Ok, Err, refl, sym, ap, ◌∙◌, subst, length, arith}
use Rattle.std.specs.Option.{ok_or}
use Rattle.std.proofs.lemmas.Bool.{cond-true, cond-false, lt-ltb, le-ltb, le-leb, lt-leb}
use Rattle.byteorder.specs.Endian.{little_bytes}
use Rattle.wasm_store.specs.declared.call.Errno.{Errno}
use Rattle.wasi_fd.specs.declared.descriptor.Opened.{Opened as OpenedEntry}
use Rattle.wasi_bodies.specs.World.{World, with_descriptor, moved_to}
use Rattle.wasi_bodies.specs.Checks.{Checked, Done, and_then, tree_call, guard, get, of_kind, only_files, has, opened_entry, range, with_result}
use Rattle.wasi_bodies.specs.descriptors.Rows.{shifted, last_position, seek_from, fd_seek}
use Rattle.wasi_bodies.specs.internal.descriptors.Positions.{seekable, sought, position_at}
use Rattle.vol_tree.specs.Calls.{bytes_at}
use Rattle.wasi_fd.specs.declared.descriptor.Descriptor.{Descriptor}
use Rattle.wasi_fd.specs.Table.{Table, with_at}
use Rattle.wasi_bodies.specs.Calls.{Answered}
use Rattle.wasi_bodies.specs.internal.Entries.{with_table}
use Rattle.wasi_bodies.proofs.bodies.VolumeCalls.{never_after, never_guard}
use Rattle.wasi_bodies.proofs.checks.Chains.{guard_passes, guard_fails, goes_on, stops}

-- ---- a signed distance

placed : (at : ℕ) → at ≤ last_position → and_then (guard (nat_le at last_position) 61) (λ _. Ok at) ≡ Ok at
placed at h = goes_on _ _ tt (guard_passes _ 61 (le-leb at last_position h))

beyond : (at : ℕ) → last_position < at → and_then (guard (nat_le at last_position) 61) (λ _. Ok at) ≡ Err 61
beyond at h = stops _ _ 61 (guard_fails _ 61 (lt-leb at last_position h))

shifted_forth : (from delta : ℕ) → delta < 2 ^ 63 → shifted from delta ≡ Some (from + delta)
shifted_forth from delta h = cond-true (nat_lt delta (2 ^ 63)) _ _ (lt-ltb delta (2 ^ 63) h)

shifted_back : (from delta : ℕ) → 2 ^ 63 ≤ delta → 2 ^ 64 - delta ≤ from → shifted from delta ≡ Some (from - (2 ^ 64 - delta))
shifted_back from delta h room = cond-false (nat_lt delta (2 ^ 63)) _ _ (le-ltb delta (2 ^ 63) h) ∙ cond-false (nat_lt from (2 ^ 64 - delta)) _ _ (le-ltb from (2 ^ 64 - delta) room)

pub none_back : (from delta : ℕ) → 2 ^ 63 ≤ delta → from < 2 ^ 64 - delta → position_at from delta ≡ Err 28
none_back from delta h below =
    let none : shifted from delta ≡ None = cond-false (nat_lt delta (2 ^ 63)) _ _ (le-ltb delta (2 ^ 63) h) ∙ cond-true (nat_lt from (2 ^ 64 - delta)) _ _ (lt-ltb from (2 ^ 64 - delta) below) in
    stops _ _ 28 (ap (λ (o : Option ℕ). ok_or {E = ℕ} o 28) none)

at_place : (from delta at : ℕ) → shifted from delta ≡ Some at → position_at from delta ≡ and_then (guard (nat_le at last_position) 61) (λ _. Ok at)
at_place from delta at is = goes_on _ _ at (ap (λ (o : Option ℕ). ok_or {E = ℕ} o 28) is)

pub forth : (from delta : ℕ) → delta < 2 ^ 63 → from + delta ≤ last_position → position_at from delta ≡ Ok (from + delta)
forth from delta h inside = at_place from delta (from + delta) (shifted_forth from delta h) ∙ placed (from + delta) inside

pub forth_beyond : (from delta : ℕ) → delta < 2 ^ 63 → last_position < from + delta → position_at from delta ≡ Err 61
forth_beyond from delta h outside = at_place from delta (from + delta) (shifted_forth from delta h) ∙ beyond (from + delta) outside

pub back : (from delta : ℕ) → 2 ^ 63 ≤ delta → 2 ^ 64 - delta ≤ from → from - (2 ^ 64 - delta) ≤ last_position → position_at from delta ≡ Ok (from - (2 ^ 64 - delta))
back from delta h room inside = at_place from delta _ (shifted_back from delta h room) ∙ placed _ inside

pub back_beyond : (from delta : ℕ) → 2 ^ 63 ≤ delta → 2 ^ 64 - delta ≤ from → last_position < from - (2 ^ 64 - delta) → position_at from delta ≡ Err 61
back_beyond from delta h room outside = at_place from delta _ (shifted_back from delta h room) ∙ beyond _ outside

-- what a test of the place says
pub told_forth : (from delta place : ℕ) (r : Result ℕ Errno) → delta ≤ last_position → place ≡ min (from + delta) (2 ^ 64 - 1)
    → IfOk r (λ at. (at ≡ place) × (place ≤ last_position)) → IfErr r (λ e. (e.0 ≡ 61) × (last_position < place))
    → MatchResult r (λ at. position_at from delta ≡ Ok at) (λ e. position_at from delta ≡ Err e.0)
told_forth from delta place (Ok at) h is near far = forth from delta (omega arith) (omega (arith, near)) ∙ ap Ok (let same : from + delta ≡ at = omega (arith, near) in same)
told_forth from delta place (Err e) h is near far = forth_beyond from delta (omega arith) (omega (arith, far)) ∙ ap Err (sym far.0)

pub told_back : (from delta place : ℕ) (r : Result ℕ Errno) → last_position < delta → 2 ^ 64 - delta ≤ from → place ≡ from - (2 ^ 64 - delta)
    → IfOk r (λ at. (at ≡ place) × (place ≤ last_position)) → IfErr r (λ e. (e.0 ≡ 61) × (last_position < place))
    → MatchResult r (λ at. position_at from delta ≡ Ok at) (λ e. position_at from delta ≡ Err e.0)
told_back from delta place (Ok at) h room is near far = back from delta (omega arith) room (omega (arith, near)) ∙ ap Ok (let same : from - (2 ^ 64 - delta) ≡ at = omega (arith, near) in same)
told_back from delta place (Err e) h room is near far = back_beyond from delta (omega arith) room (omega (arith, far)) ∙ ap Err (sym far.0)

-- ---- the row of fd_seek

-- checks one after another, and what follows them
pub together : {A B X : Type 0} (r : Checked A) (f : A → Checked B) (k : B → Checked X) → and_then r (λ a. and_then (f a) k) ≡ and_then (and_then r f) k
unfolding and_then
together (Ok a) f k = refl
together (Err e) f k = refl

pub five_together : {A B X : Type 0} (r : Checked A) (a b c e : A → Checked (Unit {0})) (f : A → Checked B) (k : B → Checked X)
    → and_then r (λ d. and_then (a d) (λ _. and_then (b d) (λ _. and_then (c d) (λ _. and_then (e d) (λ _. and_then (f d) k)))))
    ≡ and_then (and_then r (λ d. and_then (a d) (λ _. and_then (b d) (λ _. and_then (c d) (λ _. and_then (e d) (λ _. f d)))))) k
five_together r a b c e f k =
    (λ i. and_then r (λ d. and_then (a d) (λ _. and_then (b d) (λ _. and_then (c d) (λ _. together (e d) (λ _. f d) k i)))))
    ∙ ((λ i. and_then r (λ d. and_then (a d) (λ _. and_then (b d) (λ _. together (c d) (λ _. and_then (e d) (λ _. f d)) k i))))
    ∙ ((λ i. and_then r (λ d. and_then (a d) (λ _. together (b d) (λ _. and_then (c d) (λ _. and_then (e d) (λ _. f d))) k i)))
    ∙ ((λ i. and_then r (λ d. together (a d) (λ _. and_then (b d) (λ _. and_then (c d) (λ _. and_then (e d) (λ _. f d)))) k i))
    ∙ together r (λ d. and_then (a d) (λ _. and_then (b d) (λ _. and_then (c d) (λ _. and_then (e d) (λ _. f d))))) k)))

ended : {X : Type 0} (r : Checked ℕ) (test : ℕ → Bool) (k : ℕ → Checked X)
    → and_then r (λ at. and_then (guard (test at) 61) (λ _. k at)) ≡ and_then (and_then r (λ at. and_then (guard (test at) 61) (λ _. Ok at))) k
unfolding and_then guard
ended (Ok at) test k = elim (test at) as (λ (b : Bool). and_then (guard b 61) (λ _. k at) ≡ and_then (and_then (guard b 61) (λ _. Ok at)) k) [ true ↦ refl | false ↦ refl ]
ended (Err e) test k = refl

-- where the file is moved to is one check
ending : (w : World) (fd result : ℕ) (o : OpenedEntry) (from delta : ℕ)
    → and_then (ok_or (shifted from delta) 28) (λ at. and_then (guard (nat_le at last_position) 61) (λ _. Ok (with_result (with_descriptor fd (moved_to o at) w) result (little_bytes 8 at))))
    ≡ and_then (position_at from delta) (λ at. Ok (with_result (with_descriptor fd (moved_to o at) w) result (little_bytes 8 at)))
ending w fd result o from delta = ended (ok_or (shifted from delta) 28) (λ at. nat_le at last_position) (λ at. Ok (with_result (with_descriptor fd (moved_to o at) w) result (little_bytes 8 at)))

pub row_of_seek : (w : World) (m : List ℕ) (fd delta whence result : ℕ) → fd_seek w m fd delta whence result ≡ and_then (seekable w m fd delta whence result) (sought w fd delta whence result)
row_of_seek w m fd delta whence result =
    (λ i. and_then (get w fd) (λ d. and_then (of_kind only_files d) (λ _. and_then (guard (has d (2 ^ 2) || ((delta == 0) && (whence == 1) && has d (2 ^ 5))) 76)
    (λ _. and_then (guard (nat_le whence 2) 28) (λ _. and_then (range m result 8) (λ _. and_then (opened_entry d) (λ o. and_then (seek_from w o whence) (λ from. ending w fd result o from delta i))))))))
    ∙ five_together (get w fd) (λ d. of_kind only_files d) (λ d. guard (has d (2 ^ 2) || ((delta == 0) && (whence == 1) && has d (2 ^ 5))) 76)
    (λ d. guard (nat_le whence 2) 28) (λ d. range m result 8) opened_entry (sought w fd delta whence result)

-- where the volume answers it isn't 29
never_or : (o : Option ℕ) → ok_or {E = ℕ} o 28 ≢ Err 29
never_or None is = let same : ◌≡◌ {A = ℕ} 28 29 = cc in absurd (omega (arith, same))
never_or (Some n) is = cc

pub never_position : (from delta : ℕ) → position_at from delta ≢ Err 29
never_position from delta = never_after (ok_or (shifted from delta) 28) _ (never_or (shifted from delta))
    (λ at _. never_after (guard (nat_le at last_position) 61) _ (never_guard _ 61 (λ same. absurd (omega (arith, same)))) (λ _ _ is. cc))

pub sought_never : (w : World) (fd delta whence result : ℕ) (o : OpenedEntry) → seek_from w o whence ≢ Err 29 → sought w fd delta whence result o ≢ Err 29
sought_never w fd delta whence result o never = never_after (seek_from w o whence) _ never
    (λ from _. never_after (position_at from delta) _ (never_position from delta) (λ at _ is. cc))

pub from_end : (w : World) (o : OpenedEntry) (whence : ℕ) → whence ≡ 2 → seek_from w o whence ≡ tree_call w (Ok (length (bytes_at w.tree o.serial)))
from_end w o whence is = ap (seek_from w o) is

-- ---- calls that leave another table

pub in_table : (run : World → Checked Done) (w : World) (m : List ℕ) (w' : World) (m' : List ℕ) (e : ℕ) (t : Table) → w'.table ≡ t → Answered run w m w' m' e → Answered run w m (with_table t w') m' e
in_table run w m w' m' e t is = subst (λ (t : Table). Answered run w m (with_table t w') m' e) is

pub table_moved : (fd : ℕ) (d : Option Descriptor) (old new t : Table) → ((k : ℕ) → new k ≡ with_at fd d old k) → t ≡ old → new ≡ with_at fd d t
table_moved fd d old new t moved same = (λ i k. moved k i) ∙ ap (with_at fd d) (sym same)
