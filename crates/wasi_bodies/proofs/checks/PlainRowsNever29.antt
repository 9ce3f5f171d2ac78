-- Calls that reach neither the volume nor a stream don't answer 29.
use Rattle.std.proofs.Common.{◌≡◌, ◌≢◌, ℕ, ◌*◌, ◌^◌, ◌||◌, ◌≤◌, false, nat_le, nat_lt, inl, inr, List, length, Some, None, Ok, refl, Err, sym, ◌∙◌, ap, arith}
use Rattle.std.proofs.lemmas.Bool.{false≢true, cases_eq, cond-true, cond-false, eq-eqb, ne_eqb}
use Rattle.std.proofs.lemmas.Bool.Decides.{nat_tests}
use Rattle.std.specs.Option.{ok_or}
use Rattle.wasi_fd.specs.declared.descriptor.EntryKind.TheVariants as kinds
use Rattle.wasm_store.specs.declared.call.HostCall.{HostCall}
use Rattle.wasm_store.specs.declared.call.HostCall.TheVariants as call
use Rattle.wasi_fd.specs.declared.descriptor.Descriptor.TheVariants.{Entry}
use Rattle.wasi_fd.specs.declared.descriptor.Opened.{Opened}
use Rattle.wasi_bodies.specs.declared.checks.DescriptorKinds.TheVariants as takes
use Rattle.wasi_bodies.specs.World.{World}
use Rattle.wasi_bodies.specs.Checks.{Checked, Done, guard, get, of_kind, has, only_files, opened_entry, range}
use Rattle.wasi_bodies.specs.supplies.Random.{has_left}
use Rattle.wasi_bodies.specs.supplies.Rows.{sizes_get, texts_get, clock_res_get, clock_time_get, random_get, ended_bytes}
use Rattle.wasi_bodies.specs.descriptors.Rows.{fd_close, fd_fdstat_get, fd_prestat_get, fd_prestat_dir_name, fd_tell, guest_name, seek_from, fd_seek}
use Rattle.wasi_bodies.specs.internal.descriptors.Positions.{seekable}
use Rattle.wasi_bodies.specs.Calls.{row, word, long, reaches_volume, Answers}
use Rattle.wasi_bodies.proofs.bodies.VolumeCalls.{never_after}
use Rattle.wasi_bodies.proofs.checks.NoneAnswers29.{guards, ok_never, ends_never, get_never, kind_never, opened_never, range_never, seekable_never}
use Rattle.wasi_bodies.proofs.checks.NoneAnswers0.{ok_no_err}
use Rattle.wasi_bodies.proofs.descriptors.Shifts.{row_of_seek, sought_never}

some_entry : Opened
some_entry = record { serial = 0; kind = kinds.File; position = 0; append = false; base = record { 0 = 0 }; inheriting = record { 0 = 0 }; guest_name = None }

sizes_never : (texts : List (List ℕ)) (w : World) (m : List ℕ) (count size : ℕ) → sizes_get texts w m count size ≢ Err 29
sizes_never texts w m count size = never_after (range m count 4) _ (range_never m count 4) (λ _ _. never_after (range m size 4) _ (range_never m size 4) (λ _ _. ends_never _))

texts_never : (texts : List (List ℕ)) (w : World) (m : List ℕ) (at buffer : ℕ) → texts_get texts w m at buffer ≢ Err 29
texts_never texts w m at buffer =
    never_after (range m at (4 * length texts)) _ (range_never m at (4 * length texts))
    (λ _ _. never_after (range m buffer (ended_bytes texts)) _ (range_never m buffer (ended_bytes texts)) (λ _ _. ends_never _))

res_never : (w : World) (m : List ℕ) (id result : ℕ) → clock_res_get w m id result ≢ Err 29
res_never w m id result = never_after (guard (nat_le id 1) 28) _ (guards _ 28 refl) (λ _ _. never_after (range m result 8) _ (range_never m result 8) (λ _ _. ends_never _))

time_never : (w : World) (m : List ℕ) (units id result : ℕ) → clock_time_get w m units id result ≢ Err 29
time_never w m units id result = never_after (guard (nat_le id 1) 28) _ (guards _ 28 refl) (λ _ _. never_after (range m result 8) _ (range_never m result 8) (λ _ _. ends_never _))

random_never : (w : World) (m : List ℕ) (buffer len : ℕ) → random_get w m buffer len ≢ Err 29
random_never w m buffer len = never_after (range m buffer len) _ (range_never m buffer len) (λ _ _. never_after (guard (has_left len w.random) 6) _ (guards _ 6 refl) (λ _ _. ends_never _))

close_never : (w : World) (fd : ℕ) → fd_close w fd ≢ Err 29
close_never w fd = never_after (get w fd) _ (get_never w fd) (λ _ _. ends_never _)

stat_never : (w : World) (m : List ℕ) (fd result : ℕ) → fd_fdstat_get w m fd result ≢ Err 29
stat_never w m fd result = never_after (get w fd) _ (get_never w fd) (λ _ _. never_after (range m result 24) _ (range_never m result 24) (λ _ _. ends_never _))

prestat_never : (w : World) (m : List ℕ) (fd result : ℕ) → fd_prestat_get w m fd result ≢ Err 29
prestat_never w m fd result =
    never_after (get w fd) _ (get_never w fd)
    (λ d _. never_after (ok_or (guest_name d) 8) _ (ok_never (guest_name d) 8 (λ is. absurd (omega (arith, is))))
    (λ _ _. never_after (range m result 8) _ (range_never m result 8) (λ _ _. ends_never _)))

dir_name_never : (w : World) (m : List ℕ) (fd path len : ℕ) → fd_prestat_dir_name w m fd path len ≢ Err 29
dir_name_never w m fd path len =
    never_after (get w fd) _ (get_never w fd)
    (λ d _. never_after (ok_or (guest_name d) 8) _ (ok_never (guest_name d) 8 (λ is. absurd (omega (arith, is))))
    (λ name _. never_after (range m path len) _ (range_never m path len)
    (λ _ _. never_after (guard (nat_le (length name) len) 37) _ (guards _ 37 refl) (λ _ _. ends_never _))))

tell_never : (w : World) (m : List ℕ) (fd result : ℕ) → fd_tell w m fd result ≢ Err 29
tell_never w m fd result =
    never_after (get w fd) _ (get_never w fd)
    (λ d _. never_after (of_kind only_files d) _ (kind_never takes.Files d)
    (λ _ _. never_after (guard (has d (2 ^ 2) || has d (2 ^ 5)) 76) _ (guards _ 76 refl)
    (λ _ _. never_after (range m result 8) _ (range_never m result 8)
    (λ _ _. never_after (opened_entry d) _ (opened_never d) (λ _ _. ends_never _)))))

small : (n : ℕ) → nat_lt 1 n ≡ false → n ≤ 1
small n low = grind (arith, nat_tests)

-- nothing is asked of the volume where a position is counted from the start or from itself
near_never : (w : World) (o : Opened) (whence : ℕ) → nat_lt 1 whence ≡ false → seek_from w o whence ≢ Err 29
near_never w o whence near = elim (cases_eq whence 0) [
  | inl start ↦ ok_no_err (seek_from w o whence) 0 29 (cond-true _ _ _ (eq-eqb whence 0 start))
  | inr other ↦
      let low = small whence near in
      ok_no_err (seek_from w o whence) o.position 29 (cond-false _ _ _ (ne_eqb whence 0 other) ∙ cond-true _ _ _ (eq-eqb whence 1 (omega arith)))
]

seek_never : (w : World) (m : List ℕ) (fd delta whence result : ℕ) → nat_lt 1 whence ≡ false → fd_seek w m fd delta whence result ≢ Err 29
seek_never w m fd delta whence result near is =
    never_after (seekable w m fd delta whence result) _ (seekable_never m fd delta whence result w)
    (λ o _. sought_never w fd delta whence result o (near_never w o whence near)) (sym (row_of_seek w m fd delta whence result) ∙ is)

nosys_never : ◌≢◌ {A = Checked Done} (Err 52) (Err 29)
nosys_never is = let same : ◌≡◌ {A = ℕ} 52 29 = cc in absurd (omega (arith, same))

pub plain_never : (c : HostCall) (w : World) (m : List ℕ) (used : ℕ) (args : List ℕ) → ((o : Opened) → reaches_volume c (λ _. Some (Entry o)) args ≡ false) → row c w m used args ≢ Err 29
plain_never call.ArgsSizesGet w m used a plain = sizes_never _ w m (word a 0) (word a 1)
plain_never call.ArgsGet w m used a plain = texts_never _ w m (word a 0) (word a 1)
plain_never call.EnvironSizesGet w m used a plain = sizes_never _ w m (word a 0) (word a 1)
plain_never call.EnvironGet w m used a plain = texts_never _ w m (word a 0) (word a 1)
plain_never call.ClockResGet w m used a plain = res_never w m (word a 0) (word a 1)
plain_never call.ClockTimeGet w m used a plain = time_never w m used (word a 0) (word a 2)
plain_never call.RandomGet w m used a plain = random_never w m (word a 0) (word a 1)
plain_never call.ProcExit w m used a plain = nosys_never
plain_never call.FdClose w m used a plain = close_never w (word a 0)
plain_never call.FdFdstatGet w m used a plain = stat_never w m (word a 0) (word a 1)
plain_never call.FdPrestatGet w m used a plain = prestat_never w m (word a 0) (word a 1)
plain_never call.FdPrestatDirName w m used a plain = dir_name_never w m (word a 0) (word a 1) (word a 2)
plain_never call.FdTell w m used a plain = tell_never w m (word a 0) (word a 1)
plain_never call.FdSeek w m used a plain = seek_never w m (word a 0) (long a 1) (word a 2) (word a 3) (plain some_entry)
plain_never call.Nosys w m used a plain = nosys_never
plain_never other w m used a plain = absurd (false≢true (sym (plain some_entry)))

pub answers_never : {P : Type 0} (r : Checked Done) (w : World) (m : List ℕ) (w' : World) (m' : List ℕ) (e : ℕ) → Answers r w m w' m' e → r ≢ Err 29 → e ≡ 29 → P
answers_never (Ok done) w m w' m' e a never is = absurd (omega (arith, a.0, is))
answers_never (Err x) w m w' m' e a never is = absurd (never (ap Err (sym a.0 ∙ is)))
