-- No check answers 29.
use Rattle.std.proofs.Common.{◌≡◌, ◌≢◌, ℕ, ◌*◌, ◌^◌, ◌==◌, ◌&&◌, ◌||◌, nat_le, nat_lt, Bool, true, List, Option, Some, None, Ok, Err, ap, sym, ◌∙◌, refl, arith}
use Rattle.std.specs.List.{list_all}
use Rattle.std.specs.Option.{ok_or}
use Rattle.wasm_store.specs.Bytes.{bytes_at}
use Rattle.wasi_fd.specs.declared.descriptor.Descriptor.{Descriptor}
use Rattle.wasi_fd.specs.declared.descriptor.Descriptor.TheVariants.{Stream, Entry}
use Rattle.wasi_fd.specs.declared.descriptor.EntryKind.{EntryKind}
use Rattle.wasi_fd.specs.declared.descriptor.EntryKind.TheVariants as kinds
use Rattle.wasi_bodies.specs.declared.checks.DescriptorKinds.{DescriptorKinds}
use Rattle.wasi_bodies.specs.declared.checks.DescriptorKinds.TheVariants as takes
use Rattle.wasi_bodies.specs.declared.files.listing.ListCall.{ListCall}
use Rattle.wasi_bodies.specs.World.{World}
use Rattle.wasi_bodies.specs.Checks.{Checked, guard, get, of_kind, has, opened_entry, descriptor, entry_at, only_files, only_directories, range, buffers, buffers_in, total, is_inside}
use Rattle.wasi_bodies.specs.internal.Entries.{refusals_of}
use Rattle.wasi_bodies.specs.internal.paths.Walks.{starting_directory}
use Rattle.wasi_bodies.specs.internal.descriptors.Positions.{seekable}
use Rattle.wasi_bodies.specs.internal.files.Listing.{listable}
use Rattle.wasi_bodies.specs.internal.checks.Buffers.{usable}
use Rattle.wasi_bodies.specs.declared.checks.buffers.TheConstants.{MOST_BUFFERS}
use Rattle.wasi_bodies.proofs.bodies.VolumeCalls.{never_after, never_guard}

pub guards : (b : Bool) (e : ℕ) → nat_lt e 29 || nat_lt 29 e ≡ true → guard b e ≢ Err 29
guards b e other = never_guard b e (λ is. other_number e other is)
  where
    other_number : (e : ℕ) → nat_lt e 29 || nat_lt 29 e ≡ true → e ≡ 29 → ⊥
    other_number e other is = let same : nat_lt 29 29 || nat_lt 29 29 ≡ true = ap (λ (n : ℕ). nat_lt n 29 || nat_lt 29 n) (sym is) ∙ other in cc

pub ok_never : {X : Type 0} (o : Option X) (e : ℕ) → e ≢ 29 → ok_or {E = ℕ} o e ≢ Err 29
ok_never None e other is = other cc
ok_never (Some x) e other is = cc

pub ends_never : {X : Type 0} (x : X) → ◌≢◌ {A = Checked X} (Ok x) (Err 29)
ends_never x is = cc

pub get_never : (w : World) (fd : ℕ) → get w fd ≢ Err 29
get_never w fd = ok_never (w.table fd) 8 (λ is. absurd (omega (arith, is)))

pub kind_never : (t : DescriptorKinds) (d : Descriptor) → of_kind (refusals_of t) d ≢ Err 29
kind_never takes.Any (Stream s) is = cc
kind_never takes.Directories (Stream s) is = let same : ◌≡◌ {A = ℕ} 54 29 = cc in absurd (omega (arith, same))
kind_never takes.NoDirectories (Stream s) is = cc
kind_never takes.Files (Stream s) is = let same : ◌≡◌ {A = ℕ} 70 29 = cc in absurd (omega (arith, same))
kind_never takes.Sized (Stream s) is = let same : ◌≡◌ {A = ℕ} 28 29 = cc in absurd (omega (arith, same))
kind_never takes.NoStreams (Stream s) is = let same : ◌≡◌ {A = ℕ} 28 29 = cc in absurd (omega (arith, same))
kind_never t (Entry o) is = entry_kind t o.kind is
  where
    entry_kind : (t : DescriptorKinds) (k : EntryKind) → of_kind (refusals_of t) (Entry (record o { kind = k })) ≡ Err 29 → ⊥
    entry_kind takes.Any kinds.Directory is = cc
    entry_kind takes.Any kinds.File is = cc
    entry_kind takes.Directories kinds.Directory is = cc
    entry_kind takes.Directories kinds.File is = let same : ◌≡◌ {A = ℕ} 54 29 = cc in absurd (omega (arith, same))
    entry_kind takes.NoDirectories kinds.Directory is = let same : ◌≡◌ {A = ℕ} 31 29 = cc in absurd (omega (arith, same))
    entry_kind takes.NoDirectories kinds.File is = cc
    entry_kind takes.Files kinds.Directory is = let same : ◌≡◌ {A = ℕ} 31 29 = cc in absurd (omega (arith, same))
    entry_kind takes.Files kinds.File is = cc
    entry_kind takes.Sized kinds.Directory is = let same : ◌≡◌ {A = ℕ} 31 29 = cc in absurd (omega (arith, same))
    entry_kind takes.Sized kinds.File is = cc
    entry_kind takes.NoStreams kinds.Directory is = cc
    entry_kind takes.NoStreams kinds.File is = cc

pub descriptor_never : (fd : ℕ) (t : DescriptorKinds) (rights : ℕ) (w : World) → descriptor w fd (refusals_of t) rights ≢ Err 29
descriptor_never fd t rights w =
    never_after (get w fd) _ (get_never w fd) (λ d _. never_after (of_kind (refusals_of t) d) _ (kind_never t d)
    (λ _ _. never_after (guard (has d rights) 76) _ (guards _ 76 refl) (λ _ _. ends_never d)))

pub opened_never : (d : Descriptor) → opened_entry d ≢ Err 29
opened_never (Stream s) is = let same : ◌≡◌ {A = ℕ} 8 29 = cc in absurd (omega (arith, same))
opened_never (Entry o) is = cc

pub entry_never : (fd : ℕ) (t : DescriptorKinds) (rights : ℕ) (w : World) → entry_at w fd (refusals_of t) rights ≢ Err 29
entry_never fd t rights w = never_after (descriptor w fd (refusals_of t) rights) opened_entry (descriptor_never fd t rights w) (λ d _. opened_never d)

pub range_never : (m : List ℕ) (pointer len : ℕ) → range m pointer len ≢ Err 29
range_never m pointer len = guards _ 21 refl

pub entered_never : (m : List ℕ) (fd rights path len : ℕ) (w : World) → starting_directory w m fd rights path len ≢ Err 29
entered_never m fd rights path len w =
    never_after (entry_at w fd only_directories rights) _ (entry_never fd takes.Directories rights w)
    (λ o _. never_after (range m path len) _ (range_never m path len) (λ _ _. ends_never o))

pub seekable_never : (m : List ℕ) (fd delta whence result : ℕ) (w : World) → seekable w m fd delta whence result ≢ Err 29
seekable_never m fd delta whence result w =
    never_after (get w fd) _ (get_never w fd)
    (λ d _. never_after (of_kind only_files d) _ (kind_never takes.Files d)
    (λ _ _. never_after (guard (has d (2 ^ 2) || ((delta == 0) && (whence == 1) && has d (2 ^ 5))) 76) _ (guards _ 76 refl)
    (λ _ _. never_after (guard (nat_le whence 2) 28) _ (guards _ 28 refl)
    (λ _ _. never_after (range m result 8) _ (range_never m result 8) (λ _ _. opened_never d)))))

pub listable_never : (m : List ℕ) (a : ListCall) (w : World) → listable w m a ≢ Err 29
listable_never m a w =
    never_after (entry_at w a.fd only_directories (2 ^ 14)) _ (entry_never a.fd takes.Directories (2 ^ 14) w)
    (λ o _. never_after (range m a.buffer a.len) _ (range_never m a.buffer a.len)
    (λ _ _. never_after (range m a.used_at 4) _ (range_never m a.used_at 4) (λ _ _. ends_never o)))

buffers_never : (m : List ℕ) (iovs count : ℕ) → buffers m iovs count ≢ Err 29
buffers_never m iovs count =
    let all = buffers_in count (bytes_at m iovs (8 * count)) in
    never_after (guard (nat_le count MOST_BUFFERS) 28) _ (guards _ 28 refl)
    (λ _ _. never_after (range m iovs (8 * count)) _ (range_never m iovs (8 * count))
    (λ _ _. never_after (guard (nat_lt (total all) (2 ^ 32)) 28) _ (guards _ 28 refl)
    (λ _ _. never_after (guard (list_all (is_inside m) all) 21) _ (guards _ 21 refl) (λ _ _. ends_never all))))

pub usable_never : (m : List ℕ) (iovs count result : ℕ) → usable m iovs count result ≢ Err 29
usable_never m iovs count result =
    never_after (buffers m iovs count) _ (buffers_never m iovs count) (λ bs _. never_after (range m result 4) _ (range_never m result 4) (λ _ _. ends_never bs))
