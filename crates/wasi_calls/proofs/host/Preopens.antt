-- How the preopened directories are found and opened.
use Rattle.std.proofs.Common.{◌≡◌, ◌≢◌, ◌⊎◌, ◌<◌, ◌≤◌, ◌+◌, ◌-◌, ◌==◌, nat_lt, ℕ, zero, suc, Bool, true, false, List, [], ◌∷◌, length, set, get_or, Option, Some, None, Result, Ok, Err, inl, inr, refl, sym, ◌∙◌, ap, subst, arith, zero-add}
use Rattle.std.specs.List.{slice_get}
use Rattle.std.specs.Option.{option_map, option_map_or}
use Rattle.std.proofs.lemmas.Bool.{cases_Bool, cases_lt, cases_eq, cond-true, cond-false, lt-ltb, le-ltb, eq-eqb, ne_eqb, false≢true}
use Rattle.std.proofs.lemmas.List.{get_or-set_same, get_or-set_other}
use Rattle.std.proofs.lemmas.Option.{none-some, slice_get_within, slice_get_past, slice_get-get_or}
use Rattle.vol_sector.specs.Disk.{Disk, counted}
use Rattle.vol_tree.specs.declared.errno.Errno.{Errno}
use Rattle.vol_tree.specs.declared.errno.Errno.TheVariants as errno
use Rattle.vol_tree.specs.Tree.{Tree, Name, IsTree, Entry as TreeEntry, entry}
use Rattle.vol_tree.specs.Calls.{directory_at, is_directory}
use Rattle.vol_tree.specs.declared.superblock.Superblock.{Superblock}
use Rattle.vol_tree.specs.Clauses.{is_io}
use Rattle.vol_tree.specs.Opened.{Opened, IsSerial}
use Rattle.vol_tree.proofs.GoingOn.{goes_then}
use Rattle.path_walk.specs.Paths.{Reached, Found, Missing, slash, path_read, wants_directory, resolved, ◌>>=◌}
use Rattle.path_walk.specs.Rooted.{reached_from_root}
use Rattle.wasi_fd.specs.declared.descriptor.Descriptor.{Descriptor}
use Rattle.wasi_fd.specs.declared.descriptor.Descriptor.TheVariants.{Entry}
use Rattle.wasi_fd.specs.declared.descriptor.EntryKind.TheVariants as kinds
use Rattle.wasi_fd.specs.declared.descriptor.Opened.{Opened as OpenedEntry}
use Rattle.wasi_fd.specs.Rights.{directory_rights, all_rights}
use Rattle.wasi_fd.specs.Table.{Table, streams, with_at}
use Rattle.wasi_calls.specs.declared.host.fault.HostFault.{HostFault}
use Rattle.wasi_calls.specs.declared.host.fault.HostFault.TheVariants.{Setting, Preopen, Device, Memory}
use Rattle.wasi_bodies.specs.declared.settings.Preopen.{Preopen as PreopenValue}
use Rattle.path_walk.specs.Walk.{Asked}
use Rattle.wasi_calls.specs.host.Making.{HasPreopens, is_device, directory_named, from_root, found_directory, preopens_of, preopened, table_with}
use Rattle.wasi_calls.specs.internal.host.Preopening.{fault_as, FindsOrFails, FindsAll, AreFound, AreNumbers, AreOpen, FoundSoFar, opened_from}
use Rattle.wasi_bodies.specs.internal.Entries.{IsThere, KnowsEntries, is_directory_kind}
use Rattle.wasi_bodies.proofs.OpenEntries.{no_entries}
use Rattle.wasi_bodies.proofs.checks.Passing.{same_entry}
use Rattle.wasi_fd.specs.declared.table.TheConstants.{PLACES}
use Rattle.wasi_bodies.specs.declared.settings.TheConstants.{MOST_PREOPENS}

module _ {D : Type 0} (honest : D → Type 0) (disk : D → Disk) (sectors_on failures : D → ℕ) (goes_on : ℕ → D → D → Type 0) where
  pub reads_then : (a b c : Opened D) (io : Bool) → Asked honest disk sectors_on failures goes_on a b false → Asked honest disk sectors_on failures goes_on b c io → Asked honest disk sectors_on failures goes_on a c io
  reads_then a b c io f s = record {
    tree = λ h. s.tree (f.kept.honest.0 h) ∙ f.tree h;
    crash = λ h.
        let before = f.crash h in
        let after = s.crash (f.kept.honest.0 h) in
        record {
          later = omega (arith, before.later, after.later);
          since = λ t image low left. elim (after.since t image (omega (arith, before.later)) left) [ inl still ↦ before.since t image low still | inr never ↦ absurd never ];
          now = λ image left. elim (after.now image left) [ inl still ↦ before.now image still | inr never ↦ absurd never ];
        };
    kept = record {
      numbers = s.kept.numbers ∙ f.kept.numbers;
      failed = s.kept.failed;
      failures = λ ok. s.kept.failures f.kept.failed ∙ ap (counted io) (f.kept.failures ok);
      idle = λ failed. absurd (let i = (f.kept.idle failed).1 in cc);
      honest = (λ h. s.kept.honest.0 (f.kept.honest.0 h), λ h. f.kept.honest.1 (s.kept.honest.1 h));
      size = s.kept.size ∙ f.kept.size;
    };
    goes = goes_then goes_on a b c f.kept.numbers f.goes s.goes;
  }

-- ---- what a path names

-- a walk from the root that was refused
-- a refusal of the volume is a fault of the device where it failed
device_as : (X Y : Type 0) (e : Errno) → is_io {X = X} (Err e) ≡ is_device {X = Y} (Err (fault_as e))
device_as X Y errno.Exist = refl
device_as X Y errno.TooBig = refl
device_as X Y errno.BadText = refl
device_as X Y errno.Invalid = refl
device_as X Y errno.Io = refl
device_as X Y errno.IsDirectory = refl
device_as X Y errno.NameTooLong = refl
device_as X Y errno.NotFound = refl
device_as X Y errno.NoSpace = refl
device_as X Y errno.NotDirectory = refl
device_as X Y errno.NotEmpty = refl
device_as X Y errno.NotCapable = refl

pub asked_device : {D : Type 0} (X Y : Type 0) (honest : D → Type 0) (disk : D → Disk) (sectors_on failures : D → ℕ) (goes_on : ℕ → D → D → Type 0) (a b : Opened D) (e : Errno) (fault : HostFault) → fault ≡ fault_as e
    → Asked honest disk sectors_on failures goes_on a b (is_io {X = X} (Err e)) → Asked honest disk sectors_on failures goes_on a b (is_device {X = Y} (Err fault))
asked_device X Y honest disk sectors_on failures goes_on a b e fault is asked =
    subst (Asked honest disk sectors_on failures goes_on a b) (device_as X Y e ∙ ap (λ (f : HostFault). is_device {X = Y} (Err f)) (sym is)) asked

pub root_refused : (T : Tree) (rest : List ℕ) (e : Errno) → reached_from_root T rest ≡ Err e → from_root T rest ≡ None
root_refused T [] e is = absurd (cc)
root_refused T (c ∷ rest) e is = go (path_read (c ∷ rest)) is
  where
    wants : Bool
    wants = wants_directory (c ∷ rest)

    Both : Type 0
    Both = Result (Reached × Bool) Errno

    ended : (x : Result Reached Errno) → (x >>= λ r. let both : Both = Ok (r, wants) in both) ≡ Err e → found_directory T x ≡ None
    ended (Ok r) is = absurd (cc)
    ended (Err f) is = refl

    go : (names : Result (List Name) Errno) → (names >>= λ names. resolved T 1 wants names >>= λ r. let both : Both = Ok (r, wants) in both) ≡ Err e → found_directory T (names >>= resolved T 1 wants) ≡ None
    go (Ok names) is = ended (resolved T 1 wants names) is
    go (Err f) is = refl

pub refused_none : (m : Option ℕ) (e : Errno) → (m ≡ None) ⊎ (e ≡ errno.Io) → FindsOrFails m (Err (fault_as e))
refused_none m errno.Io why = tt
refused_none m errno.Exist why = elim why [ inl none ↦ none | inr io ↦ absurd (cc) ]
refused_none m errno.TooBig why = elim why [ inl none ↦ none | inr io ↦ absurd (cc) ]
refused_none m errno.BadText why = elim why [ inl none ↦ none | inr io ↦ absurd (cc) ]
refused_none m errno.Invalid why = elim why [ inl none ↦ none | inr io ↦ absurd (cc) ]
refused_none m errno.IsDirectory why = elim why [ inl none ↦ none | inr io ↦ absurd (cc) ]
refused_none m errno.NameTooLong why = elim why [ inl none ↦ none | inr io ↦ absurd (cc) ]
refused_none m errno.NotFound why = elim why [ inl none ↦ none | inr io ↦ absurd (cc) ]
refused_none m errno.NoSpace why = elim why [ inl none ↦ none | inr io ↦ absurd (cc) ]
refused_none m errno.NotDirectory why = elim why [ inl none ↦ none | inr io ↦ absurd (cc) ]
refused_none m errno.NotEmpty why = elim why [ inl none ↦ none | inr io ↦ absurd (cc) ]
refused_none m errno.NotCapable why = elim why [ inl none ↦ none | inr io ↦ absurd (cc) ]

some_same : (a b : ℕ) → ◌≡◌ {A = Option ℕ} (Some a) (Some b) → a ≡ b
some_same a b is = cc

found_is : (T : Tree) (r : Result Reached Errno) (serial : ℕ) → found_directory T r ≡ Some serial → directory_at T serial ≡ true
found_is T (Ok (Found s)) serial is = elim (cases_Bool (directory_at T s)) [
  | inl there ↦ ap (directory_at T) (sym (some_same s serial (sym (cond-true (directory_at T s) (Some s) None there) ∙ is))) ∙ there
  | inr away ↦ absurd (none-some serial (sym (cond-false (directory_at T s) (Some s) None away) ∙ is))
]
found_is T (Ok (Missing parent name)) serial is = absurd (none-some serial is)
found_is T (Err e) serial is = absurd (none-some serial is)

root_is : (T : Tree) → IsTree T → (rest : List ℕ) (serial : ℕ) → from_root T rest ≡ Some serial → directory_at T serial ≡ true
root_is T tree [] serial is =
    ap (directory_at T) (sym (some_same 1 serial is)) ∙ ap (λ (e : Option TreeEntry). option_map_or (λ (e : TreeEntry). is_directory e.node) e false) tree.top
root_is T tree (c ∷ rest) serial is = found_is T _ serial is

-- what a path names is a directory
pub named_is : (T : Tree) → IsTree T → (path : List ℕ) (serial : ℕ) → directory_named T path ≡ Some serial → directory_at T serial ≡ true
named_is T tree [] serial is = absurd (none-some serial is)
named_is T tree (c ∷ rest) serial is = elim (cases_eq c slash) [
  | inl here ↦ root_is T tree rest serial (sym (cond-true _ (from_root T rest) None (eq-eqb c slash here)) ∙ is)
  | inr other ↦ absurd (none-some serial (sym (cond-false _ (from_root T rest) None (ne_eqb c slash other)) ∙ is))
]

-- ---- the list of directories

-- what stands past its end
abbrev pub no_preopen : PreopenValue
no_preopen = record { guest_name = record { ref_ptr = (0, 0); now = [] }; path = record { ref_ptr = (0, 0); now = [] } }

abbrev both : (T : Tree) (p : PreopenValue) → Option ℕ → Option (List Descriptor) → Option (List Descriptor)
both T p serial ds = option_map_or (λ serial. option_map (λ (ds : List Descriptor). preopened p serial ∷ ds) ds) serial None

all_from : (T : Tree) (ps : List PreopenValue) (serials : List ℕ) (n : ℕ) → ((k : ℕ) (p : PreopenValue) → slice_get ps k ≡ Some p → directory_named T p.path.now ≡ Some (get_or serials (n + k) 0))
    → preopens_of T ps ≡ Some (opened_from n ps serials)
all_from T [] serials n found = refl
all_from T (p ∷ ps) serials n found =
    let here : directory_named T p.path.now ≡ Some (get_or serials n 0) = found 0 p refl ∙ ap (λ (k : ℕ). Some (get_or serials k 0)) (omega arith) in
    let rest : preopens_of T ps ≡ Some (opened_from (suc n) ps serials) =
    all_from T ps serials (suc n) (λ k q is. found (suc k) q is ∙ ap (λ (k : ℕ). Some (get_or serials k 0)) (omega arith)) in
    ap (λ (s : Option ℕ). both T p s (preopens_of T ps)) here ∙ ap (both T p (Some (get_or serials n 0))) rest

pub all_found : (T : Tree) (ps : List PreopenValue) (serials : List ℕ) → AreFound T ps serials (length ps) → preopens_of T ps ≡ Some (opened_from 0 ps serials)
all_found T ps serials found = all_from T ps serials 0 (λ k p is. found k p (slice_get_within ps k p is) is ∙ ap (λ (k : ℕ). Some (get_or serials k 0)) (sym (zero-add k)))

-- where one path names none
pub one_missing : (T : Tree) (ps : List PreopenValue) (k : ℕ) (p : PreopenValue) → slice_get ps k ≡ Some p → directory_named T p.path.now ≡ None → preopens_of T ps ≡ None
one_missing T [] k p is none = absurd (none-some p is)
one_missing T (q ∷ ps) zero p is none =
    let same : q ≡ p = cc in
    ap (λ (s : Option ℕ). both T q s (preopens_of T ps)) (ap (λ (p : PreopenValue). directory_named T p.path.now) same ∙ none)
one_missing T (q ∷ ps) (suc k) p is none =
    ap (both T q (directory_named T q.path.now)) (one_missing T ps k p is none) ∙ both_none (directory_named T q.path.now)
  where
    both_none : (s : Option ℕ) → both T q s None ≡ None
    both_none None = refl
    both_none (Some s) = refl

-- the same of what was found and refused
pub refused_one : (T : Tree) (ps : List PreopenValue) (serials : List ℕ) (k : ℕ) (p : PreopenValue) (fault : HostFault) → slice_get ps k ≡ Some p
    → FindsOrFails {X = ℕ} (directory_named T p.path.now) (Err fault) → FindsAll T ps serials (Err fault)
refused_one T ps serials k p Setting at h = h
refused_one T ps serials k p Preopen at h = one_missing T ps k p at h
refused_one T ps serials k p Device at h = tt
refused_one T ps serials k p Memory at h = h

-- one more was found
found_more : (T : Tree) (ps : List PreopenValue) (serials : List ℕ) (i serial : ℕ) (p : PreopenValue) → i < length serials → slice_get ps i ≡ Some p
    → directory_named T p.path.now ≡ Some serial → AreFound T ps serials i → AreFound T ps (set serials i serial) (i + 1)
found_more T ps serials i serial p inside at named before k q below is = elim (cases_eq k i) [
  | inl here ↦
      let both : ◌≡◌ {A = Option PreopenValue} (Some q) (Some p) = sym is ∙ (ap (slice_get ps) here ∙ at) in
      let same : q ≡ p = cc in
      ap (λ (p : PreopenValue). directory_named T p.path.now) same
      ∙ (named ∙ ap Some (sym (ap (λ (k : ℕ). get_or (set serials i serial) k 0) here ∙ get_or-set_same serials i serial 0 inside)))
  | inr apart ↦ before k q (omega arith) is ∙ ap Some (sym (get_or-set_other serials i k serial 0 apart))
]

numbers_more : (numbers : Superblock) (serials : List ℕ) (i serial : ℕ) → i < length serials → IsSerial numbers serial → AreNumbers numbers serials i
    → AreNumbers numbers (set serials i serial) (i + 1)
numbers_more numbers serials i serial inside is before k below = elim (cases_eq k i) [
  | inl here ↦
      subst (λ (n : ℕ). IsSerial numbers n) (sym (ap (λ (k : ℕ). get_or (set serials i serial) k 0) here ∙ get_or-set_same serials i serial 0 inside)) is
  | inr apart ↦ subst (λ (n : ℕ). IsSerial numbers n) (sym (get_or-set_other serials i k serial 0 apart)) (before k (omega arith))
]

module _ {D : Type 0} (honest : D → Type 0) (disk : D → Disk) (sectors_on failures : D → ℕ) (goes_on : ℕ → D → D → Type 0) where
  pub so_far_more : (a b c : Opened D) (ps : List PreopenValue) (serials : List ℕ) (i serial : ℕ) (p : PreopenValue) → i < length serials → slice_get ps i ≡ Some p
      → FoundSoFar honest disk sectors_on failures goes_on a b ps serials i → Asked honest disk sectors_on failures goes_on b c false
      → (honest b.device → directory_named b.tree p.path.now ≡ Some serial) → IsSerial c.numbers serial
      → FoundSoFar honest disk sectors_on failures goes_on a c ps (set serials i serial) (i + 1)
  so_far_more a b c ps serials i serial p inside at before reads named number = record {
    reads = reads_then honest disk sectors_on failures goes_on a b c false before.reads reads;
    found = λ h. found_more a.tree ps serials i serial p inside at
        (ap (λ (T : Tree). directory_named T p.path.now) (sym (before.reads.tree h)) ∙ named (before.reads.kept.honest.0 h)) (before.found h);
    numbers = numbers_more c.numbers serials i serial inside number (subst (λ (n : Superblock). AreNumbers n serials i) (sym reads.kept.numbers) before.numbers);
  }

pub opened_get : (n : ℕ) (ps : List PreopenValue) (serials : List ℕ) (k : ℕ) → slice_get (opened_from n ps serials) k ≡ option_map (λ (p : PreopenValue). preopened p (get_or serials (n + k) 0)) (slice_get ps k)
opened_get n [] serials k = refl
opened_get n (p ∷ ps) serials zero = ap (λ (k : ℕ). Some (preopened p (get_or serials k 0))) (omega arith)
opened_get n (p ∷ ps) serials (suc k) = opened_get (suc n) ps serials k ∙ ap (λ (j : ℕ). option_map (λ (p : PreopenValue). preopened p (get_or serials j 0)) (slice_get ps k)) (omega arith)

-- ---- the table

pub streams_past : (n : ℕ) → 3 ≤ n → streams n ≡ None
streams_past n h = cond-false _ _ _ (ne_eqb n 0 (λ is. omega (arith, is))) ∙ (cond-false _ _ _ (ne_eqb n 1 (λ is. omega (arith, is))) ∙ cond-false _ _ _ (ne_eqb n 2 (λ is. omega (arith, is))))

-- the streams are no entries
pub streams_known : {D : Type 0} (honest : D → Type 0) (v : Opened D) (table : Table) → ((n : ℕ) → table n ≡ streams n) → KnowsEntries honest v table
streams_known honest v table is = record {
  numbers = λ fd o at. absurd (no_entries table is fd o at);
  there = λ h fd o at. absurd (no_entries table is fd o at);
}

pub none_open : (ps : List PreopenValue) (serials : List ℕ) (table : Table) → ((n : ℕ) → table n ≡ streams n) → AreOpen ps serials 0 table
none_open ps serials table is n = elim (cases_lt n 3) [
  | inl below ↦ is n ∙ sym (cond-true _ _ _ (lt-ltb n 3 below) ∙ cond-true _ _ _ (lt-ltb n 3 below))
  | inr past ↦ is n ∙ (streams_past n past ∙ sym (cond-false _ _ _ (le-ltb n 3 past)))
]

-- a directory of the list, where it is open
open_slot : (ps : List PreopenValue) (serials : List ℕ) (j : ℕ) (p : PreopenValue) → slice_get ps j ≡ Some p
    → table_with (opened_from 0 ps serials) (3 + j) ≡ Some (preopened p (get_or serials j 0))
open_slot ps serials j p at =
    let place : 3 + j - 3 ≡ j = omega arith in
    cond-false (nat_lt (3 + j) 3) _ _ (le-ltb (3 + j) 3 (omega arith))
    ∙ (ap (slice_get (opened_from 0 ps serials)) place
    ∙ (opened_get 0 ps serials j
    ∙ (ap (option_map (λ (p : PreopenValue). preopened p (get_or serials (0 + j) 0))) at ∙ ap (λ (n : ℕ). Some (preopened p (get_or serials n 0))) (zero-add j))))

streams_some : (k : ℕ) → k < 3 → streams k ≢ None
streams_some zero h = λ none. cc
streams_some (suc zero) h = λ none. cc
streams_some (suc (suc zero)) h = λ none. cc
streams_some (suc (suc (suc k))) h = absurd (omega arith)

-- no number below the next is free
open_below : (ps : List PreopenValue) (serials : List ℕ) (i : ℕ) (p : PreopenValue) (table : Table) → i < length ps → AreOpen ps serials i table
    → (k : ℕ) → k < 3 + i → table k ≢ None
open_below ps serials i p table inside opens k below none =
    let is : table k ≡ table_with (opened_from 0 ps serials) k = opens k ∙ cond-true (nat_lt k (3 + i)) _ _ (lt-ltb k (3 + i) below) in
    elim (cases_lt k 3) [
      | inl stream ↦ streams_some k stream (sym (is ∙ cond-true (nat_lt k 3) _ _ (lt-ltb k 3 stream)) ∙ none)
      | inr past ↦
          let j : ℕ = k - 3 in
          let place : k ≡ 3 + j = omega arith in
          none-some _ (sym none ∙ (is ∙ (ap (table_with (opened_from 0 ps serials)) place ∙ open_slot ps serials j (get_or ps j p) (slice_get-get_or ps j p (omega arith)))))
    ]

-- one more is opened
pub open_more : (ps : List PreopenValue) (serials : List ℕ) (i : ℕ) (p : PreopenValue) (old new : Table) → i < MOST_PREOPENS → slice_get ps i ≡ Some p → AreOpen ps serials i old
    → ((n : ℕ) → n < PLACES → old n ≡ None → ((k : ℕ) → k < n → old k ≢ None) → (k : ℕ) → new k ≡ with_at n (Some (preopened p (get_or serials i 0))) old k)
    → AreOpen ps serials (i + 1) new
open_more ps serials i p old new few at before opens n =
    let inside : i < length ps = slice_get_within ps i p at in
    let free : old (3 + i) ≡ None = before (3 + i) ∙ cond-false (nat_lt (3 + i) (3 + i)) _ None (le-ltb (3 + i) (3 + i) (omega arith)) in
    let is = opens (3 + i) (omega arith) free (open_below ps serials i p old inside before) n in
    let all : Option Descriptor = table_with (opened_from 0 ps serials) n in
    elim (cases_eq n (3 + i)) [
      | inl here ↦
          is ∙ (cond-true (n == 3 + i) _ _ (eq-eqb n (3 + i) here)
          ∙ sym (cond-true (nat_lt n (3 + (i + 1))) all None (lt-ltb n (3 + (i + 1)) (omega arith)) ∙ (ap (table_with (opened_from 0 ps serials)) here ∙ open_slot ps serials i p at)))
      | inr apart ↦
          is ∙ (cond-false (n == 3 + i) _ _ (ne_eqb n (3 + i) apart) ∙ (before n ∙ elim (cases_lt n (3 + i)) [
            | inl below ↦ cond-true (nat_lt n (3 + i)) all None (lt-ltb n (3 + i) below) ∙ sym (cond-true (nat_lt n (3 + (i + 1))) all None (lt-ltb n (3 + (i + 1)) (omega arith)))
            | inr past ↦ cond-false (nat_lt n (3 + i)) all None (le-ltb n (3 + i) past) ∙ sym (cond-false (nat_lt n (3 + (i + 1))) all None (le-ltb n (3 + (i + 1)) (omega arith)))
          ]))
    ]

-- ---- all of them

all_open : (ps : List PreopenValue) (serials : List ℕ) (table : Table) → AreOpen ps serials (length ps) table → (n : ℕ) → table n ≡ table_with (opened_from 0 ps serials) n
all_open ps serials table opens n =
    let all : Option Descriptor = table_with (opened_from 0 ps serials) n in
    elim (cases_lt n (3 + length ps)) [
      | inl below ↦ opens n ∙ cond-true (nat_lt n (3 + length ps)) all None (lt-ltb n (3 + length ps) below)
      | inr past ↦
          opens n ∙ (cond-false (nat_lt n (3 + length ps)) all None (le-ltb n (3 + length ps) past)
          ∙ sym (cond-false (nat_lt n 3) _ _ (le-ltb n 3 (omega arith))
          ∙ (opened_get 0 ps serials (n - 3) ∙ ap (option_map (λ (p : PreopenValue). preopened p (get_or serials (0 + (n - 3)) 0))) (slice_get_past ps (n - 3) (omega arith)))))
    ]

pub has_preopens : (T : Tree) (ps : List PreopenValue) (serials : List ℕ) (table : Table) → AreFound T ps serials (length ps) → AreOpen ps serials (length ps) table → HasPreopens T ps table
has_preopens T ps serials table found opens = record {
  directories = opened_from 0 ps serials;
  named = all_found T ps serials found;
  opened = all_open ps serials table opens;
}

-- ---- what is known of the directories that are open

abbrev opened_as : PreopenValue → ℕ → OpenedEntry
opened_as p serial = record {
  serial = serial;
  kind = kinds.Directory;
  position = 0;
  append = false;
  base = record { 0 = directory_rights };
  inheriting = record { 0 = all_rights };
  guest_name = Some p.guest_name;
}

record IsPreopened (ps : List PreopenValue) (serials : List ℕ) (o : OpenedEntry) : Type 0 where
  place : ℕ
  below : place < length ps
  preopen : PreopenValue
  at : slice_get ps place ≡ Some preopen
  is : o ≡ opened_as preopen (get_or serials place 0)

opened_slot : (ps : List PreopenValue) (serials : List ℕ) (j : ℕ) (o : OpenedEntry) (d : Option PreopenValue) → slice_get ps j ≡ d
    → option_map (λ (p : PreopenValue). preopened p (get_or serials (0 + j) 0)) d ≡ Some (Entry o) → IsPreopened ps serials o
opened_slot ps serials j o None at is = absurd (none-some (Entry o) is)
opened_slot ps serials j o (Some p) at is = record {
  place = j;
  below = slice_get_within ps j p at;
  preopen = p;
  at = at;
  is = sym (same_entry (opened_as p (get_or serials (0 + j) 0)) o is) ∙ ap (λ (n : ℕ). opened_as p (get_or serials n 0)) (zero-add j);
}

entry_opened : (ps : List PreopenValue) (serials : List ℕ) (table : Table) → AreOpen ps serials (length ps) table → (fd : ℕ) (o : OpenedEntry) → table fd ≡ Some (Entry o) → IsPreopened ps serials o
entry_opened ps serials table opens fd o at =
    let is : table_with (opened_from 0 ps serials) fd ≡ Some (Entry o) = sym (all_open ps serials table opens fd) ∙ at in
    elim (cases_lt fd 3) [
      | inl stream ↦ absurd (no_entries streams (λ n. refl) fd o (sym (cond-true (nat_lt fd 3) _ _ (lt-ltb fd 3 stream)) ∙ is))
      | inr past ↦
          opened_slot ps serials (fd - 3) o (slice_get ps (fd - 3)) refl
          (sym (cond-false (nat_lt fd 3) _ _ (le-ltb fd 3 past) ∙ opened_get 0 ps serials (fd - 3)) ∙ is)
    ]

held_directory : (e : Option TreeEntry) → option_map_or (λ (e : TreeEntry). is_directory e.node) e false ≡ true → (d : TreeEntry) × (e ≡ Some d) × (is_directory d.node ≡ true)
held_directory None h = absurd (false≢true h)
held_directory (Some d) h = (d, refl, h)

directory_there : (T : Tree) (o : OpenedEntry) (serial : ℕ) → o.serial ≡ serial → is_directory_kind o.kind ≡ true → directory_at T serial ≡ true → IsThere T o
directory_there T o serial same kind is =
    let held = held_directory (entry T serial) is in
    record { e = held.0; used = ap (entry T) same ∙ held.1; kind = held.2 ∙ sym kind }

pub knows_preopens : {D : Type 0} (honest : D → Type 0) (v : Opened D) (ps : List PreopenValue) (serials : List ℕ) (table : Table) → AreOpen ps serials (length ps) table
    → AreNumbers v.numbers serials (length ps) → (honest v.device → IsTree v.tree × AreFound v.tree ps serials (length ps)) → KnowsEntries honest v table
knows_preopens honest v ps serials table opens numbers found = record {
  numbers = λ fd o at.
      let one = entry_opened ps serials table opens fd o at in
      subst (λ (n : ℕ). IsSerial v.numbers n) (sym (ap (λ (o : OpenedEntry). o.serial) one.is)) (numbers one.place one.below);
  there = λ h fd o at.
      let one = entry_opened ps serials table opens fd o at in
      let both = found h in
      directory_there v.tree o (get_or serials one.place 0) (ap (λ (o : OpenedEntry). o.serial) one.is) (ap (λ (o : OpenedEntry). is_directory_kind o.kind) one.is)
      (named_is v.tree both.0 one.preopen.path.now (get_or serials one.place 0) (both.1 one.place one.preopen one.below one.at));
}
