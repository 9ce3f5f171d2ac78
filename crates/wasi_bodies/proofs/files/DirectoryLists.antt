-- The list of a directory, as it is put into memory.
use Rattle.std.proofs.Common.{◌≡◌, ◌⊎◌, ◌≤◌, ◌<◌, ◌+◌, ◌-◌, ◌^◌, ℕ, zero, suc, Bool, true, false, List, [], ◌∷◌, ◌++◌, length, take, drop, min, get_or, Option, Some, IsSome, Ok, Err, inl, inr, refl, sym, ◌∙◌, ap, subst, append-nil, append_assoc, arith}
use Rattle.std.proofs.lemmas.Bool.{cases_lt}
use Rattle.std.proofs.lemmas.List.{length-append, length-take, length-drop, take_all, take_min, take-take, take-append-le, take-append-drop, take_at, drop_all, drop-drop}
use Rattle.std.proofs.Math.Seq.{take-append-add, drop-append-add}
use Rattle.byteorder.specs.Endian.{little_bytes}
use Rattle.vol_sector.specs.Disk.{Disk}
use Rattle.vol_tree.specs.declared.errno.Errno.{Errno}
use Rattle.vol_tree.specs.declared.errno.Errno.TheVariants as errno
use Rattle.vol_tree.specs.declared.stat.Stat.{Stat}
use Rattle.vol_tree.specs.Stat.{IsStat, kind_of}
use Rattle.vol_tree.specs.Tree.{Tree, Node, Directory, File, Entry as TreeEntry, entry}
use Rattle.vol_tree.specs.Calls.{next_child}
use Rattle.vol_tree.specs.Clauses.{TellsBytes}
use Rattle.vol_tree.specs.Opened.{Opened}
use Rattle.wasm_store.specs.Bytes.{written}
use Rattle.wasi_fd.specs.declared.descriptor.Opened.{Opened as OpenedEntry}
use Rattle.wasi_bodies.specs.World.{World, with_volume_failed}
use Rattle.wasi_bodies.specs.Checks.{Checked, Done, and_then, range, entry_at, only_directories, tree_call}
use Rattle.wasi_bodies.specs.files.Rows.{dirent, dirents, type_of_node, fd_readdir}
use Rattle.wasi_bodies.specs.Calls.{IsMixed, filled, Answered, by_row, volume_fails}
use Rattle.wasi_bodies.specs.declared.files.listing.ListCall.{ListCall}
use Rattle.wasi_bodies.specs.declared.files.listing.ToldEntry.{ToldEntry}
use Rattle.wasi_bodies.specs.internal.Entries.{with_volume, type_of_entry}
use Rattle.wasi_bodies.specs.internal.files.Reading.{IsBegun}
use Rattle.wasi_bodies.specs.internal.files.Listing.{listable, header, dirent_of, told_bytes, TellsNext, HasTold}
use Rattle.wasi_bodies.proofs.checks.Chains.{goes_on, stops}
use Rattle.wasi_bodies.proofs.bodies.Answering.{answers_refused}
use Rattle.path_walk.specs.Walk.{Asked}
use Rattle.wasi_bodies.proofs.bodies.AskingCalls.{asked_same, asked_gone}
use Rattle.wasi_bodies.proofs.bodies.VolumeCalls.{was_working, done_by, tree_called_alive, tree_called_gone, is_no_err}
use Rattle.wasi_bodies.proofs.files.OverlappingBuffers.{written_over, length_written, part_long}
use Rattle.wasi_bodies.proofs.checks.AfterBuffers.{refilled}
use Rattle.std.specs.List.{refill}
use Rattle.wasi_bodies.proofs.files.Dirents.{told_from, over, list_goes_on}

-- ---- one entry

same_type : (n : Node) → type_of_entry (kind_of n) ≡ type_of_node n
same_type Directory = refl
same_type (File bytes) = refl

-- what the volume tells of an entry makes its `dirent`
pub same_dirent : (serial : ℕ) (e : TreeEntry) (s : Stat) → IsStat serial e s → length s.name ≡ 255 → s.name_length ≤ 255 → dirent_of serial s ≡ dirent serial e
same_dirent serial e s is long few =
    let all = length-take s.name_length s.name in
    let count : s.name_length ≡ length e.name = (let n : s.name_length ≡ length (take s.name_length s.name) = omega (arith, all) in n) ∙ ap length is.name in
    λ i. header serial (count i) ((ap type_of_entry is.kind ∙ same_type e.node) i) ++ is.name i

pub told_next : (T : Tree) (directory after serial : ℕ) (e : TreeEntry) (t : ToldEntry) → next_child T directory after ≡ Some serial → entry T serial ≡ Some e
    → t.serial ≡ serial → told_bytes t ≡ dirent serial e → TellsNext T directory after (Some t)
told_next T directory after serial e t next used same bytes =
    let on = list_goes_on T directory after serial next in
    let both : ◌≡◌ {A = Option TreeEntry} (Some on.e) (Some e) = sym on.used ∙ used in
    let entry_is : on.e ≡ e = cc in
    on.told ∙ λ i. (ap (dirent serial) entry_is ∙ sym bytes) i ++ dirents T directory (sym same i)

pub next_used : (T : Tree) (directory after serial : ℕ) → next_child T directory after ≡ Some serial → IsSome (entry T serial)
next_used T directory after serial next =
    let on = list_goes_on T directory after serial next in
    subst (λ (o : Option TreeEntry). IsSome o) (sym on.used) refl

-- ---- after the last serial nothing comes

pub none_past : (T : Tree) (directory a b : ℕ) → length T ≤ a → length T ≤ b → dirents T directory a ≡ dirents T directory b
none_past T directory a b low high = none a low ∙ sym (none b high)
  where
    none : (k : ℕ) → length T ≤ k → dirents T directory k ≡ []
    none k le = over T directory k k (omega arith) ∙ ap (λ (U : Tree). told_from (k + 1) U directory k) (drop_all k T le)

pub cut_cookie : (T : Tree) (directory cookie last : ℕ) → length T ≤ 1048576 → last ≡ min cookie (2 ^ 32 - 1) → dirents T directory last ≡ dirents T directory cookie
cut_cookie T directory cookie last few is = elim (cases_lt cookie (2 ^ 32)) [
  | inl small ↦ ap (dirents T directory) (let same : last ≡ cookie = omega (arith, is) in same)
  | inr great ↦ none_past T directory last cookie (omega (arith, is, few)) (omega (arith, few))
]

-- ---- the list as far as it was told

module _ (T : Tree) (directory cookie : ℕ) (before : List ℕ) where
  pub begins : HasTold T directory cookie cookie 0 before before
  begins = record { told = []; parts = refl; count = omega arith; stands = refl }

  module _ (after place : ℕ) (part : List ℕ) (h : HasTold T directory cookie after place before part) where
    -- an entry more
    pub tells_more : (t : ToldEntry) (end : ℕ) (next : List ℕ) → place < length before → length part ≡ length before → TellsNext T directory after (Some t)
        → end ≡ min (length part) (place + length (told_bytes t)) → take end next ≡ take place part ++ take (end - place) (told_bytes t) → drop end next ≡ drop end part
        → HasTold T directory cookie t.serial end before next
    tells_more t end next room long told is first rest =
        let bytes : List ℕ = told_bytes t in
        let all : place ≡ length h.told = omega (arith, h.count) in
        let both = length-append h.told bytes in
        let whole : take place h.told ≡ h.told = take_all place h.told (omega arith) in
        let tail : List ℕ = drop place before in
        let stands : part ≡ h.told ++ tail = h.stands ∙ ap (λ (l : List ℕ). l ++ tail) whole in
        let front : take place part ≡ h.told = ap (take place) stands ∙ take_at h.told tail place (sym all) in
        let back : drop end part ≡ drop end before =
        ap (λ (k : ℕ). drop k part) (let k : end ≡ length h.told + (end - place) = omega (arith, is, all, long) in k)
        ∙ (ap (drop (length h.told + (end - place))) stands ∙ (drop-append-add h.told tail (end - place)
        ∙ (drop-drop (end - place) place before ∙ ap (λ (k : ℕ). drop k before) (let k : place + (end - place) ≡ end = omega (arith, is, long) in k)))) in
        record {
          told = h.told ++ bytes;
          parts = h.parts ∙ (ap (λ (l : List ℕ). h.told ++ l) told ∙ sym (append_assoc h.told bytes (dirents T directory t.serial)));
          count = omega (arith, is, both, all, long);
          stands =
              sym (take-append-drop end next)
              ∙ ((λ i. (first ∙ ap (λ (l : List ℕ). l ++ take (end - place) bytes) front) i ++ (rest ∙ back) i)
              ∙ ap (λ (l : List ℕ). l ++ drop end before)
              (sym (take-append-add h.told bytes (end - place)) ∙ ap (λ (k : ℕ). take k (h.told ++ bytes)) (let k : length h.told + (end - place) ≡ end = omega (arith, is, all, long) in k)));
        }

    meant : List ℕ
    meant = take (length before) (dirents T directory cookie)

    long_meant : place ≤ length meant
    unfolding meant
    long_meant =
        let a = length-take (length before) (dirents T directory cookie) in
        let b : length (dirents T directory cookie) ≡ length (h.told ++ dirents T directory after) = ap length h.parts in
        let c = length-append h.told (dirents T directory after) in
        omega (arith, a, b, c, h.count)

    -- what stands in the part is a beginning of what is meant
    begun : part ≡ take place meant ++ drop place before
    unfolding meant
    begun =
        let same : take place (dirents T directory cookie) ≡ take place h.told =
        ap (take place) h.parts ∙ take-append-le place h.told (dirents T directory after) (omega (arith, h.count)) in
        h.stands ∙ ap (λ (l : List ℕ). l ++ drop place before) (sym (take-take place (length before) (dirents T directory cookie) (omega (arith, h.count)) ∙ same))

    ended : place ≡ length meant → part ≡ meant ++ drop place before
    ended all = begun ∙ ap (λ (l : List ℕ). l ++ drop place before) (take_all place meant (omega (arith, all)))

    -- the part is full
    pub tells_full : (U : Tree) → length before ≤ place → U ≡ T → TellsBytes (take (length before) (dirents T directory cookie)) before part T U (Ok place)
    unfolding meant
    tells_full U full same =
        let a = length-take (length before) (dirents T directory cookie) in
        let all : place ≡ length meant = omega (arith, a, long_meant, full) in
        (all, ended all, same)

    -- the list has ended
    pub tells_end : (U : Tree) → dirents T directory after ≡ [] → U ≡ T → TellsBytes (take (length before) (dirents T directory cookie)) before part T U (Ok place)
    unfolding meant
    tells_end U none same =
        let a = length-take (length before) (dirents T directory cookie) in
        let b : length (dirents T directory cookie) ≡ length h.told = ap length (h.parts ∙ (ap (λ (l : List ℕ). h.told ++ l) none ∙ append-nil h.told)) in
        let all : place ≡ length meant = omega (arith, a, b, h.count) in
        (all, ended all, same)

    -- the volume failed
    pub tells_broken : (U : Tree) (e : Errno) → e ≡ errno.Io → U ≡ T → TellsBytes (take (length before) (dirents T directory cookie)) before part T U (Err e)
    unfolding meant
    tells_broken U e io same = (io, same, (place, long_meant, begun))

-- ---- a part of memory

-- bytes put over the first of those of a part
pub part_written : (m xs before after : List ℕ) (p len n : ℕ) → p + len ≤ length m → before ≡ take len (drop p m) → n ≡ length xs → n ≤ len → after ≡ xs ++ drop n before
    → written m p after ≡ written m p xs
part_written m xs before after p len n inside is count few stands =
    let over : after ≡ xs ++ drop (length xs) (take len (drop p m)) = stands ∙ λ i. xs ++ drop (count i) (is i) in
    ap (written m p) over ∙ written_over m xs p len inside (omega arith)

pub part_listed : (m all before after : List ℕ) (p len n : ℕ) → p + len ≤ length m → before ≡ take len (drop p m) → n ≡ length (take (length before) all) → after ≡ take (length before) all ++ drop n before
    → written m p after ≡ written m p (take len all)
part_listed m all before after p len n inside is count stands =
    let long = part_long m before p len is inside in
    let most = length-take (length before) all in
    part_written m (take (length before) all) before after p len n inside is count (omega (arith, count, most, long)) stands
    ∙ ap (λ (k : ℕ). written m p (take k all)) long

pub part_begun : (m all before after : List ℕ) (p len n : ℕ) → p + len ≤ length m → before ≡ take len (drop p m) → n ≤ length (take (length before) all) → after ≡ take n (take (length before) all) ++ drop n before
    → IsBegun m p (take len all) (written m p after)
part_begun m all before after p len n inside is few stands =
    let long = part_long m before p len is inside in
    let most = length-take (length before) all in
    let count = length-take n (take (length before) all) in
    record {
      count = n;
      few = (let same : length (take (length before) all) ≡ length (take len all) = ap (λ (k : ℕ). length (take k all)) long in omega (arith, few, same));
      is = part_written m (take n (take (length before) all)) before after p len n inside is (omega (arith, count, few)) (omega (arith, few, most, long)) stands
          ∙ ap (λ (k : ℕ). written m p (take n (take k all))) long;
    }

-- ---- some of the bytes are written

Either : List ℕ → List ℕ → List ℕ → Type 0
Either a b mixed = (i : ℕ) → (get_or mixed i 0 ≡ get_or a i 0) ⊎ (get_or mixed i 0 ≡ get_or b i 0)

past_same : (xs a b mixed : List ℕ) → Either a b mixed → Either (xs ++ a) (xs ++ b) (xs ++ mixed)
unfolding Either
past_same [] a b mixed h i = h i
past_same (x ∷ xs) a b mixed h zero = inl refl
past_same (x ∷ xs) a b mixed h (suc i) = past_same xs a b mixed h i

some_over : (n : ℕ) (bytes old : List ℕ) → n ≤ length bytes → length bytes ≤ length old → Either old (bytes ++ drop (length bytes) old) (take n bytes ++ drop n old)
unfolding Either
some_over zero bytes old few fits i = inl refl
some_over (suc n) [] old few fits i = absurd (omega arith)
some_over (suc n) (b ∷ bytes) [] few fits i = absurd (omega arith)
some_over (suc n) (b ∷ bytes) (o ∷ old) few fits zero = inr refl
some_over (suc n) (b ∷ bytes) (o ∷ old) few fits (suc i) = some_over n bytes old (omega arith) (omega arith) i

-- where a beginning of the bytes is written, each place has its old byte or its last one
pub begun_mixed : (m bytes m' : List ℕ) (p : ℕ) → p + length bytes ≤ length m → IsBegun m p bytes m' → IsMixed m (written m p bytes) m'
unfolding Either
begun_mixed m bytes m' p inside b =
    let n : ℕ = b.count in
    let xs : List ℕ = take n bytes in
    let front : List ℕ = take p m in
    let rest : List ℕ = drop p m in
    let few = b.few in
    let a = length-drop p m in
    let c = length-take n bytes in
    let count : length xs ≡ n = omega (arith, c, few) in
    let old_is : front ++ rest ≡ m = take-append-drop p m in
    let last_is : front ++ (bytes ++ drop (length bytes) rest) ≡ written m p bytes = ap (λ (l : List ℕ). front ++ (bytes ++ l)) (drop-drop (length bytes) p m) in
    let now_is : front ++ (xs ++ drop n rest) ≡ m' =
    ap (λ (l : List ℕ). front ++ (xs ++ l)) (drop-drop n p m ∙ ap (λ (k : ℕ). drop (p + k) m) (sym count)) ∙ sym b.is in
    let each : Either (front ++ rest) (front ++ (bytes ++ drop (length bytes) rest)) (front ++ (xs ++ drop n rest)) =
    past_same front rest (bytes ++ drop (length bytes) rest) (xs ++ drop n rest) (some_over n bytes rest few (omega (arith, a, inside))) in
    record {
      as_long = ap length b.is ∙ length_written m xs p (omega (arith, count, few, inside));
      each = subst (λ (l : List ℕ). Either l (written m p bytes) m') old_is
          (subst (λ (l : List ℕ). Either (front ++ rest) l m') last_is (subst (λ (l : List ℕ). Either (front ++ rest) (front ++ (bytes ++ drop (length bytes) rest)) l) now_is each));
    }

-- ---- the row

-- what is left where all of the list is told
abbrev pub listed : World → ListCall → List ℕ → Done
listed w a all = record { world = w; fills = (a.buffer, take a.len all) ∷ []; results = (a.used_at, little_bytes 4 (min a.len (length all))) ∷ [] }

abbrev pub list_row : World → List ℕ → ListCall → Checked Done
list_row w m a = fd_readdir w m a.fd a.buffer a.len a.cookie a.used_at

checks_first : {X : Type 0} (r : Checked OpenedEntry) (g h : Checked (Unit {0})) (k : OpenedEntry → Checked X)
    → and_then r (λ o. and_then g (λ _. and_then h (λ _. k o))) ≡ and_then (and_then r (λ o. and_then g (λ _. and_then h (λ _. Ok o)))) k
unfolding and_then
checks_first (Ok o) (Ok u) (Ok v) k = refl
checks_first (Ok o) (Ok u) (Err e) k = refl
checks_first (Ok o) (Err e) h k = refl
checks_first (Err e) g h k = refl

pub row_of_list : (w : World) (m : List ℕ) (a : ListCall)
    → list_row w m a ≡ and_then (listable w m a) (λ o. and_then (tree_call w (Ok (dirents w.tree o.serial a.cookie))) (λ all. Ok (listed w a all)))
row_of_list w m a = checks_first (entry_at w a.fd only_directories (2 ^ 14)) (range m a.buffer a.len) (range m a.used_at 4)
    (λ o. and_then (tree_call w (Ok (dirents w.tree o.serial a.cookie))) (λ all. Ok (listed w a all)))

either : (b : Bool) → (b ≡ true) ⊎ (b ≡ false)
either true = inl refl
either false = inr refl

module _ {D : Type 0} (honest : D → Type 0) (disk : D → Disk) (sectors_on failures : D → ℕ) (device_goes_on : ℕ → D → D → Type 0) (old new : Opened D) (w : World) (m : List ℕ) (a : ListCall) (o : OpenedEntry)
    (h : honest old.device) (shown : w ≡ with_volume old w) (here : listable w m a ≡ Ok o) where
  abbrev all : List ℕ
  all = dirents w.tree o.serial a.cookie

  row_is : w.volume_failed ≡ false → list_row w m a ≡ Ok (listed w a all)
  row_is alive = row_of_list w m a ∙ (goes_on _ _ o here ∙ goes_on _ _ all (tree_called_alive w (Ok all) alive))

  pub list_done : Asked honest disk sectors_on failures device_goes_on old new false → (m' : List ℕ) → m' ≡ written (written m a.buffer (take a.len all)) a.used_at (little_bytes 4 (min a.len (length all)))
      → Answered (λ v. list_row v m a) w m (with_volume new w) m' 0
  list_done asked m' bytes =
      let working : old.failed ≡ false = was_working honest sectors_on failures old new false asked.kept refl in
      let alive : w.volume_failed ≡ false = ap (λ (w : World). w.volume_failed) shown ∙ working in
      done_by w m (λ v. list_row v m a) new m' (listed w a all) (row_is alive) (asked_same honest disk sectors_on failures device_goes_on w old new shown alive h asked) bytes

  pub list_fails : Asked honest disk sectors_on failures device_goes_on old new true → listable (with_volume_failed w) m a ≡ Ok o → (m' : List ℕ) → a.buffer + a.len ≤ length m
      → (old.failed ≡ true → m' ≡ m) → IsBegun m a.buffer (take a.len all) m' → Answered (λ v. list_row v m a) w m (with_volume new w) m' 29
  list_fails asked there m' inside idle begun =
      let run : World → Checked Done = λ v. list_row v m a in
      let after : with_volume new w ≡ with_volume_failed w = asked_gone honest disk sectors_on failures device_goes_on w old new shown h asked in
      let is : run (with_volume_failed w) ≡ Err 29 = row_of_list (with_volume_failed w) m a ∙ (goes_on _ _ o there ∙ stops _ _ 29 (tree_called_gone w (Ok all))) in
      elim (either w.volume_failed) [
        | inl before ↦
            let same : with_volume_failed w ≡ w = λ i. record w { volume_failed = sym before i } in
            by_row (answers_refused (run w) w m (with_volume new w) m' 29 (ap run (sym same) ∙ is) (after ∙ same) (idle (sym (ap (λ (w : World). w.volume_failed) shown) ∙ before)))
        | inr working ↦
            let most = length-take a.len all in
            volume_fails (record {
              reaches = record { refused = is; only_so = is_no_err (run w) (listed w a all) 29 (row_is working) };
              answer = refl;
              after = after;
              bytes = subst (λ (r : Checked Done). IsMixed m (filled r m) m') (sym (row_is working)) (begun_mixed m (take a.len all) m' a.buffer (omega (arith, most, inside)) begun);
            })
      ]

-- ---- where the list has been told so far

module _ (T : Tree) (directory cookie after filled : ℕ) (before part : List ℕ) (so_far : HasTold T directory cookie after filled before part) where
  -- it has ended
  pub list_ended : dirents T directory after ≡ []
      → (filled ≡ length (take (length before) (dirents T directory cookie))) × (part ≡ take (length before) (dirents T directory cookie) ++ drop filled before)
  list_ended none =
      let all = dirents T directory cookie in
      let told = so_far.told in
      let is : all ≡ told = so_far.parts ∙ (ap (λ (l : List ℕ). told ++ l) none ∙ append-nil told) in
      let least : filled ≡ min (length before) (length told) = so_far.count in
      let same : take filled told ≡ take (length before) all = ap (λ (n : ℕ). take n told) least ∙ (take_min (length before) told ∙ ap (take (length before)) (sym is)) in
      (least ∙ (sym (length-take (length before) told) ∙ ap (λ (l : List ℕ). length (take (length before) l)) (sym is)), so_far.stands ∙ ap (λ (l : List ℕ). l ++ drop filled before) same)

  -- no more of it is told than there is room for
  told_fits : (n : ℕ) → n ≤ length so_far.told → take n (dirents T directory cookie) ≡ take n so_far.told
  told_fits n few = ap (take n) so_far.parts ∙ take-append-le n so_far.told (dirents T directory after) few

  -- there is no room left
  pub list_full : length before ≤ filled
      → (filled ≡ length (take (length before) (dirents T directory cookie))) × (part ≡ take (length before) (dirents T directory cookie) ++ drop filled before)
  list_full full =
      let count : filled ≡ min (length before) (length so_far.told) = so_far.count in
      let all : filled ≡ length before = omega (arith, count, full) in
      let same : take (length before) (dirents T directory cookie) ≡ take (length before) so_far.told = told_fits (length before) (omega (arith, count, full)) in
      let long = length-take (length before) so_far.told in (
        omega (arith, count, long) ∙ ap length (sym same),
        so_far.stands ∙ ap (λ (l : List ℕ). l ++ drop filled before) (ap (λ (n : ℕ). take n so_far.told) all ∙ sym same),
      )

  -- a beginning of it stands there
  pub list_begun : (n : ℕ) × (n ≤ length (take (length before) (dirents T directory cookie))) × (part ≡ take n (take (length before) (dirents T directory cookie)) ++ drop n before)
  list_begun =
      let all = dirents T directory cookie in
      let count : filled ≡ min (length before) (length so_far.told) = so_far.count in
      let few : filled ≤ length so_far.told = omega (arith, count) in
      let fits : filled ≤ length before = omega (arith, count) in
      let parts = ap length so_far.parts in
      let sum = length-append so_far.told (dirents T directory after) in
      let long = length-take (length before) all in (
        filled,
        omega (arith, few, fits, parts, sum, long),
        so_far.stands ∙ ap (λ (l : List ℕ). l ++ drop filled before) (sym (take-take filled (length before) all fits ∙ told_fits filled few)),
      )
