-- Buffers that a call reads.
use Rattle.std.proofs.Common.{◌≡◌, ℕ, suc, ◌+◌, ◌-◌, ◌*◌, ◌<◌, ◌≤◌, List, [], ◌∷◌, ◌++◌, length, take, drop, min, get_or, Bool, true, false, ◌&&◌, replicate, refl, sym, ap, ◌∙◌, append_assoc, add-zero, add-one, append-nil, ◌⊎◌, inl, inr, nat_le, Ok, arith}
use Rattle.std.proofs.lemmas.Bool.{leb-true, le-leb, false≢true, and_parts}
use Rattle.std.proofs.Math.Seq.{take-suc, drop-cons}
use Rattle.std.proofs.lemmas.List.Folds.{list_all_at, list_all-map}
use Rattle.wasi_bodies.specs.internal.checks.Buffers.{fit, usable}
use Rattle.wasi_bodies.proofs.checks.Chains.{goes_on}
use Rattle.std.proofs.lemmas.List.{drop-drop, drop-take, drop-append-le, take-append-le, map-append, length-append, length-take, length-drop, take_min}
use Rattle.std.proofs.lemmas.List.Sums.{sum_by-cons, sum_by-append}
use Rattle.std.specs.List.{list_all}
use Rattle.byteorder.specs.Endian.{little_number}
use Rattle.byteorder.specs.Numbers.{little_from-take}
use Rattle.wasm_store.specs.Bytes.{bytes_at, filled, from_bytes}
use Rattle.vol_body.specs.Source as source
use Rattle.vol_body.specs.declared.source.MemorySpan.{MemorySpan}
use Rattle.vol_body.specs.declared.writing.TheConstants.{PIECE}
use Rattle.wasi_bodies.specs.Checks.{Checked, Buffer, buffers, and_then, guard, range, buffers_in, total, is_inside, gathered}
use Rattle.wasi_bodies.specs.internal.checks.Buffers.{pair_of, list_of, EndWithin}
use Rattle.wasi_bodies.specs.declared.checks.buffers.TheConstants.{MOST_BUFFERS}

abbrev pub buffer_at : List ℕ → Buffer
buffer_at bytes = (little_number 4 bytes, little_number 4 (drop 4 bytes))

-- the buffer at a place, and those after it
buffers_from : (array : List ℕ) (count i : ℕ) → i < count → buffers_in (count - i) (drop (8 * i) array) ≡ buffer_at (drop (8 * i) array) ∷ buffers_in (count - (i + 1)) (drop (8 * (i + 1)) array)
buffers_from array count i h =
    let one_more : count - i ≡ suc (count - (i + 1)) = omega arith in
    let next : 8 * i + 8 ≡ 8 * (i + 1) = omega arith in
    let moved : drop 8 (drop (8 * i) array) ≡ drop (8 * (i + 1)) array = drop-drop 8 (8 * i) array ∙ ap (λ (n : ℕ). drop n array) next in
    rw one_more (ap (λ (bytes : List ℕ). buffer_at (drop (8 * i) array) ∷ buffers_in (count - (i + 1)) bytes) moved)

-- one more is read
pub read_more : (room : List MemorySpan) (array : List ℕ) (count i : ℕ) (b : MemorySpan) → i < count → pair_of b ≡ buffer_at (drop (8 * i) array)
    → list_of (room ++ b ∷ []) ++ buffers_in (count - (i + 1)) (drop (8 * (i + 1)) array) ≡ list_of room ++ buffers_in (count - i) (drop (8 * i) array)
read_more room array count i b below is =
    let rest : List Buffer = buffers_in (count - (i + 1)) (drop (8 * (i + 1)) array) in
    ap (λ (l : List Buffer). l ++ rest) (map-append pair_of room (b ∷ []))
    ∙ (append_assoc (list_of room) (pair_of b ∷ []) rest
    ∙ (ap (λ (x : Buffer). list_of room ++ (x ∷ rest)) is ∙ ap (λ (l : List Buffer). list_of room ++ l) (sym (buffers_from array count i below))))

bool_or : (b : Bool) → (b ≡ true) ⊎ (b ≡ false)
bool_or true = inl refl
bool_or false = inr refl

listed_more : (bs : List MemorySpan) (i : ℕ) (d : MemorySpan) → i < length bs → list_of (take (i + 1) bs) ≡ list_of (take i bs) ++ pair_of (get_or bs i d) ∷ []
listed_more bs i d h = ap list_of (rw add-one (take-suc bs i d h)) ∙ map-append pair_of (take i bs) (get_or bs i d ∷ [])

pub total_more : (bs : List MemorySpan) (i : ℕ) (d : MemorySpan) → i < length bs → total (list_of (take (i + 1) bs)) ≡ total (list_of (take i bs)) + (get_or bs i d).len
total_more bs i d h =
    let f : Buffer → ℕ = λ b. b.1 in
    ap total (listed_more bs i d h) ∙ (sum_by-append f (list_of (take i bs)) (pair_of (get_or bs i d) ∷ []) ∙ ap (λ (n : ℕ). total (list_of (take i bs)) + n) (sum_by-cons f (pair_of (get_or bs i d)) [] ∙ add-zero _))

pub all_inside : (memory : List ℕ) (bs : List MemorySpan) → list_all (is_inside memory) (list_of bs) ≡ list_all (λ b. is_inside memory (pair_of b)) bs
all_inside memory bs = list_all-map (is_inside memory) pair_of bs

pub inside_at : (memory : List ℕ) (bs : List MemorySpan) (i : ℕ) (d : MemorySpan) → list_all (is_inside memory) (list_of bs) ≡ true → i < length bs → (get_or bs i d).pointer + (get_or bs i d).len ≤ length memory
inside_at memory bs i d all h =
    let p : MemorySpan → Bool = λ b. is_inside memory (pair_of b) in
    elim (bool_or (p (get_or bs i d))) [
      | inl is ↦ leb-true _ _ is
      | inr not_so ↦ absurd (false≢true (sym (list_all_at p bs i d h not_so) ∙ (sym (all_inside memory bs) ∙ all)))
    ]

-- ---- the bytes in buffers

pub gathered_push : (memory : List ℕ) (bs : List Buffer) (b : Buffer) → gathered memory (bs ++ b ∷ []) ≡ gathered memory bs ++ bytes_at memory b.0 b.1
gathered_push memory [] b = append-nil _
gathered_push memory (x ∷ bs) b =
    ap (λ (l : List ℕ). bytes_at memory x.0 x.1 ++ l) (gathered_push memory bs b) ∙ sym (append_assoc (bytes_at memory x.0 x.1) (gathered memory bs) _)

-- ---- the row

pub found_row : (m : List ℕ) (iovs count result : ℕ) (all : List Buffer) → guard (nat_le count MOST_BUFFERS) 28 ≡ Ok tt → range m iovs (8 * count) ≡ Ok tt
    → all ≡ buffers_in count (bytes_at m iovs (8 * count)) → usable m iovs count result ≡ and_then (fit m all) (λ bs. and_then (range m result 4) (λ _. Ok bs))
found_row m iovs count result all few inside is =
    let read : List Buffer = buffers_in count (bytes_at m iovs (8 * count)) in
    let rest : List Buffer → Checked (List Buffer) = λ bs. and_then (range m result 4) (λ _. Ok bs) in
    let passed : buffers m iovs count ≡ fit m read =
    goes_on (guard (nat_le count MOST_BUFFERS) 28) (λ _. and_then (range m iovs (8 * count)) (λ _. fit m read)) tt few ∙ goes_on (range m iovs (8 * count)) (λ _. fit m read) tt inside in
    ap (λ (r : Checked (List Buffer)). and_then r rest) passed ∙ ap (λ (all : List Buffer). and_then (fit m all) rest) (sym is)

-- ---- from one buffer on

pub gathered_from : (memory bytes : List ℕ) (bs : List MemorySpan) (i : ℕ) (d : MemorySpan) → i < length bs → bytes ≡ bytes_at memory (get_or bs i d).pointer (get_or bs i d).len
    → gathered memory (list_of (drop i bs)) ≡ bytes ++ gathered memory (list_of (drop (i + 1) bs))
gathered_from memory bytes bs i d h read =
    let next : drop i bs ≡ get_or bs i d ∷ drop (i + 1) bs = rw add-one (drop-cons bs i d h) in
    ap (λ (l : List MemorySpan). gathered memory (list_of l)) next
    ∙ ap (λ (l : List ℕ). l ++ gathered memory (list_of (drop (i + 1) bs))) (sym read)

pub gathered_length : (memory : List ℕ) (bs : List Buffer) → list_all (is_inside memory) bs ≡ true → length (gathered memory bs) ≡ total bs
gathered_length memory [] h = refl
gathered_length memory (b ∷ bs) h =
    let both = and_parts (is_inside memory b) (list_all (is_inside memory) bs) h in
    let inside = leb-true (b.0 + b.1) (length memory) both.0 in
    let rest = gathered_length memory bs both.1 in
    let one = length-append (bytes_at memory b.0 b.1) (gathered memory bs) in
    let two = length-take b.1 (drop b.0 memory) in
    let three = length-drop b.0 memory in
    let sum = sum_by-cons (λ (x : Buffer). x.1) b bs in
    omega (arith, inside, rest, one, two, three, sum)

-- ---- as a volume sees them

pub source_bytes : (memory : List ℕ) (bs : List MemorySpan) → source.gathered memory bs ≡ gathered memory (list_of bs)
source_bytes memory [] = refl
source_bytes memory (b ∷ bs) = ap (λ (l : List ℕ). bytes_at memory b.pointer b.len ++ l) (source_bytes memory bs)

pub source_inside : (memory : List ℕ) (bs : List MemorySpan) → list_all (is_inside memory) (list_of bs) ≡ true → source.AreInside memory bs
source_inside memory [] h = tt
source_inside memory (b ∷ bs) h =
    let both = and_parts (is_inside memory (pair_of b)) (list_all (is_inside memory) (list_of bs)) h in
    (leb-true _ _ both.0, source_inside memory bs both.1)

-- the bytes that are written at once
pub source_taken : (memory : List ℕ) (bs : List MemorySpan) (len : ℕ) → list_all (is_inside memory) (list_of bs) ≡ true → len ≡ min (total (list_of bs)) PIECE
    → (len ≤ length (source.gathered memory bs)) × (take len (source.gathered memory bs) ≡ take PIECE (gathered memory (list_of bs))) × (len ≡ length (take PIECE (gathered memory (list_of bs))))
source_taken memory bs len inside is =
    let all : List ℕ = gathered memory (list_of bs) in
    let long : length all ≡ total (list_of bs) = gathered_length memory (list_of bs) inside in
    let same : length (source.gathered memory bs) ≡ length all = ap length (source_bytes memory bs) in
    let least : len ≡ min PIECE (length all) = omega (arith, is, long) in (
      omega (arith, same, least),
      (λ i. take (least i) (source_bytes memory bs i)) ∙ take_min PIECE all,
      least ∙ sym (length-take PIECE all),
    )

-- ---- an array that is read a number at a time

number_of_four : (l : List ℕ) → 4 ≤ length l → from_bytes (take 4 l) ≡ little_number 4 l
number_of_four [] h = absurd (omega arith)
number_of_four (a ∷ []) h = absurd (omega arith)
number_of_four (a ∷ b ∷ []) h = absurd (omega arith)
number_of_four (a ∷ b ∷ c ∷ []) h = absurd (omega arith)
number_of_four (a ∷ b ∷ c ∷ d ∷ rest) h = refl

entry_taken : (n : ℕ) (xs : List ℕ) → 8 ≤ n → buffer_at (take n xs) ≡ buffer_at xs
entry_taken n xs h =
    let whole : n ≡ 4 + (n - 4) = omega arith in
    let pointer : little_number 4 (take n xs) ≡ little_number 4 xs = little_from-take 0 4 n xs (omega arith) in
    let len : little_number 4 (drop 4 (take n xs)) ≡ little_number 4 (drop 4 xs) = ap (λ (k : ℕ). little_number 4 (drop 4 (take k xs))) whole
    ∙ ap (little_number 4) (drop-take 4 (n - 4) xs) ∙ little_from-take 0 4 (n - 4) (drop 4 xs) (omega arith) in
    λ i. (pointer i, len i)

pub entry_read : (m : List ℕ) (iovs count i pointer len : ℕ) → i < count → iovs + 8 * count ≤ length m
    → pointer ≡ from_bytes (bytes_at m (iovs + 8 * i) 4) → len ≡ from_bytes (bytes_at m (iovs + (8 * i + 4)) 4)
    → ◌≡◌ {A = Buffer} (pointer, len) (buffer_at (drop (8 * i) (bytes_at m iovs (8 * count))))
entry_read m iovs count i pointer len below inside first second =
    let left : ℕ = 8 * count - 8 * i in
    let whole : 8 * count ≡ 8 * i + left = omega arith in
    let here = length-drop (iovs + 8 * i) m in
    let there = length-drop (iovs + (8 * i + 4)) m in
    let four : iovs + 8 * i + 4 ≡ iovs + (8 * i + 4) = omega arith in
    let one : pointer ≡ little_number 4 (drop (iovs + 8 * i) m) = first ∙ number_of_four (drop (iovs + 8 * i) m) (omega (arith, here)) in
    let two : len ≡ little_number 4 (drop 4 (drop (iovs + 8 * i) m)) = second ∙ number_of_four (drop (iovs + (8 * i + 4)) m) (omega (arith, there))
    ∙ sym (ap (little_number 4) (drop-drop 4 (iovs + 8 * i) m ∙ ap (λ (k : ℕ). drop k m) four)) in
    (λ j. (one j, two j)) ∙ sym (ap (λ (k : ℕ). buffer_at (drop (8 * i) (take k (drop iovs m)))) whole
    ∙ ap buffer_at (drop-take (8 * i) left (drop iovs m)) ∙ entry_taken left (drop (8 * i) (drop iovs m)) (omega arith)
    ∙ ap buffer_at (drop-drop (8 * i) iovs m))

-- ---- the first part of memory, which has all of the buffers

both_so : (a b : Bool) → a ≡ true → b ≡ true → a && b ≡ true
both_so true b h k = k
both_so false b h k = absurd (false≢true h)

pub first_inside : (m first : List ℕ) (end : ℕ) (bs : List MemorySpan) → EndWithin end bs → min end (length m) ≤ length first
    → list_all (is_inside m) (list_of bs) ≡ true → list_all (is_inside first) (list_of bs) ≡ true
first_inside m first end [] within long h = refl
first_inside m first end (b ∷ bs) within long h =
    let both = and_parts (is_inside m (pair_of b)) (list_all (is_inside m) (list_of bs)) h in
    let inside = leb-true (b.pointer + b.len) (length m) both.0 in
    let before = within 0 (omega arith) in
    both_so (is_inside first (pair_of b)) (list_all (is_inside first) (list_of bs)) (le-leb (b.pointer + b.len) (length first) (omega (arith, inside, before, long)))
    (first_inside m first end bs (λ i lt. within (suc i) (omega (arith, lt))) long both.1)

first_bytes : (size a n : ℕ) (first : List ℕ) → a + n ≤ length first → bytes_at (filled size first) a n ≡ bytes_at first a n
first_bytes size a n first h =
    let zeros : List ℕ = replicate (size - length first) 0 in
    let left = length-drop a first in
    ap (take n) (drop-append-le a first zeros (omega arith)) ∙ take-append-le n (drop a first) zeros (omega (arith, left))

pub first_gathered : (size : ℕ) (m first : List ℕ) (bs : List MemorySpan) → filled size first ≡ m → list_all (is_inside first) (list_of bs) ≡ true
    → gathered first (list_of bs) ≡ gathered m (list_of bs)
first_gathered size m first [] is h = refl
first_gathered size m first (b ∷ bs) is h =
    let both = and_parts (is_inside first (pair_of b)) (list_all (is_inside first) (list_of bs)) h in
    let inside = leb-true (b.pointer + b.len) (length first) both.0 in
    ap (λ (l : List ℕ). l ++ gathered first (list_of bs)) (sym (first_bytes size b.pointer b.len first inside) ∙ ap (λ (l : List ℕ). bytes_at l b.pointer b.len) is)
    ∙ ap (λ (l : List ℕ). bytes_at m b.pointer b.len ++ l) (first_gathered size m first bs is both.1)
