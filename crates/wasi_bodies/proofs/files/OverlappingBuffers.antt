-- Buffers that are filled, which may overlap.
use Rattle.std.proofs.Common.{◌≡◌, ◌⊎◌, ℕ, zero, suc, ◌+◌, ◌-◌, ◌<◌, ◌≤◌, Bool, true, false, ◌&&◌, ◌||◌, nat_le, nat_lt, List, [], ◌∷◌, ◌++◌, length, take, drop, get_or, set, min, add-one, append_assoc, inl, inr, refl, sym, ap, ◌∙◌, arith}
use Rattle.std.proofs.lemmas.Bool.{cond-true, cond-false, leb-true, le-leb, lt-ltb, and_parts, or_parts, cases_lt, false≢true}
use Rattle.std.proofs.lemmas.List.{ext_get_or, take_more_set, map-append, take_all, take-take, drop_all, length-append, length-take, length-drop, take-append-drop, drop-append-le, drop-drop, get_or_append_left, get_or-append_right, get_or-drop}
use Rattle.std.proofs.lemmas.List.Sums.{sum_by-cons}
use Rattle.std.specs.List.{list_all, refill}
use Rattle.wasi_bodies.specs.Checks.{Buffer, put, total, is_inside, scattered}
use Rattle.wasi_bodies.specs.internal.files.Reading.{limited_buffers, covered, HalfFilled}
use Rattle.wasi_bodies.specs.Calls.{IsMixed}
use Rattle.std.proofs.Math.Seq.{drop-cons, take-append_seam, drop-append_seam}
use Rattle.vol_body.specs.declared.source.MemorySpan.{MemorySpan}
use Rattle.wasi_bodies.specs.internal.checks.Buffers.{pair_of, list_of}
use Rattle.wasm_store.specs.Bytes.{written}
use Rattle.wasm_store.specs.Lending.{IsPart, rewritten}

both_so : (a b : Bool) → a ≡ true → b ≡ true → a && b ≡ true
both_so true b h k = k
both_so false b h k = absurd (false≢true h)

pub or_true : (b : Bool) → b || true ≡ true
or_true true = refl
or_true false = refl

-- ---- buffers cut to what there is to be read

pub cut_scattered : (n : ℕ) (bs : List Buffer) (bytes : List ℕ) → length bytes ≤ n → scattered bytes (limited_buffers n bs) ≡ scattered bytes bs
cut_scattered n [] bytes h = refl
cut_scattered n (b ∷ bs) bytes h =
    let rest = length-drop b.1 bytes in
    let more : scattered (drop b.1 bytes) (limited_buffers (n - b.1) bs) ≡ scattered (drop b.1 bytes) bs = cut_scattered (n - b.1) bs (drop b.1 bytes) (omega (arith, rest)) in
    elim (cases_lt n b.1) [
      | inr fits ↦
          let same : min b.1 n ≡ b.1 = omega arith in
          (λ i. (b.0, take (same i) bytes) ∷ scattered (drop (same i) bytes) (limited_buffers (n - b.1) bs)) ∙ ap (λ (l : List (ℕ × List ℕ)). (b.0, take b.1 bytes) ∷ l) more
      | inl short ↦
          let taken : take (min b.1 n) bytes ≡ take b.1 bytes = take_all (min b.1 n) bytes (omega arith) ∙ sym (take_all b.1 bytes (omega arith)) in
          let left : drop (min b.1 n) bytes ≡ drop b.1 bytes = drop_all (min b.1 n) bytes (omega arith) ∙ sym (drop_all b.1 bytes (omega arith)) in
          (λ i. (b.0, taken i) ∷ scattered (left i) (limited_buffers (n - b.1) bs)) ∙ ap (λ (l : List (ℕ × List ℕ)). (b.0, take b.1 bytes) ∷ l) more
    ]

pub cut_total : (n : ℕ) (bs : List Buffer) → n ≤ total bs → total (limited_buffers n bs) ≡ n
cut_total n [] h = omega arith
cut_total n (b ∷ bs) h =
    let one = sum_by-cons (λ (x : Buffer). x.1) (b.0, min b.1 n) (limited_buffers (n - b.1) bs) in
    let all = sum_by-cons (λ (x : Buffer). x.1) b bs in
    let rest = cut_total (n - b.1) bs (omega (arith, all)) in
    omega (arith, one, all, rest)

pub cut_inside : (memory : List ℕ) (n : ℕ) (bs : List Buffer) → list_all (is_inside memory) bs ≡ true → list_all (is_inside memory) (limited_buffers n bs) ≡ true
cut_inside memory n [] h = refl
cut_inside memory n (b ∷ bs) h =
    let both = and_parts (is_inside memory b) (list_all (is_inside memory) bs) h in
    let inside = leb-true (b.0 + b.1) (length memory) both.0 in
    both_so (is_inside memory (b.0, min b.1 n)) (list_all (is_inside memory) (limited_buffers (n - b.1) bs)) (le-leb (b.0 + min b.1 n) (length memory) (omega arith)) (cut_inside memory (n - b.1) bs both.1)

-- ---- what stands where bytes were written

pub length_written : (m xs : List ℕ) (p : ℕ) → p + length xs ≤ length m → length (written m p xs) ≡ length m
length_written m xs p h =
    let one = length-append (take p m) (xs ++ drop (p + length xs) m) in
    let two = length-append xs (drop (p + length xs) m) in
    let three = length-take p m in
    let four = length-drop (p + length xs) m in
    omega (arith, one, two, three, four)

pub part_long : (m part : List ℕ) (p len : ℕ) → part ≡ take len (drop p m) → p + len ≤ length m → length part ≡ len
part_long m part p len is inside =
    let same = ap length is in
    let least = length-take len (drop p m) in
    let left = length-drop p m in
    omega (arith, same, least, left, inside)

-- the front of a part that was lent
pub part_front : (m part front : List ℕ) (p len : ℕ) → IsPart m p len part → front ≡ take len part → front ≡ take len (drop p m)
part_front m part front p len is cut = cut ∙ ap (take len) is.1.1 ∙ take-take len (length part) (drop p m) is.0

-- what memory ends as, where the front of a part that was lent is written
pub part_split : (m part front back ws : List ℕ) (p len : ℕ) → IsPart m p len part → part ≡ front ++ back → length front ≡ len → length ws ≡ len
    → rewritten m p part (ws ++ back) ≡ written m p ws
part_split m part front back ws p len is split first long =
    let k = length part in
    let whole : length (ws ++ back) ≡ k = length-append ws back ∙ omega (arith, long, first, length-append front back) ∙ sym (ap length split) in
    let kept : refill k part (ws ++ back) ≡ ws ++ back = ap (λ (n : ℕ). take n ((ws ++ back) ++ drop (length (ws ++ back)) part)) (sym whole)
    ∙ take-append_seam (ws ++ back) (drop (length (ws ++ back)) part) in
    let behind : drop (p + length ws) m ≡ back ++ drop (p + k) m = ap (λ (n : ℕ). drop (p + n) m) (long ∙ sym first) ∙ sym (drop-drop (length front) p m)
    ∙ ap (drop (length front)) (sym (take-append-drop k (drop p m)) ∙ ap (λ (l : List ℕ). l ++ drop k (drop p m)) (sym is.1.1 ∙ split) ∙ append_assoc front back (drop k (drop p m)))
    ∙ drop-append_seam front (back ++ drop k (drop p m)) ∙ ap (λ (l : List ℕ). back ++ l) (drop-drop k p m) in
    ap (written m p) kept ∙ ap (λ (n : ℕ). take p m ++ ((ws ++ back) ++ drop (p + n) m)) whole
    ∙ ap (λ (l : List ℕ). take p m ++ l) (append_assoc ws back (drop (p + k) m) ∙ ap (λ (l : List ℕ). ws ++ l) (sym behind))

pub written_before : (m xs : List ℕ) (p at : ℕ) → p ≤ length m → at < p → get_or (written m p xs) at 0 ≡ get_or m at 0
written_before m xs p at inside h =
    let all = length-take p m in
    let here : at < length (take p m) = omega (arith, all) in
    get_or_append_left (take p m) (xs ++ drop (p + length xs) m) 0 at here
    ∙ (sym (get_or_append_left (take p m) (drop p m) 0 at here) ∙ ap (λ (l : List ℕ). get_or l at 0) (take-append-drop p m))

pub written_past : (m xs : List ℕ) (p at : ℕ) → p ≤ length m → p + length xs ≤ at → get_or (written m p xs) at 0 ≡ get_or m at 0
written_past m xs p at inside h =
    let all = length-take p m in
    let first : length (take p m) ≡ p = omega (arith, all) in
    let place : (p + length xs) + (at - p - length xs) ≡ at = omega arith in
    get_or-append_right (take p m) (xs ++ drop (p + length xs) m) p at 0 first (omega arith)
    ∙ (get_or-append_right xs (drop (p + length xs) m) (length xs) (at - p) 0 refl (omega arith)
    ∙ (get_or-drop (p + length xs) m (at - p - length xs) 0 ∙ ap (λ (n : ℕ). get_or m n 0) place))

pub written_inside : (m xs : List ℕ) (p at : ℕ) → p ≤ length m → p ≤ at → at < p + length xs → get_or (written m p xs) at 0 ≡ get_or xs (at - p) 0
written_inside m xs p at inside le lt =
    let all = length-take p m in
    let first : length (take p m) ≡ p = omega (arith, all) in
    get_or-append_right (take p m) (xs ++ drop (p + length xs) m) p at 0 first le
    ∙ get_or_append_left xs (drop (p + length xs) m) 0 (at - p) (omega arith)

-- a place that is in none of the buffers keeps its byte
one_untouched : (m xs : List ℕ) (p n at : ℕ) → p + length xs ≤ length m → length xs ≤ n → nat_le p at && nat_lt at (p + n) ≡ false → get_or (written m p xs) at 0 ≡ get_or m at 0
one_untouched m xs p n at inside short out = elim (cases_lt at p) [
  | inl before ↦ written_before m xs p at (omega arith) before
  | inr le ↦ elim (cases_lt at (p + n)) [
    | inl within ↦ absurd (false≢true (sym out ∙ both_so (nat_le p at) (nat_lt at (p + n)) (le-leb p at le) (lt-ltb at (p + n) within)))
    | inr past ↦ written_past m xs p at (omega arith) (omega arith)
  ]
]

pub untouched : (size : ℕ) (bs : List Buffer) (m bytes : List ℕ) (at : ℕ) → length m ≡ size → list_all (λ b. nat_le (b.0 + b.1) size) bs ≡ true → covered at bs ≡ false
    → get_or (put m (scattered bytes bs)) at 0 ≡ get_or m at 0
untouched size [] m bytes at same inside out = refl
untouched size (b ∷ bs) m bytes at same inside out =
    let xs : List ℕ = take b.1 bytes in
    let both = and_parts (nat_le (b.0 + b.1) size) (list_all (λ b. nat_le (b.0 + b.1) size) bs) inside in
    let parts = or_parts (nat_le b.0 at && nat_lt at (b.0 + b.1)) (covered at bs) out in
    let le = leb-true (b.0 + b.1) size both.0 in
    let len = length-take b.1 bytes in
    let fits : b.0 + length xs ≤ length m = omega (arith, le, len, same) in
    untouched size bs (written m b.0 xs) (drop b.1 bytes) at (length_written m xs b.0 fits ∙ same) both.1 parts.1
    ∙ one_untouched m xs b.0 b.1 at fits (omega (arith, len)) parts.0

-- ---- memory while buffers are filled

pub either : (b : Bool) → (b ≡ true) ⊎ (b ≡ false)
either true = inl refl
either false = inr refl

pub half_begun : (bs : List Buffer) (m bytes : List ℕ) → list_all (is_inside m) bs ≡ true → HalfFilled m (put m (scattered bytes bs)) m bs
half_begun bs m bytes inside = record {
  as_long = refl;
  each = λ at. elim (either (covered at bs)) [
    | inl is ↦ sym (cond-true (covered at bs) _ _ is)
    | inr out ↦ sym (cond-false (covered at bs) _ _ out ∙ untouched (length m) bs m bytes at refl inside out)
  ];
}

pub half_mixed : (old last memory : List ℕ) (left : List Buffer) → HalfFilled old last memory left → IsMixed old last memory
half_mixed old last memory left h = record {
  as_long = h.as_long;
  each = λ at. elim (either (covered at left)) [
    | inl is ↦ inl (h.each at ∙ cond-true (covered at left) _ _ is)
    | inr out ↦ inr (h.each at ∙ cond-false (covered at left) _ _ out)
  ];
}

-- nothing is left
pub half_done : (old last memory : List ℕ) → length last ≡ length old → HalfFilled old last memory [] → memory ≡ last
half_done old last memory same h = ext_get_or 0 memory last (h.as_long ∙ sym same) (λ at _. h.each at)

-- one buffer more is cut
pub cut_more : (bs bs0 : List MemorySpan) (i left left' : ℕ) (y d : MemorySpan) → i < length bs → length bs ≡ length bs0 → drop i bs ≡ drop i bs0
    → y ≡ record (get_or bs i d) { len = min (get_or bs i d).len left } → left' ≡ left - (get_or bs i d).len
    → list_of (take (i + 1) (set bs i y)) ++ limited_buffers left' (list_of (drop (i + 1) bs0)) ≡ list_of (take i bs) ++ limited_buffers left (list_of (drop i bs0))
cut_more bs bs0 i left left' y d h long same is less =
    let x = get_or bs i d in
    let rest : List Buffer = limited_buffers left' (list_of (drop (i + 1) bs0)) in
    let next : drop i bs0 ≡ get_or bs0 i d ∷ drop (i + 1) bs0 = rw add-one (drop-cons bs0 i d (omega arith)) in
    let both : drop i bs ≡ x ∷ drop (i + 1) bs = rw add-one (drop-cons bs i d h) in
    let equal : x ∷ drop (i + 1) bs ≡ get_or bs0 i d ∷ drop (i + 1) bs0 = sym both ∙ (same ∙ next) in
    let first : x ≡ get_or bs0 i d = cc in
    ap (λ (l : List MemorySpan). list_of l ++ rest) (take_more_set bs i y h)
    ∙ (ap (λ (l : List Buffer). l ++ rest) (map-append pair_of (take i bs) (y ∷ []))
    ∙ (append_assoc (list_of (take i bs)) (pair_of y ∷ []) rest
    ∙ ((λ j. list_of (take i bs) ++ (pair_of (is j) ∷ limited_buffers (less j) (list_of (drop (i + 1) bs0))))
    ∙ ((λ j. list_of (take i bs) ++ limited_buffers left (list_of (first j ∷ drop (i + 1) bs0)))
    ∙ ap (λ (l : List MemorySpan). list_of (take i bs) ++ limited_buffers left (list_of l)) (sym next)))))

-- ---- places in later buffers

abbrev pub is_in : ℕ → Buffer → Bool
is_in at b = nat_le b.0 at && nat_lt at (b.0 + b.1)

-- a place in one of them
pub covered_by : (at : ℕ) (bs : List MemorySpan) (i : ℕ) (d : MemorySpan) → i < length bs → (get_or bs i d).pointer ≤ at → at < (get_or bs i d).pointer + (get_or bs i d).len
    → covered at (list_of bs) ≡ true
covered_by at [] i d h le lt = absurd (omega arith)
covered_by at (b ∷ bs) zero d h le lt = ap (λ (t : Bool). t || covered at (list_of bs)) (both_so (nat_le b.pointer at) (nat_lt at (b.pointer + b.len)) (le-leb b.pointer at le) (lt-ltb at (b.pointer + b.len) lt))
covered_by at (b ∷ bs) (suc i) d h le lt = ap (λ (t : Bool). is_in at (pair_of b) || t) (covered_by at bs i d (omega arith) le lt) ∙ or_true (is_in at (pair_of b))

-- ---- bytes put over the first of those that stood there

pub written_over : (m xs : List ℕ) (p len : ℕ) → p + len ≤ length m → length xs ≤ len → written m p (xs ++ drop (length xs) (take len (drop p m))) ≡ written m p xs
written_over m xs p len inside few =
    let n = length xs in
    let part : List ℕ = take len (drop p m) in
    let rest : List ℕ = drop n part in
    let a = length-drop p m in
    let b = length-take len (drop p m) in
    let c = length-drop n part in
    let d = length-append xs rest in
    let all : length (xs ++ rest) ≡ len = omega (arith, a, b, c, d) in
    let past : rest ++ drop (p + len) m ≡ drop (p + n) m =
    ap (λ (l : List ℕ). rest ++ l) (sym (drop-drop len p m))
    ∙ (sym (drop-append-le n part (drop len (drop p m)) (omega (arith, a, b)))
    ∙ (ap (drop n) (take-append-drop len (drop p m)) ∙ drop-drop n p m)) in
    ap (λ (k : ℕ). take p m ++ ((xs ++ rest) ++ drop (p + k) m)) all
    ∙ (ap (λ (l : List ℕ). take p m ++ l) (append_assoc xs rest (drop (p + len) m))
    ∙ ap (λ (l : List ℕ). take p m ++ (xs ++ l)) past)
