-- Buffers that are filled from a file, one after another.
use Rattle.std.proofs.Common.{◌≡◌, ◌⊎◌, ℕ, ◌+◌, ◌-◌, ◌<◌, ◌≤◌, Bool, true, false, ◌&&◌, ◌||◌, nat_le, nat_lt, min, List, [], ◌∷◌, length, take, drop, get_or, inl, inr, refl, sym, ap, ◌∙◌, arith}
use Rattle.std.proofs.lemmas.Bool.{false≢true, cond-true, cond-false, leb-true, le-ltb, lt-leb, and_parts, cases_lt}
use Rattle.std.proofs.lemmas.List.{length-take, length-drop, get_or-take, get_or-drop, drop-drop, take-take, drop-take}
use Rattle.std.proofs.lemmas.List.Sums.{sum_by-cons}
use Rattle.std.specs.List.{list_all}
use Rattle.wasm_store.specs.Bytes.{written}
use Rattle.wasi_bodies.specs.Checks.{Buffer, put, total, scattered, is_inside}
use Rattle.wasi_bodies.specs.Calls.{IsMixed}
use Rattle.wasi_bodies.specs.internal.files.Reading.{limited_buffers, received, covered, HalfFilled, HasAll, IsBegun, BufferFilled, BufferBegun}
use Rattle.wasi_bodies.proofs.files.OverlappingBuffers.{length_written, written_before, written_inside, written_past, untouched, either, or_true, is_in, half_begun, half_mixed, half_done, cut_scattered, cut_total}

-- a byte of a part of a file
part_byte : (file : List ℕ) (from n j : ℕ) → j < n → get_or (take n (drop from file)) j 0 ≡ get_or file (from + j) 0
part_byte file from n j h = get_or-take n (drop from file) j 0 h ∙ get_or-drop from file j 0

-- ---- one buffer after another

-- Memory between two buffers, of which these are left: the last memory is one where the earlier ones are filled whole,
-- with the rest of the bytes put into these.
pub record Filling (file old last memory : List ℕ) (at : ℕ) (left : List Buffer) : Type 0 where
  pub before : List ℕ
  pub as_long : length before ≡ length old
  pub last_is : last ≡ put before (scattered (drop at file) left)
  pub inside : list_all (is_inside old) left ≡ true
  pub half : HalfFilled old last memory left

pub filling_begins : (file memory : List ℕ) (at : ℕ) (bs : List Buffer) → list_all (is_inside memory) bs ≡ true → Filling file memory (put memory (scattered (drop at file) bs)) memory at bs
filling_begins file memory at bs inside = record {
  before = memory;
  as_long = refl;
  last_is = refl;
  inside = inside;
  half = half_begun bs memory (drop at file) inside;
}

pub filling_ends : (file old last memory : List ℕ) (at : ℕ) → Filling file old last memory at [] → memory ≡ last
filling_ends file old last memory at f = half_done old last memory (ap length f.last_is ∙ f.as_long) f.half

module _ (file old last memory memory' : List ℕ) (at : ℕ) (b : Buffer) (later : List Buffer) (enough : b.1 ≤ length file - at) (f : Filling file old last memory at (b ∷ later)) where
  -- what stands in the buffer in the end
  stands : (k : ℕ) → b.0 ≤ k → k < b.0 + b.1 → covered k later ≡ false → get_or last k 0 ≡ get_or file (at + (k - b.0)) 0
  stands k le lt out =
      let xs : List ℕ = take b.1 (drop at file) in
      let parts = and_parts (is_inside old b) (list_all (is_inside old) later) f.inside in
      let fits = leb-true (b.0 + b.1) (length old) parts.0 in
      let whole = f.as_long in
      let a = length-take b.1 (drop at file) in
      let c = length-drop at file in
      let long : length xs ≡ b.1 = omega (arith, a, c, enough) in
      let room : b.0 + length xs ≤ length f.before = omega (arith, long, fits, whole) in
      ap (λ (l : List ℕ). get_or l k 0) f.last_is
      ∙ (untouched (length old) later (written f.before b.0 xs) (drop b.1 (drop at file)) k (length_written f.before xs b.0 room ∙ f.as_long) parts.1 out
      ∙ (written_inside f.before xs b.0 k (omega (arith, room)) le (omega (arith, long, lt)) ∙ part_byte file at b.1 (k - b.0) (omega (arith, le, lt))))

  also_left : (k : ℕ) → covered k later ≡ true → covered k (b ∷ later) ≡ true
  also_left k is = ap (λ (t : Bool). is_in k b || t) is ∙ or_true (is_in k b)

  and_false : (x : Bool) → x && false ≡ false
  and_false true = refl
  and_false false = refl

  is_out : (k : ℕ) → (k < b.0) ⊎ (b.0 + b.1 ≤ k) → is_in k b ≡ false
  is_out k apart = elim apart [
    | inl below ↦ ap (λ (t : Bool). t && nat_lt k (b.0 + b.1)) (lt-leb b.0 k below)
    | inr past ↦ ap (λ (t : Bool). nat_le b.0 k && t) (le-ltb k (b.0 + b.1) past) ∙ and_false (nat_le b.0 k)
  ]

  -- a place that is in no buffer any more
  passed : (k : ℕ) → (k < b.0) ⊎ (b.0 + b.1 ≤ k) → covered k later ≡ false → get_or memory k 0 ≡ get_or last k 0
  passed k apart out = f.half.each k ∙ cond-false (covered k (b ∷ later)) _ _ (ap (λ (t : Bool). t || covered k later) (is_out k apart) ∙ out)

  pub filling_goes_on : BufferFilled file at b.0 (b.0 + b.1) later memory memory' → Filling file old last memory' (at + b.1) later
  filling_goes_on filled =
      let xs : List ℕ = take b.1 (drop at file) in
      let parts = and_parts (is_inside old b) (list_all (is_inside old) later) f.inside in
      let fits = leb-true (b.0 + b.1) (length old) parts.0 in
      let whole = f.as_long in
      let a = length-take b.1 (drop at file) in
      let room : b.0 + length xs ≤ length f.before = omega (arith, a, fits, whole) in
      record {
        before = written f.before b.0 xs;
        as_long = length_written f.before xs b.0 room ∙ f.as_long;
        last_is = f.last_is ∙ ap (λ (l : List ℕ). put (written f.before b.0 xs) (scattered l later)) (drop-drop b.1 at file);
        inside = parts.1;
        half = record {
          as_long = filled.as_long ∙ f.half.as_long;
          each = λ k. elim (either (covered k later)) [
            | inl is ↦ filled.hidden k is ∙ (f.half.each k ∙ (cond-true (covered k (b ∷ later)) _ _ (also_left k is) ∙ sym (cond-true (covered k later) _ _ is)))
            | inr out ↦ elim (cases_lt k b.0) [
              | inl below ↦ filled.beyond k (inl below) ∙ (passed k (inl below) out ∙ sym (cond-false (covered k later) _ _ out))
              | inr le ↦ elim (cases_lt k (b.0 + b.1)) [
                | inl lt ↦ filled.filled k le lt out ∙ (sym (stands k le lt out) ∙ sym (cond-false (covered k later) _ _ out))
                | inr past ↦ filled.beyond k (inr past) ∙ (passed k (inr past) out ∙ sym (cond-false (covered k later) _ _ out))
              ]
            ]
          ];
        };
      }

  pub filling_breaks : BufferBegun file at b.0 (b.0 + b.1) later memory memory' → IsMixed old last memory'
  filling_breaks begun =
      let mixed = half_mixed old last memory (b ∷ later) f.half in
      record {
        as_long = begun.as_long ∙ f.half.as_long;
        each = λ k. elim (begun.each k) [
          | inl same ↦ elim (mixed.each k) [ inl was ↦ inl (same ∙ was) | inr is ↦ inr (same ∙ is) ]
          | inr is ↦ inr (is.byte ∙ sym (stands k is.low is.high is.apart))
        ];
      }

-- ---- what is read

-- no more than all of the buffers take is dealt out
scattered_take : (k : ℕ) (bs : List Buffer) (bytes : List ℕ) → total bs ≤ k → scattered (take k bytes) bs ≡ scattered bytes bs
scattered_take k [] bytes h = refl
scattered_take k (b ∷ bs) bytes h =
    let all = sum_by-cons (λ (x : Buffer). x.1) b bs in
    let more : b.1 + (k - b.1) ≡ k = omega (arith, all, h) in
    let first : take b.1 (take k bytes) ≡ take b.1 bytes = take-take b.1 k bytes (omega (arith, all, h)) in
    let past : drop b.1 (take k bytes) ≡ take (k - b.1) (drop b.1 bytes) = ap (λ (n : ℕ). drop b.1 (take n bytes)) (sym more) ∙ drop-take b.1 (k - b.1) bytes in
    let rest : scattered (take (k - b.1) (drop b.1 bytes)) bs ≡ scattered (drop b.1 bytes) bs = scattered_take (k - b.1) bs (drop b.1 bytes) (omega (arith, all, h)) in
    (λ i. (b.0, first i) ∷ scattered (past i) bs) ∙ ap (λ (l : List (ℕ × List ℕ)). (b.0, take b.1 bytes) ∷ l) rest

module _ (file : List ℕ) (from n : ℕ) (bs : List Buffer) (count : n ≡ min (total bs) (length file - from)) where
  pub as_many : n ≡ length (take (total bs) (drop from file))
  as_many =
      let a = length-take (total bs) (drop from file) in
      let b = length-drop from file in
      omega (arith, a, b, count)

  pub cut_fits : total (limited_buffers n bs) ≤ length file - from
  cut_fits =
      let all = cut_total n bs (omega (arith, count)) in
      omega (arith, all, count)

  pub cut_received : (m : List ℕ) → put m (scattered (drop from file) (limited_buffers n bs)) ≡ received m (take (total bs) (drop from file)) bs
  cut_received m =
      let all = cut_total n bs (omega (arith, count)) in
      let xs : List ℕ = take (total bs) (drop from file) in
      let long = as_many in
      ap (put m) (sym (scattered_take (total bs) (limited_buffers n bs) (drop from file) (omega (arith, all, count))) ∙ cut_scattered n bs xs (omega (arith, long)))

-- ---- one stretch of a buffer, which is in no later buffer

-- its bytes are in the file
pub stretch_inside : (file : List ℕ) (from place until end : ℕ) (later : List Buffer) → HasAll place until end later false → end - place ≤ length file - from → from + (until - place) ≤ length file
stretch_inside file from place until end later free enough = omega (arith, free.some, free.within, enough)

module _ (file m m' : List ℕ) (from place until end : ℕ) (later : List Buffer) (free : HasAll place until end later false) (inside : end ≤ length m) (enough : end - place ≤ length file - from) where
  stretch_long : length (take (until - place) (drop from file)) ≡ until - place
  stretch_long =
      let all = length-take (until - place) (drop from file) in
      let left = length-drop from file in
      omega (arith, all, left, free.some, free.within, enough)

  -- all of it was filled
  pub filled_stretch : m' ≡ written m place (take (until - place) (drop from file)) → BufferFilled file from place until later m m'
  filled_stretch is =
      let xs : List ℕ = take (until - place) (drop from file) in
      let long : length xs ≡ until - place = stretch_long in
      let some : place < until = free.some in
      let within : until ≤ end = free.within in
      let low : place ≤ length m = omega (arith, some, within, inside) in
      let at : (k : ℕ) → get_or m' k 0 ≡ get_or (written m place xs) k 0 = λ k. ap (λ (l : List ℕ). get_or l k 0) is in
      let before : (k : ℕ) → k < place → get_or m' k 0 ≡ get_or m k 0 = λ k lt. at k ∙ written_before m xs place k low lt in
      let past : (k : ℕ) → until ≤ k → get_or m' k 0 ≡ get_or m k 0 = λ k le. at k ∙ written_past m xs place k low (omega (arith, long, some, le)) in
      record {
        as_long = ap length is ∙ length_written m xs place (omega (arith, long, some, within, inside));
        filled = λ k le lt out. at k ∙ (written_inside m xs place k low le (omega (arith, long, some, lt)) ∙ part_byte file from (until - place) (k - place) (omega (arith, le, lt)));
        beyond = λ k out. elim out [ inl lt ↦ before k lt | inr le ↦ past k le ];
        hidden = λ k is_covered. elim (cases_lt k place) [
          | inl lt ↦ before k lt
          | inr le ↦ elim (cases_lt k until) [ inl lt ↦ absurd (false≢true (sym (free.each k le lt) ∙ is_covered)) | inr out ↦ past k out ]
        ];
      }

  -- some of it was
  pub begun_stretch : IsBegun m place (take (until - place) (drop from file)) m' → BufferBegun file from place end later m m'
  begun_stretch begun =
      let all : List ℕ = take (until - place) (drop from file) in
      let xs : List ℕ = take begun.count all in
      let long : length all ≡ until - place = stretch_long in
      let some : place < until = free.some in
      let within : until ≤ end = free.within in
      let few : begun.count ≤ length all = begun.few in
      let so_many : length xs ≡ begun.count = let taken = length-take begun.count all in omega (arith, taken, few) in
      let low : place ≤ length m = omega (arith, some, within, inside) in
      let at : (k : ℕ) → get_or m' k 0 ≡ get_or (written m place xs) k 0 = λ k. ap (λ (l : List ℕ). get_or l k 0) begun.is in
      record {
        as_long = ap length begun.is ∙ length_written m xs place (omega (arith, so_many, few, long, some, within, inside));
        each = λ k. elim (cases_lt k place) [
          | inl lt ↦ inl (at k ∙ written_before m xs place k low lt)
          | inr le ↦ elim (cases_lt k (place + length xs)) [
            | inl lt ↦
                let lt_until : k < until = omega (arith, lt, so_many, few, long, some) in
                inr (record {
                  low = le;
                  high = omega (arith, lt_until, within);
                  apart = free.each k le lt_until;
                  byte = at k ∙ (written_inside m xs place k low le lt ∙ (get_or-take begun.count all (k - place) 0 (omega (arith, le, lt, so_many)) ∙ part_byte file from (until - place) (k - place) (omega (arith, le, lt_until))));
                })
            | inr out ↦ inl (at k ∙ written_past m xs place k low out)
          ]
        ];
      }

-- ---- one stretch after another

pub filled_none : (file : List ℕ) (from start : ℕ) (later : List Buffer) (m : List ℕ) → BufferFilled file from start start later m m
filled_none file from start later m = record {
  as_long = refl;
  filled = λ k le lt out. absurd (omega (arith, le, lt));
  beyond = λ k out. refl;
  hidden = λ k is. refl;
}

module _ (file : List ℕ) (from at start place : ℕ) (later : List Buffer) (m m1 m2 : List ℕ) (low : start ≤ place) (so_far : at ≡ from + (place - start)) (before : BufferFilled file from start place later m m1) where
  same_byte : (k : ℕ) → place ≤ k → get_or file (at + (k - place)) 0 ≡ get_or file (from + (k - start)) 0
  same_byte k le = let same : at + (k - place) ≡ from + (k - start) = omega (arith, le, low, so_far) in ap (λ (n : ℕ). get_or file n 0) same

  pub filled_more : (until : ℕ) → place ≤ until → BufferFilled file at place until later m1 m2 → BufferFilled file from start until later m m2
  filled_more until more next = record {
    as_long = next.as_long ∙ before.as_long;
    filled = λ k le lt out. elim (cases_lt k place) [
      | inl earlier ↦ next.beyond k (inl earlier) ∙ before.filled k le earlier out
      | inr now ↦ next.filled k now lt out ∙ same_byte k now
    ];
    beyond = λ k out. elim out [
      | inl lt ↦ next.beyond k (inl (omega (arith, lt, low))) ∙ before.beyond k (inl lt)
      | inr le ↦ next.beyond k (inr le) ∙ before.beyond k (inr (omega (arith, le, more)))
    ];
    hidden = λ k is. next.hidden k is ∙ before.hidden k is;
  }

  pub begun_more : (end : ℕ) → place ≤ end → BufferBegun file at place end later m1 m2 → BufferBegun file from start end later m m2
  begun_more end within next = record {
    as_long = next.as_long ∙ before.as_long;
    each = λ k. elim (next.each k) [
      | inr h ↦ inr (record { low = omega (arith, h.low, low); high = h.high; apart = h.apart; byte = h.byte ∙ same_byte k h.low })
      | inl same ↦ elim (either (covered k later)) [
        | inl is ↦ inl (same ∙ before.hidden k is)
        | inr out ↦ elim (cases_lt k start) [
          | inl lt ↦ inl (same ∙ before.beyond k (inl lt))
          | inr le ↦ elim (cases_lt k place) [
            | inl lt ↦ inr (record { low = le; high = omega (arith, lt, within); apart = out; byte = same ∙ before.filled k le lt out })
            | inr past ↦ inl (same ∙ before.beyond k (inr past))
          ]
        ]
      ]
    ];
  }
