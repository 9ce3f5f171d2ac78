-- Bytes in spans of a memory.
use Rattle.std.proofs.Common.{◌≡◌, ◌≤◌, ◌<◌, ◌-◌, ◌+◌, ◌++◌, ℕ, zero, suc, List, [], ◌∷◌, length, take, drop, min, sym, refl, ◌∙◌, ap, arith, length-append, length-drop}
use Rattle.std.proofs.lemmas.List.{take_all, drop_all, drop-drop, drop_at, drop-append-le, take-append-le, drop-take, drop_min, length-take-le}
use Rattle.vol_body.specs.declared.source.MemorySpan.{MemorySpan}
use Rattle.vol_body.specs.Source.{gathered}

-- `&spans[1..]` is what is left after the first
pub tail_of : {X : Type 0} (spans : List X) (n : ℕ) → take (length spans - n) (drop n spans) ≡ drop n spans
tail_of spans n = take_all (length spans - n) (drop n spans) (omega (arith, length-drop n spans))

-- where bytes are left that don't stand in the slice, there is a span
pub some_span : (memory first : List ℕ) (spans : List MemorySpan) (n : ℕ) → length first < n → n ≤ length (first ++ gathered memory spans) → 0 < length spans
some_span memory first [] n more enough = let long = length-append {A = ℕ} first [] in absurd (omega (arith, long))
some_span memory first (s ∷ spans) n more enough = omega arith

drop_past : (first rest : List ℕ) (n : ℕ) → length first ≤ n → drop n (first ++ rest) ≡ drop (n - length first) rest
drop_past first rest n le =
    let sum : length first + (n - length first) ≡ n = omega arith in
    ap (λ (k : ℕ). drop k (first ++ rest)) (sym sum) ∙ (sym (drop-drop (n - length first) (length first) (first ++ rest)) ∙ ap (λ (l : List ℕ). drop (n - length first) l) (drop_at first rest (length first) refl))

-- the slice is left out, and the next span comes
pub next_enough : (memory first next : List ℕ) (spans rest : List MemorySpan) (left : ℕ) → left ≤ length (first ++ gathered memory spans)
    → gathered memory spans ≡ next ++ gathered memory rest → left - length first ≤ length (next ++ gathered memory rest)
next_enough memory first next spans rest left enough is =
    let long = length-append first (gathered memory spans) in
    let same : length (gathered memory spans) ≡ length (next ++ gathered memory rest) = ap length is in
    omega (arith, long, same)

pub next_rest : (memory first next all : List ℕ) (spans rest : List MemorySpan) (left : ℕ) → length first < left → drop left (first ++ gathered memory spans) ≡ all
    → gathered memory spans ≡ next ++ gathered memory rest → drop (left - length first) (next ++ gathered memory rest) ≡ all
next_rest memory first next all spans rest left more before is =
    ap (λ (l : List ℕ). drop (left - length first) l) (sym is) ∙ (sym (drop_past first (gathered memory spans) left (omega arith)) ∙ before)

take_add : (m n : ℕ) (xs : List ℕ) → m ≤ length xs → take (m + n) xs ≡ take m xs ++ take n (drop m xs)
take_add zero n xs le = let e : 0 + n ≡ n = omega arith in ap (λ (k : ℕ). take k xs) e
take_add (suc m) n [] le = absurd (omega arith)
take_add (suc m) n (x ∷ xs) le =
    let e : suc m + n ≡ suc (m + n) = omega arith in
    ap (λ (k : ℕ). take k (x ∷ xs)) e ∙ ap (λ (l : List ℕ). x ∷ l) (take_add m n xs (omega arith))

-- the slice is used up, and bytes are wanted: there is a span
pub more_spans : (memory first all : List ℕ) (spans : List MemorySpan) (taken filled room : ℕ) → filled < room → room ≤ length all → taken ≡ length first
    → drop taken first ++ gathered memory spans ≡ drop filled all → 0 < length spans
more_spans memory first all spans taken filled room more enough used left =
    let long = length-append (drop taken first) (gathered memory spans) in
    let none = length-drop taken first in
    let same : length (drop taken first ++ gathered memory spans) ≡ length (drop filled all) = ap length left in
    let beyond = length-drop filled all in
    some_span memory (drop taken first) spans (length (drop taken first) + 1) (omega arith) (omega (arith, long, none, same, beyond))

-- the buffer is filled further from the next span
module _ (memory first next all into into' : List ℕ) (spans rest : List MemorySpan) (taken filled count : ℕ)
    (room : filled < length into) (enough : length into ≤ length all) (used : taken ≡ length first) (left : drop taken first ++ gathered memory spans ≡ drop filled all)
    (is : gathered memory spans ≡ next ++ gathered memory rest) where
  left_is : drop filled all ≡ next ++ gathered memory rest
  left_is = sym left ∙ (ap (λ (l : List ℕ). l ++ gathered memory spans) (drop_all taken first (omega arith)) ∙ is)

  module _ (counts : count ≡ min (length next) (length into - filled)) where
    pub filled_bytes : take filled into ≡ take filled all → take (filled + count) into' ≡ take filled into ++ take count next → take (filled + count) into' ≡ take (filled + count) all
    filled_bytes before more =
        let within : count ≤ length next = omega arith in
        more ∙ (ap (λ (l : List ℕ). l ++ take count next) before
        ∙ (ap (λ (l : List ℕ). take filled all ++ l) (sym (ap (λ (l : List ℕ). take count l) left_is ∙ take-append-le count next (gathered memory rest) within)) ∙ sym (take_add filled count all (omega arith))))

    pub filled_rest : drop count next ++ gathered memory rest ≡ drop (filled + count) all
    filled_rest =
        let within : count ≤ length next = omega arith in
        sym (drop-append-le count next (gathered memory rest) within) ∙ (ap (λ (l : List ℕ). drop count l) (sym left_is) ∙ drop-drop count filled all)

-- a number of bytes is left out, or all of them where there are fewer
pub left_after : (all left now : List ℕ) (len count some : ℕ) → len ≤ length all → some ≡ min count len → left ≡ drop some all → take len all ≡ now → take (len - some) left ≡ drop count now
left_after all left now len count some enough is rest view =
    let sum : some + (len - some) ≡ len = omega arith in
    let long : length now ≡ len = sym (ap length view) ∙ length-take-le len all enough in
    let least : some ≡ min count (length now) = omega (arith, is, long) in
    ap (λ (l : List ℕ). take (len - some) l) rest
    ∙ (sym (drop-take some (len - some) all)
    ∙ ((λ i. drop some (take (sum i) all))
    ∙ (ap (λ (l : List ℕ). drop some l) view ∙ (ap (λ (k : ℕ). drop k now) least ∙ drop_min count now))))
