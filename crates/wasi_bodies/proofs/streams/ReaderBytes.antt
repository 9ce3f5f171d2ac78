-- Bytes that come from a reader.
use Rattle.std.proofs.Common.{◌≡◌, ◌⊎◌, inl, inr, ℕ, ◌+◌, ◌-◌, ◌<◌, ◌≤◌, List, [], ◌∷◌, ◌++◌, length, take, drop, get_or, Bool, true, false, ◌||◌, nat_lt, Option, Result, Ok, Err, refl, sym, ap, ◌∙◌, subst, add-zero, add-one, append_assoc, append-nil, arith}
use Rattle.std.proofs.KnownBytes.{Consumes-nil, Consumes-trans}
use Rattle.std.proofs.Math.Seq.{take-append_seam, drop-append_seam, drop-append-add, take-suc}
use Rattle.std.proofs.lemmas.List.{length-append, length-take, length-drop, take_all, drop_all, take-append-le, drop-append-le, take-append-drop, drop-drop, map-append}
use Rattle.std.proofs.lemmas.Bool.{lt-ltb, le-ltb}
use Rattle.std.proofs.lemmas.List.Sums.{sum_by-cons, sum_by-append}
use Rattle.std.specs.Io.KnownBytes.{Consumes}
use Rattle.wasm_store.specs.Bytes.{written}
use Rattle.vol_body.specs.declared.source.MemorySpan.{MemorySpan}
use Rattle.wasi_bodies.specs.Checks.{Buffer, put, total, scattered}
use Rattle.wasi_bodies.specs.internal.checks.Buffers.{pair_of, list_of}
use Rattle.wasi_bodies.specs.internal.streams.Inputs.{Came, SomeCame, Dealt, SomeDealt}

pub none_long : (l : List ℕ) → length l ≡ 0 → l ≡ []
none_long [] h = refl
none_long (x ∷ l) h = absurd (omega (arith, h))

-- ---- bytes written after others

pub written_none : (m : List ℕ) (p : ℕ) → written m p [] ≡ m
written_none m p = ap (λ (n : ℕ). take p m ++ drop n m) (add-zero p) ∙ take-append-drop p m

written_more : (m xs ys : List ℕ) (p : ℕ) → p ≤ length m → written (written m p xs) (p + length xs) ys ≡ written m p (xs ++ ys)
written_more m xs ys p inside =
    let n : ℕ = p + length xs in
    let a : List ℕ = take p m ++ xs in
    let b : List ℕ = drop n m in
    let first = length-take p m in
    let both = length-append (take p m) xs in
    let long : n ≡ length a = omega (arith, first, both) in
    let whole : written m p xs ≡ a ++ b = sym (append_assoc (take p m) xs b) in
    let here : take n (a ++ b) ≡ a = ap (λ (k : ℕ). take k (a ++ b)) long ∙ take-append_seam a b in
    let so_many = length-append xs ys in
    let place : n + length ys ≡ p + length (xs ++ ys) = omega (arith, so_many) in
    let past : drop (n + length ys) (a ++ b) ≡ drop (p + length (xs ++ ys)) m =
    ap (λ (k : ℕ). drop (k + length ys) (a ++ b)) long ∙ (drop-append-add a b (length ys) ∙ (drop-drop (length ys) n m ∙ ap (λ (k : ℕ). drop k m) place)) in
    let rest : List ℕ = drop (p + length (xs ++ ys)) m in
    (λ i. take n (whole i) ++ (ys ++ drop (n + length ys) (whole i)))
    ∙ ((λ i. here i ++ (ys ++ past i))
    ∙ (append_assoc (take p m) xs (ys ++ rest) ∙ ap (λ (l : List ℕ). take p m ++ l) (sym (append_assoc xs ys rest))))

-- ---- into one place

pub came_none : (a : Option (List ℕ)) (m : List ℕ) (place most : ℕ) → Came a a m place most m 0
came_none a m place most = record { bytes = []; consumed = Consumes-nil a; many = refl; few = omega arith; stand = sym (written_none m place) }

pub came_more : (a b c : Option (List ℕ)) (m m1 m2 : List ℕ) (place most n k : ℕ) → place + most ≤ length m → n ≤ most
    → Came a b m place most m1 n → Came b c m1 (place + n) (most - n) m2 k → Came a c m place most m2 (n + k)
came_more a b c m m1 m2 place most n k inside some x y =
    let all = length-append x.bytes y.bytes in
    record {
      bytes = x.bytes ++ y.bytes;
      consumed = Consumes-trans a b c x.bytes y.bytes x.consumed y.consumed;
      many = omega (arith, all, x.many, y.many);
      few = omega (arith, y.few);
      stand = y.stand ∙ ((λ i. written (x.stand i) (place + sym x.many i) y.bytes) ∙ written_more m x.bytes y.bytes place (omega arith));
    }

-- the last read gave none
pub came_end : (a b c : Option (List ℕ)) (m m1 m2 : List ℕ) (place most n : ℕ) → place + most ≤ length m → n ≤ most
    → Came a b m place most m1 n → Came b c m1 (place + n) (most - n) m2 0 → Came a c m place most m2 n
came_end a b c m m1 m2 place most n inside some x y = subst (Came a c m place most m2) (add-zero n) (came_more a b c m m1 m2 place most n 0 inside some x y)

pub came_fails : (a b c : Option (List ℕ)) (m m1 m2 : List ℕ) (place most n : ℕ) → Came a b m place most m1 n → Consumes b c [] → m2 ≡ m1 → SomeCame a c m place most m2
came_fails a b c m m1 m2 place most n x none same = record {
  count = n;
  came = record {
    bytes = x.bytes;
    consumed = subst (Consumes a c) (append-nil x.bytes) (Consumes-trans a b c x.bytes [] x.consumed none);
    many = x.many;
    few = x.few;
    stand = same ∙ x.stand;
  };
}

-- ---- into buffers

scattered_push : (bytes : List ℕ) (bs : List Buffer) (b : Buffer) → scattered bytes (bs ++ b ∷ []) ≡ scattered bytes bs ++ (b.0, take b.1 (drop (total bs) bytes)) ∷ []
scattered_push bytes [] b = refl
scattered_push bytes (x ∷ bs) b =
    let sum = sum_by-cons (λ (b : Buffer). b.1) x bs in
    ap (λ (l : List (ℕ × List ℕ)). (x.0, take x.1 bytes) ∷ l)
    (scattered_push (drop x.1 bytes) bs b
    ∙ ap (λ (l : List ℕ). scattered (drop x.1 bytes) bs ++ (b.0, take b.1 l) ∷ []) (drop-drop (total bs) x.1 bytes ∙ ap (λ (n : ℕ). drop n bytes) (sym sum)))

-- more bytes than there is room for
scattered_more : (bytes more : List ℕ) (bs : List Buffer) → total bs ≤ length bytes → scattered (bytes ++ more) bs ≡ scattered bytes bs
scattered_more bytes more [] h = refl
scattered_more bytes more (x ∷ bs) h =
    let sum = sum_by-cons (λ (b : Buffer). b.1) x bs in
    let fits : x.1 ≤ length bytes = omega (arith, sum, h) in
    let left = length-drop x.1 bytes in
    (λ i. (x.0, take-append-le x.1 bytes more fits i) ∷ scattered (drop-append-le x.1 bytes more fits i) bs)
    ∙ ap (λ (l : List (ℕ × List ℕ)). (x.0, take x.1 bytes) ∷ l) (scattered_more (drop x.1 bytes) more bs (omega (arith, sum, left)))

put_append : (m : List ℕ) (xs ys : List (ℕ × List ℕ)) → put m (xs ++ ys) ≡ put (put m xs) ys
put_append m [] ys = refl
put_append m (w ∷ xs) ys = put_append (written m w.0 w.1) xs ys

pub put_none : (m : List ℕ) (bs : List Buffer) → put m (scattered [] bs) ≡ m
put_none m [] = refl
put_none m (b ∷ bs) =
    (λ i. put (written m b.0 (take_all b.1 [] (omega arith) i)) (scattered (drop_all b.1 [] (omega arith) i) bs))
    ∙ (ap (λ (l : List ℕ). put l (scattered [] bs)) (written_none m b.0) ∙ put_none m bs)

-- more buffers than there are bytes
put_rest : (m bytes : List ℕ) (bs rest : List Buffer) → length bytes ≤ total bs → put m (scattered bytes (bs ++ rest)) ≡ put m (scattered bytes bs)
put_rest m bytes [] rest h = let none : bytes ≡ [] = none_long bytes (omega (arith, h)) in ap (λ (l : List ℕ). put m (scattered l rest)) none ∙ put_none m rest
put_rest m bytes (b ∷ bs) rest h =
    let sum = sum_by-cons (λ (b : Buffer). b.1) b bs in
    let left = length-drop b.1 bytes in
    put_rest (written m b.0 (take b.1 bytes)) (drop b.1 bytes) bs rest (omega (arith, sum, left, h))

total_push : (bs : List Buffer) (b : Buffer) → total (bs ++ b ∷ []) ≡ total bs + b.1
total_push bs b =
    let f : Buffer → ℕ = λ b. b.1 in
    sum_by-append f bs (b ∷ []) ∙ ap (λ (n : ℕ). total bs + n) (sum_by-cons f b [] ∙ add-zero _)

pub dealt_none : (a : Option (List ℕ)) (m : List ℕ) → Dealt a a m [] m 0
dealt_none a m = record { bytes = []; consumed = Consumes-nil a; many = refl; few = omega arith; stand = refl }

-- one buffer more: those before it are full, or no bytes came for it
dealt_push : (a b c : Option (List ℕ)) (m m1 m2 : List ℕ) (bs : List Buffer) (p : Buffer) (n k : ℕ) → Dealt a b m bs m1 n → Came b c m1 p.0 p.1 m2 k → (n ≡ total bs) ⊎ (k ≡ 0)
    → Dealt a c m (bs ++ p ∷ []) m2 (n + k)
dealt_push a b c m m1 m2 bs p n k x y full =
    let xs : List ℕ = x.bytes in
    let ys : List ℕ = y.bytes in
    let all = length-append xs ys in
    let sum = total_push bs p in
    let both : scattered (xs ++ ys) (bs ++ p ∷ []) ≡ scattered xs bs ++ (p.0, ys) ∷ [] = elim full [
      | inl is ↦
          let long : total bs ≡ length xs = omega (arith, is, x.many) in
          let last : take p.1 (drop (total bs) (xs ++ ys)) ≡ ys =
          ap (λ (n : ℕ). take p.1 (drop n (xs ++ ys))) long ∙ (ap (take p.1) (drop-append_seam xs ys) ∙ take_all p.1 ys (omega (arith, y.many, y.few))) in
          scattered_push (xs ++ ys) bs p ∙ (λ i. scattered_more xs ys bs (omega (arith, long)) i ++ (p.0, last i) ∷ [])
      | inr none ↦
          let empty : ys ≡ [] = none_long ys (omega (arith, none, y.many)) in
          let same : xs ++ ys ≡ xs = ap (λ (l : List ℕ). xs ++ l) empty ∙ append-nil xs in
          let last : take p.1 (drop (total bs) xs) ≡ ys =
          ap (take p.1) (drop_all (total bs) xs (omega (arith, x.many, x.few))) ∙ (take_all p.1 [] (omega arith) ∙ sym empty) in
          (λ i. scattered (same i) (bs ++ p ∷ [])) ∙ (scattered_push xs bs p ∙ λ i. scattered xs bs ++ (p.0, last i) ∷ [])
    ] in
    record {
      bytes = xs ++ ys;
      consumed = Consumes-trans a b c xs ys x.consumed y.consumed;
      many = omega (arith, all, x.many, y.many);
      few = omega (arith, sum, x.few, y.few);
      stand = y.stand ∙ (ap (λ (l : List ℕ). written l p.0 ys) x.stand ∙ (sym (put_append m (scattered xs bs) ((p.0, ys) ∷ [])) ∙ ap (put m) (sym both)));
    }

pub dealt_rest : (a b : Option (List ℕ)) (m m1 : List ℕ) (bs rest : List Buffer) (n : ℕ) → Dealt a b m bs m1 n → Dealt a b m (bs ++ rest) m1 n
dealt_rest a b m m1 bs rest n x =
    let sum = sum_by-append (λ (b : Buffer). b.1) bs rest in
    record {
      bytes = x.bytes;
      consumed = x.consumed;
      many = x.many;
      few = omega (arith, sum, x.few);
      stand = x.stand ∙ sym (put_rest m x.bytes bs rest (omega (arith, x.many, x.few)));
    }

-- ---- the buffers of a call

push_listed : (bs : List MemorySpan) (i : ℕ) (d : MemorySpan) → i < length bs → list_of (take (i + 1) bs) ≡ list_of (take i bs) ++ pair_of (get_or bs i d) ∷ []
push_listed bs i d h = ap list_of (rw add-one (take-suc bs i d h)) ∙ map-append pair_of (take i bs) (get_or bs i d ∷ [])

pub dealt_more : (a b c : Option (List ℕ)) (m m1 m2 : List ℕ) (bs : List MemorySpan) (i n k : ℕ) (d : MemorySpan) → i < length bs
    → Dealt a b m (list_of (take i bs)) m1 n → Came b c m1 (get_or bs i d).pointer (get_or bs i d).len m2 k → (n ≡ total (list_of (take i bs))) ⊎ (k ≡ 0)
    → Dealt a c m (list_of (take (i + 1) bs)) m2 (n + k)
dealt_more a b c m m1 m2 bs i n k d h x y full =
    subst (λ (l : List Buffer). Dealt a c m l m2 (n + k)) (sym (push_listed bs i d h)) (dealt_push a b c m m1 m2 (list_of (take i bs)) (pair_of (get_or bs i d)) n k x y full)

-- the reader failed in this buffer
pub dealt_fails : (a b c : Option (List ℕ)) (m m1 m2 : List ℕ) (bs : List MemorySpan) (i n : ℕ) (d : MemorySpan) → i < length bs
    → Dealt a b m (list_of (take i bs)) m1 n → SomeCame b c m1 (get_or bs i d).pointer (get_or bs i d).len m2 → n ≡ total (list_of (take i bs)) → SomeDealt a c m (list_of bs) m2
dealt_fails a b c m m1 m2 bs i n d h x y full =
    let some = dealt_more a b c m m1 m2 bs i n y.count d h x y.came (inl full) in
    let parts : list_of (take (i + 1) bs) ++ list_of (drop (i + 1) bs) ≡ list_of bs = sym (map-append pair_of (take (i + 1) bs) (drop (i + 1) bs)) ∙ ap list_of (take-append-drop (i + 1) bs) in
    record {
      count = n + y.count;
      dealt = subst (λ (l : List Buffer). Dealt a c m l m2 (n + y.count)) parts (dealt_rest a c m m2 (list_of (take (i + 1) bs)) (list_of (drop (i + 1) bs)) (n + y.count) some);
    }

pub ended_or : (b : Bool) → (b ≡ true) ⊎ (b ≡ false)
ended_or true = inl refl
ended_or false = inr refl

pub same_count : {E : Type 0} (n k : ℕ) → ◌≡◌ {A = Result ℕ E} (Ok n) (Ok k) → n ≡ k
same_count n k h = cc

pub no_count : {E : Type 0} (e : E) (n : ℕ) → ◌≡◌ {A = Result ℕ E} (Err e) (Ok n) → ⊥
no_count e n h = cc

-- the mark of the input's end
pub ended_so : (old new : Bool) (n most : ℕ) → (old ≡ true → new ≡ true) → (old ≡ false → new ≡ true → n < most) → (new ≡ false → most ≤ n) → new ≡ (old || nat_lt n most)
ended_so true new n most stays short full = stays refl
ended_so false true n most stays short full = sym (lt-ltb n most (short refl refl))
ended_so false false n most stays short full = sym (le-ltb n most (full refl))
