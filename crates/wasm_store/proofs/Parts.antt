-- A part of memory that is lent.
use Rattle.std.proofs.Common.{◌≡◌, ℕ, zero, suc, ◌+◌, ◌-◌, ◌≤◌, List, [], ◌∷◌, ◌++◌, length, take, drop, replicate, min, refl, sym, ap, ◌∙◌, arith, append_assoc, length-append, length-take, length-drop}
use Rattle.std.proofs.Math.Seq.{take-append_seam, drop-append_seam}
use Rattle.std.proofs.lemmas.List.{take-append-le, drop-drop, take_all, take_min, drop_min, length-replicate, drop-replicate, take-replicate}
use Rattle.std.specs.List.{refill, length_refill}
use Rattle.wasm_store.specs.Bytes.{bytes_at, filled}
use Rattle.wasm_store.specs.Lending.{rewritten}

-- a part by its end
pub part_read : (items : List ℕ) (a n : ℕ) → take ((a + n) - a) (drop a items) ≡ bytes_at items a n
part_read items a n = let e : (a + n) - a ≡ n = omega arith in ap (λ k. take k (drop a items)) e

-- what the vector ends as when the code put as many elements in the place of a part
pub part_replaced : {A : Type 0} (n a k : ℕ) (items new : List A) → n ≡ length items → k ≡ length new → a + k ≤ length items
    → take n ((take a items ++ (new ++ drop ((a + k) - a) (drop a items))) ++ drop (length (take a items ++ (new ++ drop ((a + k) - a) (drop a items)))) items) ≡ take a items ++ (new ++ drop (a + length new) items)
part_replaced n a k items new len size inside =
    let replaced = take a items ++ (new ++ drop ((a + k) - a) (drop a items)) in
    let whole : length replaced ≡ n = simp (length-append, length-take, length-drop) (omega (arith, len, size, inside)) in
    let cut : (a + k) - a ≡ length new = omega arith in
    ap (λ m. take m (replaced ++ drop (length replaced) items)) (sym whole) ∙ take-append_seam replaced (drop (length replaced) items)
    ∙ ap (λ l. take a items ++ (new ++ l)) (ap (λ j. drop j (drop a items)) cut ∙ drop-drop (length new) a items)

-- bytes that were filled up with zeros to a greater length
pub grown_bytes : (len n more : ℕ) (bytes : List ℕ) → len ≡ length bytes → n ≡ len + more → take n bytes ++ replicate (n - len) 0 ≡ bytes ++ replicate more 0
grown_bytes len n more bytes size to =
    let added : n - len ≡ more = omega (arith, to) in
    ap (λ l. l ++ replicate (n - len) 0) (take_all n bytes (omega (arith, size, to))) ∙ ap (λ k. bytes ++ replicate k 0) added

-- what stands from a place on in two lists, one behind the other
pub drop-append : {A : Type 0} (n : ℕ) (xs ys : List A) → drop n (xs ++ ys) ≡ drop n xs ++ drop (n - length xs) ys
drop-append zero [] ys = refl
drop-append zero (x ∷ xs) ys = let e : 0 - length (x ∷ xs) ≡ 0 = omega arith in ap (λ k. (x ∷ xs) ++ drop k ys) (sym e)
drop-append (suc n) [] ys = let e : suc n - 0 ≡ suc n = omega arith in ap (λ k. drop k ys) (sym e)
drop-append (suc n) (x ∷ xs) ys = let e : suc n - length (x ∷ xs) ≡ n - length xs = omega arith in drop-append n xs ys ∙ ap (λ k. drop n xs ++ drop k ys) (sym e)

-- the first of two lists, one behind the other
pub take-append : {A : Type 0} (n : ℕ) (xs ys : List A) → take n (xs ++ ys) ≡ take n xs ++ take (n - length xs) ys
take-append zero [] ys = refl
take-append zero (x ∷ xs) ys = let e : 0 - length (x ∷ xs) ≡ 0 = omega arith in ap (λ k. take k ys) (sym e)
take-append (suc n) [] ys = let e : suc n - 0 ≡ suc n = omega arith in ap (λ k. take k ys) (sym e)
take-append (suc n) (x ∷ xs) ys = let e : suc n - length (x ∷ xs) ≡ n - length xs = omega arith in ap (λ l. x ∷ l) (take-append n xs ys ∙ ap (λ k. take n xs ++ take k ys) (sym e))

-- bytes of memory are those of its first part and then zeros
pub read_filled : (size a n : ℕ) (bytes : List ℕ) → a + n ≤ size → length bytes ≤ size
    → bytes_at (filled size bytes) a n ≡ take n (drop a bytes) ++ replicate (n - length (drop a bytes)) 0
read_filled size a n bytes inside part =
    let zeros = size - length bytes in
    let left : n - length (drop a bytes) ≤ zeros - (a - length bytes) = simp (length-drop) (omega (arith, inside, part)) in
    ap (take n) (drop-append a bytes (replicate zeros 0)) ∙ take-append n (drop a bytes) (drop (a - length bytes) (replicate zeros 0))
    ∙ ap (λ l. take n (drop a bytes) ++ take (n - length (drop a bytes)) l) (drop-replicate (a - length bytes) zeros 0)
    ∙ ap (λ l. take n (drop a bytes) ++ l) (take-replicate (n - length (drop a bytes)) (zeros - (a - length bytes)) 0 left)

-- what stands from a place on, where the place may be past the end
pub part_from : (a m : ℕ) (bytes : List ℕ) → m ≡ min a (length bytes) → take (length bytes - m) (drop m bytes) ≡ drop a bytes
part_from a m bytes e =
    take_all (length bytes - m) (drop m bytes) (simp length-drop (omega arith)) ∙ ap (λ k. drop k bytes) e ∙ drop_min a bytes

-- what a room holds of the first part and then zeros are bytes of memory
pub part_copied : (size a n len more : ℕ) (bytes part : List ℕ) → a + n ≤ size → length bytes ≤ size → part ≡ drop a bytes
    → len ≡ min (length part) n → more + len ≡ n → take len part ++ replicate more 0 ≡ bytes_at (filled size bytes) a n
part_copied size a n len more bytes part inside within is cut all =
    let shorter : len ≡ min n (length part) = omega (arith, cut) in
    let zeros : more ≡ n - length part = omega (arith, cut, all) in
    ap (λ k. take len part ++ replicate k 0) zeros ∙ ap (λ l. l ++ replicate (n - length part) 0) (ap (λ k. take k part) shorter ∙ take_min n part)
    ∙ ap (λ l. take n l ++ replicate (n - length l) 0) is ∙ sym (read_filled size a n bytes inside within)

-- how long memory is
pub length_filled : (size : ℕ) (items : List ℕ) → length items ≤ size → length (filled size items) ≡ size
length_filled size items within = simp (length-append, length-replicate) (omega (arith, within))

-- all that stands behind a place in the first part is a part of memory
pub part_lent : (size n a : ℕ) (items : List ℕ) → n ≡ length items → a ≤ n
    → take (n - a) (drop a items) ≡ bytes_at (filled size items) a (length (take (n - a) (drop a items)))
part_lent size n a items e inside =
    let zeros : List ℕ = replicate (size - length items) 0 in
    let all : take (n - a) (drop a items) ≡ drop a items = take_all (n - a) (drop a items) (simp length-drop (omega arith)) in
    all ∙ sym (ap (λ (l : List ℕ). take (length l) (drop a (items ++ zeros))) all ∙ ap (take (length (drop a items))) (drop-append a items zeros)
    ∙ take-append_seam (drop a items) (drop (a - length items) zeros))

-- what stands behind a place in the first part, when it was written, as the vector of the first part has it
items_written : (n a : ℕ) (items w : List ℕ) → n ≡ length items → a ≤ n
    → take n ((take a items ++ (w ++ drop (length w) (drop a items))) ++ drop (length (take a items ++ (w ++ drop (length w) (drop a items)))) items)
    ≡ take a items ++ refill (length (drop a items)) (drop a items) w
items_written n a items w e inside =
    let all = w ++ drop (length w) (drop a items) in
    let long : n ≤ length (take a items ++ all) = simp (length-append, length-take, length-drop) (omega arith) in
    let front : length (take a items) ≡ a = simp length-take (omega arith) in
    let behind : n - length (take a items) ≡ length (drop a items) = simp (length-take, length-drop) (omega arith) in
    take-append-le n (take a items ++ all) (drop (length (take a items ++ all)) items) long ∙ take-append n (take a items) all
    ∙ ap (λ l. l ++ take (n - length (take a items)) all) (take_all n (take a items) (omega (arith, front)))
    ∙ ap (λ k. take a items ++ take k all) behind

-- what memory ends as, where what stands behind a place in the first part is written
pub part_written : (size n a : ℕ) (items part w : List ℕ) → n ≡ length items → a ≤ n → part ≡ take (n - a) (drop a items)
    → filled size (take n ((take a items ++ (w ++ drop (length w) (drop a items))) ++ drop (length (take a items ++ (w ++ drop (length w) (drop a items)))) items))
    ≡ rewritten (filled size items) a part w
part_written size n a items part w e inside is =
    let zeros : List ℕ = replicate (size - length items) 0 in
    let last = refill (length (drop a items)) (drop a items) w in
    let long : length last ≡ length (drop a items) = sym (length_refill (length (drop a items)) (drop a items) w refl) in
    let whole : length (take a items ++ last) ≡ length items = omega (arith, length-append (take a items) last, length-take a items, long, length-drop a items) in
    let end : a + length last ≡ length items = omega (arith, long, length-drop a items) in
    ap (filled size) (items_written n a items w e inside)
    ∙ ap (λ k. (take a items ++ last) ++ replicate (size - k) 0) whole
    ∙ append_assoc (take a items) last zeros
    ∙ ap (λ l. l ++ (last ++ zeros)) (sym (take-append-le a items zeros (omega (arith, e))))
    ∙ ap (λ l. take a (items ++ zeros) ++ (last ++ l)) (sym (ap (λ k. drop k (items ++ zeros)) end ∙ drop-append_seam items zeros))
    ∙ ap (λ l. rewritten (filled size items) a l w) (sym (is ∙ take_all (n - a) (drop a items) (simp length-drop (omega (arith, e)))))
