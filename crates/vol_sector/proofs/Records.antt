-- One operation more in a record.
use Rattle.std.proofs.Common.{◌≡◌, ◌≢◌, ◌⊎◌, inl, inr, ⊎_elim, ◌+◌, ◌≤◌, ◌<◌, ◌==◌, if◌then◌else◌, ℕ, suc, List, [], ◌∷◌, ◌++◌, length, take, get_or, set, replicate, refl, sym, ◌∙◌, ap, subst, arith, Result, Ok, Err, IfOk}
use Rattle.std.proofs.lemmas.Bool.{cases_eq}
use Rattle.std.proofs.lemmas.Bool.Decides.{nat_tests}
use Rattle.std.proofs.lemmas.List.{take_all, take-append-le, length_push, get_or-set_same, get_or-set_other, get_or-replicate}
use Rattle.vol_sector.specs.Disk.{Image, put, Wrote, After, Leaves, Keeps, Only}
use Rattle.vol_sector.specs.Record.{newest, choices, Among, LeftBy, LeftSince, recorded}
use Rattle.vol_sector.specs.Record.{image_of}
use Rattle.vol_sector.specs.internal.RecordLaws.{stays_left}
use Rattle.vol_sector.specs.Memory.{IsUnused}
use Rattle.vol_sector.specs.declared.memory.MemoryDevice.{MemoryDevice}
use Rattle.vol_sector.specs.declared.record.Operation.{Operation}
use Rattle.vol_sector.specs.declared.record.Operation.TheVariants.{Write, Sync}

pub newest_write : (n : ℕ) (value : List ℕ) (ops : List Operation) (m : ℕ) (image : List ℕ) → newest n value (ops ++ Write m image ∷ []) ≡ (if n == m then image else newest n value ops)
newest_write n value [] m image = refl
newest_write n value (Write k other ∷ ops) m image = newest_write n (if n == k then other else value) ops m image
newest_write n value (Sync ∷ ops) m image = newest_write n value ops m image

pub newest_sync : (n : ℕ) (value : List ℕ) (ops : List Operation) → newest n value (ops ++ Sync ∷ []) ≡ newest n value ops
newest_sync n value [] = refl
newest_sync n value (Write k other ∷ ops) = newest_sync n (if n == k then other else value) ops
newest_sync n value (Sync ∷ ops) = newest_sync n value ops

pub choices_write : (n : ℕ) (value : List ℕ) (so_far : List (List ℕ)) (ops : List Operation) (m : ℕ) (image : List ℕ) → choices n value so_far (ops ++ Write m image ∷ []) ≡ (if n == m then choices n value so_far ops ++ image ∷ [] else choices n value so_far ops)
choices_write n value so_far [] m image = refl
choices_write n value so_far (Write k other ∷ ops) m image = choices_write n (if n == k then other else value) (if n == k then so_far ++ other ∷ [] else so_far) ops m image
choices_write n value so_far (Sync ∷ ops) m image = choices_write n value (value ∷ []) ops m image

pub choices_sync : (n : ℕ) (value : List ℕ) (so_far : List (List ℕ)) (ops : List Operation) → choices n value so_far (ops ++ Sync ∷ []) ≡ newest n value ops ∷ []
choices_sync n value so_far [] = refl
choices_sync n value so_far (Write k other ∷ ops) = choices_sync n (if n == k then other else value) (if n == k then so_far ++ other ∷ [] else so_far) ops
choices_sync n value so_far (Sync ∷ ops) = choices_sync n value (value ∷ []) ops

among_or : (values : List (List ℕ)) (last value : List ℕ) → Among (values ++ last ∷ []) value → Among values value ⊎ (value ≡ last)
among_or [] last value (inl is) = inr is
among_or [] last value (inr none) = absurd none
among_or (one ∷ values) last value (inl is) = inl (inl is)
among_or (one ∷ values) last value (inr more) = ⊎_elim (λ old. inl (inr old)) (λ new. inr new) (among_or values last value more)

-- what the record before the last operation may have left, or the record now
since_push : (first : Image) (ops : List Operation) (o : Operation) (t : ℕ) (c : Image) → t ≤ length ops → LeftSince first (ops ++ o ∷ []) t c → LeftSince first ops t c ⊎ LeftBy first (ops ++ o ∷ []) c
since_push first ops o t c le since = elim (cases_eq since.0 (length ops + 1)) [
  | inl last ↦ let all : take since.0 (ops ++ o ∷ []) ≡ ops ++ o ∷ [] = take_all since.0 (ops ++ o ∷ []) (omega (arith, last, length_push ops o)) in
      inr (subst (λ (r : List Operation). LeftBy first r c) all since.3)
  | inr other ↦ let short : since.0 ≤ length ops = omega (arith, since.2, length_push ops o) in
      inl (since.0, since.1, short, subst (λ (r : List Operation). LeftBy first r c) (take-append-le since.0 ops (o ∷ []) short) since.3)
]

-- a write adds itself to the choices
left_write : (first : Image) (ops : List Operation) (m : ℕ) (image : List ℕ) (c : Image) → LeftBy first (ops ++ Write m image ∷ []) c → After (Wrote m image) (LeftBy first ops) c
left_write first ops m image c left = elim (here m refl) [
  | inl old ↦ (c, (λ n. elim (cases_eq n m) [ inl is ↦ subst (λ (k : ℕ). Among (choices k (first k) (first k ∷ []) ops) (c k)) (sym is) old | inr other ↦ there n other ]), inl refl)
  | inr new ↦ (
    put m (newest m (first m) ops) c,
    (λ n. elim (cases_eq n m) [
      | inl is ↦ subst (λ (x : List ℕ). Among (choices n (first n) (first n ∷ []) ops) x) (sym (at n is)) (stays_left first ops n)
      | inr other ↦ subst (λ (x : List ℕ). Among (choices n (first n) (first n ∷ []) ops) x) (sym (past n m (newest m (first m) ops) (c n) other)) (there n other)
    ]),
    inr (λ j n. whole new n j),
  )
]
  where
    past : (n k : ℕ) (x y : List ℕ) → n ≢ k → (if n == k then x else y) ≡ y
    past n k x y ne = grind (arith, nat_tests)

    hits : (n k : ℕ) (x y : List ℕ) → n ≡ k → (if n == k then x else y) ≡ x
    hits n k x y is = grind (arith, nat_tests)

    hit : (n k : ℕ) (x y : List (List ℕ)) → n ≡ k → (if n == k then x else y) ≡ x
    hit n k x y is = grind (arith, nat_tests)

    miss : (n k : ℕ) (x y : List (List ℕ)) → n ≢ k → (if n == k then x else y) ≡ y
    miss n k x y ne = grind (arith, nat_tests)

    at : (n : ℕ) → n ≡ m → put m (newest m (first m) ops) c n ≡ newest n (first n) ops
    at n is = hits n m (newest m (first m) ops) (c n) is ∙ ap (λ (k : ℕ). newest k (first k) ops) (sym is)

    here : (n : ℕ) → n ≡ m → Among (choices n (first n) (first n ∷ []) ops) (c n) ⊎ (c n ≡ image)
    here n is = among_or (choices n (first n) (first n ∷ []) ops) image (c n) (subst (λ (l : List (List ℕ)). Among l (c n)) (choices_write n (first n) (first n ∷ []) ops m image ∙ hit n m (choices n (first n) (first n ∷ []) ops ++ image ∷ []) (choices n (first n) (first n ∷ []) ops) is) (left n))

    there : (n : ℕ) → n ≢ m → Among (choices n (first n) (first n ∷ []) ops) (c n)
    there n other = subst (λ (l : List (List ℕ)). Among l (c n)) (choices_write n (first n) (first n ∷ []) ops m image ∙ miss n m (choices n (first n) (first n ∷ []) ops ++ image ∷ []) (choices n (first n) (first n ∷ []) ops) other) (left n)

    whole : c m ≡ image → (n : ℕ) → c n ≡ put m image (put m (newest m (first m) ops) c) n
    whole new n = elim (cases_eq n m) [
      | inl is ↦ ap c is ∙ new ∙ sym (hits n m image (put m (newest m (first m) ops) c n) is)
      | inr other ↦ sym (past n m image (put m (newest m (first m) ops) c n) other ∙ past n m (newest m (first m) ops) (c n) other)
    ]

pub leaves_write : (first : Image) (ops : List Operation) (m : ℕ) (image : List ℕ) → Leaves (recorded first ops) (recorded first (ops ++ Write m image ∷ [])) (After (Wrote m image) (LeftBy first ops))
leaves_write first ops m image = record {
  later = omega (arith, length_push ops (Write m image));
  since = λ t c le left. ⊎_elim (λ old. inl old) (λ new. inr (left_write first ops m image c new)) (since_push first ops (Write m image) t c le left);
  now = λ c left. inr (left_write first ops m image c left);
}

pub only_sync : (first : Image) (ops : List Operation) → Only (λ n. newest n (first n) ops) (LeftBy first (ops ++ Sync ∷ []))
only_sync first ops c left = λ j n. value n (subst (λ (l : List (List ℕ)). Among l (c n)) (choices_sync n (first n) (first n ∷ []) ops) (left n)) j
  where
    value : (n : ℕ) → Among (newest n (first n) ops ∷ []) (c n) → c n ≡ newest n (first n) ops
    value n (inl is) = is
    value n (inr none) = absurd none

left_sync : (first : Image) (ops : List Operation) (c : Image) → LeftBy first (ops ++ Sync ∷ []) c → LeftBy first ops c
left_sync first ops c left = subst (LeftBy first ops) (sym (only_sync first ops c left)) (stays_left first ops)

pub leaves_sync : (first : Image) (ops : List Operation) → Leaves (recorded first ops) (recorded first (ops ++ Sync ∷ [])) (λ c. ⊥)
leaves_sync first ops = record {
  later = omega (arith, length_push ops Sync);
  since = λ t c le left. ⊎_elim (λ old. inl old) (λ new. inl (length ops, le, omega arith, subst (λ (r : List Operation). LeftBy first r c) (sym (take_all (length ops) ops (omega arith))) (left_sync first ops c new))) (since_push first ops Sync t c le left);
  now = λ c left. inl (left_sync first ops c left);
}

-- the sectors in memory stay those that the record gives
pub agrees_write : (first now : List (List ℕ)) (ops : List Operation) (m : ℕ) (image : List ℕ) → m < length now → ((n : ℕ) → image_of now n ≡ newest n (image_of first n) ops) → (n : ℕ) → image_of (set now m image) n ≡ newest n (image_of first n) (ops ++ Write m image ∷ [])
agrees_write first now ops m image lt agree n = elim (cases_eq n m) [
  | inl is ↦ subst (λ (k : ℕ). get_or (set now m image) k [] ≡ newest k (image_of first k) (ops ++ Write m image ∷ [])) (sym is) (get_or-set_same now m image [] lt ∙ sym (newest_write m (image_of first m) ops m image ∙ hits m m image (newest m (image_of first m) ops) refl))
  | inr other ↦ get_or-set_other now m n image [] other ∙ agree n ∙ sym (newest_write n (image_of first n) ops m image ∙ past n m image (newest n (image_of first n) ops) other)
]
  where
    past : (n k : ℕ) (x y : List ℕ) → n ≢ k → (if n == k then x else y) ≡ y
    past n k x y ne = grind (arith, nat_tests)

    hits : (n k : ℕ) (x y : List ℕ) → n ≡ k → (if n == k then x else y) ≡ x
    hits n k x y is = grind (arith, nat_tests)

pub if_ok : {T E : Type 0} (r : Result T E) (P Q : T → Type 0) → ((x : T) → P x → Q x) → IfOk r P → IfOk r Q
if_ok (Ok x) P Q f p = f x p
if_ok (Err e) P Q f p = p

pub keeps_push : (first : Image) (ops : List Operation) (o : Operation) → Keeps (recorded first ops) (recorded first (ops ++ o ∷ []))
keeps_push first ops o t c le since =
    (since.0, since.1, omega (arith, since.2, length_push ops o), subst (λ (r : List Operation). LeftBy first r c) (sym (take-append-le since.0 ops (o ∷ []) since.2)) since.3)

-- an unused device of zeros
pub unused_zeros : (m : MemoryDevice) (long sectors room : ℕ) (items : List (List ℕ)) (zeros : List ℕ) → long ≡ sectors → items ≡ replicate sectors zeros → IsUnused m long room (image_of items) → IsUnused m sectors room (λ n. zeros)
unused_zeros m long sectors room items zeros same are unused = record {
  sectors_is = unused.sectors_is ∙ same;
  room_is = unused.room_is;
  record_is = unused.record_is;
  operations_is = unused.operations_is;
  failures_is = unused.failures_is;
  image_is = λ n lt. unused.image_is n (omega (arith, lt, same)) ∙ ap (λ (l : List (List ℕ)). get_or l n []) are ∙ get_or-replicate sectors n zeros [] lt;
}

zeros_all : (y : List ℕ) → ((i : ℕ) → i < length y → get_or y i 0 ≡ 0) → y ≡ replicate (length y) 0
zeros_all [] zero_at = refl
zeros_all (x ∷ y) zero_at =
    let here : x ≡ 0 = zero_at 0 (omega arith) in
    let rest : y ≡ replicate (length y) 0 = zeros_all y (λ i lt. zero_at (suc i) (omega arith)) in
    (λ i. here i ∷ rest i)

-- bytes that are each zero
pub zeros_are : (n : ℕ) (y : List ℕ) → length y ≡ n → ((i : ℕ) → i < n → get_or y i 0 ≡ 0) → y ≡ replicate n 0
zeros_are n y long zero_at = zeros_all y (λ i lt. zero_at i (omega arith)) ∙ ap (λ (k : ℕ). replicate k 0) long
