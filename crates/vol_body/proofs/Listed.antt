-- The numbers of a pointer sector.
use Rattle.std.proofs.Common.{◌≡◌, ◌≢◌, inl, inr, ◌≤◌, ◌<◌, ◌+◌, ◌-◌, ◌*◌, ◌^◌, ℕ, List, ◌++◌, length, take, drop, set, replicate, get_or, refl, sym, ◌∙◌, ap, arith}
use Rattle.std.proofs.lemmas.Bool.{cases_eq, cases_lt}
use Rattle.std.proofs.lemmas.List.{append_assoc, drop_at, length-append, length-take-le, length-drop, get_or-take, get_or-drop, get_or_append_left, get_or-append_right, get_or-replicate, get_or_past, length-replicate, get_or-set_same, get_or-set_other}
use Rattle.byteorder.specs.Endian.{little_bytes, little_number}
use Rattle.byteorder.specs.Numbers.{little_number-reads_back, length-bytes_low_first}
use Rattle.vol_sector.specs.Disk.{Image}
use Rattle.vol_inode.specs.declared.entry.Entry.{Entry}
use Rattle.vol_inode.specs.Writes.{overwritten}
use Rattle.vol_body.specs.Body.{number_in, block_bytes}
use Rattle.vol_body.specs.internal.Naming.{SetsPointer, ListsOneMore}
use Rattle.vol_body.proofs.Places.{number_there, bytes_there}

-- a number goes by its four bytes
same_four : (xs ys : List ℕ) → ((k : ℕ) → k < 4 → get_or xs k 0 ≡ get_or ys k 0) → little_number 4 xs ≡ little_number 4 ys
same_four xs ys same =
    let a = same 0 (omega arith) in
    let b = same 1 (omega arith) in
    let c = same 2 (omega arith) in
    let d = same 3 (omega arith) in
    λ i. a i + 256 * (b i + 256 * (c i + 256 * (d i + 256 * 0)))

get_or-zeros : (n k : ℕ) → get_or (replicate {A = ℕ} n 0) k 0 ≡ 0
get_or-zeros n k = elim (cases_lt k n) [
  | inl lt ↦ get_or-replicate n k 0 0 lt
  | inr le ↦ get_or_past (replicate n 0) k 0 (omega (arith, length-replicate {A = ℕ} n 0))
]

-- a sector of zeros lists nothing
pub no_number : (i : ℕ) → little_number 4 (drop (4 * i) (replicate 512 0)) ≡ 0
no_number i = same_four (drop (4 * i) (replicate 512 0)) (replicate 4 0) (λ k lt. get_or-drop (4 * i) (replicate 512 0) k 0 ∙ get_or-zeros 512 (4 * i + k) ∙ sym (get_or-zeros 4 k))

-- the i-th number that a sector lists is read from its bytes, zeros where there is no sector
pub number_of_bytes : (content : Image) (n i : ℕ) → number_in content n i ≡ little_number 4 (drop (4 * i) (block_bytes content n))
number_of_bytes content n i = elim (cases_eq n 0) [
  | inl none ↦ ap (λ (m : ℕ). number_in content m i) none ∙ sym (no_number i) ∙ sym (ap (λ (m : ℕ). little_number 4 (drop (4 * i) (block_bytes content m))) none)
  | inr some ↦ number_there content n i some ∙ sym (ap (λ (bytes : List ℕ). little_number 4 (drop (4 * i) bytes)) (bytes_there content n some))
]

-- a new pointer sector lists nothing
pub none_in_zeros : (content : Image) (n i : ℕ) → content n ≡ replicate 512 0 → number_in content n i ≡ 0
none_in_zeros content n i zeros = elim (cases_eq n 0) [
  | inl none ↦ ap (λ (m : ℕ). number_in content m i) none
  | inr some ↦ number_there content n i some ∙ ap (λ (bytes : List ℕ). little_number 4 (drop (4 * i) bytes)) zeros ∙ no_number i
]

-- bytes out of what is written over stay
before_write : (old bytes : List ℕ) (at k : ℕ) → at + length bytes ≤ length old → k < at → get_or (overwritten old at bytes) k 0 ≡ get_or old k 0
before_write old bytes at k fits lt =
    let long : length (take at old) ≡ at = length-take-le at old (omega arith) in
    let longer : k < length (take at old ++ bytes) = omega (arith, length-append (take at old) bytes) in
    get_or_append_left (take at old ++ bytes) (drop (at + length bytes) old) 0 k longer
    ∙ get_or_append_left (take at old) bytes 0 k (omega arith)
    ∙ get_or-take at old k 0 lt

beyond_write : (old bytes : List ℕ) (at k : ℕ) → at + length bytes ≤ length old → at + length bytes ≤ k → get_or (overwritten old at bytes) k 0 ≡ get_or old k 0
beyond_write old bytes at k fits le =
    let long : length (take at old ++ bytes) ≡ at + length bytes = omega (arith, length-append (take at old) bytes, length-take-le at old (omega arith)) in
    let back : at + length bytes + (k - (at + length bytes)) ≡ k = omega arith in
    get_or-append_right (take at old ++ bytes) (drop (at + length bytes) old) (at + length bytes) k 0 long le
    ∙ get_or-drop (at + length bytes) old (k - (at + length bytes)) 0
    ∙ ap (λ (x : ℕ). get_or old x 0) back

pub length-overwritten : (old bytes : List ℕ) (at : ℕ) → at + length bytes ≤ length old → length (overwritten old at bytes) ≡ length old
length-overwritten old bytes at fits = omega (arith, length-append (take at old ++ bytes) (drop (at + length bytes) old), length-append (take at old) bytes, length-take-le at old (omega arith), length-drop (at + length bytes) old)

-- the number that is written is read
pub number_written : (old : List ℕ) (i n : ℕ) → 4 * i + 4 ≤ length old → n < 2 ^ 32 → little_number 4 (drop (4 * i) (overwritten old (4 * i) (little_bytes 4 n))) ≡ n
number_written old i n fits small =
    let bytes = little_bytes 4 n in
    let rest = drop (4 * i + length bytes) old in
    ap (λ (l : List ℕ). little_number 4 (drop (4 * i) l)) (append_assoc (take (4 * i) old) bytes rest)
    ∙ ap (little_number 4) (drop_at (take (4 * i) old) (bytes ++ rest) (4 * i) (length-take-le (4 * i) old (omega arith)))
    ∙ little_number-reads_back 4 n rest small

-- all others are as before
pub number_not_written : (old : List ℕ) (i n k : ℕ) → 4 * i + 4 ≤ length old → k ≢ i → little_number 4 (drop (4 * k) (overwritten old (4 * i) (little_bytes 4 n))) ≡ little_number 4 (drop (4 * k) old)
number_not_written old i n k fits other =
    let bytes = little_bytes 4 n in
    let new = overwritten old (4 * i) bytes in
    let four : length bytes ≡ 4 = length-bytes_low_first 0 4 n in
    same_four (drop (4 * k) new) (drop (4 * k) old) (λ x lt.
    get_or-drop (4 * k) new x 0
    ∙ elim (cases_lt k i) [
      | inl before ↦ before_write old bytes (4 * i) (4 * k + x) (omega arith) (omega arith)
      | inr beyond ↦ beyond_write old bytes (4 * i) (4 * k + x) (omega arith) (omega arith)
    ]
    ∙ sym (get_or-drop (4 * k) old x 0))

-- a pointer sector with one more number written into it
pub lists_one_more : (content after : Image) (m i n : ℕ) → length (content m) ≡ 512 → i < 128 → n < 2 ^ 32 → after m ≡ overwritten (content m) (4 * i) (little_bytes 4 n)
    → ((x : ℕ) → x ≢ n → x ≢ m → after x ≡ content x) → ListsOneMore content after m i n
lists_one_more content after m i n long lt small is stays = record {
  one = ap (λ (l : List ℕ). little_number 4 (drop (4 * i) l)) is ∙ number_written (content m) i n (omega arith) small;
  rest = λ k below other. ap (λ (l : List ℕ). little_number 4 (drop (4 * k) l)) is ∙ number_not_written (content m) i n k (omega arith) other;
  stays = stays;
}

-- an entry with one pointer set
pub sets_pointer : (e : Entry) (s n : ℕ) → s < length e.pointers → SetsPointer e (record e { pointers = set e.pointers s n }) s n
sets_pointer e s n lt = record {
  one = get_or-set_same e.pointers s n 0 lt;
  rest = λ k below other. get_or-set_other e.pointers s k n 0 other;
  size = refl;
}
