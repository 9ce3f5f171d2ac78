-- The bytes of a file after a write.
use Rattle.std.proofs.Common.{◌≡◌, inl, inr, ◌≤◌, ◌<◌, ◌+◌, ◌-◌, ◌*◌, ◌/◌, ◌%◌, ℕ, Bool, true, false, List, [], ◌∷◌, ◌++◌, length, take, drop, replicate, get_or, min, max, nat_lt, if◌then◌else◌, refl, sym, ◌∙◌, ap, arith}
use Rattle.std.proofs.lemmas.Bool.{cases_lt}
use Rattle.std.proofs.lemmas.Bool.Decides.{nat_tests}
use Rattle.std.proofs.lemmas.List.{ext_get_or, length-append, length-take-le, length-drop, length-replicate, get_or_append_left, get_or-append_right, get_or-take, get_or-drop, get_or-replicate}
use Rattle.vol_sector.specs.Disk.{Image}
use Rattle.vol_inode.specs.declared.entry.Entry.{Entry}
use Rattle.vol_body.specs.Body.{data_block, named, block_bytes, byte_at, bytes_of, IsBody}
use Rattle.vol_body.specs.Bytes.{zero_extended, written_bytes}
use Rattle.vol_body.specs.internal.Writing.{image_of}
use Rattle.vol_body.proofs.Parts.{length-bytes_of, get_or-bytes_of}
use Rattle.vol_inode.specs.declared.version.TheConstants.{LARGEST_SIZE}

-- a list with a data block of another put into it
module _ (old new : List ℕ) (a b n skip : ℕ) (sum : a + n ≡ b) (within : b ≤ length old) (there : skip + n ≤ length new) where
  front_long : length (take a old) ≡ a
  front_long = length-take-le a old (omega arith)

  middle_long : length (take n (drop skip new)) ≡ n
  middle_long = length-take-le n (drop skip new) (omega (arith, length-drop skip new))

  two_long : length (take a old ++ take n (drop skip new)) ≡ b
  two_long = omega (arith, length-append (take a old) (take n (drop skip new)), front_long, middle_long)

  splice_before : (r : ℕ) → r < a → get_or (take a old ++ take n (drop skip new) ++ drop b old) r 0 ≡ get_or old r 0
  splice_before r lt =
      get_or_append_left (take a old ++ take n (drop skip new)) (drop b old) 0 r (omega (arith, two_long))
      ∙ get_or_append_left (take a old) (take n (drop skip new)) 0 r (omega (arith, front_long))
      ∙ get_or-take a old r 0 lt

  splice_in : (r : ℕ) → a ≤ r → r < b → get_or (take a old ++ take n (drop skip new) ++ drop b old) r 0 ≡ get_or new (skip + (r - a)) 0
  splice_in r from lt =
      get_or_append_left (take a old ++ take n (drop skip new)) (drop b old) 0 r (omega (arith, two_long))
      ∙ get_or-append_right (take a old) (take n (drop skip new)) a r 0 front_long from
      ∙ get_or-take n (drop skip new) (r - a) 0 (omega arith)
      ∙ get_or-drop skip new (r - a) 0

  splice_beyond : (r : ℕ) → b ≤ r → get_or (take a old ++ take n (drop skip new) ++ drop b old) r 0 ≡ get_or old r 0
  splice_beyond r from =
      let back : b + (r - b) ≡ r = omega arith in
      get_or-append_right (take a old ++ take n (drop skip new)) (drop b old) b r 0 two_long from
      ∙ get_or-drop b old (r - b) 0
      ∙ ap (λ (x : ℕ). get_or old x 0) back

-- The bytes that a write leaves in a data block that it touches.
module _ (offset : ℕ) (bytes first last : List ℕ) (first_long : length first ≡ 512) (last_long : length last ≡ 512) where
  old_long : (b c : Bool) → length (if b then first else (if c then last else replicate 512 0)) ≡ 512
  old_long true c = first_long
  old_long false true = last_long
  old_long false false = length-replicate {A = ℕ} 512 0

  old_first : (j : ℕ) (x : List ℕ) → 512 * j < offset → (if nat_lt (512 * j) offset then first else x) ≡ first
  old_first j x lt = grind (arith, nat_tests)

  old_last : (j : ℕ) (x : List ℕ) → offset ≤ 512 * j → offset + length bytes < 512 * j + 512 → (if nat_lt (512 * j) offset then first else (if nat_lt (offset + length bytes) (512 * j + 512) then last else x)) ≡ last
  old_last j x le lt = grind (arith, nat_tests)

  module _ (j : ℕ) (touched_first : offset < 512 * j + 512) (touched_last : 512 * j < offset + length bytes) where
    image_before : (r : ℕ) → 512 * j + r < offset → get_or (image_of offset bytes first last j) r 0 ≡ get_or first r 0
    image_before r lt =
        let old = if nat_lt (512 * j) offset then first else (if nat_lt (offset + length bytes) (512 * j + 512) then last else replicate 512 0) in
        let long : length old ≡ 512 = old_long (nat_lt (512 * j) offset) (nat_lt (offset + length bytes) (512 * j + 512)) in
        let from = max offset (512 * j) in
        let to = min (offset + length bytes) (512 * j + 512) in
        splice_before old bytes (from - 512 * j) (to - 512 * j) (to - from) (from - offset) (omega arith) (omega arith) (omega arith) r (omega arith)
        ∙ ap (λ (l : List ℕ). get_or l r 0) (old_first j (if nat_lt (offset + length bytes) (512 * j + 512) then last else replicate 512 0) (omega arith))

    image_in : (r : ℕ) → r < 512 → offset ≤ 512 * j + r → 512 * j + r < offset + length bytes → get_or (image_of offset bytes first last j) r 0 ≡ get_or bytes (512 * j + r - offset) 0
    image_in r short le lt =
        let old = if nat_lt (512 * j) offset then first else (if nat_lt (offset + length bytes) (512 * j + 512) then last else replicate 512 0) in
        let long : length old ≡ 512 = old_long (nat_lt (512 * j) offset) (nat_lt (offset + length bytes) (512 * j + 512)) in
        let from = max offset (512 * j) in
        let to = min (offset + length bytes) (512 * j + 512) in
        let at : from - offset + (r - (from - 512 * j)) ≡ 512 * j + r - offset = omega arith in
        splice_in old bytes (from - 512 * j) (to - 512 * j) (to - from) (from - offset) (omega arith) (omega arith) (omega arith) r (omega arith) (omega arith)
        ∙ ap (λ (x : ℕ). get_or bytes x 0) at

    image_beyond_first : (r : ℕ) → 512 * j < offset → r < 512 → offset + length bytes ≤ 512 * j + r → get_or (image_of offset bytes first last j) r 0 ≡ get_or first r 0
    image_beyond_first r starts short le =
        let old = if nat_lt (512 * j) offset then first else (if nat_lt (offset + length bytes) (512 * j + 512) then last else replicate 512 0) in
        let long : length old ≡ 512 = old_long (nat_lt (512 * j) offset) (nat_lt (offset + length bytes) (512 * j + 512)) in
        let from = max offset (512 * j) in
        let to = min (offset + length bytes) (512 * j + 512) in
        splice_beyond old bytes (from - 512 * j) (to - 512 * j) (to - from) (from - offset) (omega arith) (omega arith) (omega arith) r (omega arith)
        ∙ ap (λ (l : List ℕ). get_or l r 0) (old_first j (if nat_lt (offset + length bytes) (512 * j + 512) then last else replicate 512 0) starts)

    image_beyond_last : (r : ℕ) → offset ≤ 512 * j → r < 512 → offset + length bytes ≤ 512 * j + r → get_or (image_of offset bytes first last j) r 0 ≡ get_or last r 0
    image_beyond_last r starts short le =
        let old = if nat_lt (512 * j) offset then first else (if nat_lt (offset + length bytes) (512 * j + 512) then last else replicate 512 0) in
        let long : length old ≡ 512 = old_long (nat_lt (512 * j) offset) (nat_lt (offset + length bytes) (512 * j + 512)) in
        let from = max offset (512 * j) in
        let to = min (offset + length bytes) (512 * j + 512) in
        splice_beyond old bytes (from - 512 * j) (to - 512 * j) (to - from) (from - offset) (omega arith) (omega arith) (omega arith) r (omega arith)
        ∙ ap (λ (l : List ℕ). get_or l r 0) (old_last j (replicate 512 0) starts (omega arith))

-- What a write leaves: the data blocks that it touches have the new bytes, with the old ones around them, and others stay.
pub record IsWrite (content after : Image) (e changed : Entry) (offset : ℕ) (bytes first last : List ℕ) : Type 0 where
  pub some : 0 < length bytes
  pub small : offset + length bytes ≤ LARGEST_SIZE
  pub first_long : length first ≡ 512
  pub last_long : length last ≡ 512
  -- the old bytes of the first data block and of the last one, where it isn't written whole
  pub first_is : (offset ≤ 512 * (offset / 512) → 512 * (offset / 512) + 512 ≤ offset + length bytes → ⊥) → first ≡ block_bytes content (named content e (data_block (offset / 512)))
  pub last_is : (offset ≤ 512 * ((offset + length bytes - 1) / 512) → 512 * ((offset + length bytes - 1) / 512) + 512 ≤ offset + length bytes → ⊥)
      → last ≡ block_bytes content (named content e (data_block ((offset + length bytes - 1) / 512)))
  pub touched : (j : ℕ) → offset / 512 ≤ j → j ≤ (offset + length bytes - 1) / 512 → block_bytes after (named after changed (data_block j)) ≡ image_of offset bytes first last j
  pub others : (j : ℕ) → j < 2113722 → (offset / 512 ≤ j → j ≤ (offset + length bytes - 1) / 512 → ⊥) → block_bytes after (named after changed (data_block j)) ≡ block_bytes content (named content e (data_block j))

module _ (content after : Image) (e changed : Entry) (offset : ℕ) (bytes first last : List ℕ) (write : IsWrite content after e changed offset bytes first last) where
  whole : (k : ℕ) → 512 * (k / 512) + k % 512 ≡ k
  whole k = omega arith

  -- a byte of a data block that is touched
  byte_of_image : (k : ℕ) → offset / 512 ≤ k / 512 → k / 512 ≤ (offset + length bytes - 1) / 512 → byte_at after changed k ≡ get_or (image_of offset bytes first last (k / 512)) (k % 512) 0
  byte_of_image k from to = ap (λ (l : List ℕ). get_or l (k % 512) 0) (write.touched (k / 512) from to)

  pub byte_written : (k : ℕ) → offset ≤ k → k < offset + length bytes → byte_at after changed k ≡ get_or bytes (k - offset) 0
  byte_written k from to =
      let at : 512 * (k / 512) + k % 512 - offset ≡ k - offset = omega arith in
      byte_of_image k (omega arith) (omega arith)
      ∙ image_in offset bytes first last write.first_long write.last_long (k / 512) (omega arith) (omega arith) (k % 512) (omega arith) (omega arith) (omega arith)
      ∙ ap (λ (x : ℕ). get_or bytes x 0) at

  -- where the first data block that is touched has old bytes, they are there
  byte_of_first : (k : ℕ) → k / 512 ≡ offset / 512 → (offset ≤ 512 * (offset / 512) → 512 * (offset / 512) + 512 ≤ offset + length bytes → ⊥) → get_or first (k % 512) 0 ≡ byte_at content e k
  byte_of_first k same old =
      ap (λ (l : List ℕ). get_or l (k % 512) 0) (write.first_is old)
      ∙ sym (ap (λ (j : ℕ). get_or (block_bytes content (named content e (data_block j))) (k % 512) 0) same)

  byte_of_last : (k : ℕ) → k / 512 ≡ (offset + length bytes - 1) / 512 → (offset ≤ 512 * ((offset + length bytes - 1) / 512) → 512 * ((offset + length bytes - 1) / 512) + 512 ≤ offset + length bytes → ⊥) → get_or last (k % 512) 0 ≡ byte_at content e k
  byte_of_last k same old =
      ap (λ (l : List ℕ). get_or l (k % 512) 0) (write.last_is old)
      ∙ sym (ap (λ (j : ℕ). get_or (block_bytes content (named content e (data_block j))) (k % 512) 0) same)

  -- a byte of a data block that isn't touched
  byte_elsewhere : (k : ℕ) → k < LARGEST_SIZE → (offset / 512 ≤ k / 512 → k / 512 ≤ (offset + length bytes - 1) / 512 → ⊥) → byte_at after changed k ≡ byte_at content e k
  byte_elsewhere k lt not = ap (λ (l : List ℕ). get_or l (k % 512) 0) (write.others (k / 512) (omega arith) not)

  pub byte_before : (k : ℕ) → k < offset → byte_at after changed k ≡ byte_at content e k
  byte_before k lt = elim (cases_lt (k / 512) (offset / 512)) [
    | inl below ↦ byte_elsewhere k (omega (arith, write.small)) (λ from to. omega arith)
    | inr le ↦
        let same : k / 512 ≡ offset / 512 = omega arith in
        byte_of_image k le (omega (arith, write.some))
        ∙ image_before offset bytes first last write.first_long write.last_long (k / 512) (omega arith) (omega (arith, write.some)) (k % 512) (omega arith)
        ∙ byte_of_first k same (λ starts ends. omega arith)
  ]

  pub byte_beyond : (k : ℕ) → offset + length bytes ≤ k → k < LARGEST_SIZE → byte_at after changed k ≡ byte_at content e k
  byte_beyond k le lt = elim (cases_lt ((offset + length bytes - 1) / 512) (k / 512)) [
    | inl past ↦ byte_elsewhere k lt (λ from to. omega arith)
    | inr to ↦
        let same : k / 512 ≡ (offset + length bytes - 1) / 512 = omega (arith, write.some) in
        byte_of_image k (omega (arith, write.some)) to
        ∙ elim (cases_lt (512 * (k / 512)) offset) [
          | inl starts ↦
              let here : k / 512 ≡ offset / 512 = omega (arith, write.some) in
              image_beyond_first offset bytes first last write.first_long write.last_long (k / 512) (omega (arith, write.some)) (omega (arith, write.some)) (k % 512) starts (omega arith) (omega arith)
              ∙ byte_of_first k here (λ from ends. omega arith)
          | inr from ↦
              image_beyond_last offset bytes first last write.first_long write.last_long (k / 512) (omega (arith, write.some)) (omega (arith, write.some)) (k % 512) from (omega arith) (omega arith)
              ∙ byte_of_last k same (λ starts ends. omega arith)
        ]
  ]

  -- a byte past the old size and the write is a zero
  pub zeros_beyond : IsBody content e → changed.size ≡ max e.size (offset + length bytes) → (k : ℕ) → changed.size ≤ k → k < LARGEST_SIZE → byte_at after changed k ≡ 0
  zeros_beyond body size k le lt = byte_beyond k (omega arith) lt ∙ body.zeros k (omega arith) lt

-- the bytes with new ones at an offset, one by one
module _ (old : List ℕ) (offset b : ℕ) (bs : List ℕ) where
  front_is : length (take offset (zero_extended offset old)) ≡ offset
  front_is = length-take-le offset (zero_extended offset old) (omega (arith, length-append old (replicate (offset - length old) 0), length-replicate {A = ℕ} (offset - length old) 0))

  upto_is : length (take offset (zero_extended offset old) ++ (b ∷ bs)) ≡ offset + length (b ∷ bs)
  upto_is = omega (arith, length-append (take offset (zero_extended offset old)) (b ∷ bs), front_is)

  pub length-written : length (written_bytes old offset (b ∷ bs)) ≡ max (length old) (offset + length (b ∷ bs))
  length-written = omega (arith, upto_is, length-append (take offset (zero_extended offset old) ++ (b ∷ bs)) (drop (offset + length (b ∷ bs)) old), length-drop (offset + length (b ∷ bs)) old)

  written_before : (k : ℕ) → k < offset → get_or (written_bytes old offset (b ∷ bs)) k 0 ≡ get_or (zero_extended offset old) k 0
  written_before k lt =
      get_or_append_left (take offset (zero_extended offset old) ++ (b ∷ bs)) (drop (offset + length (b ∷ bs)) old) 0 k (omega (arith, upto_is))
      ∙ get_or_append_left (take offset (zero_extended offset old)) (b ∷ bs) 0 k (omega (arith, front_is))
      ∙ get_or-take offset (zero_extended offset old) k 0 lt

  written_old : (k : ℕ) → k < offset → k < length old → get_or (written_bytes old offset (b ∷ bs)) k 0 ≡ get_or old k 0
  written_old k lt short = written_before k lt ∙ get_or_append_left old (replicate (offset - length old) 0) 0 k short

  written_gap : (k : ℕ) → k < offset → length old ≤ k → get_or (written_bytes old offset (b ∷ bs)) k 0 ≡ 0
  written_gap k lt past =
      written_before k lt
      ∙ get_or-append_right old (replicate (offset - length old) 0) (length old) k 0 refl past
      ∙ get_or-replicate (offset - length old) (k - length old) 0 0 (omega arith)

  written_in : (k : ℕ) → offset ≤ k → k < offset + length (b ∷ bs) → get_or (written_bytes old offset (b ∷ bs)) k 0 ≡ get_or (b ∷ bs) (k - offset) 0
  written_in k le lt =
      get_or_append_left (take offset (zero_extended offset old) ++ (b ∷ bs)) (drop (offset + length (b ∷ bs)) old) 0 k (omega (arith, upto_is))
      ∙ get_or-append_right (take offset (zero_extended offset old)) (b ∷ bs) offset k 0 front_is le

  written_beyond : (k : ℕ) → offset + length (b ∷ bs) ≤ k → get_or (written_bytes old offset (b ∷ bs)) k 0 ≡ get_or old k 0
  written_beyond k le =
      let back : offset + length (b ∷ bs) + (k - (offset + length (b ∷ bs))) ≡ k = omega arith in
      get_or-append_right (take offset (zero_extended offset old) ++ (b ∷ bs)) (drop (offset + length (b ∷ bs)) old) (offset + length (b ∷ bs)) k 0 upto_is le
      ∙ get_or-drop (offset + length (b ∷ bs)) old (k - (offset + length (b ∷ bs))) 0
      ∙ ap (λ (x : ℕ). get_or old x 0) back

-- a write of some bytes leaves the file's bytes with them put in
some_written : (content after : Image) (e changed : Entry) (offset b : ℕ) (bs first last : List ℕ) → IsWrite content after e changed offset (b ∷ bs) first last → IsBody content e → changed.size ≡ max e.size (offset + length (b ∷ bs)) → e.size ≤ LARGEST_SIZE
    → bytes_of after changed ≡ written_bytes (bytes_of content e) offset (b ∷ bs)
some_written content after e changed offset b bs first last write body size small =
    let old = bytes_of content e in
    let long : length (written_bytes old offset (b ∷ bs)) ≡ changed.size = omega (arith, length-written old offset b bs, length-bytes_of content e, size) in
    ext_get_or 0 (bytes_of after changed) (written_bytes old offset (b ∷ bs)) (length-bytes_of after changed ∙ sym long) (λ k lt.
    let below : k < changed.size = omega (arith, length-bytes_of after changed) in
    get_or-bytes_of after changed k below ∙ elim (cases_lt k offset) [
      | inl before ↦ byte_before content after e changed offset (b ∷ bs) first last write k before ∙ elim (cases_lt k e.size) [
        | inl there ↦ sym (written_old old offset b bs k before (omega (arith, length-bytes_of content e)) ∙ get_or-bytes_of content e k there)
        | inr past ↦ body.zeros k past (omega (arith, write.small)) ∙ sym (written_gap old offset b bs k before (omega (arith, length-bytes_of content e)))
      ]
      | inr from ↦ elim (cases_lt k (offset + length (b ∷ bs))) [
        | inl in_it ↦ byte_written content after e changed offset (b ∷ bs) first last write k from in_it ∙ sym (written_in old offset b bs k from in_it)
        | inr beyond ↦
            let there : k < e.size = omega (arith, size) in
            byte_beyond content after e changed offset (b ∷ bs) first last write k beyond (omega arith) ∙ sym (written_beyond old offset b bs k beyond ∙ get_or-bytes_of content e k there)
      ]
    ])

pub bytes_written : (content after : Image) (e changed : Entry) (offset : ℕ) (bytes first last : List ℕ) → IsWrite content after e changed offset bytes first last → IsBody content e → changed.size ≡ max e.size (offset + length bytes) → e.size ≤ LARGEST_SIZE
    → bytes_of after changed ≡ written_bytes (bytes_of content e) offset bytes
bytes_written content after e changed offset [] first last write body size small = absurd (omega (arith, write.some))
bytes_written content after e changed offset (b ∷ bs) first last write body size small = some_written content after e changed offset b bs first last write body size small
