-- A file whose sectors are cut names what it keeps, and has its first bytes.
use Rattle.std.proofs.Common.{◌≡◌, ◌≢◌, inl, inr, ◌≤◌, ◌<◌, ◌+◌, ◌-◌, ◌*◌, ◌/◌, ◌%◌, ℕ, zero, suc, List, min, drop, get_or, nat_lt, if◌then◌else◌, refl, sym, ◌∙◌, ap, arith}
use Rattle.std.proofs.lemmas.Bool.{cases_lt, cases_eq}
use Rattle.std.proofs.lemmas.Bool.Decides.{nat_tests}
use Rattle.byteorder.specs.Endian.{little_number}
use Rattle.vol_sector.specs.Disk.{Image}
use Rattle.vol_inode.specs.declared.entry.Entry.{Entry}
use Rattle.vol_inode.specs.Space.{blocks_for_size, inner_blocks_for, double_blocks_for}
use Rattle.vol_body.specs.Body.{BlockPosition, data_block, indirect_block, inner_block, double_indirect_block, triple_indirect_block, IsPosition, first_served, named, number_in, block_bytes, byte_at}
use Rattle.vol_body.specs.internal.Truncated.{kept_bytes, zeroed_from}
use Rattle.vol_inode.specs.Entry.{first_block_of_pointer}
use Rattle.vol_body.proofs.Places.{number_there, bytes_there, part_direct, part_listed, part_later}
use Rattle.vol_body.proofs.Zeros.{get_or-zeros, get_or-cut, get_or-cut_past, number-cut, number-cut_past}
use Rattle.vol_inode.specs.declared.version.TheConstants.{LARGEST_SIZE}

-- what is written where a file is made shorter
pub record IsTruncated (size : ℕ) (content after : Image) (e changed : Entry) : Type 0 where
  pub pointers : (j : ℕ) → j < 61 → get_or changed.pointers j 0 ≡ (if nat_lt (first_block_of_pointer j) (blocks_for_size size) then get_or e.pointers j 0 else 0)
  pub whole : (p : BlockPosition) → IsPosition p → named content e p ≢ 0 → kept_bytes size p ≡ 512 → after (named content e p) ≡ content (named content e p)
  pub cut : (p : BlockPosition) → IsPosition p → named content e p ≢ 0 → 0 < kept_bytes size p → kept_bytes size p < 512
      → after (named content e p) ≡ zeroed_from (kept_bytes size p) (content (named content e p))

take_first : (a b x y : ℕ) → a < b → (if nat_lt a b then x else y) ≡ x
take_first a b x y lt = grind (arith, nat_tests)

take_second : (a b x y : ℕ) → b ≤ a → (if nat_lt a b then x else y) ≡ y
take_second a b x y le = grind (arith, nat_tests)

direct_first : (j : ℕ) → j < 58 → j ≡ first_block_of_pointer j
direct_first j lt = grind (arith, nat_tests)

module _ (size : ℕ) (content after : Image) (e changed : Entry) (s : IsTruncated size content after e changed) where
  pointer_kept : (j first : ℕ) → j < 61 → first ≡ first_block_of_pointer j → first < blocks_for_size size → get_or changed.pointers j 0 ≡ get_or e.pointers j 0
  pointer_kept j first lt is kept = s.pointers j lt ∙ take_first (first_block_of_pointer j) (blocks_for_size size) _ _ (omega (arith, is, kept))

  pointer_lost : (j first : ℕ) → j < 61 → first ≡ first_block_of_pointer j → blocks_for_size size ≤ first → get_or changed.pointers j 0 ≡ 0
  pointer_lost j first lt is past = s.pointers j lt ∙ take_second (first_block_of_pointer j) (blocks_for_size size) _ _ (omega (arith, is, past))

  -- the numbers that a list keeps, and those that it loses
  kept_number : (p : BlockPosition) (m i : ℕ) → IsPosition p → kept_bytes size p ≡ 4 * min 128 m → i < 128 → i < m → number_in after (named content e p) i ≡ number_in content (named content e p) i
  kept_number p m i there keeps small lt =
      let n = named content e p in
      elim (cases_eq n 0) [
        | inl none ↦ ap (λ (x : ℕ). number_in after x i) none ∙ sym (ap (λ (x : ℕ). number_in content x i) none)
        | inr some ↦ number_there after n i some ∙ elim (cases_lt (kept_bytes size p) 512) [
          | inl short ↦ ap (λ (bytes : List ℕ). little_number 4 (drop (4 * i) bytes)) (s.cut p there some (omega (arith, keeps)) short)
              ∙ number-cut (kept_bytes size p) (content n) i (omega (arith, keeps))
          | inr long ↦ ap (λ (bytes : List ℕ). little_number 4 (drop (4 * i) bytes)) (s.whole p there some (omega (arith, keeps, long)))
        ] ∙ sym (number_there content n i some)
      ]

  lost_number : (p : BlockPosition) (m i : ℕ) → IsPosition p → kept_bytes size p ≡ 4 * min 128 m → i < 128 → 0 < m → m ≤ i → number_in after (named content e p) i ≡ 0
  lost_number p m i there keeps small some_kept le =
      let n = named content e p in
      elim (cases_eq n 0) [
        | inl none ↦ ap (λ (x : ℕ). number_in after x i) none
        | inr some ↦ number_there after n i some
            ∙ ap (λ (bytes : List ℕ). little_number 4 (drop (4 * i) bytes)) (s.cut p there some (omega (arith, keeps)) (omega (arith, keeps)))
            ∙ number-cut_past (kept_bytes size p) (content n) i (omega (arith, keeps))
      ]

  keeps_double : (d : ℕ) → d < 129 → 186 + 16384 * d < blocks_for_size size → named after changed (double_indirect_block d) ≡ named content e (double_indirect_block d)
  keeps_double zero lt kept = pointer_kept 59 186 (omega arith) refl (omega (arith, kept))
  keeps_double (suc m) lt kept =
      ap (λ (n : ℕ). number_in after n m) (pointer_kept 60 16570 (omega arith) refl (omega (arith, kept)))
      ∙ kept_number triple_indirect_block (double_blocks_for (blocks_for_size size - 16570)) m tt refl (omega (arith, lt)) (omega (arith, kept))

  loses_double : (d : ℕ) → d < 129 → blocks_for_size size ≤ 186 + 16384 * d → named after changed (double_indirect_block d) ≡ 0
  loses_double zero lt past = pointer_lost 59 186 (omega arith) refl (omega (arith, past))
  loses_double (suc m) lt past = elim (cases_lt 16570 (blocks_for_size size)) [
    | inl more ↦ ap (λ (n : ℕ). number_in after n m) (pointer_kept 60 16570 (omega arith) refl more)
        ∙ lost_number triple_indirect_block (double_blocks_for (blocks_for_size size - 16570)) m tt refl (omega (arith, lt)) (omega (arith, more)) (omega (arith, past))
    | inr few ↦ ap (λ (n : ℕ). number_in after n m) (pointer_lost 60 16570 (omega arith) refl few)
  ]

  keeps_later : (i : ℕ) → i < 16512 → 186 + 128 * i < blocks_for_size size → named after changed (inner_block i) ≡ named content e (inner_block i)
  keeps_later i lt kept =
      let d = i / 128 in
      let below : d < 129 = omega arith in
      ap (λ (n : ℕ). number_in after n (i % 128)) (keeps_double d below (omega arith))
      ∙ kept_number (double_indirect_block d) (inner_blocks_for (blocks_for_size size - (186 + 16384 * d))) (i % 128) below refl (omega arith) (omega arith)

  loses_later : (i : ℕ) → i < 16512 → blocks_for_size size ≤ 186 + 128 * i → named after changed (inner_block i) ≡ 0
  loses_later i lt past =
      let d = i / 128 in
      let below : d < 129 = omega arith in
      elim (cases_lt (186 + 16384 * d) (blocks_for_size size)) [
        | inl more ↦ ap (λ (n : ℕ). number_in after n (i % 128)) (keeps_double d below more)
            ∙ lost_number (double_indirect_block d) (inner_blocks_for (blocks_for_size size - (186 + 16384 * d))) (i % 128) below refl (omega arith) (omega arith) (omega arith)
        | inr few ↦ ap (λ (n : ℕ). number_in after n (i % 128)) (loses_double d below few)
      ]

  keeps_part : (j : ℕ) → j < 2113722 → j < blocks_for_size size → named after changed (data_block j) ≡ named content e (data_block j)
  keeps_part j there kept = elim (cases_lt j 58) [
    | inl direct ↦ part_direct after changed j direct ∙ pointer_kept j j (omega arith) (direct_first j direct) kept ∙ sym (part_direct content e j direct)
    | inr past ↦ elim (cases_lt j 186) [
      | inl listed ↦ part_listed after changed j past listed
          ∙ ap (λ (n : ℕ). number_in after n (j - 58)) (pointer_kept 58 58 (omega arith) refl (omega arith))
          ∙ kept_number indirect_block (blocks_for_size size - 58) (j - 58) tt refl (omega arith) (omega arith)
          ∙ sym (part_listed content e j past listed)
      | inr later ↦
          let q = (j - 186) / 128 in
          let below : q < 16512 = omega arith in
          part_later after changed j later
          ∙ ap (λ (n : ℕ). number_in after n ((j - 186) % 128)) (keeps_later q below (omega arith))
          ∙ kept_number (inner_block q) (blocks_for_size size - (186 + 128 * q)) ((j - 186) % 128) below refl (omega arith) (omega arith)
          ∙ sym (part_later content e j later)
    ]
  ]

  loses_part : (j : ℕ) → j < 2113722 → blocks_for_size size ≤ j → named after changed (data_block j) ≡ 0
  loses_part j there lost = elim (cases_lt j 58) [
    | inl direct ↦ part_direct after changed j direct ∙ pointer_lost j j (omega arith) (direct_first j direct) lost
    | inr past ↦ elim (cases_lt j 186) [
      | inl listed ↦ part_listed after changed j past listed ∙ elim (cases_lt 58 (blocks_for_size size)) [
        | inl more ↦ ap (λ (n : ℕ). number_in after n (j - 58)) (pointer_kept 58 58 (omega arith) refl more)
            ∙ lost_number indirect_block (blocks_for_size size - 58) (j - 58) tt refl (omega arith) (omega arith) (omega arith)
        | inr few ↦ ap (λ (n : ℕ). number_in after n (j - 58)) (pointer_lost 58 58 (omega arith) refl few)
      ]
      | inr later ↦ loses_later_part j there later lost
    ]
  ]
    where
      loses_later_part : (j : ℕ) → j < 2113722 → 186 ≤ j → blocks_for_size size ≤ j → named after changed (data_block j) ≡ 0
      loses_later_part j there later lost =
          let q = (j - 186) / 128 in
          let below : q < 16512 = omega arith in
          part_later after changed j later ∙ elim (cases_lt (186 + 128 * q) (blocks_for_size size)) [
            | inl kept ↦ ap (λ (n : ℕ). number_in after n ((j - 186) % 128)) (keeps_later q below kept)
                ∙ lost_number (inner_block q) (blocks_for_size size - (186 + 128 * q)) ((j - 186) % 128) below refl (omega arith) (omega arith) (omega arith)
            | inr gone ↦ ap (λ (n : ℕ). number_in after n ((j - 186) % 128)) (loses_later q below gone)
          ]

  pub keeps : (p : BlockPosition) → IsPosition p → first_served p < blocks_for_size size → named after changed p ≡ named content e p
  keeps (data_block j) there kept = keeps_part j there kept
  keeps indirect_block there kept = pointer_kept 58 58 (omega arith) refl kept
  keeps (inner_block i) there kept = keeps_later i there kept
  keeps (double_indirect_block d) there kept = keeps_double d there kept
  keeps triple_indirect_block there kept = pointer_kept 60 16570 (omega arith) refl kept

  pub loses : (p : BlockPosition) → IsPosition p → blocks_for_size size ≤ first_served p → named after changed p ≡ 0
  loses (data_block j) there lost = loses_part j there lost
  loses indirect_block there lost = pointer_lost 58 58 (omega arith) refl lost
  loses (inner_block i) there lost = loses_later i there lost
  loses (double_indirect_block d) there lost = loses_double d there lost
  loses triple_indirect_block there lost = pointer_lost 60 16570 (omega arith) refl lost

  -- a data block that is there has its first bytes, and then zeros
  kept_byte : (j i : ℕ) → j < 2113722 → i < 512 → 512 * j + i < size → get_or (block_bytes after (named content e (data_block j))) i 0 ≡ get_or (block_bytes content (named content e (data_block j))) i 0
  kept_byte j i there small lt =
      let n = named content e (data_block j) in
      elim (cases_eq n 0) [
        | inl none ↦ ap (λ (x : ℕ). get_or (block_bytes after x) i 0) none ∙ sym (ap (λ (x : ℕ). get_or (block_bytes content x) i 0) none)
        | inr some ↦ ap (λ (bytes : List ℕ). get_or bytes i 0) (bytes_there after n some) ∙ elim (cases_lt (kept_bytes size (data_block j)) 512) [
          | inl short ↦ ap (λ (bytes : List ℕ). get_or bytes i 0) (s.cut (data_block j) there some (omega arith) short)
              ∙ get_or-cut (kept_bytes size (data_block j)) (content n) i (omega arith)
          | inr long ↦ ap (λ (bytes : List ℕ). get_or bytes i 0) (s.whole (data_block j) there some (omega arith))
        ] ∙ sym (ap (λ (bytes : List ℕ). get_or bytes i 0) (bytes_there content n some))
      ]

  lost_byte : (j i : ℕ) → j < 2113722 → i < 512 → j < blocks_for_size size → size ≤ 512 * j + i → get_or (block_bytes after (named content e (data_block j))) i 0 ≡ 0
  lost_byte j i there small kept le =
      let n = named content e (data_block j) in
      elim (cases_eq n 0) [
        | inl none ↦ ap (λ (x : ℕ). get_or (block_bytes after x) i 0) none ∙ get_or-zeros 512 i
        | inr some ↦ ap (λ (bytes : List ℕ). get_or bytes i 0) (bytes_there after n some ∙ s.cut (data_block j) there some (omega arith) (omega arith))
            ∙ get_or-cut_past (kept_bytes size (data_block j)) (content n) i (omega arith)
      ]

  pub kept_byte_at : (k : ℕ) → k < LARGEST_SIZE → k < size → byte_at after changed k ≡ byte_at content e k
  kept_byte_at k small lt =
      let j = k / 512 in
      let there : j < 2113722 = omega arith in
      ap (λ (n : ℕ). get_or (block_bytes after n) (k % 512) 0) (keeps_part j there (omega arith)) ∙ kept_byte j (k % 512) there (omega arith) (omega arith)

  pub lost_byte_at : (k : ℕ) → k < LARGEST_SIZE → size ≤ k → byte_at after changed k ≡ 0
  lost_byte_at k small le =
      let j = k / 512 in
      let there : j < 2113722 = omega arith in
      elim (cases_lt j (blocks_for_size size)) [
        | inl kept ↦ ap (λ (n : ℕ). get_or (block_bytes after n) (k % 512) 0) (keeps_part j there kept) ∙ lost_byte j (k % 512) there (omega arith) kept (omega arith)
        | inr lost ↦ ap (λ (n : ℕ). get_or (block_bytes after n) (k % 512) 0) (loses_part j there lost) ∙ get_or-zeros 512 (k % 512)
      ]
