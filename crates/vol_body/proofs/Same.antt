-- A file whose sectors stay is the same file.
use Rattle.std.proofs.Common.{◌≡◌, ◌≢◌, inl, inr, ◌≤◌, ◌<◌, ◌-◌, ◌*◌, ◌/◌, ◌%◌, ℕ, zero, suc, List, drop, get_or, refl, sym, ◌∙◌, ap, arith}
use Rattle.std.proofs.lemmas.Bool.{cases_eq, cases_lt}
use Rattle.std.proofs.lemmas.List.{ext_get_or}
use Rattle.byteorder.specs.Endian.{little_number}
use Rattle.vol_sector.specs.Disk.{Image}
use Rattle.vol_inode.specs.declared.entry.Entry.{Entry}
use Rattle.vol_body.specs.Body.{BlockPosition, data_block, indirect_block, inner_block, double_indirect_block, triple_indirect_block, IsPosition, named, number_in, block_bytes, byte_at, bytes_of, IsBody, SameSectors, IsSameFile}
use Rattle.vol_body.proofs.Places.{number_there, bytes_there, part_direct, part_listed, part_later}
use Rattle.vol_body.proofs.Parts.{length-bytes_of, get_or-bytes_of}
use Rattle.vol_inode.specs.declared.version.TheConstants.{LARGEST_SIZE}

-- sector 0 stands for no number, and for zeros
none_listed : (one other : Image) (n i : ℕ) → n ≡ 0 → number_in other n i ≡ number_in one n i
none_listed one other n i none = ap (λ (m : ℕ). number_in other m i) none ∙ sym (ap (λ (m : ℕ). number_in one m i) none)

pub same_number : (one other : Image) (n i : ℕ) → (n ≢ 0 → other n ≡ one n) → number_in other n i ≡ number_in one n i
same_number one other n i stays = elim (cases_eq n 0) [
  | inl none ↦ none_listed one other n i none
  | inr there ↦ number_there other n i there ∙ ap (λ (bytes : List ℕ). little_number 4 (drop (4 * i) bytes)) (stays there) ∙ sym (number_there one n i there)
]

pub same_bytes : (one other : Image) (n : ℕ) → (n ≢ 0 → other n ≡ one n) → block_bytes other n ≡ block_bytes one n
same_bytes one other n stays = elim (cases_eq n 0) [
  | inl none ↦ ap (block_bytes other) none ∙ sym (ap (block_bytes one) none)
  | inr there ↦ bytes_there other n there ∙ stays there ∙ sym (bytes_there one n there)
]

module _ (one other : Image) (e : Entry) (stays : SameSectors one other e) where
  same_double : (d : ℕ) → d < 129 → named other e (double_indirect_block d) ≡ named one e (double_indirect_block d)
  same_double zero lt = refl
  same_double (suc m) lt = same_number one other (named one e triple_indirect_block) m (stays triple_indirect_block tt)

  same_later : (i : ℕ) → i < 16512 → named other e (inner_block i) ≡ named one e (inner_block i)
  same_later i lt =
      let d = i / 128 in
      let below : d < 129 = omega arith in
      ap (λ (n : ℕ). number_in other n (i % 128)) (same_double d below)
      ∙ same_number one other (named one e (double_indirect_block d)) (i % 128) (stays (double_indirect_block d) below)

  same_part : (j : ℕ) → j < 2113722 → named other e (data_block j) ≡ named one e (data_block j)
  same_part j lt = elim (cases_lt j 58) [
    | inl direct ↦ part_direct other e j direct ∙ sym (part_direct one e j direct)
    | inr le ↦ elim (cases_lt j 186) [
      | inl listed ↦ part_listed other e j le listed ∙ same_number one other (named one e indirect_block) (j - 58) (stays indirect_block tt) ∙ sym (part_listed one e j le listed)
      | inr later ↦
          let q = (j - 186) / 128 in
          let below : q < 16512 = omega arith in
          part_later other e j later
          ∙ ap (λ (n : ℕ). number_in other n ((j - 186) % 128)) (same_later q below)
          ∙ same_number one other (named one e (inner_block q)) ((j - 186) % 128) (stays (inner_block q) below)
          ∙ sym (part_later one e j later)
    ]
  ]

  same_names : (p : BlockPosition) → IsPosition p → named other e p ≡ named one e p
  same_names (data_block j) there = same_part j there
  same_names indirect_block there = refl
  same_names (inner_block i) there = same_later i there
  same_names (double_indirect_block d) there = same_double d there
  same_names triple_indirect_block there = refl

  same_byte : (k : ℕ) → k < LARGEST_SIZE → byte_at other e k ≡ byte_at one e k
  same_byte k lt =
      let j = k / 512 in
      let there : j < 2113722 = omega arith in
      let n = named one e (data_block j) in
      ap (λ (m : ℕ). get_or (block_bytes other m) (k % 512) 0) (same_part j there)
      ∙ ap (λ (bytes : List ℕ). get_or bytes (k % 512) 0) (same_bytes one other n (stays (data_block j) there))

  pub same_file : IsSameFile one other e
  same_file = record { names = same_names; bytes = same_byte }

-- the same bytes in a list
pub same_list : (one other : Image) (e : Entry) → IsSameFile one other e → e.size ≤ LARGEST_SIZE → bytes_of other e ≡ bytes_of one e
same_list one other e same small =
    ext_get_or 0 (bytes_of other e) (bytes_of one e) (length-bytes_of other e ∙ sym (length-bytes_of one e)) (λ k lt.
    let below : k < e.size = omega (arith, length-bytes_of other e) in
    get_or-bytes_of other e k below ∙ same.bytes k (omega arith) ∙ sym (get_or-bytes_of one e k below))

pub same_rules : (one other : Image) (e : Entry) → IsSameFile one other e → IsBody one e → IsBody other e
same_rules one other e same body = record {
  distinct = λ p q a b some equal. body.distinct p q a b (λ none. some (same.names p a ∙ none)) (sym (same.names p a) ∙ equal ∙ same.names q b);
  past = λ p a le. same.names p a ∙ body.past p a le;
  zeros = λ k le lt. same.bytes k lt ∙ body.zeros k le lt;
}
