-- A longer file.
use Rattle.std.proofs.Common.{◌≡◌, inl, inr, ◌≤◌, ◌<◌, ◌-◌, ℕ, Bool, List, ◌++◌, length, replicate, refl, sym, ◌∙◌, ap, arith}
use Rattle.std.proofs.lemmas.Bool.{cases_lt}
use Rattle.std.proofs.lemmas.List.{ext_get_or, length-append, length-replicate, get_or_append_left, get_or-append_right, get_or-replicate, take_all}
use Rattle.vol_sector.specs.Disk.{Image, put}
use Rattle.vol_alloc.specs.declared.sectors.Alloc.{Alloc}
use Rattle.vol_alloc.specs.Alloc.{first_of, taken_of}
use Rattle.vol_inode.specs.declared.entry.Entry.{Entry}
use Rattle.vol_body.specs.Body.{BlockPosition, data_block, indirect_block, inner_block, double_indirect_block, triple_indirect_block, IsPosition, named, bytes_of, IsBody, NamesTaken, NamesOthers, SameSectors}
use Rattle.vol_body.specs.Bytes.{resized_bytes}
use Rattle.vol_body.specs.Change.{OthersStay, TakesAndGives}
use Rattle.vol_body.proofs.Parts.{length-bytes_of, get_or-bytes_of}
use Rattle.vol_body.proofs.Same.{same_file}
use Rattle.vol_body.proofs.CutSectors.{put_past, in_range}
use Rattle.vol_inode.specs.declared.version.TheConstants.{LARGEST_SIZE}

-- a file's names don't go by its size
same_named : (content : Image) (e : Entry) (size : ℕ) (p : BlockPosition) → named content (record e { size = size }) p ≡ named content e p
same_named content e size (data_block j) = refl
same_named content e size indirect_block = refl
same_named content e size (inner_block i) = refl
same_named content e size (double_indirect_block d) = refl
same_named content e size triple_indirect_block = refl

pub grown_bytes : (content : Image) (e : Entry) (size : ℕ) → IsBody content e → e.size ≤ size → size ≤ LARGEST_SIZE
    → bytes_of content (record e { size = size }) ≡ bytes_of content e ++ replicate (size - e.size) 0
grown_bytes content e size body grows small =
    let more : List ℕ = replicate (size - e.size) 0 in
    let long : length (bytes_of content e ++ more) ≡ size = omega (arith, length-append (bytes_of content e) more, length-bytes_of content e, length-replicate {A = ℕ} (size - e.size) 0) in
    ext_get_or 0 (bytes_of content (record e { size = size })) (bytes_of content e ++ more) (length-bytes_of content (record e { size = size }) ∙ sym long) (λ k lt.
    let below : k < size = omega (arith, length-bytes_of content (record e { size = size })) in
    get_or-bytes_of content (record e { size = size }) k below ∙ elim (cases_lt k e.size) [
      | inl old ↦ sym (get_or_append_left (bytes_of content e) more 0 k (omega (arith, length-bytes_of content e)) ∙ get_or-bytes_of content e k old)
      | inr new ↦ body.zeros k new (omega arith)
          ∙ sym (get_or-append_right (bytes_of content e) more e.size k 0 (length-bytes_of content e) new ∙ get_or-replicate (size - e.size) (k - e.size) 0 0 (omega arith))
    ])

pub grown_rules : (content : Image) (e : Entry) (size : ℕ) → IsBody content e → e.size ≤ size → IsBody content (record e { size = size })
grown_rules content e size body grows = record {
  distinct = λ p q a b some equal. body.distinct p q a b (λ none. some (same_named content e size p ∙ none)) (sym (same_named content e size p) ∙ equal ∙ same_named content e size q);
  past = λ p a le. same_named content e size p ∙ body.past p a (omega arith);
  zeros = λ k le lt. body.zeros k (omega arith) lt;
}

-- a write to a sector that the file doesn't name
pub put_elsewhere : (content : Image) (e : Entry) (size n : ℕ) (bytes : List ℕ) → NamesOthers content e n → SameSectors content (put n bytes content) (record e { size = size })
put_elsewhere content e size n bytes others p there some = put_past n (named content (record e { size = size }) p) bytes content (λ is. others p there (sym (same_named content e size p) ∙ is))

-- a write to a slot's sector, for a file that grew
module _ (content : Image) (e : Entry) (size place : ℕ) (bytes : List ℕ) (others : NamesOthers content e place) where
  grown_names : (p : BlockPosition) → IsPosition p → named (put place bytes content) (record e { size = size }) p ≡ named content e p
  grown_names p there = (same_file content (put place bytes content) (record e { size = size }) (put_elsewhere content e size place bytes others)).names p there ∙ same_named content e size p

  pub grown_others : (first end : ℕ) (taken : ℕ → Bool) → OthersStay place first end taken content (put place bytes content) e
  grown_others first end taken = record {
    outside = λ n other out. put_past place n bytes content other;
    taken = λ n other is foreign. put_past place n bytes content other;
  }

  pub grown_taken : (taken : ℕ → Bool) → NamesTaken taken content e → TakesAndGives taken taken content (put place bytes content) e (record e { size = size })
  grown_taken taken names = record {
    taken = λ p there some. ap taken (grown_names p there) ∙ names p there (λ none. some (grown_names p there ∙ none));
    fresh = λ n is foreign. absurd (foreign is.position.0 is.position.1 (sym (grown_names is.position.0 is.position.1) ∙ is.position.2));
    given = λ n was foreign. absurd (foreign was.position.0 was.position.1 (grown_names was.position.0 was.position.1 ∙ was.position.2));
    others = λ n foreign foreign_now. refl;
  }

pub grown_resized : (old : List ℕ) (length_of size : ℕ) → length old ≡ length_of → length_of ≤ size → resized_bytes size old ≡ old ++ replicate (size - length_of) 0
grown_resized old length_of size is grows =
    let all : List ℕ = old ++ replicate (size - length old) 0 in
    take_all size all (omega (arith, length-append old (replicate (size - length old) 0), length-replicate {A = ℕ} (size - length old) 0, is, grows))
    ∙ ap (λ (k : ℕ). old ++ replicate (size - k) 0) is

-- an entry's sector isn't one of the file's
pub slot_is_other : (a : Alloc) (content : Image) (e : Entry) (place : ℕ) → 0 < place → place < first_of a → NamesTaken (taken_of a) content e → NamesOthers content e place
slot_is_other a content e place some slot names p there is =
    let taken = names p there (λ none. omega (arith, some, is, none)) in
    let within = in_range a (named content e p) taken in
    omega (arith, within.0, is, slot)
