-- What a write leaves, once its data blocks and the entry are staged.
use Rattle.std.proofs.Common.{◌≡◌, ◌⊎◌, inl, inr, ◌≤◌, ◌<◌, ◌+◌, ◌-◌, ◌*◌, ◌/◌, ℕ, List, length, max, refl, sym, ◌∙◌, ap, arith}
use Rattle.vol_sector.specs.Disk.{Image, put}
use Rattle.vol_alloc.specs.Alloc.{first_of, end_of, taken_of, free_of}
use Rattle.vol_alloc.specs.declared.sectors.Alloc.{Alloc}
use Rattle.vol_inode.specs.declared.entry.Entry.{Entry}
use Rattle.vol_inode.specs.Space.{need_of}
use Rattle.vol_body.specs.declared.pointer_sectors.PointerSectors.{PointerSectors}
use Rattle.vol_body.specs.Body.{BlockPosition, data_block, double_indirect_block, triple_indirect_block, named, block_bytes, NamesTaken, IsBody, SameSectors, IsSameFile}
use Rattle.vol_body.specs.Change.{used_of, OthersStay, TakesAndGives}
use Rattle.vol_body.specs.internal.Writing.{Mirrors, MirrorsAll, IsReady, SameRange, ChangesPositions, HasBlocks, IsBlockIn, IsPointer, WriteLeaves, segment, segment_of, double_of, image_of}
use Rattle.vol_body.proofs.Same.{same_file, same_bytes}
use Rattle.vol_body.proofs.Changes.{stays_by, takes_same, takes_twice}
use Rattle.vol_body.proofs.OneMore.{naming_of, naming_by, body_of, names_by_pointers}
use Rattle.vol_body.proofs.Space.{used_grown, used_kept}
use Rattle.vol_body.proofs.Steps.{put_other, taken_range, none_taken}
use Rattle.vol_body.proofs.Written.{IsWrite, bytes_written, zeros_beyond}
use Rattle.vol_log.specs.declared.layout.TheConstants.{FIRST_AFTER_LOG}
use Rattle.vol_inode.specs.declared.version.TheConstants.{LARGEST_SIZE}

-- a file is ready for a write where the space is reserved
pub ready_to_write : (a : Alloc) (content : Image) (e : Entry) (size : ℕ) → IsBody content e → NamesTaken (taken_of a) content e → e.size ≤ size → size ≤ LARGEST_SIZE
    → need_of size ≤ free_of a + used_of content e → IsReady a content (record e { size = size })
ready_to_write a content e size body names longer small space =
    let longer_e : Entry = record e { size = size } in
    let same = λ (p : BlockPosition). names_by_pointers content e longer_e p refl in
    record {
      naming = naming_by content content e longer_e (naming_of content e body) longer (λ p there. same p);
      taken = λ p there some. ap (taken_of a) (same p) ∙ names p there (λ none. some (same p ∙ none));
      space = omega (arith, space, used_grown content e size longer);
      small = small;
    }

mirrors_by : (content : Image) (e f : Entry) (p : BlockPosition) (number : ℕ) (image : List ℕ) → f.pointers ≡ e.pointers → Mirrors content e p number image → Mirrors content f p number image
mirrors_by content e f p number image same mirror = record { names = mirror.names ∙ sym (names_by_pointers content e f p same); bytes = mirror.bytes }

pub mirrors_all_by : (content : Image) (e f : Entry) (all : PointerSectors) (first last : ℕ) → f.pointers ≡ e.pointers → MirrorsAll content e all first last → MirrorsAll content f all first last
mirrors_all_by content e f all first last same mirrors = record {
  triple = λ reaches. mirrors_by content e f triple_indirect_block all.triple.number all.triple.image same (mirrors.triple reaches);
  double = λ reaches. mirrors_by content e f (double_indirect_block (double_of (segment_of first))) all.double.number all.double.image same (mirrors.double reaches);
  next_double = λ differ reaches. mirrors_by content e f (double_indirect_block (double_of (segment_of first + 1))) all.next_double.number all.next_double.image same (mirrors.next_double differ reaches);
  early = λ reaches. mirrors_by content e f (segment (segment_of first)) all.early.number all.early.image same (mirrors.early reaches);
  late = λ reaches. mirrors_by content e f (segment (segment_of first + 1)) all.late.number all.late.image same (mirrors.late reaches);
}

-- the entry's own sector is none of the file's
entry_elsewhere : (b : Alloc) (content after : Image) (changed : Entry) (place : ℕ) (bytes : List ℕ) → NamesTaken (taken_of b) content changed → place < first_of b → after ≡ put place bytes content → SameSectors content after changed
entry_elsewhere b content after changed place bytes names lt is p there some =
    let n = named content changed p in
    let range = taken_range b n (names p there some) in
    ap (λ (m : Image). m n) is ∙ put_other place n bytes content (λ same. omega (arith, range.0, lt, same))

module _ (place offset : ℕ) (bytes first last spelled : List ℕ) (a b : Alloc) (content between after : Image) (e changed : Entry) (size : ℕ)
    (after_log : FIRST_AFTER_LOG ≤ place) (slot : place < first_of a) (range : SameRange a b) (small_before : e.size ≤ LARGEST_SIZE) (small : offset + length bytes ≤ LARGEST_SIZE) (some : 0 < length bytes)
    (size_is : size ≡ max e.size (offset + length bytes)) (body : IsBody content e) (names : NamesTaken (taken_of a) content e)
    (changes : ChangesPositions a b content between (record e { size = size }) changed (λ p. IsBlockIn (offset / 512) ((offset + length bytes - 1) / 512 + 1) p ⊎ IsPointer p))
    (parts : HasBlocks between changed (offset / 512) ((offset + length bytes - 1) / 512 + 1) (image_of offset bytes first last))
    (is : after ≡ put place spelled between) where
  longer : Entry
  longer = record e { size = size }

  slot_now : place < first_of b
  slot_now = omega (arith, slot, range.first)

  same : IsSameFile between after changed
  same = same_file between after changed (entry_elsewhere b between after changed place spelled changes.ready.taken slot_now is)

  part_stays : (j : ℕ) → j < 2113722 → block_bytes after (named after changed (data_block j)) ≡ block_bytes between (named between changed (data_block j))
  part_stays j lt =
      ap (block_bytes after) (same.names (data_block j) lt)
      ∙ same_bytes between after (named between changed (data_block j)) (entry_elsewhere b between after changed place spelled changes.ready.taken slot_now is (data_block j) lt)

  pub others_leave : OthersStay place (first_of a) (end_of a) (taken_of a) content after e
  unfolding longer
  others_leave =
      let stays = changes.others place in
      stays_by place (first_of a) (end_of a) (taken_of a) content after longer e (λ p there. sym (names_by_pointers content e longer p refl)) (record {
        outside = λ n not out. ap (λ (m : Image). m n) is ∙ put_other place n spelled between not ∙ stays.outside n not out;
        taken = λ n not taken others. ap (λ (m : Image). m n) is ∙ put_other place n spelled between not ∙ stays.taken n not taken others;
      })

  pub taken_leaves : TakesAndGives (taken_of a) (taken_of b) content after e changed
  unfolding longer
  taken_leaves =
      let none = none_taken a (omega (arith, after_log, slot)) in
      let still = none_taken b (omega (arith, after_log, slot_now)) in
      let before = takes_same (taken_of a) content content e longer names (λ p there. names_by_pointers content e longer p refl) in
      let beyond_it = takes_same (taken_of b) between after changed changed changes.ready.taken (λ p there. same.names p there) in
      takes_twice (taken_of a) (taken_of a) (taken_of b) content content after e longer changed none still before
      (takes_twice (taken_of a) (taken_of b) (taken_of b) content between after longer changed changed none still changes.takes beyond_it)

  pub count_leaves : free_of a + used_of content e ≤ free_of b + used_of after changed
  unfolding longer
  count_leaves =
      let grown = used_grown content e size (omega (arith, size_is)) in
      let kept = used_kept between after changed changed changes.ready.small refl (λ p there. same.names p there) in
      omega (arith, grown, kept, changes.count)

  module _ (first_long : length first ≡ 512) (last_long : length last ≡ 512)
      (first_is : (offset ≤ 512 * (offset / 512) → 512 * (offset / 512) + 512 ≤ offset + length bytes → ⊥) → first ≡ block_bytes content (named content e (data_block (offset / 512))))
      (last_is : (offset ≤ 512 * ((offset + length bytes - 1) / 512) → 512 * ((offset + length bytes - 1) / 512) + 512 ≤ offset + length bytes → ⊥) → last ≡ block_bytes content (named content e (data_block ((offset + length bytes - 1) / 512)))) where
    write : IsWrite content after e changed offset bytes first last
    write = record {
      some = some;
      small = small;
      first_long = first_long;
      last_long = last_long;
      first_is = first_is;
      last_is = last_is;
      touched = λ j from to. part_stays j (omega (arith, to, small, some)) ∙ parts j from (omega (arith, to));
      others = λ j lt not. part_stays j lt ∙ (changes.stays (data_block j) lt (λ touched. apart j not touched)).bytes;
    }
      where
        apart : (j : ℕ) → (offset / 512 ≤ j → j ≤ (offset + length bytes - 1) / 512 → ⊥) → IsBlockIn (offset / 512) ((offset + length bytes - 1) / 512 + 1) (data_block j) ⊎ IsPointer (data_block j) → ⊥
        apart j not (inl there) = not there.0 (omega (arith, there.1))
        apart j not (inr pointer) = pointer

    changed_size : changed.size ≡ max e.size (offset + length bytes)
    changed_size = changes.size ∙ size_is

    pub write_leaves : WriteLeaves place a b content after e changed offset bytes
    write_leaves = record {
      bytes = bytes_written content after e changed offset bytes first last write body changed_size small_before;
      rules = body_of after changed (naming_by between after changed changed changes.ready.naming (omega arith) (λ p there. same.names p there))
          (zeros_beyond content after e changed offset bytes first last write body changed_size);
      others = others_leave;
      taken = taken_leaves;
      count = count_leaves;
    }
