-- Pointer sectors read into memory.
use Rattle.std.proofs.Common.{◌≡◌, ◌≢◌, ◌≤◌, ◌+◌, ◌-◌, ◌*◌, ◌/◌, ◌%◌, ℕ, zero, suc, List, drop, refl, sym, ◌∙◌, ap, subst, arith, Result, Ok, Err, IfOk}
use Rattle.byteorder.specs.Endian.{little_number}
use Rattle.vol_sector.specs.Disk.{Image}
use Rattle.vol_inode.specs.declared.entry.Entry.{Entry}
use Rattle.vol_body.specs.declared.pointer_sectors.PointerSector.{PointerSector}
use Rattle.vol_body.specs.Body.{BlockPosition, data_block, inner_block, double_indirect_block, triple_indirect_block, named, block_bytes}
use Rattle.vol_body.specs.declared.holding.HeldPointers.{HeldPointers}
use Rattle.vol_body.specs.internal.Writing.{Mirrors, ListedAt, segment}
use Rattle.vol_body.specs.internal.Holding.{IsHeld}
use Rattle.vol_body.proofs.Listed.{number_of_bytes}
use Rattle.vol_body.proofs.Places.{double_later}

pub loaded : {E : Type 0} (content : Image) (e : Entry) (p : BlockPosition) (n : ℕ) (r : Result PointerSector E) → n ≡ named content e p → IfOk r (λ s. s.number ≡ n) → IfOk r (λ s. s.image ≡ block_bytes content n)
    → IfOk r (λ s. Mirrors content e p s.number s.image)
loaded content e p n (Ok s) is number image = record { names = number ∙ is; bytes = image ∙ ap (block_bytes content) (sym number) }
loaded content e p n (Err fault) is number image = image

pub segment_later : (g : ℕ) → g ≢ 0 → segment g ≡ inner_block (g - 1)
segment_later zero some = absurd (some refl)
segment_later (suc i) some = let is : i ≡ suc i - 1 = omega arith in ap inner_block is

-- the number of an inner block stands in its double-indirect block
pub number_mirrored : (content : Image) (e : Entry) (i number : ℕ) (image : List ℕ) → Mirrors content e (double_indirect_block (i / 128)) number image → little_number 4 (drop (4 * (i % 128)) image) ≡ named content e (inner_block i)
number_mirrored content e i number image mirror =
    ap (λ (l : List ℕ). little_number 4 (drop (4 * (i % 128)) l)) (mirror.bytes ∙ ap (block_bytes content) mirror.names)
    ∙ sym (number_of_bytes content (named content e (double_indirect_block (i / 128))) (i % 128))

-- the number of a double-indirect block after the first stands in the triple-indirect block
pub double_mirrored : (content : Image) (e : Entry) (d number : ℕ) (image : List ℕ) → 1 ≤ d → Mirrors content e triple_indirect_block number image → little_number 4 (drop (4 * (d - 1)) image) ≡ named content e (double_indirect_block d)
double_mirrored content e d number image le mirror =
    ap (λ (l : List ℕ). little_number 4 (drop (4 * (d - 1)) l)) (mirror.bytes ∙ ap (block_bytes content) mirror.names)
    ∙ sym (number_of_bytes content (named content e triple_indirect_block) (d - 1)) ∙ sym (double_later content e d le)

pub mirrors_in : {one other : Image} (e : Entry) (p : BlockPosition) (number : ℕ) (image : List ℕ) → one ≡ other → Mirrors one e p number image → Mirrors other e p number image
mirrors_in e p number image same mirror = subst (λ (m : Image). Mirrors m e p number image) same mirror

-- the pointer sector of a data block's group lists it
pub listed_in_group : (j : ℕ) → 58 ≤ j → ListedAt (segment ((j - 58) / 128)) ((j - 58) % 128) (data_block j)
listed_in_group j le = go ((j - 58) / 128) (omega arith)
  where
    go : (g : ℕ) → j - 58 ≡ 128 * g + (j - 58) % 128 → ListedAt (segment g) ((j - 58) % 128) (data_block j)
    go zero is = omega (arith, is, le)
    go (suc k) is = omega (arith, is, le)

pub held_in : {one other : Image} (e : Entry) (held : HeldPointers) (last : ℕ) → one ≡ other → IsHeld one e held last → IsHeld other e held last
held_in e held last same is = subst (λ (m : Image). IsHeld m e held last) same is
