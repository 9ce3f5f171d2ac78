-- The sectors past a volume that is made and opened.
use Rattle.std.proofs.Common.{◌≡◌, ◌⊎◌, ◌≤◌, ℕ, inl, inr, ap, subst, arith}
use Rattle.vol_sector.specs.Disk.{Image}
use Rattle.vol_tree.specs.declared.superblock.Superblock.{Superblock}
use Rattle.vol_tree.specs.Superblock.{HasRanges, superblock}
use Rattle.vol_tree.specs.Stands.{StandsAs, empty_tree}
use Rattle.vol_tree.specs.Fresh.{fresh}
use Rattle.vol_tree.specs.Opening.{IsPast}
use Rattle.vol_tree.proofs.OneTree.{same_superblock}

-- past the volume that was made there are none of its sectors
pub past_made : (size made_size : ℕ) (honest made_honest : Type 0) (image : Image) (sectors slots end : ℕ) → made_size ≡ size → (honest → made_honest) → (honest → StandsAs image (fresh sectors slots) (empty_tree slots)) → (sectors ≤ end) × (honest ⊎ (size ≤ end)) → IsPast made_size made_honest image end
past_made size made_size honest made_honest image sectors slots end same to empty (le, inl h) = inr (
  to h,
  λ v ranges front.
      let stands = empty h in
      subst (λ (n : ℕ). n ≤ end) (ap (λ (w : Superblock). w.sectors) (same_superblock (image 0) (fresh sectors slots) v stands.ranges ranges stands.front front)) le,
)
past_made size made_size honest made_honest image sectors slots end same to empty (le, inr small) = inl (omega (arith, same, small))

-- nor past the volume that opening found
pub past_opened : (size : ℕ) (honest : Type 0) (image : Image) (v : Superblock) (end : ℕ) → HasRanges v → v.sectors ≤ size → (honest → image 0 ≡ superblock v) → IsPast size honest image end → v.sectors ≤ end
past_opened size honest image v end ranges room front (inl past) = omega (arith, room, past)
past_opened size honest image v end ranges room front (inr past) = past.1 v ranges (front past.0)
