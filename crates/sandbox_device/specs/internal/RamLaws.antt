-- What holds of a disk in memory. `RamDevice` hands both laws to `Device`: a crash now counts as one since any moment,
-- and one since the newest moment leaves the sectors as they are.
use Rattle.std.specs.Prelude.{◌≡◌, ◌-◌, ℕ, List, ◌∷◌, length, take}
use Rattle.std.proofs.Common.{inl, inr, subst, arith}
use Rattle.vol_sector.specs.Disk.{Image}
use Rattle.vol_sector.specs.Record.{image_of}
use Rattle.sandbox_device.specs.Ram.{Sectors, IsOneOf, held}

pub now_is_since : (now : Sectors) (before : List Sectors) (t : ℕ) (c : Image) → c ≡ image_of now → (held now before).left_since t c
now_is_since now before t c is = inl is

pub now_is_all : (now : Sectors) (before : List Sectors) (c : Image) → (held now before).left_since (length before) c → c ≡ image_of now
now_is_all now before c left =
    let none : length before - length before ≡ 0 = omega arith in
    alone (subst (λ (k : ℕ). IsOneOf (now ∷ take k before) c) none left)
  where
    alone : IsOneOf (now ∷ take 0 before) c → c ≡ image_of now
    alone (inl is) = is
    alone (inr never) = absurd never
