-- What holds of a disk in a file, as the trait `Device` asks it of every device. `mixed_since`, `mixed_now` and
-- `now_may_stay` are the ghost members `counts_now`, `only_now` and `may_stay` of `FileDevice`.
use Rattle.std.specs.Prelude.{◌≡◌, ◌-◌, ℕ, List, ◌∷◌, length, take}
use Rattle.std.proofs.Common.{inl, inr, refl, subst, arith}
use Rattle.vol_sector.specs.Disk.{Image}
use Rattle.vol_sector.specs.Record.{image_of}
use Rattle.sandbox_device.specs.Ram.{Sectors}
use Rattle.sandbox_device.specs.File.{IsMixed, IsMixedAt, kept}

pub mixed_since : (now : Sectors) (unsynced : List Sectors) (times : List (List Sectors)) (t : ℕ) (c : Image) → IsMixed (now ∷ unsynced) c → (kept now unsynced times).left_since t c
mixed_since now unsynced times t c is = inl is

pub mixed_now : (now : Sectors) (unsynced : List Sectors) (times : List (List Sectors)) (c : Image) → (kept now unsynced times).left_since (length times) c → IsMixed (now ∷ unsynced) c
mixed_now now unsynced times c left =
    let none : length times - length times ≡ 0 = omega arith in
    alone (subst (λ (k : ℕ). IsMixedAt ((now ∷ unsynced) ∷ take k times) c) none left)
  where
    alone : IsMixedAt ((now ∷ unsynced) ∷ take 0 times) c → IsMixed (now ∷ unsynced) c
    alone (inl is) = is
    alone (inr never) = absurd never

pub now_may_stay : (now : Sectors) (unsynced : List Sectors) → IsMixed (now ∷ unsynced) (image_of now)
now_may_stay now unsynced n = inl refl
