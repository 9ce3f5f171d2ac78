-- Sectors in memory, of which one that was never anything but zeros takes no room but for a number. `IsPacked` is part
-- of the invariant of the type `SectorBlock` (`crates/sandbox_device/src/part.rt`), and `sectors_at` is its view, the
-- list of sectors that it stands for.
use Rattle.std.specs.Prelude.{◌≡◌, ◌≢◌, ◌+◌, ◌-◌, ◌≤◌, ◌==◌, ℕ, Bool, List, length, map, replicate, get_or, if◌then◌else◌}
use Rattle.std.specs.List.{count_by}

-- the bytes of a sector of zeros
abbrev pub zeros : List ℕ
zeros = replicate 512 0

-- the sector with this number: 0 is one of zeros, and any other is one more than the place among the written ones
abbrev pub sector_of : List (List ℕ) → ℕ → List ℕ
sector_of written k = if k == 0 then zeros else get_or written (k - 1) zeros

abbrev pub sectors_at : List (List ℕ) → List ℕ → List (List ℕ)
sectors_at written places = map (sector_of written) places

abbrev pub is_zero : ℕ → Bool
is_zero k = k == 0

-- Each number is that of a written sector, no two sectors have the same, and each written one has its number.
pub record IsPacked (written : List (List ℕ)) (places : List ℕ) : Type 0 where
  pub within : (i : ℕ) → get_or places i 0 ≤ length written
  pub apart : (i j : ℕ) → i ≢ j → get_or places i 0 ≡ get_or places j 0 → get_or places i 0 ≡ 0
  pub counted : count_by is_zero places + length written ≡ length places
