-- The log header: which sectors the log's images are for, and its bytes (`docs/VOLUME.md`, "Log"). `Places` has the
-- rules on the numbers, which a staged batch keeps as well; `IsHeader` adds that the sector spells them in every byte.
use Rattle.std.specs.Prelude.{◌≡◌, ◌≢◌, ◌-◌, ◌*◌, ◌≤◌, ◌<◌, ◌++◌, ℕ, List, length, replicate, slice_index}
use Rattle.std.specs.List.{flat_map}
use Rattle.byteorder.specs.Endian.{little_bytes}
use Rattle.vol_log.specs.declared.layout.TheConstants.{FIRST_AFTER_LOG}

-- the header's bytes: the count, the numbers, zeros
abbrev pub header_bytes : List ℕ → List ℕ
header_bytes numbers = little_bytes 4 (length numbers) ++ flat_map (little_bytes 4) numbers ++ replicate (508 - 4 * length numbers) 0

-- sectors that a log may be for: at most 120, after the log, in the volume, all different
pub record Places (sectors : ℕ) (numbers : List ℕ) : Type 0 where
  pub few : length numbers ≤ 120
  pub after_log : (k : ℕ) → k < length numbers → FIRST_AFTER_LOG ≤ slice_index numbers k
  pub there : (k : ℕ) → k < length numbers → slice_index numbers k < sectors
  pub distinct : (j k : ℕ) → j < k → k < length numbers → slice_index numbers j ≢ slice_index numbers k

-- a right header, for these sectors
pub record IsHeader (sectors : ℕ) (bytes numbers : List ℕ) : Type 0 where
  pub places : Places sectors numbers
  pub spelled : bytes ≡ header_bytes numbers
