-- The first sector of a volume: its bytes, and the ranges of its numbers (`docs/VOLUME.md`, "Superblock"). The record
-- `Superblock` with version, sectors and slots is what contracts call a volume's numbers, and `format` refuses all
-- outside of `HasRanges`.
use Rattle.std.specs.Prelude.{◌≢◌, ◌+◌, ◌≤◌, ◌<◌, ℕ, List, [], ◌∷◌, ◌++◌, replicate}
use Rattle.byteorder.specs.Endian.{little_bytes}
use Rattle.vol_inode.specs.declared.version.Version.{Version}
use Rattle.vol_inode.specs.declared.version.Version.TheVariants.{One, Two, Four}
use Rattle.vol_tree.specs.declared.superblock.Superblock.{Superblock}
use Rattle.vol_log.specs.declared.layout.TheConstants.{FIRST_AFTER_LOG}

-- `WASMVOLU`
abbrev pub magic : List ℕ
magic = 87 ∷ 65 ∷ 83 ∷ 77 ∷ 86 ∷ 79 ∷ 76 ∷ 85 ∷ []

abbrev pub version_number : Version → ℕ
version_number One = 1
version_number Two = 2
version_number Four = 4

-- the magic, the version, how many sectors and slots there are, and zeros
abbrev pub superblock : Superblock → List ℕ
superblock v = magic ++ little_bytes 4 (version_number v.version) ++ little_bytes 4 v.sectors ++ little_bytes 4 v.slots ++ replicate 492 0

-- The numbers that a volume may have: the log and the slots stand in front of at least one data sector.
pub record HasRanges (v : Superblock) : Type 0 where
  pub least : 137 ≤ v.sectors
  pub most : v.sectors ≤ 16777216
  pub some_slots : 1 ≤ v.slots
  pub few_slots : v.slots ≤ 1048576
  pub room : FIRST_AFTER_LOG + v.slots < v.sectors
  -- versions 1 and 2 have fewer of both
  pub older : v.version ≢ Four → (v.sectors ≤ 65536) × (v.slots ≤ 8192)

-- the number of no version that is known
abbrev pub IsNoVersion : ℕ → Type 0
IsNoVersion n = (n ≢ 1) × (n ≢ 2) × (n ≢ 4)

-- the first of these versions is older than the second
abbrev pub IsOlder : Version → Version → Type 0
IsOlder v w = version_number v < version_number w
