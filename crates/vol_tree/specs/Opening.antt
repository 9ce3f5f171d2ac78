-- What opening says of an image, on an honest device of `size` sectors (`docs/VOLUME.md`, "What opening refuses"). It
-- finds the tree of a `StandsOn` image, unless the device or memory fails; `NoVolumeOn`, `HasNoVersion` and `IsDamaged`
-- are what the refusals 30, 31 and 32 say.
use Rattle.std.specs.Prelude.{◌≡◌, ◌⊎◌, ◌≤◌, ◌<◌, ℕ, drop}
use Rattle.byteorder.specs.Endian.{little_number}
use Rattle.vol_sector.specs.Disk.{Image}
use Rattle.vol_tree.specs.declared.superblock.Superblock.{Superblock}
use Rattle.vol_log.specs.Batch.{HasContent}
use Rattle.vol_tree.specs.Superblock.{superblock, HasRanges, IsNoVersion}
use Rattle.vol_tree.specs.Tree.{Tree}
use Rattle.vol_tree.specs.Stands.{StandsAs, IsNoVolume}

-- The image stands for this tree in a volume with these numbers, and the device has all sectors of the volume.
pub record StandsOn (size : ℕ) (image : Image) (v : Superblock) (T : Tree) : Type 0 where
  pub stands : StandsAs image v T
  pub room : v.sectors ≤ size

-- The first sector is that of a volume with these numbers, all of whose sectors the device has, and with the log's images
-- in their places the image has this content.
pub record HoldsOn (size : ℕ) (image : Image) (v : Superblock) (content : Image) : Type 0 where
  pub front : image 0 ≡ superblock v
  pub ranges : HasRanges v
  pub room : v.sectors ≤ size
  pub log : HasContent v.sectors image content

-- the number of the version, as the first sector has it
abbrev pub version_in : Image → ℕ
version_in image = little_number 4 (drop 8 (image 0))

-- There are too few sectors for any volume, or the image begins otherwise.
abbrev pub NoVolumeOn : ℕ → Image → Type 0
NoVolumeOn size image = (size < 137) ⊎ IsNoVolume image

-- The image begins as a volume, but its version is none that is known.
pub record HasNoVersion (size : ℕ) (image : Image) : Type 0 where
  pub begins : NoVolumeOn size image → ⊥
  pub version : IsNoVersion (version_in image)

-- The image begins as a volume of a known version.
pub record BeginsRight (size : ℕ) (image : Image) : Type 0 where
  pub volume : NoVolumeOn size image → ⊥
  pub version : IsNoVersion (version_in image) → ⊥

-- It begins so, and stands for no tree.
pub record IsDamaged (size : ℕ) (image : Image) : Type 0 where
  pub begins : BeginsRight size image
  pub none : (v : Superblock) (T : Tree) → StandsOn size image v T → ⊥

-- Past this number there is no sector of the volume that opening finds, if it finds one: the device has none there, or what reads
-- give of its first sector, where it keeps its model, is no volume's with more sectors.
abbrev pub IsPast : ℕ → Type 0 → Image → ℕ → Type 0
IsPast size honest image end = (size ≤ end) ⊎ (honest × ((v : Superblock) → HasRanges v → image 0 ≡ superblock v → v.sectors ≤ end))
