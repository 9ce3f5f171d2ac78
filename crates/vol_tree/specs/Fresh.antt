-- What formatting leaves: the numbers of a new volume, and the images that a stop inside may leave besides those that a
-- crash could leave before (`docs/VOLUME.md`, "Formatting"). `Volume::format` and `Volume::create` cite both, and make
-- volumes of version 1; `Volume::format_as` makes one of any version.
use Rattle.std.specs.Prelude.{◌⊎◌, ℕ}
use Rattle.vol_sector.specs.Disk.{Image}
use Rattle.vol_inode.specs.declared.version.Version.{Version}
use Rattle.vol_inode.specs.declared.version.Version.TheVariants.{One}
use Rattle.vol_tree.specs.declared.superblock.Superblock.{Superblock}
use Rattle.vol_tree.specs.Stands.{StandsAs, IsNoVolume, empty_tree}

-- the numbers of a new volume of this version
abbrev pub fresh_as : Version → ℕ → ℕ → Superblock
fresh_as version sectors slots = record { version = version; sectors = sectors; slots = slots }

-- the numbers of one of version 1
abbrev pub fresh : ℕ → ℕ → Superblock
fresh sectors slots = fresh_as One sectors slots

-- the image is no volume yet, or the empty one
abbrev pub IsNoneOrEmpty : Superblock → Image → Type 0
IsNoneOrEmpty v image = IsNoVolume image ⊎ StandsAs image v (empty_tree v.slots)
