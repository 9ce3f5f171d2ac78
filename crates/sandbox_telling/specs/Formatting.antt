-- Of which version a volume is that `format` makes, and how long its file has to be (`docs/USING.md`, "Commands").
use Rattle.std.specs.Prelude.{ℕ, Bool, true, false, min}
use Rattle.vol_inode.specs.declared.version.Version.{Version}
use Rattle.vol_inode.specs.declared.version.Version.TheVariants.{One, Two, Four}

-- a large one, a huge one or neither
abbrev pub version_for : (large huge : Bool) → Version
version_for large true = Four
version_for true false = Two
version_for false false = One

-- the most sectors that a volume of a version may have
abbrev pub most_sectors : Version → ℕ
most_sectors One = 65536
most_sectors Two = 65536
most_sectors Four = 16777216

-- the sectors that its file is lengthened to
abbrev pub room_for : Version → (sectors : ℕ) → ℕ
room_for version sectors = min sectors (most_sectors version)
