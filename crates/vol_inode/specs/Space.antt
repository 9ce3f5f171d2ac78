-- How many sectors a file of some size needs, and how large a file may be (`docs/VOLUME.md`, "Space"). The need depends
-- on the size alone and not on what was written, so a sparse file needs as much as a full one.
use Rattle.std.specs.Prelude.{◌+◌, ◌-◌, ◌/◌, ℕ, nat_le, if◌then◌else◌}
use Rattle.vol_inode.specs.declared.pointers.TheConstants.{DIRECT, LISTED, NUMBERS, SERVED, TWICE_LISTED}
use Rattle.vol_inode.specs.declared.version.TheConstants.{LARGEST_SIZE}
use Rattle.vol_inode.specs.declared.version.Version.{Version}
use Rattle.vol_inode.specs.declared.version.Version.TheVariants.{One, Two, Four}

-- how many sectors hold this many bytes
abbrev pub blocks_for_size : ℕ → ℕ
blocks_for_size size = (size + 511) / 512

-- how many inner blocks hold this many numbers
abbrev pub inner_blocks_for : ℕ → ℕ
inner_blocks_for count = (count + (NUMBERS - 1)) / NUMBERS

-- how many double-indirect blocks hold those of their inner blocks
abbrev pub double_blocks_for : ℕ → ℕ
double_blocks_for count = (count + (SERVED - 1)) / SERVED

-- The sectors that a file of this size may take: those of its bytes; after the direct ones an indirect block with the
-- numbers of the next ones; after these a double-indirect block and its inner blocks for as many as it serves; after
-- these the triple-indirect block, and further double-indirect blocks and inner blocks for all others.
abbrev pub need_of : ℕ → ℕ
need_of size = let count = blocks_for_size size in
    if nat_le count DIRECT then count else (if nat_le count LISTED then count + 1 else (if nat_le count TWICE_LISTED then count + 2 + inner_blocks_for (count - LISTED)
    else count + 2 + inner_blocks_for (count - LISTED) + double_blocks_for (count - LISTED)))

-- the greatest size of a file
abbrev pub size_limit : Version → ℕ
size_limit One = 95232
size_limit Two = 8483840
size_limit Four = LARGEST_SIZE
