-- Which image a crash of a `MemoryDevice` leaves for a list of picks: a pick is a number, and says which value a sector
-- that was written since the last sync is left at (`docs/VOLUME.md`, "The device"). By the laws in `src/laws.rt` picks
-- give exactly what a crash may leave, so tests try crashes by picks.
use Rattle.std.specs.Prelude.{ℕ, zero, suc, ◌+◌, ◌-◌, ◌==◌, List, [], ◌∷◌, length, min, slice_index_or, Bool, true, false, if◌then◌else◌}
use Rattle.vol_sector.specs.Disk.{Image}
use Rattle.vol_sector.specs.Record.{choices}
use Rattle.vol_sector.specs.declared.record.Operation.{Operation}
use Rattle.vol_sector.specs.declared.record.Operation.TheVariants.{Write, Sync}

-- was the sector written since the last sync, or so far
abbrev pub written_since : ℕ → Bool → List Operation → Bool
written_since n so_far [] = so_far
written_since n so_far (Write sector image ∷ ops) = written_since n (if n == sector then true else so_far) ops
written_since n so_far (Sync ∷ ops) = written_since n false ops

-- how many of the sectors below n were written since the last sync
abbrev pub written_below : List Operation → ℕ → ℕ
written_below ops zero = 0
written_below ops (suc n) = if written_since n false ops then written_below ops n + 1 else written_below ops n

-- the sector's pick: the picks go to the written sectors in rising order, and a missing one is 0
abbrev pub pick_of : List Operation → List ℕ → ℕ → ℕ
pick_of ops picks n = if written_since n false ops then slice_index_or picks (written_below ops n) 0 else 0

-- the value that a pick names; a number past the last counts as the last
abbrev pub picked : List (List ℕ) → ℕ → List ℕ
picked values pick = slice_index_or values (min pick (length values - 1)) []

-- the image that a crash leaves by these picks
abbrev pub crashed_image : Image → List Operation → List ℕ → Image
crashed_image first ops picks n = picked (choices n (first n) (first n ∷ []) ops) (pick_of ops picks n)
