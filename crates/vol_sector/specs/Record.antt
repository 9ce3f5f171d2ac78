-- The disk that a first image and a list of writes and syncs make (`docs/VOLUME.md`, "The device"). `choices` is the
-- crash model: each sector, apart from the others, is left at its synced value or at any value written since.
use Rattle.std.specs.Prelude.{◌≡◌, ◌⊎◌, ◌≤◌, ◌==◌, ℕ, List, [], ◌∷◌, ◌++◌, length, take, slice_index_or, if◌then◌else◌, Bool, true, false}
use Rattle.vol_sector.specs.Disk.{Image, Disk}
use Rattle.vol_sector.specs.declared.record.Operation.{Operation}
use Rattle.vol_sector.specs.declared.record.Operation.TheVariants.{Write, Sync}

-- the image that a list of sectors gives
abbrev pub image_of : List (List ℕ) → Image
image_of sectors n = slice_index_or sectors n []

-- the sector's value after the operations, from this one
abbrev pub newest : ℕ → List ℕ → List Operation → List ℕ
newest n value [] = value
newest n value (Write sector image ∷ ops) = newest n (if n == sector then image else value) ops
newest n value (Sync ∷ ops) = newest n value ops

-- the sector's values that a crash after the operations may leave: the synced one, then those tried since, in order
abbrev pub choices : ℕ → List ℕ → List (List ℕ) → List Operation → List (List ℕ)
choices n value so_far [] = so_far
choices n value so_far (Write sector image ∷ ops) = choices n (if n == sector then image else value) (if n == sector then so_far ++ image ∷ [] else so_far) ops
choices n value so_far (Sync ∷ ops) = choices n value (value ∷ []) ops

-- one of these
abbrev pub Among : List (List ℕ) → List ℕ → Type 0
Among [] value = ⊥
Among (one ∷ values) value = (value ≡ one) ⊎ Among values value

-- what a crash after the operations may leave
abbrev pub LeftBy : Image → List Operation → Image → Type 0
LeftBy first ops c = (n : ℕ) → Among (choices n (first n) (first n ∷ []) ops) (c n)

-- what a crash at some moment from t on may have left
abbrev pub LeftSince : Image → List Operation → ℕ → Image → Type 0
LeftSince first ops t c = (k : ℕ) × (t ≤ k) × (k ≤ length ops) × LeftBy first (take k ops) c

abbrev pub recorded : Image → List Operation → Disk
recorded first operations = record {
  seen = λ n. newest n (first n) operations;
  may_leave = LeftBy first operations;
  operation_count = length operations;
  left_since = LeftSince first operations;
}

abbrev pub is_write : Operation → Bool
is_write (Write sector image) = true
is_write Sync = false
