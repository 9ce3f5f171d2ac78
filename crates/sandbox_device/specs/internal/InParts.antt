-- Sectors in parts: `joined` is the view of the type `Sectors` (`crates/sandbox_device/src/sectors.rt`), the sectors of
-- all its parts one after the other, and `IsInParts` is of its invariant.
use Rattle.std.specs.Prelude.{◌≡◌, ◌<◌, ◌≤◌, ℕ, List, [], ◌∷◌, length}
use Rattle.std.specs.List.{flat_map}

abbrev pub joined : List (List (List ℕ)) → List (List ℕ)
joined parts = flat_map (λ part. part) parts

-- each part but the last has 131,072 sectors, and the last no more
abbrev pub IsInParts : List (List (List ℕ)) → Type 0
IsInParts [] = Unit {0}
IsInParts (part ∷ parts) = (length part ≤ 131072) × (0 < length parts → length part ≡ 131072) × IsInParts parts
