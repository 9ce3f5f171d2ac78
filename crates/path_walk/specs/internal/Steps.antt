-- What steps of a walk require and give of names, beside their answers. A component that doesn't go up, and a name
-- that is missing, is one that an entry can have.
use Rattle.std.specs.Prelude.{◌≢◌, ℕ, List, Option, Some, None}
use denote.Ref.{Bor}
use Rattle.std.specs.List.{Contains}
use Rattle.vol_tree.specs.Tree.{Name}
use Rattle.path_walk.specs.Paths.{dots}
use Rattle.vol_inode.specs.Name.{IsName}

abbrev pub IsMissing : Option (Bor (List ℕ)) → Type 0
IsMissing None = Unit {0}
IsMissing (Some name) = IsName name.now

-- each component that doesn't go up is a name
abbrev pub AreNames : List Name → Type 0
AreNames names = (name : Name) → Contains names name → name ≢ dots → IsName name
