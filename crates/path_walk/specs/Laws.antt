-- Laws over paths and walks, by the definitions only (`docs/PATHS.md`, "Walking"). The first two say that a path leads
-- only to the directory where its walk starts, or to what stands below it.
use Rattle.std.specs.Prelude.{◌≡◌, ◌≢◌, ◌≤◌, ℕ, List, [], ◌∷◌, None, Ok, Bool, true}
use Rattle.std.specs.List.{Contains}
use Rattle.vol_inode.specs.Name.{IsName}
use Rattle.vol_tree.specs.Tree.{Tree, Name, Path, IsTree, Leads, lookup}
use Rattle.vol_tree.specs.Calls.{directory_at}
use Rattle.path_walk.specs.Paths.{path_read, stays_inside, walked, stepped, resolved, names_left, Found, Missing, dots}

-- What a path reaches is the directory that it starts from or below it, at the names that its `..` leave.
abbrev pub WalksStayBelow : Type 0
WalksStayBelow = (T : Tree) (directory serial : ℕ) (wants : Bool) (names : List Name)
    → resolved T directory wants names ≡ Ok (Found serial) → Leads T directory (names_left [] names) serial

abbrev pub MissingStaysBelow : Type 0
MissingStaysBelow = (T : Tree) (directory parent : ℕ) (name : Name) (wants : Bool) (names : List Name)
    → resolved T directory wants names ≡ Ok (Missing parent name)
    → (path : Path) × Leads T directory path parent × (names_left [] names ≡ name ∷ path)

-- What a walk misses is missing in a directory; and its name is a component of the path, not `..`.
pub record Misses (T : Tree) (parent : ℕ) (name : Name) (names : List Name) : Type 0 where
  pub directory : directory_at T parent ≡ true
  pub free : lookup T parent name ≡ None
  pub asked : Contains names name
  pub no_dots : name ≢ dots

abbrev pub MissingIsFree : Type 0
MissingIsFree = (T : Tree) (directory parent : ℕ) (name : Name) (wants : Bool) (names : List Name)
    → resolved T directory wants names ≡ Ok (Missing parent name) → Misses T parent name names

-- Going up by the parent that an entry names is going back, as long as the path stays inside.
abbrev pub StepsByParents : Type 0
StepsByParents = (T : Tree) (directory : ℕ) (names : List Name) → IsTree T → 1 ≤ directory → stays_inside 0 names ≡ true → walked T directory [] names ≡ stepped T directory names

-- Each component of a path that was read is a name, or `..`; so what a walk misses can be made.
abbrev pub ReadGivesNames : Type 0
ReadGivesNames = (text : List ℕ) (names : List Name) (name : Name) → path_read text ≡ Ok names → Contains names name → name ≢ dots → IsName name
