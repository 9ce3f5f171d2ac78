-- Laws over the definitions of a tree only: least serials, paths that determine a tree, that a created entry leaves a
-- tree, and the test of a move into itself (`docs/VOLUME.md`, "The tree"). Each law is the whole contract of a function
-- in `src/laws.rt`, and shows that `Tree` and `Calls` say what they should.
use Rattle.std.specs.Prelude.{◌≡◌, ◌≢◌, ◌<◌, ℕ, suc, length, Some, None, Ok, IsSome, IsTrue}
use Rattle.std.specs.Option.{option_map}
use Rattle.vol_tree.specs.Tree.{Tree, Path, Name, Node, Entry, entry, Leads, IsAt, IsTree, IsDirectory}
use Rattle.vol_inode.specs.Name.{IsName}
use Rattle.vol_tree.specs.Calls.{created, is_within}

-- A created entry has the least serial that was not in use, and no other entry is changed.
pub record CreatesLeast (T U : Tree) (serial : ℕ) (e : Entry) : Type 0 where
  pub unused : entry T serial ≡ None
  pub least : (t : ℕ) → suc t < serial → IsSome (entry T (suc t))
  pub there : entry U serial ≡ Some e
  pub others : (t : ℕ) → t ≢ serial → entry U t ≡ entry T t

abbrev pub CreatedHasTheLeastSerial : Type 0
CreatedHasTheLeastSerial = (T U : Tree) (parent serial : ℕ) (name : Name) (node : Node)
    → created T parent name node ≡ Ok (U, serial) → CreatesLeast T U serial (record { parent = parent; name = name; node = node })

-- The finite map from paths to serials and nodes says all of a tree: two trees with as many slots and the same map
-- are one.
pub record SamePaths (T U : Tree) : Type 0 where
  pub slots : length T ≡ length U
  pub there : (path : Path) (serial : ℕ) → IsAt T path serial → IsSome (entry T serial) → IsAt U path serial × IsSome (entry U serial)
  pub back : (path : Path) (serial : ℕ) → IsAt U path serial → IsSome (entry U serial) → IsAt T path serial × IsSome (entry T serial)
  pub nodes : (t : ℕ) → option_map (λ (e : Entry). e.node) (entry U t) ≡ option_map (λ (e : Entry). e.node) (entry T t)

abbrev pub PathsDetermineTheTree : Type 0
PathsDetermineTheTree = (T U : Tree) → IsTree T → IsTree U → SamePaths T U → T ≡ U

abbrev pub CreatedIsTree : Type 0
CreatedIsTree = (T U : Tree) (parent serial : ℕ) (name : Name) (node : Node) → IsTree T → IsName name → IsDirectory T parent
    → created T parent name node ≡ Ok (U, serial) → IsTree U

-- The test of a move into itself says what it should: of an entry in use, that it is the top or below it.
abbrev pub WithinIsBelow : Type 0
WithinIsBelow = (T : Tree) (top serial : ℕ) → IsTree T → IsSome (entry T top)
    → (IsTrue (is_within (length T) T top serial) → (path : Path) × Leads T top path serial)
    × ((path : Path) → Leads T top path serial → IsTrue (is_within (length T) T top serial))
