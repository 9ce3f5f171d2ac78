-- A tree of directories and files, by serial numbers and by paths (`docs/VOLUME.md`, "The tree"). It is the list of a
-- volume's slots, in which each entry has its parent's serial (the root has 0); `IsTree` says which lists are trees,
-- and a `Path` has its last name first.
use Rattle.std.specs.Prelude.{◌≡◌, ◌≢◌, ℕ, zero, suc, Bool, true, false, ◌&&◌, not, ◌==◌, nat_eq, List, [], ◌∷◌, get_or, set, Option, Some, None, if◌then◌else◌, IsTrue}
use Rattle.std.specs.Option.{is_some}
use Rattle.std.specs.List.{list_any}
use lib.Pointwise.{pointwise}
use Rattle.vol_inode.specs.Name.{IsName}

-- the bytes of a name
abbrev pub Name : Type 0
Name = List ℕ

abbrev pub same_name : Name → Name → Bool
same_name m n = pointwise nat_eq m n

-- a directory, or a file with its bytes
pub data Node : Type 0 where
  Directory : Node
  File : List ℕ → Node

-- what is kept under a serial number: the serial of the directory that it stands in, its name there, and what it is
pub record Entry : Type 0 where
  pub parent : ℕ
  pub name : Name
  pub node : Node

-- The slots of a volume: serial s + 1 stands at place s, and None is a slot that isn't in use.
abbrev pub Tree : Type 0
Tree = List (Option Entry)

abbrev pub entry : Tree → ℕ → Option Entry
entry T zero = None
entry T (suc slot) = get_or T slot None

-- the same tree with another entry for one serial
abbrev pub changed : Tree → ℕ → Option Entry → Tree
changed T zero e = T
changed T (suc slot) e = set T slot e

-- A path: names, the last one first.
abbrev pub Path : Type 0
Path = List Name

-- The path leads from one serial down to another: each name on it is that of an entry, which stands in the one above it.
abbrev pub Leads : Tree → ℕ → Path → ℕ → Type 0
Leads T above [] serial = serial ≡ above
Leads T above (name ∷ path) serial = (e : Entry) × (entry T serial ≡ Some e) × (e.name ≡ name) × Leads T above path e.parent

-- from the root
abbrev pub IsAt : Tree → Path → ℕ → Type 0
IsAt T path serial = Leads T 1 path serial

abbrev pub root : Entry
root = record { parent = 0; name = []; node = Directory }

abbrev pub IsDirectory : Tree → ℕ → Type 0
IsDirectory T serial = (e : Entry) × (entry T serial ≡ Some e) × (e.node ≡ Directory)

-- What makes slots a tree: the root is a directory, every other entry has a name and stands in a directory, no two
-- entries of one directory have one name, and the root leads to each.
pub record IsTree (T : Tree) : Type 0 where
  pub top : entry T 1 ≡ Some root
  pub named : (serial : ℕ) (e : Entry) → entry T serial ≡ Some e → serial ≢ 1 → IsName e.name
  pub inside : (serial : ℕ) (e : Entry) → entry T serial ≡ Some e → serial ≢ 1 → IsDirectory T e.parent
  pub apart : (s t : ℕ) (d e : Entry) → entry T s ≡ Some d → entry T t ≡ Some e → d.parent ≡ e.parent → d.name ≡ e.name → s ≡ t
  pub reached : (serial : ℕ) → IsTrue (is_some (entry T serial)) → (path : Path) × IsAt T path serial

-- the entry of this name in this directory
abbrev pub is_child : ℕ → Name → Option Entry → Bool
is_child directory name None = false
is_child directory name (Some e) = (e.parent == directory) && same_name e.name name

-- the least serial, from n on, whose entry passes the test
abbrev pub least_from : ℕ → (Option Entry → Bool) → Tree → Option ℕ
least_from n test [] = None
least_from n test (e ∷ T) = if test e then Some n else least_from (suc n) test T

abbrev pub lookup : Tree → ℕ → Name → Option ℕ
lookup T directory name = least_from 1 (is_child directory name) T

abbrev pub is_unused : Option Entry → Bool
is_unused None = true
is_unused (Some e) = false

abbrev pub is_in : ℕ → Option Entry → Bool
is_in directory None = false
is_in directory (Some e) = e.parent == directory

abbrev pub is_empty : Tree → ℕ → Bool
is_empty T directory = not (list_any (is_in directory) T)
