-- What a call that changes a volume's tree leaves: the tree that is meant, or its refusal with the tree as it was, or
-- errno 29. `Changed` is for one changing call on the volume, `Applied` for several, between which a stop may leave a
-- part.
use Rattle.std.specs.Prelude.{◌≡◌, ◌⊎◌, ℕ, true, Result, Ok, Err}
use Rattle.vol_sector.specs.Disk.{Disk, Leaves}
use Rattle.vol_tree.specs.declared.errno.Errno.{Errno}
use Rattle.vol_tree.specs.declared.errno.Errno.TheVariants as errno
use Rattle.vol_tree.specs.Tree.{Tree, Name, IsDirectory, is_empty}
use Rattle.vol_tree.specs.PathLaws.{IsBelow}
use Rattle.vol_tree.specs.Calls.{with_unit}
use Rattle.vol_tree.specs.Clauses.{Answers, is_io}
use Rattle.vol_tree.specs.Opened.{Opened, Keeps, GoesOn, ReflectsOr}
use Rattle.path_walk.specs.Paths.{Reached, Missing}
use Rattle.vol_commands.specs.Tasks.{ReflectsAny}

pub record Changed {D : Type 0} (honest : D → Type 0) (disk : D → Disk) (size failures : D → ℕ) (goes_on : ℕ → D → D → Type 0) (meant : Tree → Result Tree Errno) (old new : Opened D) (result : Result (Unit {0}) Errno) : Type 0 where
  pub answer : honest old.device → Answers (with_unit (meant old.tree)) old.tree new.tree result
  pub crash : honest old.device → Leaves (disk old.device) (disk new.device) (ReflectsOr (disk old.device) old.numbers old.tree)
  pub kept : Keeps honest size failures old new (is_io result)
  pub goes : GoesOn goes_on old new

-- what is missing is missing in a directory
abbrev pub IsPlace : Tree → Reached → Type 0
IsPlace T found = (parent : ℕ) (name : Name) → found ≡ Missing parent name → IsDirectory T parent

-- the tree that is meant; or its refusal, with the tree as it was; or 29
abbrev pub AnswersOrStops : Result Tree Errno → Tree → Tree → Result (Unit {0}) Errno → Type 0
AnswersOrStops meant old new (Ok x) = meant ≡ Ok new
AnswersOrStops meant old new (Err e) = ((meant ≡ Err e) × (new ≡ old)) ⊎ (e ≡ errno.Io)

-- The same of several calls: a stop between them leaves a part of what is meant, and so does 29.
pub record Applied {D : Type 0} (honest : D → Type 0) (disk : D → Disk) (size failures : D → ℕ) (goes_on : ℕ → D → D → Type 0) (meant : Tree → Result Tree Errno) (IsPart : Tree → Tree → Type 0) (old new : Opened D) (result : Result (Unit {0}) Errno) : Type 0 where
  pub answer : honest old.device → AnswersOrStops (meant old.tree) old.tree new.tree result
  pub part : honest old.device → IsPart old.tree new.tree
  pub crash : honest old.device → Leaves (disk old.device) (disk new.device) (ReflectsAny (disk old.device) old.numbers (IsPart old.tree))
  pub kept : Keeps honest size failures old new (is_io result)
  pub goes : GoesOn goes_on old new

-- an entry at another one or below it, in which nothing stands
pub record IsLeafBelow (T : Tree) (top leaf : ℕ) : Type 0 where
  pub below : IsBelow T top leaf
  pub bare : is_empty T leaf ≡ true
