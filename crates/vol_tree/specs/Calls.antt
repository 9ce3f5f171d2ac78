-- What calls on a tree answer, and the tree that they leave, as functions (`docs/VOLUME.md`, "The tree"); `lookup` is
-- in `Tree`, and what `stat` tells in `Stat`. No disk comes in here: clauses in `Opened` add that a call may answer 29
-- instead (`Answers`, `Tells`, `TellsBytes`), and when it does (`Keeps`).
use Rattle.std.specs.Prelude.{ℕ, zero, suc, Bool, true, false, ◌&&◌, ◌||◌, not, ◌==◌, nat_lt, List, [], ◌∷◌, length, take, drop, Option, Some, None, Result, Ok, Err, if◌then◌else◌}
use Rattle.std.specs.Option.{option_map_or}
use Rattle.vol_tree.specs.declared.errno.Errno.{Errno}
use Rattle.vol_tree.specs.declared.errno.Errno.TheVariants as errno
use Rattle.vol_tree.specs.Tree.{Tree, Node, Directory, File, Name, entry, changed, lookup, least_from, is_unused, is_in, is_empty}
use Rattle.vol_inode.specs.Space.{size_limit}
use Rattle.vol_body.specs.Bytes.{resized_bytes, written_bytes}
use Rattle.vol_tree.specs.Space.{Geometry, space}

-- The first test that holds refuses the call; where none holds, the answer is this.
abbrev pub unless : {X : Type 0} → List (Bool × Errno) → Result X Errno → Result X Errno
unless [] answer = answer
unless (check ∷ checks) answer = if check.0 then Err check.1 else unless checks answer

abbrev pub is_directory : Node → Bool
is_directory Directory = true
is_directory (File bytes) = false

abbrev pub directory_at : Tree → ℕ → Bool
directory_at T serial = option_map_or (λ e. is_directory e.node) (entry T serial) false

abbrev pub bytes_of : Node → List ℕ
bytes_of Directory = []
bytes_of (File bytes) = bytes

abbrev pub bytes_at : Tree → ℕ → List ℕ
bytes_at T serial = option_map_or (λ e. bytes_of e.node) (entry T serial) []

-- where an entry stands: its directory, and its name there
abbrev pub parent_at : Tree → ℕ → ℕ
parent_at T serial = option_map_or (λ e. e.parent) (entry T serial) 0

abbrev pub name_at : Tree → ℕ → Name
name_at T serial = option_map_or (λ e. e.name) (entry T serial) []

-- the same tree with other bytes in one file
abbrev pub with_bytes : Tree → ℕ → List ℕ → Tree
with_bytes T file bytes = option_map_or (λ e. changed T file (Some (record e { node = File bytes }))) (entry T file) T

-- A new entry has the least serial that isn't in use; without one, there is no space.
abbrev pub created : Tree → ℕ → Name → Node → Result (Tree × ℕ) Errno
created T parent name node = option_map_or (λ found. Err errno.Exist)
    (lookup T parent name)
    (option_map_or (λ serial. Ok (changed T serial (Some (record { parent = parent; name = name; node = node })), serial))
    (least_from 1 is_unused T) (Err errno.NoSpace))

abbrev pub unlinked : Tree → ℕ → Tree
unlinked T file = changed T file None

abbrev pub directory_removed : Tree → ℕ → Result Tree Errno
directory_removed T directory = unless
    ((directory == 1, errno.Invalid) ∷ (not (is_empty T directory), errno.NotEmpty) ∷ [])
    (Ok (changed T directory None))

-- whether `serial` is `top` or, in at most `steps` steps up, below it
abbrev pub is_within : ℕ → Tree → ℕ → ℕ → Bool
is_within zero T top serial = serial == top
is_within (suc steps) T top serial = (serial == top) || option_map_or (λ e. is_within steps T top e.parent) (entry T serial) false

abbrev pub moved : Tree → ℕ → ℕ → Name → Tree
moved T serial parent name = option_map_or (λ e. changed T serial (Some (record e { parent = parent; name = name }))) (entry T serial) T

-- onto another entry: a directory onto an empty directory, a file onto a file
abbrev pub moved_onto : Tree → ℕ → ℕ → Name → ℕ → Result Tree Errno
moved_onto T serial parent name target = if target == serial then Ok T else unless
    ((directory_at T serial && not (directory_at T target), errno.NotDirectory)
    ∷ (not (directory_at T serial) && directory_at T target, errno.IsDirectory)
    ∷ (directory_at T target && not (is_empty T target), errno.NotEmpty) ∷ [])
    (Ok (moved (changed T target None) serial parent name))

abbrev pub renamed : Tree → ℕ → ℕ → Name → Result Tree Errno
renamed T serial parent name = unless
    ((serial == 1, errno.Invalid) ∷ (is_within (length T) T serial parent, errno.Invalid) ∷ [])
    (option_map_or (moved_onto T serial parent name) (lookup T parent name) (Ok (moved T serial parent name)))

-- with these bytes in the file, if no rule on sizes is broken
abbrev pub if_it_fits : Geometry → Tree → ℕ → List ℕ → Result Tree Errno
if_it_fits volume T file bytes = unless
    ((nat_lt (size_limit volume.version) (length bytes), errno.TooBig)
    ∷ (nat_lt volume.data_sectors (space (with_bytes T file bytes)), errno.NoSpace) ∷ [])
    (Ok (with_bytes T file bytes))

abbrev pub written : Geometry → Tree → ℕ → ℕ → List ℕ → Result Tree Errno
written volume T file offset [] = Ok T
written volume T file offset (byte ∷ bytes) = if_it_fits volume T file (written_bytes (bytes_at T file) offset (byte ∷ bytes))

abbrev pub resized : Geometry → Tree → ℕ → ℕ → Result Tree Errno
resized volume T file size = if_it_fits volume T file (resized_bytes size (bytes_at T file))

abbrev pub read_bytes : Tree → ℕ → ℕ → ℕ → List ℕ
read_bytes T file offset count = take count (drop offset (bytes_at T file))

-- the least serial above `after` in the directory
abbrev pub next_child : Tree → ℕ → ℕ → Option ℕ
next_child T directory after = least_from (suc after) (is_in directory) (drop after T)

abbrev pub is_file_at : Tree → ℕ → Bool
is_file_at T serial = option_map_or (λ e. not (is_directory e.node)) (entry T serial) false

-- the new tree, with nothing else to answer
abbrev pub with_unit : Result Tree Errno → Result (Tree × Unit {0}) Errno
with_unit (Ok T) = Ok (T, tt)
with_unit (Err e) = Err e
