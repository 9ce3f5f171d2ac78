-- A path of a guest, and what it reaches from a directory (`docs/PATHS.md`, "Reading a path", "Walking"). The meaning
-- is `resolved`, whose walk goes back for a `..`; `stepped` goes up by parents instead, as the code does.
use Rattle.std.specs.Prelude.{ℕ, ◌+◌, ◌-◌, Bool, true, ◌&&◌, ◌||◌, not, ◌==◌, nat_lt, List, [], ◌∷◌, length, drop, Result, Ok, Err, if◌then◌else◌, get_or}
use Rattle.std.specs.Option.{option_map_or}
use Rattle.std.specs.List.{filter, list_any, slice_split}
use Rattle.std.specs.Str.Lossy.{utf8_valid_len}
use Rattle.vol_tree.specs.declared.errno.Errno.{Errno}
use Rattle.vol_tree.specs.declared.errno.Errno.TheVariants as errno
use Rattle.vol_tree.specs.Tree.{Tree, Path, Name, Entry, entry, same_name, lookup}
use Rattle.vol_tree.specs.Calls.{unless, directory_at}

abbrev pub slash : ℕ
slash = 47

abbrev pub dot : Name
dot = 46 ∷ []

abbrev pub dots : Name
dots = 46 ∷ 46 ∷ []

-- the parts between slashes
abbrev pub parts_of : List ℕ → List Name
parts_of text = slice_split (λ c. c == slash) text

abbrev pub is_skipped : Name → Bool
is_skipped part = same_name part [] || same_name part dot

-- the parts that count: not the empty ones, nor `.`
abbrev pub components_of : List ℕ → List Name
components_of text = filter (λ part. not (is_skipped part)) (parts_of text)

abbrev pub last_or : {X : Type 0} → X → List X → X
last_or x [] = x
last_or x (y ∷ ys) = last_or y ys

-- a slash or `.` at the end
abbrev pub wants_directory : List ℕ → Bool
wants_directory text = is_skipped (last_or [] (parts_of text))

-- the refusals of a path, in their order
abbrev pub path_read : List ℕ → Result (List Name) Errno
path_read text = unless
    ((length text == 0, errno.NotFound)
    ∷ (not (utf8_valid_len text == length text), errno.BadText)
    ∷ (list_any (λ c. c == 0) text, errno.Invalid)
    ∷ (get_or text 0 0 == slash, errno.NotCapable)
    ∷ (list_any (λ part. nat_lt 255 (length part)) (parts_of text), errno.NameTooLong) ∷ [])
    (Ok (components_of text))

-- No first part of the components has more `..` than names; `depth` names stand before them.
abbrev pub stays_inside : ℕ → List Name → Bool
stays_inside depth [] = true
stays_inside depth (name ∷ names) = if same_name name dots
    then nat_lt 0 depth && stays_inside (depth - 1) names
    else stays_inside (depth + 1) names

pub data Reached : Type 0 where
  Found : ℕ → Reached
  Missing : (parent : ℕ) (name : Name) → Reached

-- only the last name may be missing
abbrev pub missing : ℕ → Name → List Name → Result Reached Errno
missing here name [] = Ok (Missing here name)
missing here name (next ∷ names) = Err errno.NotFound

-- `above` are the directories that were gone through, the last one first: `..` goes back to the last of them.
abbrev pub walked : Tree → ℕ → List ℕ → List Name → Result Reached Errno
walked T here above [] = Ok (Found here)
walked T here above (name ∷ names) =
    if not (directory_at T here) then Err errno.NotDirectory
    else (if same_name name dots then walked T (get_or above 0 here) (drop 1 above) names
    else option_map_or (λ child. walked T child (here ∷ above) names) (lookup T here name) (missing here name names))

-- a directory where the path wants one
abbrev pub as_wanted : Tree → Bool → Reached → Result Reached Errno
as_wanted T wants (Found serial) = if wants && not (directory_at T serial) then Err errno.NotDirectory else Ok (Found serial)
as_wanted T wants (Missing parent name) = Ok (Missing parent name)

infixl 10 ◌>>=◌
abbrev pub ◌>>=◌ : {A B : Type 0} → Result A Errno → (A → Result B Errno) → Result B Errno
(Ok x) >>= f = f x
(Err e) >>= f = Err e

-- from a directory; that the components stay inside is asked first
abbrev pub resolved : Tree → ℕ → Bool → List Name → Result Reached Errno
resolved T directory wants names = if stays_inside 0 names
    then walked T directory [] names >>= as_wanted T wants
    else Err errno.NotCapable

-- the names that are left of components when each `..` has taken away the name before it, the last one first
abbrev pub names_left : Path → List Name → Path
names_left path [] = path
names_left path (name ∷ names) = names_left (if same_name name dots then drop 1 path else name ∷ path) names

-- ---- the same by the parents that the entries name, as a program walks that keeps no list of where it was

-- the root's is itself
abbrev pub parent_at : Tree → ℕ → ℕ
parent_at T serial = if serial == 1 then 1 else option_map_or (λ (e : Entry). e.parent) (entry T serial) serial

abbrev pub stepped : Tree → ℕ → List Name → Result Reached Errno
stepped T here [] = Ok (Found here)
stepped T here (name ∷ names) =
    if not (directory_at T here) then Err errno.NotDirectory
    else (if same_name name dots then stepped T (parent_at T here) names
    else option_map_or (λ child. stepped T child names) (lookup T here name) (missing here name names))
