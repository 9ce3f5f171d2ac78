-- What the tasks that only ask print, and which tree `put` leaves (`docs/USING.md`, "Commands"). `Prints` is for `ls`,
-- `get`, `stat` and `check`, and `Puts` for `put`; `reached` says where a path of the command line leads.
use Rattle.std.specs.Prelude.{◌≡◌, ◌⊎◌, ◌==◌, ℕ, Bool, List, [], ◌∷◌, Option, Result, Ok, Err, if◌then◌else◌, codes, decimal, false, true}
use Rattle.std.specs.List.{concat}
use Rattle.std.specs.Option.{option_map_or}
use Rattle.std.specs.Io.KnownBytes.{Appends, Consumes, IsAtEnd, Keeps}
use Rattle.vol_tree.specs.declared.superblock.Superblock.{Superblock}
use Rattle.vol_tree.specs.declared.errno.Errno.{Errno}
use Rattle.vol_tree.specs.declared.errno.Errno.TheVariants as errno
use Rattle.vol_tree.specs.Superblock.{version_number}
use Rattle.vol_tree.specs.Tree.{Tree, Node, Directory, File, Entry, entry}
use Rattle.vol_tree.specs.Space.{Geometry, space, size_of}
use Rattle.vol_tree.specs.Stats.{entries_of}
use Rattle.vol_tree.specs.Calls.{directory_at, bytes_at, with_bytes, created, if_it_fits}
use Rattle.vol_tree.specs.Opened.{data_sectors, geometry}
use Rattle.path_walk.specs.Paths.{Reached, Found, Missing, slash, ◌>>=◌}
use Rattle.path_walk.specs.Rooted.{reached_from_root}
use Rattle.sandbox_args.specs.Request.{Text}
use Rattle.vol_commands.specs.declared.failure.Failure.{Failure}
use Rattle.vol_commands.specs.declared.failure.Failure.TheVariants as failure
pub use Rattle.vol_tar.specs.Import.{ReflectsAny}
pub use Rattle.vol_tar.specs.Placing.{BeginWith, emptied}
use Rattle.sandbox_args.specs.declared.request.ListForm.{ListForm}
use Rattle.vol_commands.specs.Listing.{listing}
use Rattle.stream_answers.specs.Printing.{AppendsPart}

-- ---- paths

-- a path of the command line begins with a slash, and the rest goes from the root
abbrev pub reached : Tree → Text → Result (Reached × Bool) Errno
reached T [] = Err errno.Invalid
reached T (c ∷ rest) = if c == slash then reached_from_root T rest else Err errno.Invalid

-- the entry that is reached, if it is there
abbrev pub entry_found : Reached × Bool → Result ℕ Errno
entry_found (Found serial, wants) = Ok serial
entry_found (Missing parent name, wants) = Err errno.NotFound

abbrev pub serial_named : Tree → Text → Result ℕ Errno
serial_named T path = reached T path >>= entry_found

-- with it whether it is a directory
abbrev pub entry_named : Tree → Text → Result (ℕ × Bool) Errno
entry_named T path = serial_named T path >>= λ serial. Ok (serial, directory_at T serial)

abbrev pub directory_named : Tree → Text → Result ℕ Errno
directory_named T path = entry_named T path >>= λ e. if e.1 then Ok e.0 else Err errno.NotDirectory

abbrev pub file_named : Tree → Text → Result ℕ Errno
file_named T path = entry_named T path >>= λ e. if e.1 then Err errno.IsDirectory else Ok e.0

-- ---- what is printed

-- the version, the entries and the slots, the sectors that the files need and those that there are
unfoldable pub summary : Superblock → Tree → Text
summary v T = concat
    (codes "version " ∷ decimal (version_number v.version)
    ∷ codes ", entries " ∷ decimal (entries_of T) ∷ codes " of " ∷ decimal v.slots
    ∷ codes ", sectors " ∷ decimal (space T) ∷ codes " of " ∷ decimal (data_sectors v) ∷ codes "\n" ∷ [])

abbrev pub word_of : Node → Text
word_of Directory = codes "directory"
word_of (File bytes) = codes "file"

-- what an entry is: a directory or a file, its size, its serial
unfoldable pub facts_of : ℕ → Entry → Text
facts_of serial e = concat
    (codes "kind:" ∷ word_of e.node ∷ codes "\nsize:" ∷ decimal (size_of e.node) ∷ codes "\nserial:" ∷ decimal serial ∷ codes "\n" ∷ [])

abbrev pub facts_at : Tree → ℕ → Text
facts_at T serial = option_map_or (facts_of serial) (entry T serial) []

-- ---- what a task ends with

abbrev pub printed_listing : ListForm → Tree → Text → Result Text Errno
printed_listing form T path = directory_named T path >>= λ serial. Ok (listing form T serial)

abbrev pub printed_file : Tree → Text → Result Text Errno
printed_file T path = file_named T path >>= λ serial. Ok (bytes_at T serial)

abbrev pub printed_facts : Tree → Text → Result Text Errno
printed_facts T path = serial_named T path >>= λ serial. Ok (facts_at T serial)

-- a beginning of what is meant was printed, and nothing where an errno is meant
abbrev pub PrintsPart : Result Text Errno → Option (List ℕ) → Option (List ℕ) → Type 0
PrintsPart (Ok text) before after = AppendsPart before after text
PrintsPart (Err e) before after = Keeps before after

-- A task that only asks: it printed what is meant; or it is refused with the meant errno, and printed nothing. Or, with a
-- beginning printed, it is refused with 29, since the device failed, or the output failed.
abbrev pub Prints : Result Text Errno → Option (List ℕ) → Option (List ℕ) → Result (Unit {0}) Failure → Type 0
Prints meant before after (Ok x) = (text : Text) × (meant ≡ Ok text) × Appends before after text
Prints meant before after (Err (failure.Volume fault)) = ⊥
Prints meant before after (Err (failure.Tree e)) = ((meant ≡ Err e) × Keeps before after) ⊎ ((e ≡ errno.Io) × PrintsPart meant before after)
Prints meant before after (Err failure.Stream) = (text : Text) × (meant ≡ Ok text) × AppendsPart before after text

-- ---- putting

-- What `put` begins with: the file is made, or what it has is taken away.
abbrev pub begun_at : Superblock → Tree → Reached × Bool → Result (Tree × ℕ) Errno
begun_at v T (Found serial, wants) = emptied (geometry v) T serial
begun_at v T (Missing parent name, true) = Err errno.IsDirectory
begun_at v T (Missing parent name, false) = created T parent name (File [])

abbrev pub begun : Superblock → Tree → Text → Result (Tree × ℕ) Errno
begun v T path = reached T path >>= begun_at v T

-- the tree with a beginning of the input in the file
abbrev pub HasBeginning : Tree → ℕ → Option (List ℕ) → Tree → Type 0
HasBeginning T file known U = (bytes : List ℕ) × BeginWith known bytes × (U ≡ with_bytes T file bytes)

-- All of the input is in the file. Or a beginning of it is: where the input failed, or the device (29), or where a
-- longer beginning doesn't fit.
abbrev pub Fills : Geometry → Tree → ℕ → Option (List ℕ) → Option (List ℕ) → Tree → Result (Unit {0}) Failure → Type 0
Fills g T file before after U (Ok x) = (bytes : List ℕ) × Consumes before after bytes × IsAtEnd after × (U ≡ with_bytes T file bytes)
Fills g T file before after U (Err (failure.Volume fault)) = ⊥
Fills g T file before after U (Err (failure.Tree e)) = HasBeginning T file before U
    × ((e ≡ errno.Io) ⊎ ((bytes : List ℕ) × BeginWith before bytes × (if_it_fits g T file bytes ≡ Err e)))
Fills g T file before after U (Err failure.Stream) = HasBeginning T file before U

-- `put` is refused where it begins, and then nothing changes; or the file is there and empty, and is filled.
abbrev pub Puts : Superblock → Tree → Text → Option (List ℕ) → Option (List ℕ) → Tree → Result (Unit {0}) Failure → Type 0
Puts v T path before after U result =
    ((e : Errno) × (result ≡ Err (failure.Tree e)) × (U ≡ T) × ((begun v T path ≡ Err e) ⊎ (e ≡ errno.Io)))
    ⊎ ((B : Tree) × (file : ℕ) × (begun v T path ≡ Ok (B, file)) × Fills (geometry v) B file before after U result)

-- what a stop inside `put` may leave: the tree before it, or the file with a beginning of the input
abbrev pub IsPartOfPut : Superblock → Tree → Text → Option (List ℕ) → Tree → Type 0
IsPartOfPut v T path known U = (U ≡ T) ⊎ ((B : Tree) × (file : ℕ) × (begun v T path ≡ Ok (B, file)) × HasBeginning B file known U)
