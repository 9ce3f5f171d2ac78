-- The checks that a call makes, one after another: the first that fails answers (`docs/DECISIONS.md`, "WASI calls"). A
-- row is a chain of such checks and ends in `Done`: the world, the bytes and the results that a success leaves.
use Rattle.std.specs.Prelude.{ℕ, zero, suc, ◌+◌, ◌*◌, ◌^◌, Bool, not, ◌==◌, nat_lt, nat_le, List, [], ◌∷◌, ◌++◌, length, take, drop, Option, Some, None, Result, Ok, Err, if◌then◌else◌, bit_and, sum_by}
use Rattle.std.specs.Option.{option_map_or, ok_or}
use Rattle.std.specs.List.{list_all}
use Rattle.byteorder.specs.Endian.{little_number}
use Rattle.wasm_store.specs.Bytes.{bytes_at, written}
use Rattle.vol_tree.specs.declared.errno.Errno.{Errno}
use Rattle.vol_tree.specs.Numbers.{number_of}
use Rattle.path_walk.specs.Paths.{Reached, Found, Missing, path_read, wants_directory, stays_inside, resolved}
use Rattle.wasi_fd.specs.declared.descriptor.Descriptor.{Descriptor}
use Rattle.wasi_fd.specs.declared.descriptor.Descriptor.TheVariants.{Stream, Entry}
use Rattle.wasi_fd.specs.declared.descriptor.EntryKind.{EntryKind}
use Rattle.wasi_fd.specs.declared.descriptor.EntryKind.TheVariants.{Directory, File}
use Rattle.wasi_fd.specs.declared.descriptor.Opened.{Opened}
use Rattle.wasi_fd.specs.Table.{base_of}
use Rattle.wasi_bodies.specs.World.{World}
use Rattle.wasi_bodies.specs.Errnos.{BADF, FAULT, INVAL, IO, ISDIR, NOENT, NOTCAPABLE, NOTDIR, SPIPE}
use Rattle.wasi_bodies.specs.declared.checks.buffers.TheConstants.{MOST_BUFFERS}

-- an answer, or the errno of the first check that failed
abbrev pub Checked : Type 0 → Type 0
Checked X = Result X ℕ

-- It is shut, so that a row's checks stay apart in proofs.
unfoldable pub and_then : {A B : Type 0} → Checked A → (A → Checked B) → Checked B
and_then (Ok x) f = f x
and_then (Err e) f = Err e

infixl 10 ◌>>=◌
abbrev pub ◌>>=◌ : {A B : Type 0} → Checked A → (A → Checked B) → Checked B
r >>= f = and_then r f

infixl 10 ◌>>◌
abbrev pub ◌>>◌ : {B : Type 0} → Checked (Unit {0}) → Checked B → Checked B
a >> b = a >>= (λ _. b)

-- an errno, where the test fails; shut as `and_then` is
unfoldable pub guard : Bool → ℕ → Checked (Unit {0})
guard holds errno = if holds then Ok tt else Err errno

-- the answer of a call of the tree, whose refusal has a number
abbrev pub numbered : {X : Type 0} → Result X Errno → Checked X
numbered (Ok x) = Ok x
numbered (Err e) = Err (number_of e)

-- What a call that answers 0 leaves: the world; bytes that it fills in, in order; and its results, written last.
pub record Done : Type 0 where
  pub world : World
  pub fills : List (ℕ × List ℕ)
  pub results : List (ℕ × List ℕ)

-- nothing is left but the world
abbrev pub only_world : World → Done
only_world w = record { world = w; fills = []; results = [] }

-- the world, and one result
abbrev pub with_result : World → ℕ → List ℕ → Done
with_result w at bytes = record { world = w; fills = []; results = (at, bytes) ∷ [] }

-- memory with these bytes at these places, one after another
abbrev pub put : List ℕ → List (ℕ × List ℕ) → List ℕ
put memory [] = memory
put memory (w ∷ ws) = put (written memory w.0 w.1) ws

-- ---- descriptors: open; of a kind that the call takes; with these rights

-- which kinds are refused, and as what
pub record Refusals : Type 0 where
  pub stream : Option ℕ
  pub directory : Option ℕ
  pub file : Option ℕ

-- how an entry of this kind is refused
abbrev pub by_kind : Refusals → EntryKind → Option ℕ
by_kind r Directory = r.directory
by_kind r File = r.file

-- how the descriptor is refused
abbrev pub refusal : Refusals → Descriptor → Option ℕ
refusal r (Stream s) = r.stream
refusal r (Entry o) = by_kind r o.kind

-- refused by its kind, or not
abbrev pub of_kind : Refusals → Descriptor → Checked (Unit {0})
of_kind r d = option_map_or (λ errno. Err errno) (refusal r d) (Ok tt)

-- the descriptor has all of these rights
abbrev pub has : Descriptor → ℕ → Bool
has d rights = bit_and (base_of d) rights == rights

-- what an open number stands for
abbrev pub get : World → ℕ → Checked Descriptor
get w fd = ok_or (w.table fd) BADF

-- what an open number stands for that the call takes and whose descriptor has these rights
abbrev pub descriptor : World → ℕ → Refusals → ℕ → Checked Descriptor
descriptor w fd refusals rights = do
  d ← get w fd
  of_kind refusals d
  guard (has d rights) NOTCAPABLE
  Ok d

-- what an entry's descriptor opened; for a call that takes no stream
abbrev pub opened_entry : Descriptor → Checked Opened
opened_entry (Stream s) = Err BADF
opened_entry (Entry o) = Ok o

-- an entry that is open under this number and has these rights
abbrev pub entry_at : World → ℕ → Refusals → ℕ → Checked Opened
entry_at w fd refusals rights = descriptor w fd refusals rights >>= opened_entry

-- all are taken
abbrev pub any_kind : Refusals
any_kind = record { stream = None; directory = None; file = None }

-- anything else is not a directory
abbrev pub only_directories : Refusals
only_directories = record { stream = Some NOTDIR; directory = None; file = Some NOTDIR }

-- files and streams
abbrev pub no_directories : Refusals
no_directories = record { stream = None; directory = Some ISDIR; file = None }

-- a stream has no positions
abbrev pub only_files : Refusals
only_files = record { stream = Some SPIPE; directory = Some ISDIR; file = None }

-- a stream has no size that could be set
abbrev pub sized : Refusals
sized = record { stream = Some INVAL; directory = Some ISDIR; file = None }

-- files and directories
abbrev pub no_streams : Refusals
no_streams = record { stream = Some INVAL; directory = None; file = None }

-- ---- ranges of memory, also of no bytes

-- the bytes lie in memory
abbrev pub range : List ℕ → ℕ → ℕ → Checked (Unit {0})
range memory pointer len = guard (nat_le (pointer + len) (length memory)) FAULT

-- a pointer and a length
abbrev pub Buffer : Type 0
Buffer = ℕ × ℕ

-- the first n buffers of an array
abbrev pub buffers_in : ℕ → List ℕ → List Buffer
buffers_in zero bytes = []
buffers_in (suc n) bytes = (little_number 4 bytes, little_number 4 (drop 4 bytes)) ∷ buffers_in n (drop 8 bytes)

-- how many bytes all buffers have
abbrev pub total : List Buffer → ℕ
total bs = sum_by (λ b. b.1) bs

-- the buffer lies in memory
abbrev pub is_inside : List ℕ → Buffer → Bool
is_inside memory b = nat_le (b.0 + b.1) (length memory)

-- the buffers of an array; their sum is known once they are read
abbrev pub buffers : List ℕ → ℕ → ℕ → Checked (List Buffer)
buffers memory iovs count =
    let all = buffers_in count (bytes_at memory iovs (8 * count)) in do
      guard (nat_le count MOST_BUFFERS) INVAL
      range memory iovs (8 * count)
      guard (nat_lt (total all) (2 ^ 32)) INVAL
      guard (list_all (is_inside memory) all) FAULT
      Ok all

-- the bytes that stand in the buffers
abbrev pub gathered : List ℕ → List Buffer → List ℕ
gathered memory [] = []
gathered memory (b ∷ bs) = bytes_at memory b.0 b.1 ++ gathered memory bs

-- the bytes dealt out to the buffers in order
abbrev pub scattered : List ℕ → List Buffer → List (ℕ × List ℕ)
scattered bytes [] = []
scattered bytes (b ∷ bs) = (b.0, take b.1 bytes) ∷ scattered (drop b.1 bytes) bs

-- ---- the volume: each walk (after the path is read and found to stay inside) and each call of the tree answers 29 once
-- it has failed

-- what a path leads to from an open directory
abbrev pub walk : World → Opened → List ℕ → Checked Reached
walk w directory text = do
  components ← numbered (path_read text)
  guard (stays_inside 0 components) NOTCAPABLE
  guard (not w.volume_failed) IO
  numbered (resolved w.tree directory.serial (wants_directory text) components)

-- the answer of a call of the tree
abbrev pub tree_call : {X : Type 0} → World → Result X Errno → Checked X
tree_call w answer = do
  guard (not w.volume_failed) IO
  numbered answer

-- what is there
abbrev pub found : Reached → Checked ℕ
found (Found serial) = Ok serial
found (Missing parent name) = Err NOENT
