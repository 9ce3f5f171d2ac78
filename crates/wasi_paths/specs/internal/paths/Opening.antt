-- The parts of `path_open`. `open_part` comes first and changes nothing; after it a `PathTarget` says whether an entry is
-- opened as it is, cut to no bytes, or made.
use Rattle.std.specs.Prelude.{◌≡◌, ◌≤◌, ℕ, ◌+◌, not, ◌==◌, ◌&&◌, ◌||◌, nat_le, List, [], Bool, true, false, Some, Result, Ok, Err, if◌then◌else◌, bit_and}
use Rattle.vol_inode.specs.Name.{IsName}
use Rattle.wasm_store.specs.Bytes.{bytes_at}
use Rattle.wasm_store.specs.declared.call.Errno.{Errno as Number}
use Rattle.vol_tree.specs.declared.errno.Errno.{Errno}
use Rattle.vol_tree.specs.Tree.{Tree, Name, File, IsDirectory}
use Rattle.vol_tree.specs.Space.{Geometry}
use Rattle.vol_tree.specs.Calls.{directory_at, resized, created}
use Rattle.vol_tree.specs.Opened.{Opened as OpenedVolume, IsSerial, geometry}
use Rattle.path_walk.specs.Paths.{Reached, Found, Missing, wants_directory}
use Rattle.vol_tree.specs.declared.superblock.Superblock.{Superblock}
use Rattle.wasi_fd.specs.declared.descriptor.Descriptor.TheVariants as Descriptor
use Rattle.wasi_fd.specs.declared.descriptor.Opened.{Opened}
use Rattle.wasi_fd.specs.Table.{Table}
use Rattle.wasi_bodies.specs.World.{World}
use Rattle.wasi_bodies.specs.Checks.{Checked, ◌>>=◌, ◌>>◌, guard, entry_at, only_directories, range}
use Rattle.wasi_bodies.specs.paths.Rows.{open_rights, is_set, creat, directory_only, excl, trunc, path_at, open_checks, new_number}
use Rattle.wasi_bodies.specs.Calls.{word, long}
use Rattle.wasi_paths.specs.declared.paths.opening.OpenCall.{OpenCall}
use Rattle.wasi_paths.specs.declared.paths.opening.PathTarget.{PathTarget}
use Rattle.wasi_paths.specs.declared.paths.opening.PathTarget.TheVariants.{Entry, Cut, New}
use Rattle.wasi_bodies.specs.internal.Entries.{with_volume, is_directory_kind, IsFileOf}
use Rattle.wasi_bodies.specs.internal.Asking.{StopsNext, Passes, Stops}
use Rattle.wasi_bodies.specs.Errnos.{EXIST, INVAL, ISDIR, NOENT, NOTDIR, NOTSUP}

-- the arguments of the call; those at 1 are the lookup flags
abbrev pub open_call : List ℕ → OpenCall
open_call args = record {
  fd = word args 0;
  path = word args 2;
  len = word args 3;
  oflags = word args 4;
  base = long args 5;
  inheriting = long args 6;
  fdflags = word args 7;
  result_at = word args 8;
}

-- the checks of the flags
abbrev pub flags_checked : ℕ → ℕ → Checked (Unit {0})
flags_checked oflags fdflags = do
  guard (nat_le oflags 15 && nat_le fdflags 31) INVAL
  guard (not (is_set oflags directory_only && is_set oflags creat)) INVAL
  guard (bit_and fdflags (2 + 8 + 16) == 0) NOTSUP

-- all checks before the walk
abbrev pub open_entered : World → List ℕ → OpenCall → Checked Opened
open_entered w memory a = do
  directory ← entry_at w a.fd only_directories (open_rights a.oflags)
  flags_checked a.oflags a.fdflags
  range memory a.path a.len
  range memory a.result_at 4
  Ok directory

-- those on a directory, or a file, that is there
abbrev pub found_checked : ℕ → Bool → Checked (Unit {0})
found_checked oflags is_directory = do
  guard (not (is_set oflags creat && is_set oflags excl)) EXIST
  if is_directory
      then guard (not (is_set oflags creat || is_set oflags trunc)) ISDIR
      else guard (not (is_set oflags directory_only)) NOTDIR

-- those on a name that isn't there
abbrev pub missing_checked : ℕ → Bool → Checked (Unit {0})
missing_checked oflags slash = do
  guard (is_set oflags creat) NOENT
  guard (not slash) ISDIR

-- what comes before anything is changed: the directory, what was reached and the new number
abbrev pub open_part : World → List ℕ → OpenCall → Checked (Opened × Reached × ℕ)
open_part w memory a = do
  directory ← open_entered w memory a
  reached ← path_at w memory directory a.path a.len
  open_checks w a.oflags (wants_directory (bytes_at memory a.path a.len)) reached
  number ← new_number w
  Ok (directory, reached, number)

-- how what was reached is opened
abbrev pub IsTarget : Tree → ℕ → Reached → PathTarget → Type 0
IsTarget T oflags r (Entry serial kind) = (r ≡ Found serial) × (directory_at T serial ≡ is_directory_kind kind) × ((not (directory_at T serial) && is_set oflags trunc) ≡ false)
IsTarget T oflags r (Cut serial) = (r ≡ Found serial) × (directory_at T serial ≡ false) × (is_set oflags trunc ≡ true)
IsTarget T oflags r (New parent name) = r ≡ Missing parent name.now

abbrev pub LeadsToSerial : ℕ → PathTarget → Type 0
LeadsToSerial serial (Entry s kind) = s ≡ serial
LeadsToSerial serial (Cut s) = s ≡ serial
LeadsToSerial serial (New parent name) = ⊥

abbrev pub target_is_directory : PathTarget → Bool
target_is_directory (Entry s kind) = is_directory_kind kind
target_is_directory (Cut s) = false
target_is_directory (New parent name) = false

-- a name that may be made in a directory
pub record MayMake {D : Type 0} (honest : D → Type 0) (v : OpenedVolume D) (parent : ℕ) (name : Name) : Type 0 where
  pub first : 1 ≤ parent
  pub is_name : IsName name
  pub directory : honest v.device → IsDirectory v.tree parent

-- the call of the tree may be made
abbrev pub CanOpen : {D : Type 0} → (D → Type 0) → OpenedVolume D → PathTarget → Type 0
CanOpen honest v (Entry serial kind) = IsSerial v.numbers serial
CanOpen honest v (Cut serial) = IsFileOf honest v serial
CanOpen honest v (New parent name) = MayMake honest v parent name.now

abbrev pub with_serial : ℕ → Result Tree Errno → Result (Tree × ℕ) Errno
with_serial serial (Ok T) = Ok (T, serial)
with_serial serial (Err e) = Err e

-- the tree and the entry that is opened in it
abbrev pub made : Geometry → Tree → PathTarget → Result (Tree × ℕ) Errno
made volume T (Entry serial kind) = Ok (T, serial)
made volume T (Cut serial) = with_serial serial (resized volume T serial 0)
made volume T (New parent name) = created T parent name.now (File [])

-- the checks on what was reached, in a world whose volume works
abbrev pub ChecksAs : {D : Type 0} → ℕ → Bool → Reached → World → OpenedVolume D → Result PathTarget Number → Type 0
ChecksAs oflags slash r w new (Ok t) = (open_checks w oflags slash r ≡ Ok tt) × IsTarget w.tree oflags r t × (with_volume new w ≡ w)
ChecksAs oflags slash r w new (Err e) = StopsNext (λ v. open_checks v oflags slash r) w new e.0

-- what comes before anything is changed, and how the entry is opened
pub record ReachesTarget {D : Type 0} (memory : List ℕ) (a : OpenCall) (w : World) (new : OpenedVolume D) (directory : Opened) (t : PathTarget) : Type 0 where
  pub reached : Reached
  pub number : ℕ
  pub free : new_number w ≡ Ok number
  pub passes : Passes (λ v. open_part v memory a) w new (directory, reached, number)
  pub target : IsTarget w.tree a.oflags reached t

abbrev pub Targets : {D : Type 0} → List ℕ → OpenCall → World → OpenedVolume D → Result (Opened × PathTarget) Number → Type 0
Targets memory a w new (Ok p) = ReachesTarget memory a w new p.0 p.1
Targets memory a w new (Err e) = Stops (λ v. open_part v memory a) w new e.0

-- each open entry has a number of the volume
abbrev pub AreSerials : Superblock → Table → Type 0
AreSerials numbers table = (fd : ℕ) (o : Opened) → table fd ≡ Some (Descriptor.Entry o) → IsSerial numbers o.serial

-- the world with this volume and these descriptors
abbrev pub with_both : {D : Type 0} → OpenedVolume D → Table → World → World
with_both v table w = record w { volume = geometry v.numbers; tree = v.tree; volume_failed = v.failed; table = table }
