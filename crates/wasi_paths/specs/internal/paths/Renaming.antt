-- The parts of `path_rename`; `rename_part` comes first. For a target that is there and isn't the source, the code asks
-- the volume for all `Facts` before it checks any, so `replace_checked` takes no tree.
use Rattle.std.specs.Prelude.{◌≡◌, ℕ, ◌^◌, not, ◌==◌, ◌&&◌, ◌||◌, List, Bool, length, Result, Ok, Err}
use Rattle.vol_tree.specs.Tree.{Tree, is_empty}
use Rattle.vol_tree.specs.Calls.{directory_at, is_within}
use Rattle.vol_tree.specs.Opened.{Opened as OpenedVolume}
use Rattle.path_walk.specs.Paths.{Reached, wants_directory}
use Rattle.wasi_fd.specs.declared.descriptor.Descriptor.{Descriptor}
use Rattle.wasi_fd.specs.declared.descriptor.Opened.{Opened}
use Rattle.wasm_store.specs.declared.call.Errno.{Errno as Number}
use Rattle.wasi_bodies.specs.World.{World, held_open}
use Rattle.wasi_bodies.specs.Checks.{Checked, ◌>>=◌, ◌>>◌, guard, get, of_kind, has, opened_entry, only_directories, range, found}
use Rattle.wasi_bodies.specs.paths.Rows.{path_at, rename_to}
use Rattle.wasi_bodies.specs.Calls.{word}
use Rattle.wasi_paths.specs.declared.paths.renaming.RenameCall.{RenameCall}
use Rattle.wasi_paths.specs.declared.paths.renaming.Facts.{Facts}
use Rattle.wasi_paths.specs.declared.paths.renaming.Walked.{Walked}
use Rattle.path_walk.specs.Walk.{reached_as}
use Rattle.wasm_store.specs.Bytes.{bytes_at}
use Rattle.wasi_bodies.specs.internal.Entries.{with_volume}
use Rattle.wasi_bodies.specs.internal.Asking.{StopsNext, Passes, Stops}
use Rattle.wasi_bodies.specs.Errnos.{BUSY, INVAL, ISDIR, NOTCAPABLE, NOTDIR, NOTEMPTY}
use Rattle.wasi_fd.specs.Rights.{PATH_RENAME_SOURCE, PATH_RENAME_TARGET}

-- the arguments of the call
abbrev pub rename_call : List ℕ → RenameCall
rename_call args = record {
  from_fd = word args 0;
  from_path = word args 1;
  from_len = word args 2;
  to_fd = word args 3;
  to_path = word args 4;
  to_len = word args 5;
}

-- the checks of the descriptors
abbrev pub rename_allowed : World → RenameCall → Checked (Descriptor × Descriptor)
rename_allowed w a = do
  d ← get w a.from_fd
  e ← get w a.to_fd
  of_kind only_directories d
  of_kind only_directories e
  guard (has d PATH_RENAME_SOURCE) NOTCAPABLE
  guard (has e PATH_RENAME_TARGET) NOTCAPABLE
  Ok (d, e)

-- all checks before the walks
abbrev pub rename_entered : World → List ℕ → RenameCall → Checked (Opened × Opened)
rename_entered w memory a = do
  both ← rename_allowed w a
  range memory a.from_path a.from_len
  range memory a.to_path a.to_len
  from ← opened_entry both.0
  to ← opened_entry both.1
  Ok (from, to)

-- not the directory itself
abbrev pub source_checked : ℕ → Reached → Checked ℕ
source_checked directory r = do
  source ← found r
  guard (not (source == directory)) BUSY
  Ok source

-- what comes before the row's own checks: the source, and what the second path reached
abbrev pub rename_part : World → List ℕ → RenameCall → Checked (ℕ × Reached)
rename_part w memory a = do
  both ← rename_entered w memory a
  moved ← path_at w memory both.0 a.from_path a.from_len
  target ← path_at w memory both.1 a.to_path a.to_len
  source ← found moved
  guard (not (source == both.0.serial)) BUSY
  Ok (source, target)

-- what is asked of a source and a target
pub record AreFacts (T : Tree) (source target : ℕ) (f : Facts) : Type 0 where
  pub source_is : f.source_is_directory ≡ directory_at T source
  pub within : f.is_within ≡ is_within (length T) T source target
  pub target_is : f.target_is_directory ≡ directory_at T target
  pub empty : f.is_empty ≡ is_empty T target

abbrev pub facts_of : Tree → ℕ → ℕ → Facts
facts_of T source target = record {
  source_is_directory = directory_at T source;
  is_within = is_within (length T) T source target;
  target_is_directory = directory_at T target;
  is_empty = is_empty T target;
}

-- the checks on a target that is there
abbrev pub replace_checked : Facts → Bool → Checked (Unit {0})
replace_checked f held = do
  guard (not (f.source_is_directory && f.is_within)) INVAL
  guard (not (f.source_is_directory && not f.target_is_directory)) NOTDIR
  guard (not (f.target_is_directory && not f.source_is_directory)) ISDIR
  guard (not held) BUSY
  guard (not f.target_is_directory || f.is_empty) NOTEMPTY

abbrev pub replace_row : World → ℕ → ℕ → Checked (Unit {0})
replace_row w source target = replace_checked (facts_of w.tree source target) (held_open w target)

-- what they say in a world whose volume works
abbrev pub ReplacesAs : {D : Type 0} → ℕ → ℕ → World → OpenedVolume D → Result (Unit {0}) Number → Type 0
ReplacesAs source target w new (Ok u) = (replace_row w source target ≡ Ok tt) × (with_volume new w ≡ w)
ReplacesAs source target w new (Err e) = StopsNext (λ v. replace_row v source target) w new e.0

-- what is done with what the second path reached, in a world whose volume works
abbrev pub RenamesTo : {D : Type 0} → ℕ → Bool → Reached → World → OpenedVolume D → Result (Unit {0}) Number → Type 0
RenamesTo source slash r w new (Ok u) = (rename_to w source slash r ≡ Ok new.tree) × (with_volume new w ≡ record w { tree = new.tree })
RenamesTo source slash r w new (Err e) = StopsNext (λ v. rename_to v source slash r) w new e.0

-- what both paths reach
abbrev pub WalksBoth : {D : Type 0} → List ℕ → RenameCall → World → OpenedVolume D → Result Walked Number → Type 0
WalksBoth memory a w new (Ok r) = Passes (λ v. rename_part v memory a) w new (r.source, reached_as r.target) × (r.slash ≡ wants_directory (bytes_at memory a.to_path a.to_len))
WalksBoth memory a w new (Err e) = Stops (λ v. rename_part v memory a) w new e.0
