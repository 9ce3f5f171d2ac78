-- What a task (`ls`, `get`, `put`, `stat`, `check`, `upgrade` or a change of the tree) does with the volume on a device
-- (`docs/USING.md`, "Commands"). `Performs` is the contract of `perform`: on an honest device (`docs/VOLUME.md`, "The
-- device") the task is done with the volume's tree, or the volume is refused, and its fault says why (`RefusedBy`).
use Rattle.std.specs.Prelude.{◌≡◌, ◌⊎◌, ◌↔◌, ℕ, Bool, true, false, List, Option, Result, Ok, Err, OnOk, IfErr}
use Rattle.std.specs.Io.KnownBytes.{Keeps}
use Rattle.vol_sector.specs.Disk.{Image, Disk, Leaves, counted}
use Rattle.vol_sector.specs.declared.fault.VolumeFault.{VolumeFault}
use Rattle.vol_sector.specs.declared.fault.VolumeFault.TheVariants as fault
use Rattle.vol_sector.specs.declared.fault.VolumeFault.TheVariants.{NotAVolume, Version}
use Rattle.vol_inode.specs.declared.version.Version.{Version as Form}
use Rattle.vol_inode.specs.declared.version.Version.TheVariants.{Two, Four}
use Rattle.vol_tree.specs.declared.superblock.Superblock.{Superblock}
use Rattle.vol_tree.specs.Superblock.{IsOlder}
use Rattle.vol_tree.specs.Tree.{Tree}
use Rattle.vol_tree.specs.Stands.{StandsAs}
use Rattle.vol_tree.specs.Clauses.{raised}
use Rattle.vol_tree.specs.Opening.{StandsOn, HoldsOn, NoVolumeOn, HasNoVersion, IsDamaged}
use Rattle.sandbox_args.specs.declared.request.Task.{Task}
use Rattle.sandbox_args.specs.declared.request.Task.TheVariants.{List as Ls, ListAs as LsAs, Get, Put, PutWhole, Check, Upgrade, Stat, Change as Changing}
use Rattle.vol_commands.specs.declared.failure.Failure.{Failure}
use Rattle.vol_commands.specs.declared.failure.Failure.TheVariants.{Volume}
use Rattle.vol_commands.specs.Blame.{blames_device}
use Rattle.vol_commands.specs.Listing.{plain}
use Rattle.vol_commands.specs.Tasks.{IsPartOfPut, Prints, Puts, ReflectsAny, printed_facts, printed_file, printed_listing, summary}
use Rattle.vol_commands.specs.Changes.{Changes, IsPartOfChange}
use Rattle.vol_commands.specs.Replacing.{IsPartOfWhole, PutsWhole, path_beside}

-- the version that an upgrade makes, a huge one or not
abbrev pub version_after : (huge : Bool) → Form
version_after true = Four
version_after false = Two

-- An upgrade to a version is refused with 35 for it and each newer one, and else only with 33.
pub record Upgrades (to : Form) (v : Superblock) (done : Result (Unit {0}) Failure) : Type 0 where
  pub newest : (IsOlder v.version to → ⊥) → done ≡ Err (Volume fault.Upgraded)
  pub refused : IsOlder v.version to → IfErr done (λ f. f ≡ Volume fault.Device)

-- What a task prints of a volume's tree, and the tree that it leaves, by what is known of the input and the output
-- before it and after.
abbrev pub Does : Task → Superblock → Tree → Option (List ℕ) → Option (List ℕ) → Option (List ℕ) → Option (List ℕ) → Tree → Result (Unit {0}) Failure → Type 0
Does (Ls path) v T given unread before after U done = Prints (printed_listing plain T path.now) before after done × (U ≡ T)
Does (LsAs path form) v T given unread before after U done = Prints (printed_listing form T path.now) before after done × (U ≡ T)
Does (Get path) v T given unread before after U done = Prints (printed_file T path.now) before after done × (U ≡ T)
Does (Put path) v T given unread before after U done = Puts v T path.now given unread U done
Does (PutWhole path) v T given unread before after U done = PutsWhole v T path.now given unread U done
Does Check v T given unread before after U done = Prints (Ok (summary v T)) before after done × (U ≡ T)
Does (Upgrade huge) v T given unread before after U done = Upgrades (version_after huge) v done × (U ≡ T)
Does (Stat path) v T given unread before after U done = Prints (printed_facts T path.now) before after done × (U ≡ T)
Does (Changing change) v T given unread before after U done = Changes T change U done

-- the trees that a stop inside a task may leave
abbrev pub IsPartOf : Task → Superblock → Tree → Option (List ℕ) → Tree → Type 0
IsPartOf (Ls path) v T given U = U ≡ T
IsPartOf (LsAs path form) v T given U = U ≡ T
IsPartOf (Get path) v T given U = U ≡ T
IsPartOf (Put path) v T given U = IsPartOfPut v T path.now given U
IsPartOf (PutWhole path) v T given U = IsPartOfWhole v T (path_beside path.now) path.now given U
IsPartOf Check v T given U = U ≡ T
IsPartOf (Upgrade huge) v T given U = U ≡ T
IsPartOf (Stat path) v T given U = U ≡ T
IsPartOf (Changing change) v T given U = IsPartOfChange T change U

-- a stop inside an upgrade may also leave the tree with the version that it makes
abbrev pub IsRaised : Task → Superblock → Tree → Image → Type 0
IsRaised (Ls path) v T c = ⊥
IsRaised (LsAs path form) v T c = ⊥
IsRaised (Get path) v T c = ⊥
IsRaised (Put path) v T c = ⊥
IsRaised (PutWhole path) v T c = ⊥
IsRaised Check v T c = ⊥
IsRaised (Upgrade huge) v T c = StandsAs c (raised (version_after huge) v) T
IsRaised (Stat path) v T c = ⊥
IsRaised (Changing change) v T c = ⊥

-- what each crash leaves where a task that changes a volume ended with success
abbrev pub Lasts : Task → Superblock → Tree → (Image → Type 0) → Type 0
Lasts (Ls path) v U may_leave = Unit {0}
Lasts (LsAs path form) v U may_leave = Unit {0}
Lasts (Get path) v U may_leave = Unit {0}
Lasts (Put path) v U may_leave = (c : Image) → may_leave c → StandsAs c v U
Lasts (PutWhole path) v U may_leave = (c : Image) → may_leave c → StandsAs c v U
Lasts Check v U may_leave = Unit {0}
Lasts (Upgrade huge) v U may_leave = (c : Image) → may_leave c → StandsAs c (raised (version_after huge) v) U
Lasts (Stat path) v U may_leave = Unit {0}
Lasts (Changing change) v U may_leave = (c : Image) → may_leave c → StandsAs c v U

-- the tasks that print nothing
abbrev pub PrintsNothing : Task → Type 0
PrintsNothing (Ls path) = ⊥
PrintsNothing (LsAs path form) = ⊥
PrintsNothing (Get path) = ⊥
PrintsNothing (Put path) = Unit {0}
PrintsNothing (PutWhole path) = Unit {0}
PrintsNothing Check = ⊥
PrintsNothing (Upgrade huge) = Unit {0}
PrintsNothing (Stat path) = ⊥
PrintsNothing (Changing change) = Unit {0}

-- a task that puts the input into a file
abbrev pub reads_input : Task → Bool
reads_input (Ls path) = false
reads_input (LsAs path form) = false
reads_input (Get path) = false
reads_input (Put path) = true
reads_input (PutWhole path) = true
reads_input Check = false
reads_input (Upgrade huge) = false
reads_input (Stat path) = false
reads_input (Changing change) = false

-- a task that prints: the entries of a directory, a file, or what is told of a volume or an entry
abbrev pub prints : Task → Bool
prints (Ls path) = true
prints (LsAs path form) = true
prints (Get path) = true
prints (Put path) = false
prints (PutWhole path) = false
prints Check = true
prints (Upgrade huge) = false
prints (Stat path) = true
prints (Changing change) = false

-- the tasks that read nothing of the input
abbrev pub ReadsNothing : Task → Type 0
ReadsNothing (Ls path) = Unit {0}
ReadsNothing (LsAs path form) = Unit {0}
ReadsNothing (Get path) = Unit {0}
ReadsNothing (Put path) = ⊥
ReadsNothing (PutWhole path) = ⊥
ReadsNothing Check = Unit {0}
ReadsNothing (Upgrade huge) = Unit {0}
ReadsNothing (Stat path) = Unit {0}
ReadsNothing (Changing change) = Unit {0}

-- the first sector, or the log's header, is that of no volume on a device with this many sectors
abbrev pub HoldsNothing : ℕ → Image → Type 0
HoldsNothing size image = (v : Superblock) (m : Image) → HoldsOn size image v m → ⊥

-- why a volume may be refused
abbrev pub RefusedBy : VolumeFault → ℕ → Image → Type 0
RefusedBy fault.NotAVolume size seen = NoVolumeOn size seen
RefusedBy fault.Version size seen = HasNoVersion size seen
RefusedBy (fault.Damaged damage) size seen = IsDamaged size seen
RefusedBy fault.Device size seen = Unit {0}
RefusedBy fault.TooSmall size seen = ⊥
RefusedBy fault.Upgraded size seen = ⊥
RefusedBy fault.Geometry size seen = ⊥
RefusedBy fault.Memory size seen = Unit {0}

module _ {D : Type 0} (is_honest : D → Type 0) (disk : D → Disk) (sectors_on failures : D → ℕ) (task : Task) (device : D) (given unread before after : Option (List ℕ)) (left : D) (done : Result (Unit {0}) Failure) where
  -- What reads give of the device stands for a tree, and the task was done with it.
  pub record WasDone : Type 0 where
    pub numbers : Superblock
    pub tree : Tree
    pub stands : StandsOn (sectors_on device) (disk device).seen numbers tree
    pub new_tree : Tree
    pub does : Does task numbers tree given unread before after new_tree done
    pub crash : Leaves (disk device) (disk left) (λ c. ReflectsAny (disk device) numbers (IsPartOf task numbers tree given) c ⊎ IsRaised task numbers tree c)
    pub lasts : OnOk done (Lasts task numbers new_tree (disk left).may_leave)

  -- The volume is refused, and nothing read or printed. What stands for a tree stands for it still. What is no volume of a
  -- known version isn't written to, nor is one whose first sector or log header is wrong; else these stay, with the content.
  pub record WasRefused : Type 0 where
    pub fault : VolumeFault
    pub is : done ≡ Err (Volume fault)
    pub why : RefusedBy fault (sectors_on device) (disk device).seen
    pub crash : (v : Superblock) (T : Tree) → StandsOn (sectors_on device) (disk device).seen v T → Leaves (disk device) (disk left) (λ c. StandsAs c v T)
    pub unwritten : (fault ≡ NotAVolume) ⊎ (fault ≡ Version) → Leaves (disk device) (disk left) (λ c. ⊥)
    pub untouched : HoldsNothing (sectors_on device) (disk device).seen → Leaves (disk device) (disk left) (λ c. ⊥)
    pub installs : (v : Superblock) (m : Image) → HoldsOn (sectors_on device) (disk device).seen v m → Leaves (disk device) (disk left) (λ c. HoldsOn (sectors_on device) c v m)
    pub reads_nothing : unread ≡ given
    pub prints_nothing : Keeps before after

  -- The task was done, or the volume is refused. Whatever the device does: 33 and 29 come only where one of its
  -- operations failed, and a task that is to read or print nothing does so.
  pub record Performs : Type 0 where
    pub ends : is_honest device → WasDone ⊎ WasRefused
    pub honest : is_honest device ↔ is_honest left
    pub size : sectors_on left ≡ sectors_on device
    pub failed : failures left ≡ counted (blames_device done) (failures device)
    pub reads_nothing : ReadsNothing task → unread ≡ given
    pub prints_nothing : PrintsNothing task → Keeps before after
