-- What finds and opens the preopened directories. All are found before any is opened, so where a path names none, or
-- the volume fails, no descriptor is added.
use Rattle.std.specs.Prelude.{◌≡◌, true, false, ◌+◌, ◌<◌, ℕ, suc, List, [], ◌∷◌, length, nat_lt, Option, Some, None, Result, Ok, Err, if◌then◌else◌, slice_get, slice_index}
use Rattle.vol_tree.specs.Tree.{Tree}
use Rattle.vol_tree.specs.declared.errno.Errno.{Errno}
use Rattle.vol_tree.specs.declared.errno.Errno.TheVariants as errno
use Rattle.vol_tree.specs.declared.superblock.Superblock.{Superblock}
use Rattle.vol_tree.specs.Opened.{Opened, IsSerial}
use Rattle.wasi_fd.specs.declared.descriptor.Descriptor.{Descriptor}
use Rattle.wasi_fd.specs.Table.{Table}
use Rattle.wasi_bodies.specs.declared.settings.Preopen.{Preopen as PreopenValue}
use Rattle.wasi_calls.specs.declared.host.inner.Inner.{Inner}
use Rattle.wasi_calls.specs.declared.host.fault.HostFault.{HostFault}
use Rattle.wasi_calls.specs.declared.host.fault.HostFault.TheVariants.{Setting, Preopen, Device, Memory}
use Rattle.vol_sector.specs.Disk.{Disk}
use Rattle.path_walk.specs.Walk.{Asked}
use Rattle.wasi_calls.specs.host.Making.{directory_named, preopens_of, preopened, table_with}

-- a refusal of a call of the volume
abbrev pub fault_as : Errno → HostFault
fault_as errno.Exist = Preopen
fault_as errno.TooBig = Preopen
fault_as errno.BadText = Preopen
fault_as errno.Invalid = Preopen
fault_as errno.Io = Device
fault_as errno.IsDirectory = Preopen
fault_as errno.NameTooLong = Preopen
fault_as errno.NotFound = Preopen
fault_as errno.NoSpace = Preopen
fault_as errno.NotDirectory = Preopen
fault_as errno.NotEmpty = Preopen
fault_as errno.NotCapable = Preopen

-- what is meant was found, or there is none, or the volume fails
abbrev pub FindsOrFails : {X : Type 0} → Option X → Result X HostFault → Type 0
FindsOrFails meant (Ok x) = meant ≡ Some x
FindsOrFails meant (Err Setting) = ⊥
FindsOrFails meant (Err Preopen) = meant ≡ None
FindsOrFails meant (Err Device) = Unit {0}
FindsOrFails meant (Err Memory) = ⊥

-- the serials of the first n directories
abbrev pub AreFound : Tree → List PreopenValue → List ℕ → ℕ → Type 0
AreFound T ps serials n = (k : ℕ) (p : PreopenValue) → k < n → slice_get ps k ≡ Some p → directory_named T p.path.now ≡ Some (slice_index serials k)

-- these are numbers of the volume
abbrev pub AreNumbers : Superblock → List ℕ → ℕ → Type 0
AreNumbers numbers serials n = (k : ℕ) → k < n → IsSerial numbers (slice_index serials k)

-- all were found, or some path names none, or the volume fails
abbrev pub FindsAll : Tree → List PreopenValue → List ℕ → Result (Unit {0}) HostFault → Type 0
FindsAll T ps serials (Ok x) = AreFound T ps serials (length ps)
FindsAll T ps serials (Err Setting) = ⊥
FindsAll T ps serials (Err Preopen) = preopens_of T ps ≡ None
FindsAll T ps serials (Err Device) = Unit {0}
FindsAll T ps serials (Err Memory) = ⊥

-- the descriptors of these directories, whose serials stand from a place on
abbrev pub opened_from : ℕ → List PreopenValue → List ℕ → List Descriptor
opened_from n [] serials = []
opened_from n (p ∷ ps) serials = preopened p (slice_index serials n) ∷ opened_from (suc n) ps serials

-- the table in which this many of them are open
abbrev pub AreOpen : List PreopenValue → List ℕ → ℕ → Table → Type 0
AreOpen ps serials count table = (n : ℕ) → table n ≡ (if nat_lt n (3 + count) then table_with (opened_from 0 ps serials) n else None)

-- why none was opened
abbrev pub Refuses : {D : Type 0} → (D → Type 0) → Opened D → Opened D → List PreopenValue → HostFault → Type 0
Refuses honest old new ps Setting = ⊥
Refuses honest old new ps Preopen = honest old.device → preopens_of old.tree ps ≡ None
Refuses honest old new ps Device = new.failed ≡ true
Refuses honest old new ps Memory = ⊥

-- volume and descriptors may have changed, and nothing else
abbrev pub ChangesVolume : {D R W1 W2 : Type 0} → Inner D R W1 W2 → Inner D R W1 W2 → Type 0
ChangesVolume old new = new ≡ record old { volume = new.volume; descriptors = new.descriptors }

-- the serials of the first n directories were found
pub record FoundSoFar {D : Type 0} (honest : D → Type 0) (disk : D → Disk) (sectors_on failures : D → ℕ) (goes_on : ℕ → D → D → Type 0) (old new : Opened D) (ps : List PreopenValue) (serials : List ℕ) (n : ℕ) : Type 0 where
  pub reads : Asked honest disk sectors_on failures goes_on old new false
  pub found : honest old.device → AreFound old.tree ps serials n
  pub numbers : AreNumbers new.numbers serials n
