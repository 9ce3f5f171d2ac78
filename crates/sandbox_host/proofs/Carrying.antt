-- The sectors that a finished session leaves are opened again.
use Rattle.std.proofs.Common.{◌≡◌, ◌≤◌, ℕ, Bool, List, [], ◌∷◌, length, take, Result, Ok, Err, ⊎_elim, refl, ap, sym, subst, ◌∙◌, arith}
use Rattle.vol_sector.specs.Disk.{Image}
use Rattle.vol_sector.specs.Record.{image_of}
use Rattle.vol_sector.specs.declared.fault.Refused.{Refused}
use Rattle.vol_sector.specs.declared.fault.VolumeFault.{VolumeFault}
use Rattle.vol_sector.specs.declared.fault.VolumeFault.TheVariants as fault
use Rattle.vol_tree.specs.declared.superblock.Superblock.{Superblock}
use Rattle.vol_inode.specs.declared.version.Version.{Version}
use Rattle.vol_inode.specs.declared.version.Version.TheVariants.{One, Two, Four}
use Rattle.vol_tree.specs.Superblock.{version_number, IsNoVersion}
use Rattle.vol_tree.specs.Tree.{Tree}
use Rattle.vol_tree.specs.Stands.{StandsAs}
use Rattle.vol_tree.specs.Opening.{StandsOn}
use Rattle.vol_tree.specs.Opened.{GoesOn}
use Rattle.vol_tree.proofs.GoingOn.{goes_same, goes_then}
use Rattle.vol_tree.proofs.OneTree.{version_is}
use Rattle.wasm_syntax.specs.declared.module.Module.{Module}
use Rattle.sandbox_device.specs.internal.RecordedLaws.{now_may_stay}
use Rattle.sandbox_device.specs.declared.recorded_device.RecordedDevice.{RecordedDevice}
use Rattle.sandbox_host.specs.declared.numbers.Told.{Told}
use Rattle.sandbox_host.specs.declared.held.Ended.{Ended}
use Rattle.sandbox_host.specs.declared.supplies.Supplies.{Supplies}
use Rattle.sandbox_host.specs.declared.volumes.Origin.{Origin}
use Rattle.sandbox_host.specs.declared.volumes.Origin.TheVariants.{Fresh, Sectors}
use Rattle.wasm_operands.specs.Snapshots.{StandsFor}
use Rattle.sandbox_host.specs.Host.{State, HostVolume, Commits, known, size_of}
use Rattle.sandbox_host.specs.Volumes.{IsVolume, RefusesSectors, is_huge, most_sectors}
use Rattle.sandbox_host.specs.Begun.{BeginsBy, ResumedBy}
use Rattle.sandbox_host.specs.Finishing.{Finishes, returned_device, commit_number}
use Rattle.sandbox_host.specs.Carried.{OpensAgain, FitsDevice, IsCarried, IsCarriedOn}

-- an image stands for at most one tree
abbrev pub OneTree : Type 0
OneTree = (image : Image) (v w : Superblock) (T U : Tree) → StandsAs image v T → StandsAs image w U → (v ≡ w) × (T ≡ U)

-- ---- sectors that stand for a tree are refused only for memory

known_version : (version : Version) → IsNoVersion (version_number version) → ⊥
known_version One unknown = unknown.0 refl
known_version Two unknown = unknown.1 refl
known_version Four unknown = unknown.2 refl

only_memory : (huge : Bool) (sectors : List (List ℕ)) (numbers : Superblock) (tree : Tree) → StandsOn (length sectors) (image_of sectors) numbers tree → length sectors ≤ most_sectors huge
    → (f : VolumeFault) → RefusesSectors huge sectors f → f ≡ fault.Memory
only_memory huge sectors numbers tree on few fault.NotAVolume none =
    absurd (⊎_elim (λ short. omega (arith, short, on.room, on.stands.ranges.least)) (λ other. other (ap (take 8) on.stands.front)) none)
only_memory huge sectors numbers tree on few fault.Version wrong =
    absurd (known_version numbers.version (subst IsNoVersion (version_is (image_of sectors 0) numbers on.stands.front) wrong.version))
only_memory huge sectors numbers tree on few (fault.Damaged damage) wrong = absurd (wrong.none numbers tree on)
only_memory huge sectors numbers tree on few fault.Device wrong = absurd wrong
only_memory huge sectors numbers tree on few fault.TooSmall wrong = absurd wrong
only_memory huge sectors numbers tree on few fault.Upgraded wrong = absurd wrong
only_memory huge sectors numbers tree on few fault.Geometry many = absurd (omega (arith, many, few))
only_memory huge sectors numbers tree on few fault.Memory _ = refl

opens_again : OneTree → (huge : Bool) (sectors : List (List ℕ)) (numbers : Superblock) (tree : Tree) → StandsAs (image_of sectors) numbers tree → numbers.sectors ≤ length sectors → length sectors ≤ most_sectors huge
    → OpensAgain huge sectors numbers tree
opens_again one huge sectors numbers tree stands room few = record {
  same = λ v is. one (image_of sectors) v.numbers numbers v.tree tree is.stands.stands stands;
  only_memory = only_memory huge sectors numbers tree (record { stands = stands; room = room }) few;
}

-- ---- what a commit that succeeded leaves

record Leaves (v : HostVolume) (device : RecordedDevice) : Type 0 where
  stands : StandsAs (image_of device.sectors) v.numbers v.tree
  size : length device.sectors ≡ size_of v.device

leaves : (v : HostVolume) (result : Result HostVolume (Refused RecordedDevice)) (device : RecordedDevice) → Commits v result → device ≡ returned_device result → 0 ≡ commit_number result → Leaves v device
leaves v (Ok w) device commits is told =
    let last : RecordedDevice = commits.new.device in
    let same : device ≡ last = is ∙ ap (λ (x : HostVolume). x.device) commits.handed_back in
    record {
      stands = subst (λ (d : RecordedDevice). StandsAs (image_of d.sectors) v.numbers v.tree) (sym same) (commits.durable tt refl (image_of last.sectors) (now_may_stay last.sectors last.history.first last.history.done last.history.outcomes last.agrees));
      size = ap (λ (d : RecordedDevice). length d.sectors) same ∙ commits.kept.size;
    }
leaves v (Err r) device commits is told = absurd (omega (arith, told))

left_by : (s : State) (e : Ended) → Finishes s e 0 → Leaves s.host.volume e.device
left_by s e ends = leaves s.host.volume ends.volume e.device ends.commits ends.device ends.number_told

pub carried : OneTree → IsCarried
carried one huge s e fits ends =
    let left = left_by s e ends in
    opens_again one huge e.device.sectors s.host.volume.numbers s.host.volume.tree left.stands (omega (arith, left.size, fits.room)) (omega (arith, left.size, fits.few))

-- ---- from the opening on

pub record Same (old new : HostVolume) : Type 0 where
  pub numbers : new.numbers ≡ old.numbers
  pub size : size_of new.device ≡ size_of old.device
  pub goes : GoesOn known.device.goes_on old new

pub same_then : (a b c : HostVolume) → Same a b → Same b c → Same a c
same_then a b c first next = record {
  numbers = next.numbers ∙ first.numbers;
  size = next.size ∙ first.size;
  goes = goes_then known.device.goes_on a b c first.numbers first.goes next.goes;
}

pub resumed_same : (Stands : StandsFor) (s s' : State) (rs : List (Told × State)) → ResumedBy Stands s rs s' → Same s.host.volume s'.host.volume
resumed_same Stands s s' [] is = record {
  numbers = ap (λ (t : State). t.host.volume.numbers) is;
  size = ap (λ (t : State). size_of t.host.volume.device) is;
  goes = goes_same known.device.goes_on s.host.volume s'.host.volume (ap (λ (t : State). t.host.volume.device) is);
}
resumed_same Stands s s' (r ∷ rs) is =
    let more = resumed_same Stands r.1 s' rs is.1 in
    same_then s.host.volume r.1.host.volume s'.host.volume (record { numbers = is.0.1.resumes.numbers; size = is.0.1.resumes.size; goes = is.0.1.resumes.goes }) more

fits_at_first : (origin : Origin) (v : HostVolume) → IsVolume origin v → FitsDevice (is_huge origin) v
fits_at_first Fresh v is = record { room = omega (arith, is.size, ap (λ (n : Superblock). n.sectors) is.numbers); few = omega (arith, is.size) }
fits_at_first (Sectors sectors recorded huge) v is = record { room = omega (arith, is.is_in.size, is.is_in.stands.room); few = omega (arith, is.is_in.size, is.is_in.few) }

fits_then : (huge : Bool) (old new : HostVolume) → Same old new → FitsDevice huge old → FitsDevice huge new
fits_then huge old new same fits = record {
  room = omega (arith, same.size, ap (λ (n : Superblock). n.sectors) same.numbers, fits.room);
  few = omega (arith, same.size, fits.few);
}

-- a session that begins has only asked its volume
pub begun_same : (Stands : StandsFor) (m : Module) (supplies : Supplies) (origin : Origin) (s : State) (begins : BeginsBy Stands m supplies origin s) → Same begins.volume s.host.volume
begun_same Stands m supplies origin s begins = record {
  numbers = begins.shares.reads.kept.numbers;
  size = begins.shares.reads.kept.size;
  goes = begins.shares.reads.goes;
}

pub carried_on : (Stands : StandsFor) → OneTree → IsCarriedOn Stands
carried_on Stands one m supplies origin s s' rs e begins resumed ends =
    let first : HostVolume = begins.volume in
    let last : HostVolume = s'.host.volume in
    let resumes = resumed_same Stands s s' rs resumed in
    let same : Same first last = same_then first s.host.volume last (begun_same Stands m supplies origin s begins) resumes in
    let again = carried one (is_huge origin) s' e (fits_then (is_huge origin) first last same (fits_at_first origin first begins.is_volume)) ends in
    ((left_by s' e ends).size ∙ same.size, subst (λ (n : Superblock). OpensAgain (is_huge origin) e.device.sectors n last.tree) same.numbers again)
