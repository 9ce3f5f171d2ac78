-- The volume of a guest works, and its device never fails.
use Rattle.std.proofs.Common.{◌≡◌, ◌≢◌, ◌⊎◌, ⊎_elim, ℕ, Bool, List, length, refl, subst, arith}
use Rattle.vol_sector.specs.Disk.{counted}
use Rattle.vol_sector.specs.Record.{image_of}
use Rattle.vol_sector.specs.Fault.{IsDamage, is_device}
use Rattle.vol_sector.specs.declared.fault.VolumeFault.{VolumeFault}
use Rattle.vol_sector.specs.declared.fault.VolumeFault.TheVariants as fault
use Rattle.vol_tree.specs.Opening.{NoVolumeOn, HasNoVersion, IsDamaged}
use Rattle.sandbox_core.specs.Session.{KeepsVolume}
use Rattle.sandbox_core.specs.declared.fault.SessionFault.{SessionFault}
use Rattle.sandbox_core.specs.declared.fault.SessionFault.TheVariants.{Device}
use Rattle.sandbox_host.specs.declared.volumes.Origin.{Origin}
use Rattle.sandbox_host.specs.declared.volumes.Origin.TheVariants.{Fresh, Sectors}
use Rattle.sandbox_host.specs.Host.{HostVolume, failures_of, known}
use Rattle.sandbox_host.specs.Volumes.{IsVolume, RefusesSectors, Works}

pub works_of : (origin : Origin) (v : HostVolume) → IsVolume origin v → Works v
works_of Fresh v is = is.working
works_of (Sectors sectors recorded huge) v is = is.is_in.working

-- A refusal for the device would have counted a failure.
pub no_device : (origin : Origin) (old new : HostVolume) (f : SessionFault) → IsVolume origin old → KeepsVolume known.device f old new → f ≢ Device
no_device origin old new f is kept device =
    let asked = subst (λ (g : SessionFault). KeepsVolume known.device g old new) device kept in
    let more : failures_of new.device ≡ 1 = asked.kept.failures (works_of origin old is).works in
    absurd (omega (arith, more))

-- Why an opening is refused, by its clauses: one for the device would have counted a failure.
abbrev IsNamed : VolumeFault → Type 0
IsNamed f = (f ≡ fault.NotAVolume) ⊎ ((f ≡ fault.Version) ⊎ (IsDamage f ⊎ ((f ≡ fault.Device) ⊎ (f ≡ fault.Memory))))

unnamed : (f : VolumeFault) → f ≢ fault.NotAVolume → f ≢ fault.Version → (IsDamage f → ⊥) → f ≢ fault.Device → f ≢ fault.Memory → IsNamed f → ⊥
unnamed f one two three four five named =
    ⊎_elim one (λ rest. ⊎_elim two (λ more. ⊎_elim three (λ last. ⊎_elim four five last) more) rest) named

pub refused_as : (huge : Bool) (sectors : List (List ℕ)) (f : VolumeFault)
    → (f ≡ fault.NotAVolume → NoVolumeOn (length sectors) (image_of sectors))
    → (f ≡ fault.Version → HasNoVersion (length sectors) (image_of sectors))
    → (IsDamage f → IsDamaged (length sectors) (image_of sectors))
    → 0 ≡ counted (is_device f) 0
    → IsNamed f
    → RefusesSectors huge sectors f
refused_as huge sectors fault.NotAVolume none version damaged kept named = none refl
refused_as huge sectors fault.Version none version damaged kept named = version refl
refused_as huge sectors (fault.Damaged damage) none version damaged kept named = damaged tt
refused_as huge sectors fault.Device none version damaged kept named = let one : 0 ≡ 1 = kept in absurd (omega (arith, one))
refused_as huge sectors fault.TooSmall none version damaged kept named = unnamed fault.TooSmall (λ e. cc) (λ e. cc) (λ e. e) (λ e. cc) (λ e. cc) named
refused_as huge sectors fault.Upgraded none version damaged kept named = unnamed fault.Upgraded (λ e. cc) (λ e. cc) (λ e. e) (λ e. cc) (λ e. cc) named
refused_as huge sectors fault.Geometry none version damaged kept named = absurd (unnamed fault.Geometry (λ e. cc) (λ e. cc) (λ e. e) (λ e. cc) (λ e. cc) named)
refused_as huge sectors fault.Memory none version damaged kept named = tt
