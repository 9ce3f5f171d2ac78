-- What a damage is, beside the other refusals.
use Rattle.std.proofs.Common.{◌≡◌, false, refl, subst}
use Rattle.vol_sector.specs.Fault.{is_device, IsDamage}
use Rattle.vol_sector.specs.declared.fault.VolumeFault.{VolumeFault}
use Rattle.vol_sector.specs.declared.fault.VolumeFault.TheVariants as faults

-- it isn't the device's
pub damage_not_device : (x : VolumeFault) → IsDamage x → is_device x ≡ false
damage_not_device faults.NotAVolume is = refl
damage_not_device faults.Version is = refl
damage_not_device (faults.Damaged damage) is = refl
damage_not_device faults.Device is = absurd is
damage_not_device faults.TooSmall is = refl
damage_not_device faults.Upgraded is = refl
damage_not_device faults.Geometry is = refl
damage_not_device faults.Memory is = refl

-- nor is it a refusal of another kind
pub other_than : {X : Type 0} (x y : VolumeFault) → x ≡ y → (IsDamage y → ⊥) → IsDamage x → X
other_than x y same other damaged = absurd (other (subst IsDamage same damaged))
