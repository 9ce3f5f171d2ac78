-- What a refusal says at a `?` that passes it on.
use Rattle.std.proofs.Common.{◌≡◌, ◌⊎◌, ◌↔◌, ◌∙◌, inl, inr, ⊎_elim, Result, Ok, Err, sym, ap}
use Rattle.vol_sector.specs.Fault.{is_device, IsDamage}
use Rattle.vol_sector.proofs.Damages.{damage_not_device, other_than}
use Rattle.vol_sector.specs.declared.fault.VolumeFault.{VolumeFault}
use Rattle.vol_sector.specs.declared.fault.VolumeFault.TheVariants as faults

-- the device and the memory say nothing of what a volume holds
pub not_damage : {X : Type 0} (x : VolumeFault) → (x ≡ faults.Device) ⊎ (x ≡ faults.Memory) → IsDamage x → X
not_damage x is damaged = ⊎_elim (λ device. other_than x faults.Device device (λ none. none) damaged) (λ memory. other_than x faults.Memory memory (λ none. none) damaged) is

pub memory_not_damage : {X : Type 0} → IsDamage faults.Memory → X
memory_not_damage is = absurd is

-- a refusal x, and y that may have the sector of its damage
pub named_at : (x y : VolumeFault) → IsDamage y ↔ IsDamage x → ((IsDamage x → ⊥) → y ≡ x) → IsDamage x ⊎ ((x ≡ faults.Device) ⊎ (x ≡ faults.Memory)) → IsDamage y ⊎ ((y ≡ faults.Device) ⊎ (y ≡ faults.Memory))
named_at x y damage other is =
    ⊎_elim (λ damaged. inl (damage.1 damaged))
    (λ rest. let same : y ≡ x = other (λ damaged. not_damage x rest damaged) in inr (⊎_elim (λ device. inl (same ∙ device)) (λ memory. inr (same ∙ memory)) rest)) is

pub device_at : (x y : VolumeFault) → IsDamage y ↔ IsDamage x → ((IsDamage x → ⊥) → y ≡ x) → IsDamage x ⊎ ((x ≡ faults.Device) ⊎ (x ≡ faults.Memory)) → is_device x ≡ is_device y
device_at x y damage other is =
    ⊎_elim (λ damaged. damage_not_device x damaged ∙ sym (damage_not_device y (damage.1 damaged))) (λ rest. ap is_device (sym (other (λ damaged. not_damage x rest damaged)))) is

pub err_not_ok : {T E X : Type 0} (e : E) (x : T) → Err e ≡ Ok x → X
err_not_ok e x is = cc

-- a refusal is the same beside any value
abbrev error_of : {T E : Type 0} → Result T E → E → E
error_of (Ok x) other = other
error_of (Err e) other = e

pub same_error : {T E : Type 0} (d e : E) → ◌≡◌ {A = Result T E} (Err d) (Err e) → d ≡ e
same_error d e same = ap (λ r. error_of r d) same
