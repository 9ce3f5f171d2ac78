-- What a `?` hands on.
use Rattle.std.proofs.Common.{◌≡◌, Bool, Result, Ok, Err, IfErr, IsErrAnd, sym, ◌∙◌, ap, subst}
use Rattle.vol_sector.specs.Fault.{is_device, device_failed}
use Rattle.vol_sector.specs.declared.fault.VolumeFault.{VolumeFault}

pub handed_on : {T : Type 0} (r : Result T VolumeFault) (P : VolumeFault → Type 0) (x : VolumeFault) → IsErrAnd r (λ y. y ≡ x) → P x → IfErr r P
handed_on (Ok t) P x is holds = tt
handed_on (Err e) P x is holds = subst P (sym is) holds

-- whether the device failed
pub failed_on : {T : Type 0} (r : Result T VolumeFault) (x : VolumeFault) (failed : Bool) → IsErrAnd r (λ y. y ≡ x) → failed ≡ is_device x → failed ≡ device_failed r
failed_on (Ok t) x failed is now = absurd is
failed_on (Err e) x failed is now = now ∙ ap is_device (sym is)
