-- One sector is taken and staged.
use Rattle.std.proofs.Common.{◌≡◌, ◌≢◌, ◌==◌, if◌then◌else◌, ℕ, Bool, true, false, inl, inr, sym, ◌∙◌, ap}
use Rattle.std.proofs.lemmas.Bool.{cases_Bool, cond-true, cond-false}
use Rattle.vol_sector.specs.declared.device.Device.{Ghosts}
use Rattle.vol_log.specs.Log.{device_of, log_sectors, has_failed, is_staged}
use Rattle.vol_log.specs.declared.log.Log.{Log}
use Rattle.vol_body.specs.internal.Writing.{OnlyPuts}
use Rattle.vol_body.proofs.Steps.{staged_still}

-- a number that stands for no sector unless it is taken
pub known_taken : (taken : ℕ → Bool) (n k : ℕ) → k ≡ (if taken n then n else 0) → k ≢ 0 → taken k ≡ true
known_taken taken n k is some = elim (cases_Bool (taken n)) [
  | inl used ↦ ap taken (is ∙ cond-true (taken n) n 0 used) ∙ used
  | inr free ↦ absurd (some (is ∙ cond-false (taken n) n 0 free))
]

pub puts_one : {D : Type 0} {g : Ghosts D} (old new : Log D g) (n : ℕ) → device_of new ≡ device_of old → log_sectors new ≡ log_sectors old → has_failed old ≡ false → has_failed new ≡ false
    → ((k : ℕ) → is_staged new k ≡ (if k == n then true else is_staged old k)) → OnlyPuts old new
puts_one old new n device sectors worked works staged = record {
  device = device;
  sectors = sectors;
  failed = works ∙ sym worked;
  staged = λ k is. staged_still n k (is_staged old) (is_staged new) staged is;
}
