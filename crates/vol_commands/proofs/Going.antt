-- The sectors past a volume that is opened.
use Rattle.std.proofs.Common.{◌≤◌, ℕ, Result, Ok, Err, IfOk, IfErr}
use Rattle.vol_sector.specs.Disk.{Disk}
use Rattle.vol_sector.specs.Past.{StillGoesOn}
use Rattle.vol_sector.specs.declared.fault.Refused.{Refused}
use Rattle.vol_tree.specs.Opened.{Opened}
use Rattle.vol_tree.specs.Opening.{IsPast}
use Rattle.vol_tree.specs.Handing.{IsOpened, device_opened}
use Rattle.vol_commands.proofs.PastVolumes.{past_opened}

-- what `open` says of both its answers
pub opening_goes : {D : Type 0} (is_honest : D → Type 0) (disk : D → Disk) (sectors_on : D → ℕ) (goes_on : ℕ → D → D → Type 0) (device : D) (r : Result (Opened D) (Refused D)) (end : ℕ)
    → IsPast (sectors_on device) (is_honest device) (disk device).seen end
    → IfOk r (IsOpened is_honest disk sectors_on device)
    → IfOk r (λ v. (bound : ℕ) → v.numbers.sectors ≤ bound → StillGoesOn (goes_on bound) device v.device)
    → IfErr r (λ e. StillGoesOn (goes_on end) device e.device)
    → StillGoesOn (goes_on end) device (device_opened r)
opening_goes is_honest disk sectors_on goes_on device (Ok v) end past opens ok err = ok end (past_opened _ _ (disk device).seen v.numbers end opens.ranges.0 opens.ranges.1 (λ h. (opens.stands h).stands.front) past)
opening_goes is_honest disk sectors_on goes_on device (Err e) end past opens ok err = err
