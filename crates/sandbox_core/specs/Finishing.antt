-- What finishing a session leaves: its volume, committed, and its streams.
use Rattle.std.specs.Prelude.{◌≡◌, false, Result, Ok, Err, is_err}
use Rattle.vol_sector.specs.Disk.{Image, Leaves}
use Rattle.vol_sector.specs.declared.device.Device.{Ghosts}
use Rattle.vol_sector.specs.declared.fault.Refused.{Refused}
use Rattle.vol_sector.specs.declared.fault.VolumeFault.TheVariants as fault
use Rattle.vol_tree.specs.Opened.{Opened, Keeps, GoesOn, ReflectsOr}
use Rattle.vol_tree.specs.Stands.{StandsAs}
use Rattle.sandbox_core.specs.declared.session.Finished.{Finished}
use Rattle.sandbox_core.specs.Sessions.{SessionState}

module _ {D : Type 0} where
  -- what is handed back of a volume: itself, or its device
  abbrev pub IsHandedBack : Opened D → Result (Opened D) (Refused D) → Type 0
  IsHandedBack v (Ok w) = w ≡ v
  IsHandedBack v (Err r) = (r.device ≡ v.device) × (r.fault ≡ fault.Device)

  -- All calls so far are committed, or the volume has failed. Its numbers stay, and the device's size (`kept`); and the
  -- device goes on. Each
  -- image that a crash may leave since could be left before, or stands under these numbers for a tree that one could
  -- leave then, or for the tree; and at success for the tree.
  pub record Commits (device : Ghosts D) (old : Opened D) (result : Result (Opened D) (Refused D)) : Type 0 where
    pub new : Opened D
    pub handed_back : IsHandedBack new result
    pub kept : Keeps device.honest device.size device.failures old new (is_err result)
    pub goes : GoesOn device.goes_on old new
    pub tree : device.honest old.device → new.tree ≡ old.tree
    pub crash : device.honest old.device → Leaves (device.disk old.device) (device.disk new.device)
        (ReflectsOr (device.disk old.device) old.numbers old.tree)
    pub durable : device.honest old.device → is_err result ≡ false
        → (image : Image) → (device.disk new.device).may_leave image → StandsAs image old.numbers old.tree

  -- the volume is committed, and the streams are as they are then
  pub record Finishes {R W1 W2 : Type 0} (device : Ghosts D) (old : SessionState D R W1 W2)
      (finished : Finished D R W1 W2) : Type 0 where
    pub volume : Commits device old.host.volume finished.volume
    pub input : finished.input ≡ old.host.input.reader
    pub out : finished.out ≡ old.host.out.writer
    pub err : finished.err ≡ old.host.err.writer
