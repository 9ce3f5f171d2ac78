-- What a session's device records, at a later time than another.
use Rattle.std.specs.Prelude.{◌≡◌, ◌++◌, ℕ, Bool, List}
use Rattle.vol_sector.specs.declared.record.Operation.{Operation}
use Rattle.sandbox_device.specs.declared.recorded_device.RecordedDevice.{RecordedDevice}
use Rattle.sandbox_device.specs.Followed.{done_on}

-- The device of a session over these sectors, at a later time than another: it began with the sectors, and records what is done
-- just where a record was asked for; and what it had done by the earlier time is the first that it has done.
pub record KeepsRecord (sectors : List (List ℕ)) (recorded : Bool) (earlier later : RecordedDevice) : Type 0 where
  pub began : later.history.first ≡ sectors
  pub is_recorded : later.is_recorded ≡ recorded
  pub more : List Operation
  pub done : done_on later ≡ done_on earlier ++ more
