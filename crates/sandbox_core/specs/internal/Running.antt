-- A session on its way: that its machine stands for a configuration (`HasConfiguration`), and a run of it before the
-- commit at its end (`RunsTo`). Callers of `run` see only what its report says of the run with the commit.
use Rattle.std.specs.Prelude.{◌≡◌, ℕ, None}
use Rattle.vol_sector.specs.Disk.{Leaves}
use Rattle.vol_tree.specs.Opened.{GoesOn}
use Rattle.wasm_steps.specs.declared.pause.Outcome.{Outcome}
use Rattle.wasm_steps.specs.declared.pause.Pause.TheVariants.{Ended}
use Rattle.wasm_steps.specs.Configuration.{Instance, Configuration}
use Rattle.wasm_interp.specs.Machine.{Snapshot, Represents, outcome_of}
use Rattle.wasm_interp.specs.Promise.{HasItsUnit}
use Rattle.sandbox_core.specs.Devices.{Devices, Calls, IsHonest, disk_of, numbers_of, tree_of}
use Rattle.sandbox_core.specs.Session.{SessionState, History, Follow, used_by}
use Rattle.sandbox_core.specs.Runs.{RunsWithin, LeftInRun}
use Rattle.sandbox_core.specs.declared.tally.Tally.{Tally}
use Rattle.sandbox_core.specs.Tally.{Tallies}

-- the machine stands for some configuration
pub record HasConfiguration (machine : Snapshot) : Type 0 where
  pub instance : Instance
  pub configuration : Configuration
  pub stands : Represents machine instance configuration

module _ {D R W1 W2 : Type 0} (on : Devices D R W1 W2) where
  -- some resumes, one after another, and their tally
  abbrev pub Followed : SessionState D R W1 W2 → SessionState D R W1 W2 → Tally → Type 0
  Followed old new tally =
      (resumes : History (SessionState D R W1 W2)) × Follow on old resumes new × Tallies resumes tally

  -- A run from a configuration with this fuel, which ends so. Each image that a crash may leave since it began could be
  -- left before, or stands for a tree that one could leave then, or for that of a host that the run comes by.
  pub record RunsTo (old : SessionState D R W1 W2) (fuel : ℕ) (new : SessionState D R W1 W2) (outcome : Outcome)
      (tally : Tally) : Type 0 where
    pub numbers : new.host.volume.numbers ≡ old.host.volume.numbers
    pub size : on.device.size new.host.volume.device ≡ on.device.size old.host.volume.device
    pub goes : GoesOn on.device.goes_on old.host.volume new.host.volume
    pub honest_after : IsHonest on old.host → IsHonest on new.host
    pub followed : Followed old new tally
    pub run : (i : Instance) (c : Configuration) → Represents old.machine i c
        → RunsWithin (Calls on) i old.host c fuel new.host outcome (used_by new)
    pub unit : outcome_of old.machine ≡ None → (i : Instance) (c : Configuration) (stands : Represents old.machine i c)
        → HasItsUnit (Ended outcome) fuel (run i c stands).last
    pub crash : IsHonest on old.host → (i : Instance) (c : Configuration) (stands : Represents old.machine i c)
        → Leaves (disk_of on old.host) (disk_of on new.host)
        (LeftInRun (Calls on) (disk_of on) numbers_of tree_of (run i c stands))
