-- A session that is stopped at any moment, as it is made or in one of two resumes, and the tree that is found then.
-- `resumed_twice` promises `StoppedAnywhere`, which is proved from public contracts and laws alone.
use Rattle.std.specs.Prelude.{ℕ, ◌⊎◌, List, [], ◌∷◌, if◌then◌else◌}
use Rattle.vol_sector.specs.Disk.{Image}
use Rattle.vol_tree.specs.Tree.{Tree}
use Rattle.vol_tree.specs.Opened.{Opened}
use Rattle.vol_tree.specs.Opening.{StandsOn}
use Rattle.vol_tree.specs.declared.superblock.Superblock.{Superblock}
use Rattle.wasm_steps.specs.declared.pause.Pause.{Pause}
use Rattle.sandbox_core.specs.Devices.{Devices}
use Rattle.sandbox_core.specs.Session.{SessionState, Resumes, is_synced}

-- The image is a volume that a device of this size has room for, with one of the trees. `Volume::open` finds that tree
-- there, or memory is refused or the device fails.
abbrev pub FindsOneOf : ℕ → Superblock → Image → List Tree → Type 0
FindsOneOf size v image [] = ⊥
FindsOneOf size v image (T ∷ trees) = StandsOn size image v T ⊎ FindsOneOf size v image trees

module _ {D R W1 W2 : Type 0} (on : Devices D R W1 W2) where
  -- what is found where the power fails at a moment from one volume to another
  abbrev pub FoundWithin : Opened D → Opened D → List Tree → Type 0
  FoundWithin old new trees = (image : Image)
      → (on.device.disk new.device).left_since (on.device.disk old.device).operation_count image
      → FindsOneOf (on.device.size new.device) old.numbers image trees

  -- A session over a volume was resumed twice, as the two pauses tell. Whenever it was stopped, the tree is found that
  -- the volume had at first or after one of the resumes; and after an answered sync none from before it.
  pub record StoppedAnywhere (volume : Opened D) (last : SessionState D R W1 W2) (p q : Pause) : Type 0 where
    pub made : SessionState D R W1 W2
    pub between : SessionState D R W1 W2
    pub units : ℕ
    pub first : Resumes on made between units p
    pub second : Resumes on between last units q
    pub while_made : FoundWithin volume made.host.volume (volume.tree ∷ [])
    pub in_first : FoundWithin made.host.volume between.host.volume (volume.tree ∷ between.host.volume.tree ∷ [])
    pub in_second : FoundWithin between.host.volume last.host.volume
        (if is_synced p then between.host.volume.tree ∷ last.host.volume.tree ∷ []
        else volume.tree ∷ between.host.volume.tree ∷ last.host.volume.tree ∷ [])
