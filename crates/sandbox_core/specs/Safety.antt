-- What a crash may leave of a session's volume (`docs/VOLUME.md`, "The device"), one turn at a time: as the session is
-- made, in a resume, and as it is finished. Each turn is given the trees so far and which of them a crash may leave,
-- and gives the same for the next turn.
use Rattle.std.specs.Prelude.{◌≡◌, ℕ, ◌-◌, Bool, not, false, List, [], ◌∷◌, ◌++◌, length, is_err, if◌then◌else◌}
use Rattle.vol_sector.specs.Disk.{Image}
use Rattle.vol_sector.specs.declared.device.Device.{Ghosts}
use Rattle.vol_tree.specs.Tree.{Tree}
use Rattle.vol_tree.specs.Opened.{Opened}
use Rattle.vol_tree.specs.Stands.{StandsAs}
use Rattle.wasm_steps.specs.declared.pause.Pause.{Pause}
use Rattle.wasi_calls.specs.declared.host.wasi_host.HostParts.{HostParts}
use Rattle.wasi_bodies.specs.laws.Moments.{Kept}
use Rattle.sandbox_core.specs.declared.session.Finished.{Finished}
use Rattle.sandbox_core.specs.Devices.{Devices, IsHonest}
pub use Rattle.sandbox_core.specs.SafeVolumes.{IsSafeVolume}
use Rattle.sandbox_core.specs.Session.{SessionState, Shares, Resumes, Finishes, is_synced}

module _ {D : Type 0} (device : Ghosts D) where
  -- each image that a crash may leave in a turn stands for one of these trees, under the volume's numbers
  abbrev pub KeptSince : Opened D → Opened D → List Tree → ℕ → ℕ → Type 0
  KeptSince old new trees from to = (image : Image)
      → (device.disk new.device).left_since (device.disk old.device).operation_count image
      → Kept image old.numbers trees from to

  -- A turn with one tree more: what a crash in it may leave, and what one may leave then, on a device of the same size.
  -- A sync that was answered leaves no tree before it.
  pub record StaysSafe (old new : Opened D) (synced : Bool) (trees : List Tree) (from : ℕ) : Type 0 where
    pub still_honest : device.honest new.device
    pub numbers : new.numbers ≡ old.numbers
    pub size : device.size new.device ≡ device.size old.device
    pub during : KeptSince old new (trees ++ new.tree ∷ []) from (length trees)
    pub after : IsSafeVolume device new (trees ++ new.tree ∷ []) (if synced then length trees else from)

  -- A turn with no tree more.
  pub record RestsSafe (old new : Opened D) (synced : Bool) (trees : List Tree) (from : ℕ) : Type 0 where
    pub still_honest : device.honest new.device
    pub numbers : new.numbers ≡ old.numbers
    pub size : device.size new.device ≡ device.size old.device
    pub during : KeptSince old new trees from (length trees - 1)
    pub after : IsSafeVolume device new trees (if synced then length trees - 1 else from)

-- After `Volume::open` a crash leaves its tree alone. Making a session leaves no other tree; a resume may leave the one
-- at its end, and after an answered sync no other; and finishing leaves no other, and where the volume is handed back
-- that tree alone.
pub record TurnsAreSafe {D R W1 W2 : Type 0} (on : Devices D R W1 W2) : Type 0 where
  pub opened : (v : Opened D) → on.device.honest v.device
      → ((image : Image) → (on.device.disk v.device).may_leave image → StandsAs image v.numbers v.tree)
      → IsSafeVolume on.device v (v.tree ∷ []) 0
  pub begins : (parts : HostParts D R W1 W2) (s : SessionState D R W1 W2) (trees : List Tree) (from : ℕ)
      → on.device.honest parts.volume.device → Shares on.device parts s
      → IsSafeVolume on.device parts.volume trees from
      → RestsSafe on.device parts.volume s.host.volume false trees from
  pub resumes : (s s' : SessionState D R W1 W2) (units : ℕ) (p : Pause) (trees : List Tree) (from : ℕ)
      → IsHonest on s.host → Resumes on s s' units p → IsSafeVolume on.device s.host.volume trees from
      → StaysSafe on.device s.host.volume s'.host.volume (is_synced p) trees from
  pub finishes : (s : SessionState D R W1 W2) (f : Finished D R W1 W2) (trees : List Tree) (from : ℕ)
      → IsHonest on s.host → (all : Finishes on.device s f) → IsSafeVolume on.device s.host.volume trees from
      → RestsSafe on.device s.host.volume all.volume.new (not (is_err f.volume)) trees from
