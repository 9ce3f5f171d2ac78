-- What the traits `Device`, `Read`, `Write`, `Inlet` and `Outlet` let contracts say of a session's device and of its three
-- streams, in one record. A definition takes it as `on`, and a clause makes it of the traits' ghost members:
-- `devices D.Device R.Read W1.Write W2.Write R.gave R.refused W1.took W1.refused W2.took W2.refused`.
use Rattle.std.specs.Prelude.{ℕ, List}
use Rattle.std.specs.declared.io.Read.{Ghosts as Reader}
use Rattle.std.specs.declared.io.Write.{Ghosts as Writer}
use Rattle.vol_sector.specs.Disk.{Disk}
use Rattle.vol_sector.specs.declared.device.Device.{Ghosts}
use Rattle.vol_tree.specs.Tree.{Tree}
use Rattle.vol_tree.specs.declared.superblock.Superblock.{Superblock}
use Rattle.wasm_steps.specs.Steps.{CallsOf}
use Rattle.wasi_bodies.specs.host.Worlds.{Hearing, HostState, HostCalls, hearing}

pub record Devices (D R W1 W2 : Type 0) : Type 1 where
  pub device : Ghosts D
  pub input : Reader R
  pub out : Writer W1
  pub err : Writer W2
  -- what the streams gave, took and refused
  pub ear : Hearing R W1 W2

module _ {D R W1 W2 : Type 0} where
  abbrev pub devices : Ghosts D → Reader R → Writer W1 → Writer W2 → (R → List ℕ → R → Type 0) → (R → R → Type 0)
      → (W1 → List ℕ → W1 → Type 0) → (W1 → W1 → Type 0) → (W2 → List ℕ → W2 → Type 0) → (W2 → W2 → Type 0) → Devices D R W1 W2
  devices device input out err gave refused out_took out_refused err_took err_refused = record {
    device = device;
    input = input;
    out = out;
    err = err;
    ear = hearing gave refused out_took out_refused err_took err_refused;
  }

  -- a host's volume: its numbers, its tree, and the disk that it is on
  abbrev pub numbers_of : HostState D R W1 W2 → Superblock
  numbers_of h = h.volume.numbers

  abbrev pub tree_of : HostState D R W1 W2 → Tree
  tree_of h = h.volume.tree

  abbrev pub disk_of : Devices D R W1 W2 → HostState D R W1 W2 → Disk
  disk_of on h = on.device.disk h.volume.device

  -- the host's device keeps its model
  abbrev pub IsHonest : Devices D R W1 W2 → HostState D R W1 W2 → Type 0
  IsHonest on h = on.device.honest h.volume.device

  -- how a host answers calls
  abbrev pub Calls : Devices D R W1 W2 → CallsOf (HostState D R W1 W2)
  Calls on = HostCalls on.device.honest on.device.disk on.device.size on.device.failures on.device.goes_on
      on.input.remaining on.out.contents on.err.contents on.ear
