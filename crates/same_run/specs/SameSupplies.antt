-- When two runs begin alike: with the same supplies, on volumes with the same tree and the same room.
use Rattle.std.specs.Prelude.{◌≡◌, ℕ, List, map}
use Rattle.vol_tree.specs.Opened.{geometry}
use Rattle.wasi_bodies.specs.declared.settings.Preopen.{Preopen}
use Rattle.wasi_bodies.specs.declared.settings.Settings.{Settings}
use Rattle.wasi_calls.specs.declared.host.wasi_host.HostParts.{HostParts}
use Rattle.wasi_bodies.specs.host.Worlds.{HostState, StreamBytes, given_of, world_of}
use Rattle.sandbox_core.specs.Devices.{Devices}
use Rattle.same_run.specs.SameWorld.{IsSameWorld}

-- the name that a guest knows a directory by, and its path
abbrev pub names_of : Preopen → List ℕ × List ℕ
names_of p = (p.guest_name.now, p.path.now)

-- the same texts, moment, directories, random bytes and pages
pub record AreSameSupplies (s s' : Settings) : Type 0 where
  pub given : given_of s ≡ given_of s'
  pub directories : map names_of s.preopens.now ≡ map names_of s'.preopens.now
  pub random : s.random.now ≡ s'.random.now
  pub pages : s.pages ≡ s'.pages

module _ {D R W1 W2 D' R' W1' W2' : Type 0} (on : Devices D R W1 W2) (on' : Devices D' R' W1' W2') where
  -- The hosts have the same tree, room, descriptors, texts, moment and random bytes: they show the same world, for any
  -- bytes of the streams.
  abbrev pub ShowAlike : HostState D R W1 W2 → HostState D' R' W1' W2' → Type 0
  ShowAlike h h' = (b : StreamBytes) → IsSameWorld (world_of h b) (world_of h' b)

  -- the same supplies, and volumes with the same tree and the same room
  pub record AreAlike (parts : HostParts D R W1 W2) (parts' : HostParts D' R' W1' W2') : Type 0 where
    pub supplies : AreSameSupplies parts.settings parts'.settings
    pub tree : parts.volume.tree ≡ parts'.volume.tree
    pub room : geometry parts.volume.numbers ≡ geometry parts'.volume.numbers
