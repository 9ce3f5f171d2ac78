-- Which trees a crash may leave of a volume, among those so far.
use Rattle.std.specs.Prelude.{ℕ, List}
use Rattle.vol_sector.specs.declared.device.Device.{Ghosts}
use Rattle.vol_tree.specs.Tree.{Tree}
use Rattle.vol_tree.specs.Opened.{Opened}
use Rattle.wasi_bodies.specs.laws.Moments.{IsSafe}

module _ {D : Type 0} (device : Ghosts D) where
  -- These are the trees so far, the last of which is the volume's. A crash may leave those from the place `from` on.
  abbrev pub IsSafeVolume : Opened D → List Tree → ℕ → Type 0
  IsSafeVolume = IsSafe (λ (v : Opened D). device.disk v.device) (λ v. v.numbers) (λ v. v.tree)
