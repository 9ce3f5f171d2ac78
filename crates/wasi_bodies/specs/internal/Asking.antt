-- Bodies that only ask the volume: the part of a row that they go through, and how they may end the call. The bodies of
-- `path_*` cite it: a part passes in the same world, or it stops the call by a check or with 29.
use Rattle.std.specs.Prelude.{◌≡◌, ◌≢◌, ◌⊎◌, ℕ, false, Result, Ok, Err}
use Rattle.vol_tree.specs.Opened.{Opened}
use Rattle.wasm_store.specs.declared.call.Errno.{Errno as Number}
use Rattle.wasi_bodies.specs.World.{World, with_volume_failed}
use Rattle.wasi_bodies.specs.Checks.{Checked}
use Rattle.wasi_bodies.specs.internal.Entries.{with_volume}
use Rattle.wasi_bodies.specs.Errnos.{IO}

module _ {D X : Type 0} where
  -- the part is gone through in the same world, and needs the volume
  pub record Passes (part : World → Checked X) (w : World) (new : Opened D) (x : X) : Type 0 where
    pub is : part w ≡ Ok x
    pub gone : part (with_volume_failed w) ≡ Err IO
    pub same : with_volume new w ≡ w
    pub working : w.volume_failed ≡ false

  -- a check of the part refuses, in the same world
  pub record Refuses (part : World → Checked X) (w : World) (new : Opened D) (e : ℕ) : Type 0 where
    pub is : part w ≡ Err e
    pub same : with_volume new w ≡ w

  -- the volume fails in the part, or had failed before
  pub record Fails (part : World → Checked X) (w : World) (new : Opened D) (e : ℕ) : Type 0 where
    pub answer : e ≡ 29
    pub gone : part (with_volume_failed w) ≡ Err IO
    pub never : w.volume_failed ≡ false → part w ≢ Err IO
    pub after : with_volume new w ≡ with_volume_failed w

  abbrev pub Stops : (World → Checked X) → World → Opened D → ℕ → Type 0
  Stops part w new e = Refuses part w new e ⊎ Fails part w new e

  -- the volume fails in a part that comes after others
  pub record FailsNext (part : World → Checked X) (w : World) (new : Opened D) (e : ℕ) : Type 0 where
    pub answer : e ≡ 29
    pub never : part w ≢ Err IO
    pub after : with_volume new w ≡ with_volume_failed w

  abbrev pub StopsNext : (World → Checked X) → World → Opened D → ℕ → Type 0
  StopsNext part w new e = Refuses part w new e ⊎ FailsNext part w new e

  abbrev pub Asks : (World → Checked X) → World → Opened D → Result X Number → Type 0
  Asks part w new (Ok x) = Passes part w new x
  Asks part w new (Err e) = Stops part w new e.0
