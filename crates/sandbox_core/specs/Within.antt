-- Runs with fuel over a host, from one configuration to a last one by steps of the reduction rules, and what a crash in one may leave.
use Rattle.std.specs.Prelude.{◌≡◌, ◌⊎◌, ℕ, List, ◌++◌}
use Rattle.vol_sector.specs.Disk.{Image, Disk}
use Rattle.vol_tree.specs.Tree.{Tree}
use Rattle.vol_tree.specs.Opened.{Reflects}
use Rattle.vol_tree.specs.Stands.{StandsAs}
use Rattle.vol_tree.specs.declared.superblock.Superblock.{Superblock}
use Rattle.wasm_store.specs.declared.call.HostCall.{HostCall}
use Rattle.wasm_store.specs.declared.call.Errno.{Errno}
use Rattle.wasm_steps.specs.declared.pause.Outcome.{Outcome}
use Rattle.wasm_steps.specs.declared.pause.Outcome.TheVariants.{OutOfFuel}
use Rattle.wasm_steps.specs.Configuration.{Instance, Configuration, code_of, used_by, NextIsPlain}
use Rattle.wasm_steps.specs.Steps.{CallsOf, Reach}
use Rattle.wasm_steps.specs.Outcomes.{EndsAs}

module _ {H : Type 0} (Calls : CallsOf H) where
  -- how a run with fuel stops: out of it exactly where all was used and the next step takes a unit
  abbrev pub StopsAs : Instance → Outcome → ℕ → ℕ → H → Configuration → Type 0
  StopsAs i OutOfFuel fuel used h c = (used ≡ fuel) × NextIsPlain (code_of c)
  StopsAs i other fuel used h c = EndsAs H Calls i other h c

  -- a run with fuel from one configuration to a last one, which has used this many units
  pub record RunsWithin (i : Instance) (h : H) (c : Configuration) (fuel : ℕ) (h' : H) (outcome : Outcome)
      (used : ℕ) : Type 0 where
    pub last : Configuration
    pub answers : List (HostCall × Errno)
    pub reach : Reach H Calls i h c answers h' last
    pub units : used_by last ≡ used
    pub stops : StopsAs i outcome fuel used h' last

  -- a host that a run comes by, between its beginning and its end
  pub record ComesBy (i : Instance) (h : H) (c : Configuration) (answers : List (HostCall × Errno)) (h' : H)
      (c' : Configuration) (host : H) : Type 0 where
    pub at : Configuration
    pub before : List (HostCall × Errno)
    pub after : List (HostCall × Errno)
    pub parts : answers ≡ before ++ after
    pub comes : Reach H Calls i h c before host at
    pub goes_on : Reach H Calls i host at after h' c'

  module _ {i : Instance} {h : H} {c : Configuration} {fuel : ℕ} {h' : H} {outcome : Outcome} {used : ℕ} where
    -- under the numbers at the beginning the image stands for the tree of a host that the run comes by
    abbrev pub StandsInRun : (H → Superblock) → (H → Tree) → RunsWithin i h c fuel h' outcome used → Image → Type 0
    StandsInRun numbers tree run image =
        (host : H) × ComesBy i h c run.answers h' run.last host × StandsAs image (numbers h) (tree host)

    -- or for a tree that a crash could leave then
    abbrev pub LeftInRun : (H → Disk) → (H → Superblock) → (H → Tree)
        → RunsWithin i h c fuel h' outcome used → Image → Type 0
    LeftInRun disk numbers tree run image = Reflects (disk h) (numbers h) image ⊎ StandsInRun numbers tree run image
