-- A session is a machine and the host that answers the guest's calls (`docs/ARCHITECTURE.md`, "The way of the bytes"). Here stands how
-- one is made and what resumes do, by whichever relation machines stand for configurations; `Session` says it by the machine's own.
use Rattle.std.specs.Prelude.{◌≡◌, ◌==◌, ◌&&◌, ℕ, true, false, Bool, List, [], ◌∷◌, map}
use Rattle.std.specs.Prelude.{Option, Some}
use Rattle.std.specs.Option.{option_map}
use Rattle.vol_sector.specs.declared.device.Device.{Ghosts}
use Rattle.vol_tree.specs.Tree.{IsTree}
use Rattle.vol_tree.specs.Opened.{Opened, GoesOn}
use Rattle.wasm_syntax.specs.declared.module.Module.{Module}
use Rattle.wasm_steps.specs.declared.pause.Pause.{Pause}
use Rattle.wasm_steps.specs.declared.pause.Pause.TheVariants.{Called}
use Rattle.wasm_operands.specs.Snapshots.{Snapshot, StandsFor}
use Rattle.wasm_interp.specs.Promises.{StartsBy, ResumedBy}
use Rattle.wasi_fd.specs.Table.{table_of}
use Rattle.wasi_bodies.specs.declared.streams.Terminals.{Terminals}
use Rattle.wasi_calls.specs.declared.host.wasi_host.HostParts.{HostParts}
use Rattle.wasi_bodies.specs.host.Settings.{settings_fit}
use Rattle.wasi_calls.specs.host.Links.{link}
use Rattle.wasi_bodies.specs.supplies.Random.{seeded}
use Rattle.wasi_bodies.specs.host.Worlds.{HearsStreams, HostState}
use Rattle.path_walk.specs.Walk.{Asked}
use Rattle.wasi_calls.specs.host.Making.{HasPreopens}
use Rattle.wasi_bodies.specs.laws.Moments.{IsTurn, PauseSynced, is_sync}
use Rattle.sandbox_core.specs.Devices.{Devices, Calls, IsHonest, disk_of, numbers_of, tree_of}

-- what callers see of a session
pub record SessionState (D R W1 W2 : Type 0) : Type 0 where
  pub machine : Snapshot
  pub host : HostState D R W1 W2

module _ {D R W1 W2 : Type 0} where
  abbrev pub used_by : SessionState D R W1 W2 → ℕ
  used_by s = s.machine.used

  -- the same session, whose random bytes are those of a seed from now on
  abbrev pub seeded_by : ℕ → SessionState D R W1 W2 → SessionState D R W1 W2
  seeded_by seed s = record s { host = record s.host { generator = Some (seeded seed) } }

  -- the same session, interactive from now on, with these terminals
  abbrev pub interactive_with : Terminals → SessionState D R W1 W2 → SessionState D R W1 W2
  interactive_with terminals s = record s { host = record s.host { interactive = Some terminals } }

module _ {D R W1 W2 : Type 0} (Stands : StandsFor) where
  -- The settings fit, the machine stands for the module's first configuration, no stream has failed, and random bytes
  -- come from this seed; where there is none, from the settings. Where there are terminals, it is interactive with these.
  pub record OpensBy (seed : Option ℕ) (terminals : Option Terminals) (m : Module) (parts : HostParts D R W1 W2)
      (s : SessionState D R W1 W2) : Type 0 where
    pub fits : settings_fit parts.settings ≡ true
    pub starts : StartsBy Stands link parts.settings.pages m s.machine
    pub input : s.host.input ≡ record { reader = parts.input; failed = false; ended = false }
    pub out : s.host.out ≡ record { writer = parts.out; failed = false }
    pub err : s.host.err ≡ record { writer = parts.err; failed = false }
    pub settings : s.host.settings ≡ parts.settings
    pub supply : s.host.generator ≡ option_map seeded seed
    pub interactive : s.host.interactive ≡ terminals

module _ {D : Type 0} (device : Ghosts D) where
  -- the volume after its directories were asked for, and whether it failed then
  abbrev pub AskedOn : Opened D → Opened D → Bool → Type 0
  AskedOn = Asked device.honest device.disk device.size device.failures device.goes_on

  -- The host has the volume's tree, of which only reads were made, and the preopened directories.
  pub record Shares {R W1 W2 : Type 0} (parts : HostParts D R W1 W2) (s : SessionState D R W1 W2) : Type 0 where
    pub is_tree : device.honest parts.volume.device → IsTree parts.volume.tree
    pub reads : AskedOn parts.volume s.host.volume false
    pub preopens : device.honest parts.volume.device
        → HasPreopens parts.volume.tree parts.settings.preopens.now (table_of s.host.descriptors)

-- what each of some resumes answered, and the session after it
abbrev pub History : Type 0 → Type 0
History S = List (Pause × S)

abbrev pub pauses_of : {S : Type 0} → History S → List Pause
pauses_of rs = map (λ r. r.0) rs

-- a sync that was answered with success
abbrev pub is_synced : Pause → Bool
is_synced (Called c e) = is_sync c && (e.0 == 0)
is_synced other = false

module _ {D R W1 W2 : Type 0} (Stands : StandsFor) (on : Devices D R W1 W2) where
  -- A resume is one of the machine over the host. On any device the volume's numbers stay, and the device's size, and the
  -- device goes on. A stream that refuses is marked as failed, and isn't asked again. Each image that a crash may leave since
  -- the resume began could be left before, or stands under these numbers for a tree that one could leave then, or for the tree
  -- before or after; and for the tree after where the resume answered a sync.
  pub record ResumesBy (old new : SessionState D R W1 W2) (units : ℕ) (p : Pause) : Type 0 where
    pub run : ResumedBy Stands (HostState D R W1 W2) (Calls on) old.host new.host old.machine new.machine units p
    pub numbers : new.host.volume.numbers ≡ old.host.volume.numbers
    pub size : on.device.size new.host.volume.device ≡ on.device.size old.host.volume.device
    pub goes : GoesOn on.device.goes_on old.host.volume new.host.volume
    pub heard : HearsStreams on.ear old.host new.host
    pub honest_after : IsHonest on old.host → IsHonest on new.host
    pub crash : IsHonest on old.host
        → IsTurn (disk_of on old.host) (disk_of on new.host) (numbers_of old.host) (tree_of old.host) (tree_of new.host)
    pub synced : IsHonest on old.host → PauseSynced (disk_of on) numbers_of tree_of (IsHonest on) p new.host

  -- one resume after another, from a session to another
  abbrev pub FollowBy : SessionState D R W1 W2 → History (SessionState D R W1 W2) → SessionState D R W1 W2 → Type 0
  FollowBy s [] s' = s' ≡ s
  FollowBy s (r ∷ rs) s' = ((units : ℕ) × ResumesBy s r.1 units r.0) × FollowBy r.1 rs s'
