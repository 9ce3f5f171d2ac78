-- Sessions by the relation that their machines have with configurations (`Represents`), and refusals of sessions.
use Rattle.std.specs.Prelude.{◌≡◌, ◌≢◌, ◌==◌, ℕ, true, false, Bool}
use Rattle.std.specs.Prelude.{Option, None}
use Rattle.vol_sector.specs.declared.device.Device.{Ghosts}
use Rattle.vol_tree.specs.Opened.{Opened}
use Rattle.wasm_syntax.specs.declared.module.Module.{Module}
use Rattle.wasm_store.specs.declared.fault.InstanceFault.TheVariants.{Memory as NoMemory}
use Rattle.wasm_store.specs.NotStarting.{RefusedFor}
use Rattle.wasm_steps.specs.declared.pause.Pause.{Pause}
use Rattle.wasm_steps.specs.declared.pause.Pause.TheVariants.{Called}
use Rattle.wasm_interp.specs.Machine.{Snapshot, Represents, limited}
use Rattle.wasm_interp.specs.Promise.{Starts}
use Rattle.wasi_bodies.specs.declared.settings.Settings.{Settings}
use Rattle.wasi_bodies.specs.declared.streams.Terminals.{Terminals}
use Rattle.wasi_calls.specs.declared.host.wasi_host.HostParts.{HostParts}
use Rattle.wasi_bodies.specs.host.Settings.{settings_fit}
use Rattle.wasi_calls.specs.host.Links.{link}
use Rattle.wasi_calls.specs.host.Making.{preopens_of}
use Rattle.sandbox_core.specs.Devices.{Devices}
use Rattle.sandbox_core.specs.declared.fault.SessionFault.{SessionFault}
use Rattle.sandbox_core.specs.declared.fault.SessionFault.TheVariants.{Setting, Device, Preopen, Memory}
use Rattle.sandbox_core.specs.declared.fault.SessionFault.TheVariants.{Instance as NoInstance}
use Rattle.sandbox_core.specs.declared.session.RefusedSession.{RefusedSession}
pub use Rattle.sandbox_core.specs.Finishing.{IsHandedBack, Commits, Finishes}
pub use Rattle.sandbox_core.specs.Sessions.{SessionState, used_by, seeded_by, interactive_with, OpensBy, AskedOn, Shares, History, pauses_of, is_synced, ResumesBy, FollowBy}

-- a module can be instantiated: some machine stands for its first configuration
abbrev pub IsInstantiable : Module → ℕ → Type 0
IsInstantiable m pages = (machine : Snapshot) × Starts link pages m machine

module _ {D R W1 W2 : Type 0} where
  -- the same session, whose guest's stack has this many values at most from now on, or as many as find room already
  abbrev pub limited_to : ℕ → SessionState D R W1 W2 → SessionState D R W1 W2
  limited_to most s = record s { machine = limited most s.machine }

  -- what a session is made of beside its module
  abbrev pub given : Settings → Opened D → R → W1 → W2 → HostParts D R W1 W2
  given settings volume input out err =
      record { settings = settings; volume = volume; input = input; out = out; err = err }

  -- by the relation that the machine has
  abbrev pub OpensWith : Option ℕ → Option Terminals → Module → HostParts D R W1 W2 → SessionState D R W1 W2 → Type 0
  OpensWith seed terminals m parts s = OpensBy Represents seed terminals m parts s

  -- as a new session does
  abbrev pub Opens : Module → HostParts D R W1 W2 → SessionState D R W1 W2 → Type 0
  Opens m parts s = OpensWith None None m parts s

module _ {D : Type 0} (device : Ghosts D) where
  -- Nothing was done with the volume before its directories were asked for.
  abbrev pub KeepsVolume : SessionFault → Opened D → Opened D → Type 0
  KeepsVolume Device old new = AskedOn device old new true
  KeepsVolume Preopen old new = AskedOn device old new false
  KeepsVolume other old new = new ≡ old

  -- a refusal has all that was handed in
  pub record HandsBack {R W1 W2 : Type 0} (m : Module) (parts : HostParts D R W1 W2)
      (refused : RefusedSession D R W1 W2) : Type 0 where
    pub valid : refused.valid ≡ m
    pub settings : refused.parts.settings ≡ parts.settings
    pub input : refused.parts.input ≡ parts.input
    pub out : refused.parts.out ≡ parts.out
    pub err : refused.parts.err ≡ parts.err
    pub volume : KeepsVolume refused.fault parts.volume refused.parts.volume

-- The reason of a refusal, in this order: the settings exactly where they don't fit, the module exactly where it can't
-- be instantiated, the volume where it has failed then, and a path exactly where it names no directory.
abbrev pub IsRefused : {D R W1 W2 : Type 0} → (D → Type 0) → SessionFault → Module → HostParts D R W1 W2 → Type 0
IsRefused honest Setting m parts = settings_fit parts.settings ≡ false
IsRefused honest (NoInstance f) m parts = (settings_fit parts.settings ≡ true) × (f ≢ NoMemory)
    × RefusedFor link parts.settings.pages m f
IsRefused honest Device m parts = (settings_fit parts.settings ≡ true) × IsInstantiable m parts.settings.pages
IsRefused honest Preopen m parts = (settings_fit parts.settings ≡ true) × IsInstantiable m parts.settings.pages
    × (honest parts.volume.device → preopens_of parts.volume.tree parts.settings.preopens.now ≡ None)
IsRefused honest Memory m parts = settings_fit parts.settings ≡ true

-- a call that was answered
abbrev pub is_called : Pause → Bool
is_called (Called c e) = true
is_called other = false

-- a call that was answered with this errno
abbrev pub is_answered : ℕ → Pause → Bool
is_answered k (Called c e) = e.0 == k
is_answered k other = false

module _ {D R W1 W2 : Type 0} (on : Devices D R W1 W2) where
  abbrev pub Resumes : SessionState D R W1 W2 → SessionState D R W1 W2 → ℕ → Pause → Type 0
  Resumes old new units p = ResumesBy Represents on old new units p

  -- one resume after another, from a session to another
  abbrev pub Follow : SessionState D R W1 W2 → History (SessionState D R W1 W2) → SessionState D R W1 W2 → Type 0
  Follow s rs s' = FollowBy Represents on s rs s'
