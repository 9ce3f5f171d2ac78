-- A run of the program is a list of resumes of a session that begins, with a seed or without, interactive or not.
use Rattle.std.proofs.Common.{ℕ, [], ◌∷◌, Option}
use Rattle.vol_sector.specs.Disk.{Image}
use Rattle.vol_tree.specs.Stands.{StandsAs}
use Rattle.wasm_syntax.specs.declared.module.Module.{Module}
use Rattle.wasm_operands.specs.Snapshots.{StandsFor}
use Rattle.wasi_calls.specs.declared.host.wasi_host.HostParts.{HostParts}
use Rattle.wasi_bodies.specs.declared.streams.Terminals.{Terminals}
use Rattle.sandbox_core.specs.Devices.{Devices}
use Rattle.sandbox_core.specs.Sessions.{SessionState, OpensBy, Shares, History, FollowBy}
use Rattle.sandbox_core.specs.Safety.{TurnsAreSafe}
use Rattle.sandbox_core.specs.Headline.{OpenedHeadline, Upholds}

module _ {D R W1 W2 : Type 0} (Stands : StandsFor) (on : Devices D R W1 W2) where
  pub upheld : OpenedHeadline Stands on → TurnsAreSafe on
      → (m : Module) (parts : HostParts D R W1 W2) (s s' : SessionState D R W1 W2) (rs : History (SessionState D R W1 W2)) (seed : Option ℕ) (terminals : Option Terminals)
      → OpensBy Stands seed terminals m parts s → Shares on.device parts s → on.device.honest parts.volume.device
      → ((c : Image) → (on.device.disk parts.volume.device).may_leave c → StandsAs c parts.volume.numbers parts.volume.tree)
      → FollowBy Stands on s rs s' → Upholds Stands on m parts.settings.pages (parts.volume.tree ∷ []) 0 s rs s'
  upheld holds safe m parts s s' rs seed terminals opens shares is lasts follow =
      holds seed terminals m parts (parts.volume.tree ∷ []) 0 s s' rs opens shares is (safe.opened parts.volume is lasts) follow
