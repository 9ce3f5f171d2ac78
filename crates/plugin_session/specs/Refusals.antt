-- Why an instance doesn't do what it is told: by where it is; and where it may, by the module or by what its machine tells.
use Rattle.std.specs.Prelude.{◌≡◌, ◌⊎◌, ◌<◌, ℕ, List, length, Contains, Option, Some, None}
use Rattle.wasm_syntax.specs.declared.module.ExportKind.TheVariants as exports
use Rattle.wasm_syntax.specs.declared.module.Module.{Module}
use Rattle.wasm_places.specs.declared.invocable.NotAnswered.TheVariants as notAnswered
use Rattle.wasm_places.specs.declared.invocable.NotInvoked.TheVariants as notInvoked
use Rattle.wasm_places.specs.declared.invocable.NotWritten.TheVariants as notWritten
use Rattle.wasm_interp.specs.Machine.{Snapshot}
use Rattle.wasm_interp.specs.Invoking.{IsNotAnswered, IsNotInvoked, IsNotWritten}
use Rattle.plugin_core.specs.declared.stage.Stage.{Stage}
use Rattle.plugin_core.specs.declared.stage.Stage.TheVariants as stage
use Rattle.plugin_session.specs.declared.handling.Misuse.{Misuse}
use Rattle.plugin_session.specs.declared.handling.Misuse.TheVariants as misuse
use Rattle.plugin_session.specs.Instance.{InstanceState}

-- ---- by where it is, if it isn't done there

abbrev pub not_invoked_at : Stage → Option Misuse
not_invoked_at stage.Ready = None
not_invoked_at stage.Stopped = None
not_invoked_at stage.Asked = Some misuse.Asked
not_invoked_at stage.AskedOpening = Some misuse.Asked
not_invoked_at stage.Running = Some misuse.AtWork
not_invoked_at stage.Opening = Some misuse.AtWork
not_invoked_at stage.Over = Some misuse.Over

abbrev pub not_gone_on_at : Stage → Option Misuse
not_gone_on_at stage.Running = None
not_gone_on_at stage.Opening = None
not_gone_on_at stage.Asked = Some misuse.Asked
not_gone_on_at stage.AskedOpening = Some misuse.Asked
not_gone_on_at stage.Ready = Some misuse.Idle
not_gone_on_at stage.Stopped = Some misuse.Idle
not_gone_on_at stage.Over = Some misuse.Over

abbrev pub not_answered_at : Stage → Option Misuse
not_answered_at stage.Asked = None
not_answered_at stage.AskedOpening = None
not_answered_at stage.Running = Some misuse.NotAsked
not_answered_at stage.Opening = Some misuse.NotAsked
not_answered_at stage.Ready = Some misuse.NotAsked
not_answered_at stage.Stopped = Some misuse.NotAsked
not_answered_at stage.Over = Some misuse.Over

abbrev pub not_written_at : Stage → Option Misuse
not_written_at stage.Ready = None
not_written_at stage.Asked = None
not_written_at stage.AskedOpening = None
not_written_at stage.Running = Some misuse.AtWork
not_written_at stage.Opening = Some misuse.AtWork
not_written_at stage.Stopped = Some misuse.Stopped
not_written_at stage.Over = Some misuse.Over

abbrev pub not_let_go_at : Stage → Option Misuse
not_let_go_at stage.Ready = None
not_let_go_at stage.Stopped = None
not_let_go_at stage.Asked = None
not_let_go_at stage.AskedOpening = None
not_let_go_at stage.Running = None
not_let_go_at stage.Opening = None
not_let_go_at stage.Over = Some misuse.Over

-- ---- by the module

-- function x is exported by this name
abbrev pub IsExportedBy : Module → List ℕ → ℕ → Type 0
IsExportedBy m name x = Contains m.exports (record { name = name; kind = exports.Function x })

-- No function is exported by this name, or none of the module's own that takes at most 16 arguments; or these aren't of its types.
abbrev pub IsNoCall : Module → List ℕ → List ℕ → Misuse → Type 0
IsNoCall m name arguments misuse.NoFunction = ((x : ℕ) → IsExportedBy m name x → ⊥) ⊎ ((x : ℕ) × IsExportedBy m name x × IsNotInvoked m x arguments notInvoked.Absent)
IsNoCall m name arguments misuse.Mistyped = (x : ℕ) × IsExportedBy m name x × IsNotInvoked m x arguments notInvoked.Mistyped
IsNoCall m name arguments e = ⊥

-- ---- by the machine

-- the embedder isn't asked, or these are no results of the function; no function has more than one
abbrev pub IsNoAnswer : Snapshot → List ℕ → Misuse → Type 0
IsNoAnswer s results misuse.NotAsked = IsNotAnswered s results notAnswered.NotAsked
IsNoAnswer s results misuse.Mistyped = (1 < length results) ⊎ IsNotAnswered s results notAnswered.Mistyped
IsNoAnswer s results e = ⊥

-- a function is at work and nobody is asked, or so many bytes would pass the end
abbrev pub IsNoWrite : Snapshot → ℕ → ℕ → Misuse → Type 0
IsNoWrite s address count misuse.AtWork = IsNotWritten s address count notWritten.AtWork
IsNoWrite s address count misuse.PastEnd = IsNotWritten s address count notWritten.PastEnd
IsNoWrite s address count e = ⊥

-- ---- why a call of an instance is refused

-- it isn't done where the instance is; or it is, and this is the reason
abbrev pub Because : Option Misuse → Misuse → Type 0 → Type 0
Because there e reason = (there ≡ Some e) ⊎ ((there ≡ None) × reason)

module _ {D R W1 W2 : Type 0} where
  abbrev pub RefusesCall : InstanceState D R W1 W2 → List ℕ → List ℕ → Misuse → Type 0
  RefusesCall s name arguments e = Because (not_invoked_at s.stage) e (IsNoCall s.machine.valid name arguments e)

  abbrev pub RefusesAnswer : InstanceState D R W1 W2 → List ℕ → Misuse → Type 0
  RefusesAnswer s results e = Because (not_answered_at s.stage) e (IsNoAnswer s.machine results e)

  abbrev pub RefusesWrite : InstanceState D R W1 W2 → ℕ → ℕ → Misuse → Type 0
  RefusesWrite s address count e = Because (not_written_at s.stage) e (IsNoWrite s.machine address count e)
