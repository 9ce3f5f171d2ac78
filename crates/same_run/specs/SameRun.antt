-- The same module, supplies and volume give the same run, unless the host failed: memory, a stream or the device. `SameRun`
-- says so of two runs from one configuration, each over devices and streams of its own, and `SameReport` of the reports of
-- two sessions.
use Rattle.std.specs.Prelude.{◌≡◌, ℕ, ◌≤◌, Option}
use Rattle.wasm_syntax.specs.declared.module.Module.{Module}
use Rattle.wasm_valid.specs.Validity.{IsValid}
use Rattle.wasm_steps.specs.declared.pause.Outcome.{Outcome}
use Rattle.wasm_steps.specs.Configuration.{Instance, Configuration}
use Rattle.wasm_interp.specs.Machine.{Represents}
use Rattle.wasi_calls.specs.declared.host.wasi_host.HostParts.{HostParts}
use Rattle.wasi_bodies.specs.declared.streams.Terminals.{Terminals}
use Rattle.wasi_bodies.specs.host.Worlds.{HostState}
use Rattle.sandbox_core.specs.declared.report.Report.{Report}
use Rattle.sandbox_core.specs.Devices.{Devices, Calls, IsHonest}
use Rattle.sandbox_core.specs.Session.{SessionState, OpensWith, Shares}
use Rattle.sandbox_core.specs.Within.{RunsWithin}
use Rattle.sandbox_core.specs.Report.{Reports}
use Rattle.same_run.specs.Alike.{AreServed, RunAlike}
pub use Rattle.same_run.specs.SameSupplies.{names_of, AreSameSupplies, AreAlike, ShowAlike}

module _ {D R W1 W2 D' R' W1' W2' : Type 0} (on : Devices D R W1 W2) (on' : Devices D' R' W1' W2') where
  -- Two runs with the same fuel from one configuration, over hosts that show the same world and whose devices keep their
  -- models.
  abbrev pub SameRun : Type 0
  SameRun = (i : Instance) (c : Configuration) (fuel fuel' : ℕ) (h last : HostState D R W1 W2)
      (h' last' : HostState D' R' W1' W2') (outcome outcome' : Outcome) (used used' : ℕ)
      → IsHonest on h → IsHonest on' h' → ShowAlike on on' h h' → fuel ≡ fuel'
      → (run : RunsWithin (Calls on) i h c fuel last outcome used)
      → (run' : RunsWithin (Calls on') i h' c fuel' last' outcome' used')
      → used ≤ fuel → used' ≤ fuel' → AreServed on on' run run' → RunAlike on on' run run'

  -- Two reports tell of the same run: both machines stood for one first configuration, and from each that both stood for
  -- the runs that the reports tell of are alike, unless the host failed in one.
  pub record TellTheSame {s : SessionState D R W1 W2} {s' : SessionState D' R' W1' W2'} {fuel fuel' : ℕ}
      {report : Report D R W1 W2} {report' : Report D' R' W1' W2'} (reports : Reports on s fuel report)
      (reports' : Reports on' s' fuel' report') : Type 0 where
    pub first : (i : Instance) × (c : Configuration) × Represents s.machine i c × Represents s'.machine i c
    pub alike : (i : Instance) (c : Configuration) (stands : Represents s.machine i c) (stands' : Represents s'.machine i c)
        → AreServed on on' (reports.run i c stands) (reports'.run i c stands')
        → RunAlike on on' (reports.run i c stands) (reports'.run i c stands')

  -- Two sessions of a valid module, with the same supplies, the same tree and the same seed or none, both interactive with the
  -- same terminals or neither, that were run with the same fuel, on devices that keep their models: the reports are those of
  -- the same run.
  abbrev pub SameReport : Type 0
  SameReport = (m : Module) (seed seed' : Option ℕ) (terminals terminals' : Option Terminals) (parts : HostParts D R W1 W2) (parts' : HostParts D' R' W1' W2')
      (s : SessionState D R W1 W2) (s' : SessionState D' R' W1' W2') (fuel fuel' : ℕ)
      (report : Report D R W1 W2) (report' : Report D' R' W1' W2')
      → IsValid m → AreAlike on on' parts parts' → seed ≡ seed' → terminals ≡ terminals' → fuel ≡ fuel'
      → OpensWith seed terminals m parts s → OpensWith seed' terminals' m parts' s' → Shares on.device parts s → Shares on'.device parts' s'
      → on.device.honest parts.volume.device → on'.device.honest parts'.volume.device
      → (reports : Reports on s fuel report) → (reports' : Reports on' s' fuel' report') → TellTheSame reports reports'
