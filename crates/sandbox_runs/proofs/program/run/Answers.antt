use Rattle.std.specs.Borrow.{Bor}
use Rattle.sandbox_args.specs.Request.{Text}
use Rattle.std.proofs.Common.{ℕ, Option, inl, inr, refl, sym, ◌∙◌, ap, subst, Some}
use Rattle.wasm_syntax.specs.declared.profile.Profile.{Profile}
use Rattle.wasm_syntax.specs.declared.module.Module.{Module}
use Rattle.wasm_syntax.specs.Module.{SpellsWith}
use Rattle.wasm_valid.specs.Validity.{IsValid}
use Rattle.sandbox_report.specs.declared.fault.Fault.{Fault}
use Rattle.wasi_bodies.specs.host.Worlds.{hearing}
use Rattle.sandbox_runs.specs.Execution.{IsUntouched, RunsBy}
use Rattle.sandbox_telling.specs.Modules.{profile_for}
use Rattle.sandbox_telling.specs.Stopping.{AreLinesBy, TellsLines}
use Rattle.sandbox_telling.specs.internal.Runnable.{module_in}
use Rattle.sandbox_runs.proofs.Charged.{none_tells}
use Rattle.sandbox_telling.proofs.Frames.{lines_told}
use Rattle.sandbox_runs.proofs.Launching.{kept_streams}
use Rattle.sandbox_runs.proofs.Unbegun.{not_run_so}
use Rattle.sandbox_runs.proofs.program.run.Goals as goal
use Rattle.sandbox_runs.proofs.program.run.Goals.{in-Ok+in-Err-load_with, in-Err}

-- the module is valid, and its function was called
pub returns-in-Some-clause-runs : goal.returns-in-Some-clause-runs
returns-in-Some-clause-runs g c =
    let found = subst (λ (p : Profile). SpellsWith p c.args.«module».now c.in-Ok-load_with.valid × IsValid c.in-Ok-load_with.valid) c.profile_for.ensures c.in-Ok-load_with.ensures.found in
    let streams = c.args.streams in
    inr (inr (
      c.in-Ok-load_with.valid,
      found.0,
      found.1,
      subst (λ (o : Option (Bor Text)). RunsBy g.D.Device.honest g.D.Device.disk g.D.Device.size g.D.Device.failures g.D.Device.goes_on g.R.Read.remaining g.W1.Write.contents g.W2.Write.contents (hearing g.R.Inlet.gave g.R.Inlet.refused g.W1.Outlet.took g.W1.Outlet.refused g.W2.Outlet.took g.W2.Outlet.refused) o c.args.run.now c.in-Ok-load_with.valid c.args.random.now c.args.device streams.input streams.out streams.err c.invoke_valid.result.0) (sym c.in-Some.is) c.invoke_valid.ensures.invokes,
    ))

pub returns-in-Some-clause-lines : goal.returns-in-Some-clause-lines
returns-in-Some-clause-lines g c =
    lines_told (profile_for c.args.run.now.floats) c.args.«module».now c.in-Ok-load_with.valid c.args.run.now.frames c.invoke_valid.result.0.stopped c.invoke_valid.result.1.items (subst (λ (p : Profile). SpellsWith p c.args.«module».now c.in-Ok-load_with.valid) c.profile_for.ensures c.in-Ok-load_with.ensures.found.0)
    c.invoke_valid.ensures.lines

-- the module is valid, and ran as a command
pub returns-in-Ok-load_with-clause-runs : goal.returns-in-Ok-load_with-clause-runs
returns-in-Ok-load_with-clause-runs g c =
    let found = subst (λ (p : Profile). SpellsWith p c.args.«module».now c.in-Ok-load_with.valid × IsValid c.in-Ok-load_with.valid) c.profile_for.ensures c.in-Ok-load_with.ensures.found in
    let streams = c.args.streams in
    inr (inr (
      c.in-Ok-load_with.valid,
      found.0,
      found.1,
      subst (λ (o : Option (Bor Text)). RunsBy g.D.Device.honest g.D.Device.disk g.D.Device.size g.D.Device.failures g.D.Device.goes_on g.R.Read.remaining g.W1.Write.contents g.W2.Write.contents (hearing g.R.Inlet.gave g.R.Inlet.refused g.W1.Outlet.took g.W1.Outlet.refused g.W2.Outlet.took g.W2.Outlet.refused) o c.args.run.now c.in-Ok-load_with.valid c.args.random.now c.args.device streams.input streams.out streams.err c.run_valid-ran.result.1) (sym c.in_default.is) c.run_valid-ran.ensures.runs,
    ))

-- the words are refused, or the bytes
pub returns-clause-runs : goal.returns-clause-runs
returns-clause-runs g c =
    let ended = c.not_begun-left.ensures in
    let streams = c.args.streams in
    let untouched : IsUntouched g.D.Device.honest g.D.Device.disk g.D.Device.size g.D.Device.failures g.D.Device.goes_on g.R.Read.remaining g.W1.Write.contents g.W2.Write.contents (hearing g.R.Inlet.gave g.R.Inlet.refused g.W1.Outlet.took g.W1.Outlet.refused g.W2.Outlet.took g.W2.Outlet.refused)
    c.args.device streams.input streams.out streams.err c.not_begun-left.result = record {
      device_is = ended.device;
      flushed = ended.flushed;
      streams = kept_streams g.W1.Write.contents g.W2.Write.contents streams.input streams.out streams.err c.not_begun-left.result ended.input ended.out ended.err;
    } in
    elim c.match-supplied.branch [
      | in-Ok+in-Err-load_with w ↦ inr (inl (
        record {
          preopens = w.in-Ok.supplies.preopens.items;
          are_cut = w.in-Ok.ensures.given.preopens;
          fault = w.in-Err-load_with.fault;
          refused = λ other. subst (λ (p : Profile). (m : Module) → SpellsWith p c.args.«module».now m → IsValid m → ⊥) w.profile_for.ensures (w.in-Err-load_with.ensures.no other);
          spells_none = λ decoding. subst (λ (p : Profile). (m : Module) → SpellsWith p c.args.«module».now m → ⊥) w.profile_for.ensures (w.in-Err-load_with.ensures.refused decoding);
          ends = ended.status ∙ (ap (λ (p : ℕ × Fault). p.0) w.status-is ∙ w.load_status.ensures);
          summary_is = ended.summary ∙ ap Some (not_run_so c.args.run.now _ _ _ _ _ _ (ap (λ (p : ℕ × Fault). p.1) w.status-is) refl (sym ended.status));
        },
        untouched,
      ))
      | in-Err w ↦ inl (
        record {
          fault = w.in-Err.fault;
          uncut = w.in-Err.ensures.refused;
          ends = ended.status ∙ (ap (λ (p : ℕ × Fault). p.0) w.status-is ∙ w.session_status.ensures);
          summary_is = ended.summary ∙ ap Some (not_run_so c.args.run.now _ _ _ _ _ _ (ap (λ (p : ℕ × Fault). p.1) w.status-is ∙ w.session_reason.ensures) refl (sym ended.status));
        },
        untouched,
      )
    ]

-- it tells where it stopped
pub returns-in-Ok-load_with-clause-lines : goal.returns-in-Ok-load_with-clause-lines
returns-in-Ok-load_with-clause-lines g c =
    lines_told (profile_for c.args.run.now.floats) c.args.«module».now c.in-Ok-load_with.valid c.args.run.now.frames c.run_valid-ran.result.1.stopped c.lines_of-lines.result.items (subst (λ (p : Profile). SpellsWith p c.args.«module».now c.in-Ok-load_with.valid) c.profile_for.ensures c.in-Ok-load_with.ensures.found.0)
    (subst (λ m. AreLinesBy c.args.«module».now m c.args.run.now.frames c.run_valid-ran.result.1.stopped c.lines_of-lines.result.items) (c.«module».ensures ∙ ap module_in c.run_valid-ran.ensures.«module») c.lines_of-lines.ensures)

-- nothing is told where it didn't begin
pub returns-clause-lines : goal.returns-clause-lines
returns-clause-lines g c = subst (λ s. TellsLines (profile_for c.args.run.now.floats) c.args.«module».now c.args.run.now.frames s c.no_lines.result.items) (sym c.not_begun-left.ensures.stopped) c.no_lines.ensures

pub returns-clause-fuel_use : goal.returns-clause-fuel_use
returns-clause-fuel_use g c = none_tells c.args.stacks _ c.not_begun-left.ensures.stopped
