-- No run ends with a status above 124.
use Rattle.std.proofs.Common.{◌≡◌, ◌≤◌, ℕ, Bool, true, false, List, Option, Some, None, Result, Ok, Err, nat_le, if◌then◌else◌, inl, inr, arith}
use Rattle.std.proofs.lemmas.Bool.Decides.{nat_tests}
use Rattle.std.specs.Borrow.{Bor}
use Rattle.vol_sector.specs.Disk.{Disk}
use Rattle.vol_sector.specs.declared.fault.VolumeFault.{VolumeFault}
use Rattle.vol_sector.specs.declared.fault.VolumeFault.TheVariants as volume
use Rattle.wasm_syntax.specs.declared.fault.LoadFault.{LoadFault}
use Rattle.wasm_syntax.specs.declared.fault.LoadFault.TheVariants as loading
use Rattle.wasm_steps.specs.declared.pause.Outcome.{Outcome}
use Rattle.wasm_steps.specs.declared.pause.Outcome.TheVariants.{Exited, Trapped, OutOfFuel, OutOfMemory}
use Rattle.sandbox_core.specs.declared.fault.SessionFault.{SessionFault}
use Rattle.sandbox_core.specs.declared.fault.SessionFault.TheVariants as opening
use Rattle.vol_tar.specs.declared.reasons.TarReason.{TarReason}
use Rattle.vol_tar.specs.declared.reasons.TarReason.TheVariants as archive
use Rattle.vol_commands.specs.declared.failure.Failure.TheVariants as failure
use Rattle.vol_commands.specs.declared.importing.ImportFailure.{ImportFailure}
use Rattle.vol_commands.specs.declared.importing.ImportFailure.TheVariants as importing
use Rattle.vol_commands.specs.declared.exporting.ExportFailure.{ExportFailure}
use Rattle.vol_commands.specs.declared.exporting.ExportFailure.TheVariants as exporting
use Rattle.wasm_syntax.specs.declared.module.Module.{Module}
use Rattle.sandbox_report.specs.declared.fault.Fault.{Fault}
use Rattle.sandbox_args.specs.Request.{Text}
use Rattle.sandbox_args.specs.declared.request.Run.{Run}
use Rattle.wasi_bodies.specs.host.Worlds.{Hearing}
use Rattle.sandbox_runs.specs.declared.program.Executed.{Executed}
use Rattle.sandbox_runs.specs.Execution.{Runs, RunsBy}
use Rattle.sandbox_runs.specs.Invoking.{CallEndsWith}
use Rattle.sandbox_runs.specs.Status.{EndsWith, export_status, failure_status, import_status, load_status, session_status, status_of, volume_status, why_status}

pub of_session : (f : SessionFault) (n : ℕ) → n ≡ session_status f → n ≤ 124
of_session opening.Memory n is = omega (arith, is)
of_session opening.Setting n is = omega (arith, is)
of_session (opening.Instance f) n is = omega (arith, is)
of_session opening.Device n is = omega (arith, is)
of_session opening.Preopen n is = omega (arith, is)

of_why : (w : TarReason) → why_status w ≤ 124
of_why archive.Memory = omega arith
of_why w = omega arith

of_volume_failure : (f : VolumeFault) → failure_status (failure.Volume f) ≤ 124
of_volume_failure volume.Memory = omega arith
of_volume_failure f = omega arith

pub import_within : (refusal : ImportFailure) → import_status refusal ≤ 124
import_within (importing.Volume f) = of_volume_failure f
import_within (importing.Path e) = omega arith
import_within (importing.Halted halted) = of_why halted.refusal.why

pub export_within : (refusal : ExportFailure) → export_status refusal ≤ 124
export_within (exporting.Volume f) = of_volume_failure f
export_within (exporting.Path e) = omega arith
export_within (exporting.Stopped w) = of_why w

of_volume : (f : VolumeFault) (n : ℕ) → n ≡ volume_status f → n ≤ 124
of_volume volume.Memory n is = omega (arith, is)
of_volume f n is = omega (arith, is)

pub of_load : (f : LoadFault) (n : ℕ) → n ≡ load_status f → n ≤ 124
of_load loading.Memory n is = omega (arith, is)
of_load f n is = omega (arith, is)

exited : (n status : ℕ) → status ≡ (if nat_le n 119 then n else 119) → status ≤ 124
exited n status is = grind (arith, nat_tests)

of_outcome : (outcome : Outcome) (n : ℕ) → n ≡ status_of outcome → n ≤ 124
of_outcome (Exited code) n is = exited code n is
of_outcome (Trapped t) n is = omega (arith, is)
of_outcome OutOfFuel n is = omega (arith, is)
of_outcome OutOfMemory n is = omega (arith, is)

of_end : {V R : Type 0} (outcome : Outcome) (left : Result V R) (flushed : Bool) (n : ℕ) → EndsWith outcome left flushed n → n ≤ 124
of_end outcome (Ok v) true n is = of_outcome outcome n is
of_end outcome (Ok v) false n is = omega (arith, is)
of_end outcome (Err r) flushed n is = omega (arith, is)

of_call : {V R : Type 0} (fault : Option Fault) (outcome : Outcome) (left : Result V R) (flushed : Bool) (n : ℕ) → CallEndsWith fault outcome left flushed n → n ≤ 124
of_call None outcome left flushed n is = of_end outcome left flushed n is
of_call (Some fault) outcome (Ok v) flushed n is = omega (arith, is)
of_call (Some fault) outcome (Err r) flushed n is = omega (arith, is)

module _ {D R W1 W2 : Type 0} (is_honest : D → Type 0) (disk : D → Disk) (sectors_on failures : D → ℕ) (goes_on : ℕ → D → D → Type 0)
    (remaining : R → Option (List ℕ)) (outs : W1 → Option (List ℕ)) (errs : W2 → Option (List ℕ)) (ear : Hearing R W1 W2) where
  -- of a command, or of a function that is called in its place
  run_within : (invoke : Option (Bor Text)) (run : Run) (m : Module) (random : Text) (device : D) (input : R) (out : W1) (err : W2) (left : Executed D R W1 W2)
      → RunsBy is_honest disk sectors_on failures goes_on remaining outs errs ear invoke run m random device input out err left → left.status ≤ 124
  run_within None run m random device input out err left (inl none) = of_volume none.refused.fault left.status none.ends
  run_within None run m random device input out err left (inr on) = elim on.launched [
    | inl refused ↦ of_session refused.fault left.status refused.ends
    | inr ran ↦ of_end ran.report.outcome ran.report.volume left.flushed left.status ran.ends
  ]
  run_within (Some name) run m random device input out err left (inl none) = of_volume none.refused.fault left.status none.ends
  run_within (Some name) run m random device input out err left (inr on) = elim on.launched [
    | inl refused ↦ of_session refused.fault left.status refused.ends
    | inr called ↦ of_call called.told.fault called.told.outcome called.called.volume left.flushed left.status called.told.ends
  ]

  pub runs_within : (run : Run) (bytes : List ℕ) (random : Text) (device : D) (input : R) (out : W1) (err : W2) (left : Executed D R W1 W2)
      → Runs is_honest disk sectors_on failures goes_on remaining outs errs ear run bytes random device input out err left → left.status ≤ 124
  runs_within run bytes random device input out err left (inl (refused, same)) = of_session refused.fault left.status refused.ends
  runs_within run bytes random device input out err left (inr (inl (refused, same))) = of_load refused.fault left.status refused.ends
  runs_within run bytes random device input out err left (inr (inr (m, spells, valid, ran))) = run_within run.invoke run m random device input out err left ran
