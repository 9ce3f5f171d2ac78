use Rattle.std.proofs.Common.{Some, inl, inr, refl, sym, subst}
use Rattle.wasm_syntax.specs.declared.profile.Profile.{Profile}
use Rattle.wasm_syntax.specs.declared.module.Module.{Module}
use Rattle.wasm_syntax.specs.Module.{SpellsWith}
use Rattle.wasm_valid.specs.Validity.{IsValid}
use Rattle.sandbox_report.specs.declared.fault.Fault.TheVariants as reason
use Rattle.sandbox_report.specs.declared.summary.VolumeEnd.TheVariants as kept
use Rattle.sandbox_runs.specs.StreamCalling.{calls_of}
use Rattle.sandbox_telling.specs.Modules.{profile_for}
use Rattle.sandbox_telling.specs.Reporting.{not_run, session_reason}
use Rattle.sandbox_telling.specs.internal.Runnable.{module_in}
use Rattle.sandbox_command.specs.ListOfTests.{HasFailed, HasRun}
use Rattle.sandbox_command.proofs.Chains.{failed_some, went_all}
use Rattle.sandbox_command.proofs.list_of_tests.run_tests.Goals as goal

-- the words are refused
pub returns-in-Err-clause-runs : goal.returns-in-Err-clause-runs
returns-in-Err-clause-runs g c =
    inl (
      Some (not_run c.args.run.now (session_reason c.in-Err.fault) kept.None c.session_status.result),
      record { fault = c.in-Err.fault; uncut = c.in-Err.ensures.refused; ends = c.session_status.ensures; summary_is = refl },
      refl,
    )

-- a guest ran in each test
pub returns-then-run_all-clause-runs : goal.returns-then-run_all-clause-runs
returns-then-run_all-clause-runs g c =
    let prepared = module_in c.new-runnable.result in
    let found = subst (λ m. SpellsWith (profile_for c.args.run.now.floats) c.args.«module».now m × IsValid m) (sym c.new-runnable.ensures.«module»)
    (subst (λ (p : Profile). SpellsWith p c.args.«module».now c.in-Ok-load_with.valid × IsValid c.in-Ok-load_with.valid) c.profile_for.ensures c.in-Ok-load_with.ensures.found) in
    inr (inr (
      prepared,
      found.0,
      found.1,
      inl (
        refl,
        went_all
            (HasRun g.P.Places g.P.Input.Read g.P.Output.Write g.P.Output.Outlet.flushed g.P.Output.Outlet.refuses (calls_of g.P.Input.Inlet.gave g.P.Input.Inlet.refused) (calls_of g.P.Output.Outlet.took g.P.Output.Outlet.refused) c.args.run.now c.args.«module».now prepared c.args.random.now)
            (HasFailed g.P.Places g.P.Input.Read g.P.Output.Write g.P.Output.Outlet.flushed g.P.Output.Outlet.refuses (calls_of g.P.Input.Inlet.gave g.P.Input.Inlet.refused) (calls_of g.P.Output.Outlet.took g.P.Output.Outlet.refused) c.args.run.now c.args.«module».now prepared c.args.random.now)
            c.run_all.result c.args.tests.now _ _ c.if-run_all.true c.run_all.ensures,
      ),
    ))

-- or not in each
pub returns-in-Ok-load_with-clause-runs : goal.returns-in-Ok-load_with-clause-runs
returns-in-Ok-load_with-clause-runs g c =
    let prepared = module_in c.new-runnable.result in
    let found = subst (λ m. SpellsWith (profile_for c.args.run.now.floats) c.args.«module».now m × IsValid m) (sym c.new-runnable.ensures.«module»)
    (subst (λ (p : Profile). SpellsWith p c.args.«module».now c.in-Ok-load_with.valid × IsValid c.in-Ok-load_with.valid) c.profile_for.ensures c.in-Ok-load_with.ensures.found) in
    inr (inr (
      prepared,
      found.0,
      found.1,
      inr (
        c.refuse_tests.ensures.status,
        failed_some
            (HasRun g.P.Places g.P.Input.Read g.P.Output.Write g.P.Output.Outlet.flushed g.P.Output.Outlet.refuses (calls_of g.P.Input.Inlet.gave g.P.Input.Inlet.refused) (calls_of g.P.Output.Outlet.took g.P.Output.Outlet.refused) c.args.run.now c.args.«module».now prepared c.args.random.now)
            (HasFailed g.P.Places g.P.Input.Read g.P.Output.Write g.P.Output.Outlet.flushed g.P.Output.Outlet.refuses (calls_of g.P.Input.Inlet.gave g.P.Input.Inlet.refused) (calls_of g.P.Output.Outlet.took g.P.Output.Outlet.refused) c.args.run.now c.args.«module».now prepared c.args.random.now)
            c.run_all.result c.args.tests.now _ _ c.if-run_all.false c.run_all.ensures,
      ),
    ))

-- the bytes are refused
pub returns-clause-runs : goal.returns-clause-runs
returns-clause-runs g c =
    inr (inl (
      Some (not_run c.args.run.now (reason.Module c.in-Err-load_with.fault) kept.None c.load_status.result),
      record { preopens = c.in-Ok.supplies.preopens.items; are_cut = c.in-Ok.ensures.given.preopens; fault = c.in-Err-load_with.fault; refused = λ other. subst (λ (p : Profile). (m : Module) → SpellsWith p c.args.«module».now m → IsValid m → ⊥) c.profile_for.ensures (c.in-Err-load_with.ensures.no other); spells_none = λ decoding. subst (λ (p : Profile). (m : Module) → SpellsWith p c.args.«module».now m → ⊥) c.profile_for.ensures (c.in-Err-load_with.ensures.refused decoding); ends = c.load_status.ensures; summary_is = refl },
      refl,
    ))
