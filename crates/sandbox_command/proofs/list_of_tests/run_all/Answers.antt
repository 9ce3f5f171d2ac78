use Rattle.std.proofs.Common.{◌≡◌, ◌⊎◌, ◌<◌, ◌+◌, ℕ, Bool, true, false, List, length, take, get_or, inl, inr, refl, sym, ◌∙◌, ap, subst}
use Rattle.wasm_syntax.specs.declared.module.Module.{Module}
use Rattle.sandbox_runs.specs.StreamCalling.{calls_of}
use Rattle.sandbox_command.specs.declared.list_of_tests.TestFiles.{TestFiles}
use Rattle.sandbox_command.specs.ListOfTests.{HasFailed, HasRun}
use Rattle.sandbox_telling.specs.internal.Runnable.{IsReadyFor, module_in}
use Rattle.sandbox_command.specs.internal.Tests.{AllEndAs, OneEndsAs}
use Rattle.sandbox_command.proofs.Chains.{AllEndAs-end, AllEndAs-next}
use Rattle.sandbox_command.proofs.list_of_tests.run_all.Goals as goal
use Rattle.sandbox_command.proofs.list_of_tests.run_all.Goals.{then-have_run, else-have_run}

-- one test more was tried, with the same module
one_more : {P : Type 0} (Went Failed : Module → TestFiles → P → P → Type 0) (first m : Module) (had has now : Bool) → ((had ≡ true) × (now ≡ has)) ⊎ ((had ≡ false) × (now ≡ had)) → (tests : List TestFiles) (i : ℕ) (d : TestFiles) (p q r : P) → m ≡ first → i < length tests
    → AllEndAs (Went first) (Failed first) had (take i tests) p q → OneEndsAs (Went m) (Failed m) has (get_or tests i d) q r → AllEndAs (Went first) (Failed first) now (take (i + 1) tests) p r
one_more Went Failed first m had has now cases tests i d p q r same lt so_far last =
    AllEndAs-next (Went first) (Failed first) had has now cases tests i d p q r lt so_far (subst (λ (v : Module). OneEndsAs (Went v) (Failed v) has (get_or tests i d) q r) same last)

-- no test so far
pub loop-test-init : goal.loop-test-init
loop-test-init g c = record { same = refl; ends = refl }

-- one test more
pub loop-test-preserved : goal.loop-test-preserved
loop-test-preserved g c =
    let cases : ((c.loop-test.have_run ≡ true) × (c.if-have_run.have_run ≡ c.run_test-kept.result.1)) ⊎ ((c.loop-test.have_run ≡ false) × (c.if-have_run.have_run ≡ c.loop-test.have_run)) =
    elim c.if-have_run.branch [ then-have_run w ↦ inl (w.if-have_run.true, w.have_run-is) | else-have_run w ↦ inr (w.if-have_run.false, w.have_run-is) ] in
    record {
      same = c.run_test-kept.ensures.«module» ∙ c.loop-test.invariant.same;
      ends = one_more
          (λ m. HasRun g.P.Places g.P.Input.Read g.P.Output.Write g.P.Output.Outlet.flushed g.P.Output.Outlet.refuses (calls_of g.P.Input.Inlet.gave g.P.Input.Inlet.refused) (calls_of g.P.Output.Outlet.took g.P.Output.Outlet.refused) c.args.run.now c.args.files.«module».now m c.args.files.random.now)
          (λ m. HasFailed g.P.Places g.P.Input.Read g.P.Output.Write g.P.Output.Outlet.flushed g.P.Output.Outlet.refuses (calls_of g.P.Input.Inlet.gave g.P.Input.Inlet.refused) (calls_of g.P.Output.Outlet.took g.P.Output.Outlet.refused) c.args.run.now c.args.files.«module».now m c.args.files.random.now)
          (module_in c.args.runnable) (module_in c.loop-test.runnable) c.loop-test.have_run c.run_test-kept.result.1 c.if-have_run.have_run cases c.args.tests.now c.loop-test.test-index _ c.args.places.now c.loop-test.places c.run_test-kept.new.places
          (ap module_in c.loop-test.invariant.same) c.loop-test-test.true c.loop-test.invariant.ends c.run_test-kept.ensures.ends;
    }

pub returns : goal.returns
returns g c = AllEndAs-end
    (HasRun g.P.Places g.P.Input.Read g.P.Output.Write g.P.Output.Outlet.flushed g.P.Output.Outlet.refuses (calls_of g.P.Input.Inlet.gave g.P.Input.Inlet.refused) (calls_of g.P.Output.Outlet.took g.P.Output.Outlet.refused) c.args.run.now c.args.files.«module».now (module_in c.args.runnable) c.args.files.random.now)
    (HasFailed g.P.Places g.P.Input.Read g.P.Output.Write g.P.Output.Outlet.flushed g.P.Output.Outlet.refuses (calls_of g.P.Input.Inlet.gave g.P.Input.Inlet.refused) (calls_of g.P.Output.Outlet.took g.P.Output.Outlet.refused) c.args.run.now c.args.files.«module».now (module_in c.args.runnable) c.args.files.random.now)
    c.loop-test.have_run c.args.tests.now c.loop-test.test-index c.args.places.now c.loop-test.places c.loop-test-test.false c.loop-test.invariant.ends

-- it is ready as it was
pub run_test-kept-requires-clause-ready : goal.run_test-kept-requires-clause-ready
run_test-kept-requires-clause-ready g c = subst (λ r. IsReadyFor c.args.run.now.limits.pages r) (sym c.loop-test.invariant.same) c.requires.ready
