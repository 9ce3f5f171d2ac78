use Rattle.std.proofs.Common.{◌≡◌, take}
use Rattle.sandbox_runs.specs.StreamCalling.{calls_of}
use Rattle.sandbox_command.specs.ListOfTests.{HasFailed, HasRun}
use Rattle.sandbox_telling.specs.internal.Runnable.{module_in}
use Rattle.sandbox_command.specs.internal.Tests.{AllEndAs}
use Rattle.sandbox_command.proofs.list_of_tests.run_all.Given as goal

-- it is the module that was handed in, and each test so far was tried
abbrev pub invariant-loop-test : goal.invariant-loop-test
invariant-loop-test g l = record {
  same : l.runnable ≡ l.initial.runnable;
  ends : AllEndAs
      (HasRun g.P.Places g.P.Input.Read g.P.Output.Write g.P.Output.Outlet.flushed g.P.Output.Outlet.refuses (calls_of g.P.Input.Inlet.gave g.P.Input.Inlet.refused) (calls_of g.P.Output.Outlet.took g.P.Output.Outlet.refused) l.run l.files.«module».now (module_in l.initial.runnable) l.files.random.now)
      (HasFailed g.P.Places g.P.Input.Read g.P.Output.Write g.P.Output.Outlet.flushed g.P.Output.Outlet.refuses (calls_of g.P.Input.Inlet.gave g.P.Input.Inlet.refused) (calls_of g.P.Output.Outlet.took g.P.Output.Outlet.refused) l.run l.files.«module».now (module_in l.initial.runnable) l.files.random.now)
      l.have_run (take l.test-index l.tests) l.initial.places l.places;
}
