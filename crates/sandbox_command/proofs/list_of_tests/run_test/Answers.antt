use Rattle.std.proofs.Common.{◌≡◌, ℕ, List, Bool, true, false, Option, Some, None, inl, inr, refl, sym, ◌∙◌, ap, subst}
use Rattle.std.proofs.lemmas.Option.{none-some}
use Rattle.std.specs.declared.io.ErrorKind.{ErrorKind}
use Rattle.std.specs.declared.io.ErrorKind.TheVariants.{OutOfMemory}
use Rattle.wasm_syntax.specs.declared.module.Module.{Module}
use Rattle.wasm_steps.specs.declared.pause.Outcome.{Outcome}
use Rattle.sandbox_report.specs.declared.end.End.{End}
use Rattle.sandbox_report.specs.declared.end.End.TheVariants.{Ran, Refused}
use Rattle.sandbox_report.specs.declared.fault.Fault.{Fault}
use Rattle.sandbox_report.specs.declared.fault.Fault.TheVariants as reason
use Rattle.sandbox_report.specs.declared.summary.Summary.{Summary}
use Rattle.sandbox_args.specs.declared.request.Run.{Run}
use Rattle.sandbox_args.specs.Request.{Text}
use Rattle.std.specs.declared.io.Read.{Ghosts as Reader}
use Rattle.std.specs.declared.io.Write.{Ghosts as Writer}
use Rattle.wasi_bodies.specs.host.Worlds.{StreamCalls}
use Rattle.sandbox_runs.specs.StreamCalling.{calls_of}
use Rattle.sandbox_places.specs.declared.places.Places.{Ghosts}
use Rattle.sandbox_command.specs.declared.list_of_tests.TestFiles.{TestFiles}
use Rattle.sandbox_command.specs.Beginning.{unread}
use Rattle.sandbox_places.specs.Places.{Makes}
use Rattle.sandbox_command.specs.ListOfTests.{HasFailed, HasRun, IsTested, IsTestedOrUnread}
use Rattle.sandbox_telling.specs.internal.Runnable.{module_in}
use Rattle.sandbox_command.specs.internal.Tests.{IsTold, OneEndsAs}
use Rattle.sandbox_command.proofs.Chains.{of_err}
use Rattle.sandbox_command.proofs.list_of_tests.run_test.Goals as goal

abbrev end_in : Option Summary → End
end_in None = Refused reason.File
end_in (Some s) = s.end

ran_refused : {o : Outcome} {f : Fault} → Ran o ≡ Refused f → ⊥
ran_refused h = cc

-- no guest ran where a file can't be read
no_guest : (run : Run) (kind : ErrorKind) (outcome : Outcome) → (unread run kind).end ≡ Ran outcome → ⊥
no_guest run OutOfMemory outcome is = ran_refused (sym is)
no_guest run kind outcome is = ran_refused (sym is)

module _ {P I O V : Type 0} (places : Ghosts P I O V) (read : Reader I) (written : Writer O) (flushed refuses : O → O → Type 0) (reads : StreamCalls I) (writes : StreamCalls O) (run : Run) (bytes : List ℕ) (m : Module) (random : Text) (t : TestFiles) where
  abbrev Tested : (made tested : P) → Option Summary → (frames : Text) → Type 0
  Tested made tested said frames = IsTestedOrUnread places read written flushed refuses reads writes run bytes m random t made tested said frames

  -- there is always something to be said
  said_something : (made tested : P) (said : Option Summary) (frames : Text) → said ≡ None → Tested made tested said frames → ⊥
  said_something made tested said frames is (inl (kind, lacks, same, none)) = none-some _ (sym is ∙ same)
  said_something made tested said frames is (inr it) = elim it.runs [
    | inl refused ↦ none-some _ (sym is ∙ (it.summary_is ∙ refused.summary))
    | inr on ↦ elim on.launched [
      | inl refused ↦ none-some _ (sym is ∙ (it.summary_is ∙ refused.summary))
      | inr ran ↦ none-some _ (sym is ∙ (it.summary_is ∙ ran.summary))
    ]
  ]

  -- where a guest ran, its files could be read and made
  was_tested : (made tested : P) (summary : Summary) (frames : Text) (outcome : Outcome) → summary.end ≡ Ran outcome → Tested made tested (Some summary) frames
      → IsTested places read written flushed refuses reads writes run bytes m random t made tested (Some summary) frames
  was_tested made tested summary frames outcome ran (inl (kind, lacks, same, none)) = absurd (no_guest run kind outcome (sym (ap end_in same) ∙ ran))
  was_tested made tested summary frames outcome ran (inr it) = it

  ends : (has_run : Bool) (p made tested q : P) (report : O) (summary : Summary) (frames : Text) → places.is_output t.report.now report → places.asked (Makes t.report.now) p made → Tested made tested (Some summary) frames
      → IsTold places written has_run t.report.now report summary frames tested q
      → OneEndsAs (HasRun places read written flushed refuses reads writes run bytes m random) (HasFailed places read written flushed refuses reads writes run bytes m random) has_run t p q
  ends true p made tested q report summary frames its is_made ran_so it = record {
    report = report;
    is_its_report = its;
    made = made;
    is_made = is_made;
    summary = summary;
    tested = tested;
    frames = frames;
    ran_so = was_tested made tested summary frames it.told.0.0 it.told.0.1 ran_so;
    outcome = it.told.0.0;
    ran = it.told.0.1;
    printed = it.printed;
    asked_for = it.asked_for;
    is_printed = it.told.1;
    left = it.left;
    tells = it.told.2;
    ended = it.ended;
  }
  ends false p made tested q report summary frames its is_made ran_so it =
      inr (record {
        report = report;
        is_its_report = its;
        made = made;
        is_made = is_made;
        summary = summary;
        tested = tested;
        frames = frames;
        ran_so = ran_so;
        printed = it.printed;
        asked_for = it.asked_for;
        why = it.told;
        left = it.left;
        ended = it.ended;
      })

-- its report can't be made
pub returns-in_default : goal.returns-in_default
returns-in_default g c =
    let why = of_err c.make.result (λ kind. g.P.Places.refused (Makes c.args.test.report.now) kind c.args.places.now c.make.new.self) c.in_default.not-Ok c.make.ensures.refused in
    record { «module» = refl; ends = inl (why.0, c.make.ensures.asked, why.1) }

-- something is always said
pub returns-in_default-said : goal.returns-in_default-said
returns-in_default-said g c =
    absurd (said_something g.P.Places g.P.Input.Read g.P.Output.Write g.P.Output.Outlet.flushed g.P.Output.Outlet.refuses (calls_of g.P.Input.Inlet.gave g.P.Input.Inlet.refused) (calls_of g.P.Output.Outlet.took g.P.Output.Outlet.refused)
    c.args.run.now c.args.files.«module».now (module_in c.args.runnable) c.args.files.random.now c.args.test c.make.new.self c.tested-runnable.new.places c.tested-runnable.result.1 c.tested-runnable.result.2.items c.in_default-said.is c.tested-runnable.ensures.tested)

pub returns : goal.returns
returns g c = record {
  «module» = c.tested-runnable.ensures.«module»;
  ends = ends g.P.Places g.P.Input.Read g.P.Output.Write g.P.Output.Outlet.flushed g.P.Output.Outlet.refuses (calls_of g.P.Input.Inlet.gave g.P.Input.Inlet.refused) (calls_of g.P.Output.Outlet.took g.P.Output.Outlet.refused)
      c.args.run.now c.args.files.«module».now (module_in c.args.runnable) c.args.files.random.now c.args.test c.is_told_of_guest-has_run.result c.args.places.now c.make.new.self c.tested-runnable.new.places _ c.in-Ok.report c.in-Some.summary
      c.as_slice.result.now c.in-Ok.ensures.output c.make.ensures.asked
      (subst (λ (text : Text). IsTestedOrUnread g.P.Places g.P.Input.Read g.P.Output.Write g.P.Output.Outlet.flushed g.P.Output.Outlet.refuses (calls_of g.P.Input.Inlet.gave g.P.Input.Inlet.refused) (calls_of g.P.Output.Outlet.took g.P.Output.Outlet.refused)
      c.args.run.now c.args.files.«module».now (module_in c.args.runnable) c.args.files.random.now c.args.test c.make.new.self c.tested-runnable.new.places (Some c.in-Some.summary) text) (sym c.as_slice.ensures.value)
      (subst (λ (s : Option Summary). IsTestedOrUnread g.P.Places g.P.Input.Read g.P.Output.Write g.P.Output.Outlet.flushed g.P.Output.Outlet.refuses (calls_of g.P.Input.Inlet.gave g.P.Input.Inlet.refused) (calls_of g.P.Output.Outlet.took g.P.Output.Outlet.refused)
      c.args.run.now c.args.files.«module».now (module_in c.args.runnable) c.args.files.random.now c.args.test c.make.new.self c.tested-runnable.new.places s c.tested-runnable.result.2.items) c.in-Some.is c.tested-runnable.ensures.tested))
      c.is_told_of_guest-has_run.ensures;
}
