use Rattle.std.proofs.Common.{◌≡◌, ◌⊎◌, ℕ, List, inl, inr, refl, sym, ◌∙◌, ap, subst}
use Rattle.sandbox_args.specs.Request.{Text}
use Rattle.sandbox_core.specs.declared.fault.SessionFault.{SessionFault}
use Rattle.sandbox_core.specs.declared.fault.SessionFault.TheVariants.{Setting, Memory}
use Rattle.sandbox_command.specs.declared.list_of_tests.TestFiles.{TestFiles}
use Rattle.sandbox_places.specs.Places.{IsOfRandom}
use Rattle.sandbox_runs.specs.Status.{session_status}
use Rattle.sandbox_command.specs.ListOfTests.{HasNoTest, Lists}
use Rattle.sandbox_command.proofs.list_of_tests.run_lines.Goals as goal

-- a line is no test, or memory was wanting
unlisted : (text : Text) (f : SessionFault) (status : ℕ) → status ≡ session_status f → ((f ≡ Setting) × HasNoTest text) ⊎ (f ≡ Memory)
    → ((status ≡ 124) × HasNoTest text) ⊎ (status ≡ 122)
unlisted text f status ends (inl (setting, none)) = inl (ends ∙ ap session_status setting, none)
unlisted text f status ends (inr memory) = inr (ends ∙ ap session_status memory)

-- a file is refused
pub returns-in-Err-clause-runs : goal.returns-in-Err-clause-runs
returns-in-Err-clause-runs g c = inl (_, c.refuse.ensures.status, c.in-Err.ensures)

pub returns-in-Ok-tests_of-clause-runs : goal.returns-in-Ok-tests_of-clause-runs
returns-in-Ok-tests_of-clause-runs g c =
    let run = c.args.run.now in
    let read = c.in-Ok.ensures in
    inr (record {
      text = c.as_str.result.now;
      bytes = c.as_slice.result.now;
      random = c.as_slice-in-Ok-tests_of.result.now;
      between = c.list_and_files.new.places;
      are_read = record {
        asked_for = read.asked_for;
        is_its_text = subst (λ (t : Text). g.P.Places.is_text c.args.list.now t) (sym c.as_str.ensures.value) read.is_its_text;
        is_its_module = subst (λ (b : List ℕ). g.P.Places.is_beginning run.«module».now 67108865 b) (sym c.as_slice.ensures.value) read.is_its_module;
        is_its_random = subst (λ (b : List ℕ). IsOfRandom (λ name. g.P.Places.is_beginning name 67108864) run.random b) (sym c.as_slice-in-Ok-tests_of.ensures.value) read.is_its_random;
      };
      runs = inr (inr (
        c.as_slice-in-Ok-tests_of-2.result.now,
        subst (λ (l : List TestFiles). Lists c.as_str.result.now l) (sym c.as_slice-in-Ok-tests_of-2.ensures.value) c.in-Ok-tests_of.ensures.tests,
        c.run_tests.ensures.runs,
      ));
    })

pub returns-clause-runs : goal.returns-clause-runs
returns-clause-runs g c =
    let run = c.args.run.now in
    let read = c.in-Ok.ensures in
    inr (record {
      text = c.as_str.result.now;
      bytes = _;
      random = _;
      between = c.list_and_files.new.places;
      are_read = record {
        asked_for = read.asked_for;
        is_its_text = subst (λ (t : Text). g.P.Places.is_text c.args.list.now t) (sym c.as_str.ensures.value) read.is_its_text;
        is_its_module = read.is_its_module;
        is_its_random = read.is_its_random;
      };
      runs = elim (unlisted c.as_str.result.now c.in-Err-tests_of.fault c.refuse_list.result c.refuse_list.ensures.status c.in-Err-tests_of.ensures.refused) [
        | inl setting ↦ inl (setting.0, setting.1, refl)
        | inr memory ↦ inr (inl (memory, refl))
      ];
    })
