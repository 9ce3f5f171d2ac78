use Rattle.std.proofs.Common.{ℕ, List, length, ap, subst}
use Rattle.sandbox_host.specs.Sessions.{IsShown}
use Rattle.sandbox_host.proofs.whole.run.Goals as goal

-- the session that began, the report of its run, and what of its output was shown
pub returns-clause-ran : goal.returns-clause-ran
returns-clause-ran c = λ e.
    let begun = c.in-Ok.ensures.begins in (
      record {
        session = c.in-Ok.session;
        begins = begun.0;
        report = c.run-report.result;
        reports = c.run-report.ensures;
        tells = c.told_end.ensures;
        counted = ap length c.as_slice-written.ensures.value;
        shown = subst (λ (bytes : List ℕ). IsShown bytes c.args.out.now c.show.new.room) c.as_slice-written.ensures.value c.show.ensures;
      },
      begun.1,
    )
