use Rattle.std.proofs.Common.{ℕ, Some, subst, sym}
use Rattle.std.specs.IoError.{error_kind}
use Rattle.sandbox_report.specs.declared.summary.Summary.{Summary}
use Rattle.sandbox_command.specs.Alone.{IsTold}
use Rattle.sandbox_command.specs.Beginning.{unread}
use Rattle.sandbox_args.specs.Request.{Text}
use Rattle.sandbox_telling.specs.Stopping.{AreLinesOfNone}
use Rattle.sandbox_telling.proofs.Lines.{lines_then}
use Rattle.sandbox_command.proofs.runs.end_unread.Goals as goal

pub returns : goal.returns
returns g c =
    let run = c.args.run.now in (
      c.told-status.new.places,
      c.as_slice.result.now,
      subst (λ (text : Text). AreLinesOfNone text) (sym c.as_slice.ensures.value) c.no_lines-lines.ensures,
      subst (λ (before : ℕ). IsTold g.P.Places g.P.Output.Write run.report c.args.report (Some (unread run (error_kind c.args.error.now))) c.as_slice.result.now before c.args.places.now c.told-status.new.places c.told-status.result) c.refuse.ensures.status
          (subst (λ (said : Summary). IsTold g.P.Places g.P.Output.Write run.report c.args.report (Some said) c.as_slice.result.now c.refuse.result c.args.places.now c.told-status.new.places c.told-status.result) c.unread.ensures c.told-status.ensures.tells),
      (c.told-status.new.err, lines_then _ _ _ c.refuse.ensures.line c.told-status.ensures.lines, c.end.ensures),
    )
