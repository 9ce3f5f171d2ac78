use Rattle.std.proofs.Common.{◌∙◌, Result, ap, refl, sym, subst}
use Rattle.std.specs.Prelude.{option_map}
use Rattle.vol_commands.specs.declared.exporting.ExportFailure.{ExportFailure}
use Rattle.sandbox_command.specs.Alone.{IsHandedOver, ungiven}
use Rattle.sandbox_runs.specs.Status.{export_status}
use Rattle.sandbox_command.proofs.closing.handed_over.Goals as goal

pub returns-in-Ok-clause-hands : goal.returns-in-Ok-clause-hands
returns-in-Ok-clause-hands g c =
    subst (λ (d : Result (Unit {0}) ExportFailure). IsHandedOver g.P.Places c.args.path.now c.args.stream.now d c.args.ending.status c.args.ending.summary c.args.places.now c.given_over.new.places c.given_over.result.status c.given_over.result.summary)
    (sym c.in-Ok.is) c.given_over.ensures.hands

-- nothing is handed over
pub returns-in-Err-clause-hands : goal.returns-in-Err-clause-hands
returns-in-Err-clause-hands g c =
    subst (λ (d : Result (Unit {0}) ExportFailure). IsHandedOver g.P.Places c.args.path.now c.args.stream.now d c.args.ending.status c.args.ending.summary c.args.places.now c.args.places.now c.ungiven.result.status c.ungiven.result.summary)
    (sym c.in-Err.is) (
      refl,
      c.ungiven.ensures.status ∙ ap (λ (f : ExportFailure). export_status f) c.of_buffer.ensures,
      c.ungiven.ensures.summary ∙ ap (λ (f : ExportFailure). option_map (ungiven f) c.args.ending.summary) c.of_buffer.ensures,
    )
