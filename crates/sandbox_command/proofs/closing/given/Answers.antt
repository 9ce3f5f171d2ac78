use Rattle.std.proofs.Common.{List, ℕ, Option, Some, codes, inr, sym, subst}
use Rattle.std.specs.Borrow.{Bor}
use Rattle.sandbox_args.specs.Request.{Text}
use Rattle.vol_commands.specs.Exporting.{PerformsExport}
use Rattle.sandbox_command.specs.Alone.{Gives, IsHandedOver}
use Rattle.sandbox_command.specs.Around.{in_memory}
use Rattle.sandbox_command.proofs.closing.given.Goals as goal

-- the root was exported into a buffer, which was handed over
pub returns-clause-gives : goal.returns-clause-gives
returns-clause-gives g c =
    let p = c.args.places.now in
    let done = c.export_from-done.result.0 in
    let device = c.export_from-done.result.1 in
    let stream = c.export_from-done.new.out.items in
    let q = c.handed_over-ending.new.places in
    let before = c.args.ending in
    let ending = c.handed_over-ending.result in
    subst (λ (name : Option (Bor Text)). Gives g.P.Places name c.args.device before.status before.summary p q ending.status ending.summary device) (sym c.in-Some.is)
    (inr (record {
      stream = stream;
      done = done;
      exports = subst (λ (bytes : List ℕ). PerformsExport in_memory.honest in_memory.disk in_memory.size in_memory.failures (codes "/") c.args.device (Some bytes) (Some stream) device done)
          c.new-stream.ensures.items c.export_from-done.ensures.performs;
      handed = subst (λ (bytes : Text). IsHandedOver g.P.Places c.in-Some.path.now bytes done before.status before.summary p q ending.status ending.summary)
          c.as_slice.ensures.value c.handed_over-ending.ensures.hands;
    }))
