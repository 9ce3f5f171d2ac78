use Rattle.std.proofs.Common.{ℕ, List, ap, ◌∙◌}
use Rattle.observed_run.specs.Folded.{line_text}
use Rattle.observed_run.proofs.stacks.FuelProfile.line_of.Goals as goal

pub returns-in-Ok : goal.returns-in-Ok
returns-in-Ok g c =
    let name = g.N.Names.text c.args.names.now in
    let functions = c.in_ok-functions.functions.items in (
      functions,
      c.in_ok-functions.ensures,
      c.in-Ok.ensures ∙ ap (λ (own : List ℕ). line_text name own c.units_at.result) c.as_slice.ensures.value ∙ ap (λ (units : ℕ). line_text name functions units) c.units_at.ensures,
    )
