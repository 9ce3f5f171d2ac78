use Rattle.std.proofs.Common.{ℕ, List, ◌++◌, ap, ◌∙◌}
use Rattle.sandbox_inspect.specs.Refusal.{refusal_text}
use Rattle.sandbox_inspect.specs.Survey.{survey_of}
use Rattle.sandbox_inspect.proofs.surveying.text_of.Goals as goal

pub returns-in_ok-added-in-Ok : goal.returns-in_ok-added-in-Ok
returns-in_ok-added-in-Ok g c =
    let links = g.L.Links.links in
    let found = c.in-Ok.ensures.found in (
      c.in-Ok.valid,
      found.0,
      found.1,
      c.in_ok-added-in-Ok.ensures ∙ ap (λ (t : List ℕ). t ++ survey_of links c.module.result.now) c.new-text.ensures.items ∙ ap (survey_of links) c.module.ensures.value,
    )

-- the refusal's text
pub returns-in_ok-add_refusal-in_default : goal.returns-in_ok-add_refusal-in_default
returns-in_ok-add_refusal-in_default g c =
    let (f, lies, added) = c.in_ok-add_refusal-in_default.ensures in (
      c.in-Err.ensures.refused c.in_default.not-Memory,
      f,
      lies,
      added ∙ ap (λ (t : List ℕ). t ++ refusal_text c.args.bytes.now c.in-Err.fault f) c.new-text.ensures.items,
    )
