use Rattle.std.proofs.Common.{◌∙◌, ap, refl, inr}
use Rattle.sandbox_host.specs.declared.handle.Handle.{Handle}
use Rattle.sandbox_host.proofs.Closed.{none_of}
use Rattle.sandbox_host.proofs.plugins.load_for.Goals as goal

-- memory for the handle was refused
pub returns-in-Ok-make_plugin-clause-refused : goal.returns-in-Ok-make_plugin-clause-refused
returns-in-Ok-make_plugin-clause-refused c = λ _ e.
    let no = c.keep.ensures.refused e in
    (no.1, inr (record { m = c.in-Ok.valid; is_loaded = c.in-Ok.ensures.loaded; why = inr (inr no.0) }, refl))

pub returns-in-Err-make_plugin-clause-refused : goal.returns-in-Err-make_plugin-clause-refused
returns-in-Err-make_plugin-clause-refused c = λ closed _.
    (ap (λ (h : Handle). h.held) c.is_closed.ensures.1 ∙ none_of _ closed, inr (record { m = c.in-Ok.valid; is_loaded = c.in-Ok.ensures.loaded; why = c.in-Err-make_plugin.ensures.refused }, refl))
