use Rattle.std.proofs.Common.{refl, inl, inr}
use Rattle.sandbox_host.proofs.opening.begin_from.Goals as goal

-- the module was loaded
pub returns-in-Err-begin-clause-refused : goal.returns-in-Err-begin-clause-refused
returns-in-Err-begin-clause-refused c =
    inr (record { m = c.in-Ok.valid; is_loaded = c.in-Ok.ensures.loaded; why = inl c.in-Err-begin.ensures.refused }, refl)
