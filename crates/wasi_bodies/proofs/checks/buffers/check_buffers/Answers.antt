use Rattle.std.proofs.Common.{◌^◌, nat_lt, ℕ, Bool, ap, sym, ◌∙◌}
use Rattle.wasi_bodies.proofs.checks.Chains.{goes_on, stops}
use Rattle.wasi_bodies.specs.Checks.{guard}
use Rattle.wasi_bodies.proofs.checks.buffers.check_buffers.Goals as goal

pub returns-in-Err-clause-fit : goal.returns-in-Err-clause-fit
returns-in-Err-clause-fit c =
    goes_on _ _ tt (ap (λ (n : ℕ). guard (nat_lt n (2 ^ 32)) 28) (sym c.total_len.ensures) ∙ c.in_ok-check_that.ensures.meaning) ∙ stops _ _ _ (ap (λ (b : Bool). guard b 21) (sym c.are_inside.ensures) ∙ c.in-Err.ensures.meaning)

pub returns-in-Ok-clause-fit : goal.returns-in-Ok-clause-fit
returns-in-Ok-clause-fit c =
    goes_on _ _ tt (ap (λ (n : ℕ). guard (nat_lt n (2 ^ 32)) 28) (sym c.total_len.ensures) ∙ c.in_ok-check_that.ensures.meaning) ∙ goes_on _ _ tt (ap (λ (b : Bool). guard b 21) (sym c.are_inside.ensures) ∙ c.in-Ok.ensures.meaning)
