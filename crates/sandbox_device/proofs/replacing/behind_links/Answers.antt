use Rattle.sandbox_device.specs.Named.{leads_to, was_not_followed}
use Rattle.sandbox_device.proofs.Told.{told_of}
use Rattle.sandbox_device.proofs.replacing.behind_links.Goals as goal

pub returns-in_default : goal.returns-in_default
returns-in_default g c = leads_to _ _

pub returns-in_err-target : goal.returns-in_err-target
returns-in_err-target g c = told_of c.from_residual.result (λ target. leads_to _ _) (λ e. was_not_followed _)

pub returns-in_err-link : goal.returns-in_err-link
returns-in_err-link g c = told_of c.from_residual-in_err-link.result (λ target. leads_to _ _) (λ e. was_not_followed _)

pub returns-in_err-join : goal.returns-in_err-join
returns-in_err-join g c = told_of c.from_residual-in_err-join.result (λ target. leads_to _ _) (λ e. was_not_followed _)

pub returns : goal.returns
returns g c = was_not_followed _
