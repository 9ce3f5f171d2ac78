use Rattle.std.proofs.Common.{inl, inr}
use Rattle.sandbox_command.proofs.Chains.{passed}
use Rattle.sandbox_command.proofs.opening.read_files.Goals as goal

pub returns-in_err-module : goal.returns-in_err-module
returns-in_err-module g c = passed _ _ c.from_residual.result c.in_err-module.field-0.0 c.from_residual.ensures.1 (inl (c.bytes.ensures.asked, c.in_err-module.ensures.refused))

pub returns-in_err-random : goal.returns-in_err-random
returns-in_err-random g c = passed _ _ c.from_residual-in_err-random.result c.in_err-random.field-0.0 c.from_residual-in_err-random.ensures.1 (inr (_, c.bytes.ensures.asked, c.in_err-random.ensures.refused))

pub returns : goal.returns
returns g c = ((_, c.bytes.ensures.asked, c.random_of.ensures.asked), c.in_ok-module.ensures.bytes, c.in_ok-random.ensures.read)
