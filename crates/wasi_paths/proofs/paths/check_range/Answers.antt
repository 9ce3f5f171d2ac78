use Rattle.std.proofs.Common.{rules}
use Rattle.wasi_bodies.proofs.checks.Chains.{guard_fails}
use Rattle.wasi_paths.proofs.paths.check_range.Goals as goal

pub returns-else-pointer-len-clause-range : goal.returns-else-pointer-len-clause-range
returns-else-pointer-len-clause-range c = search (rules, guard_fails)
