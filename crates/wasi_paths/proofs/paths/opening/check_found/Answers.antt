use Rattle.std.proofs.Common.{rules}
use Rattle.wasi_bodies.proofs.checks.Chains.{goes_on, stops}
use Rattle.wasi_paths.proofs.paths.opening.check_found.Goals as goal

pub returns-after-is_set-2 : goal.returns-after-is_set-2
returns-after-is_set-2 c = search (rules, goes_on, stops)
