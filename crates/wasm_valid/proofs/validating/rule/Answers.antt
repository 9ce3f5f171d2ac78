use Rattle.std.proofs.Common.{rules}
use Rattle.wasm_valid.proofs.validating.rule.Goals as goal

pub returns-else-holds : goal.returns-else-holds
returns-else-holds c = search rules
