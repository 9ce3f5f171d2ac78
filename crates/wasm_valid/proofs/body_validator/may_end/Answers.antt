use Rattle.std.proofs.Common.{rules}
use Rattle.wasm_valid.proofs.body_validator.may_end.Goals as goal

pub returns-in-If-Value : goal.returns-in-If-Value
returns-in-If-Value c = search rules
