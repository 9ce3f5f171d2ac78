use Rattle.std.proofs.Common.{rules}
use Rattle.wasm_store.proofs.instantiation.page_limit.Goals as goal

pub returns-in-len1-up : goal.returns-in-len1-up
returns-in-len1-up c = search rules
