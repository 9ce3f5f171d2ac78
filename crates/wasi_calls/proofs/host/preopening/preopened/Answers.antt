use Rattle.std.proofs.Common.{rules}
use Rattle.wasi_calls.proofs.host.preopening.preopened.Goals as goal

pub returns : goal.returns
returns c = search rules
