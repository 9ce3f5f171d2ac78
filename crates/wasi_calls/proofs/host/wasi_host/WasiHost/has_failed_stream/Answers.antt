use Rattle.std.proofs.Common.{rules}
use Rattle.wasi_calls.proofs.host.wasi_host.WasiHost.has_failed_stream.Goals as goal

pub returns-then-inner-2 : goal.returns-then-inner-2
returns-then-inner-2 g c = search rules

pub returns-else-inner-2 : goal.returns-else-inner-2
returns-else-inner-2 g c = search rules
