use Rattle.std.proofs.Common.{rules}
use Rattle.sandbox_telling.proofs.supplies.preopen.Goals as goal

pub returns-in_err-guest_name : goal.returns-in_err-guest_name
returns-in_err-guest_name c = search rules

pub returns : goal.returns
returns c = search rules
