use Rattle.std.proofs.Common.{rules}
use Rattle.vol_body.proofs.reading.readable.Goals as goal

pub returns : goal.returns
returns c = search rules
