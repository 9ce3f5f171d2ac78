use Rattle.std.proofs.Common.{rules}
use Rattle.wasi_bodies.proofs.files.listing.header.Goals as goal

pub returns : goal.returns
returns c = search rules
