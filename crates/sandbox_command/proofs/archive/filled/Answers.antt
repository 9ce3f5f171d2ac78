use Rattle.std.proofs.Common.{inl}
use Rattle.sandbox_command.proofs.Filled.{fills}
use Rattle.sandbox_command.proofs.archive.filled.Goals as goal

pub imported-requires : goal.imported-requires
imported-requires c = c.in-Ok.ensures.made

pub returns-in-Ok : goal.returns-in-Ok
returns-in-Ok c = fills c.args.bytes.now c.imported.result c.imported.ensures

pub returns-in-Err : goal.returns-in-Err
returns-in-Err c = inl c.in-Err.ensures.refused
