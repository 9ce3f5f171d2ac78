use Rattle.std.proofs.Common.{refl}
use Rattle.clap.specs.Values.{kind_of}
use Rattle.clap.specs.declared.error.kind.ErrorKind.TheVariants.{InvalidValue}
use Rattle.sandbox_command.proofs.refused_line.refuse_shown.Goals as goal

pub returns-in-Err-clause-status : goal.returns-in-Err-clause-status
returns-in-Err-clause-status g c = (kind_of c.in-Err.refused, c.refuse_command_line.ensures)

pub returns-clause-status : goal.returns-clause-status
returns-clause-status g c = (InvalidValue, refl)
