use Rattle.clap.specs.Values.{kind_of}
use Rattle.clap.specs.declared.error.kind.ErrorKind.TheVariants.{OutOfMemory}
use Rattle.sandbox_command.proofs.refused_line.refuse_line.Goals as goal

pub returns-then-not-any-clause-status : goal.returns-then-not-any-clause-status
returns-then-not-any-clause-status g c = (kind_of c.args.refused.now, c.refuse_command_line.ensures)

pub returns-in-Ok-clause-status : goal.returns-in-Ok-clause-status
returns-in-Ok-clause-status g c = c.refuse_shown.ensures.status

pub returns-in-Err-clause-status : goal.returns-in-Err-clause-status
returns-in-Err-clause-status g c = (OutOfMemory, c.out_of_memory.ensures.status)
