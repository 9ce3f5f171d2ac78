use Rattle.stream_answers.specs.Hearing.{stays, goes}
use Rattle.wasi_bodies.proofs.streams.inputs.read_piece.Goals as goal

pub returns-in-Ok-clause-heard : goal.returns-in-Ok-clause-heard
returns-in-Ok-clause-heard g c = goes stays (_, c.in-Ok.ensures.told)

pub returns-in-Err-clause-heard : goal.returns-in-Err-clause-heard
returns-in-Err-clause-heard g c = (c.args.reader.now, stays, c.in-Err.ensures.told)
