use Rattle.sandbox_places.specs.Places.{Reads}
use Rattle.sandbox_command.proofs.Chains.{named_refused}
use Rattle.sandbox_command.proofs.opening.random_of.Goals as goal

pub returns-in-Some-clause-refused : goal.returns-in-Some-clause-refused
returns-in-Some-clause-refused g c =
    named_refused g.P.Places.asked g.P.Places.refused Reads _ c.args.run.now.random c.in-Some.file c.args.places.now c.bytes.new.self c.bytes.result c.in-Some.is c.bytes.ensures.asked c.bytes.ensures.refused (λ e refused. refused)
