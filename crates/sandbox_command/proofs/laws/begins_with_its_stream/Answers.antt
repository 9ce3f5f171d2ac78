use Rattle.sandbox_command.proofs.Arrived.{begins}
use Rattle.sandbox_command.proofs.laws.begins_with_its_stream.Goals as goal

pub returns : goal.returns
returns c = begins c.one_tree.ensures
