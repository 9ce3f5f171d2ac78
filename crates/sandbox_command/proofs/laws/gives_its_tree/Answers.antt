use Rattle.sandbox_command.proofs.Arrived.{gives}
use Rattle.sandbox_command.proofs.laws.gives_its_tree.Goals as goal

pub returns : goal.returns
returns c = gives c.one_tree.ensures
