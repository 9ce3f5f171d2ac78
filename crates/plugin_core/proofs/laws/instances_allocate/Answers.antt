use Rattle.plugin_core.proofs.Allocating.{instances_allocate}
use Rattle.plugin_core.proofs.laws.instances_allocate.Goals as goal

pub returns : goal.returns
returns c = instances_allocate
