use Rattle.plugin_core.specs.Handling as acts
use Rattle.sandbox_host.specs.Instances.{Does, NoLettingGo}
use Rattle.sandbox_host.proofs.Answering.{told_of}
use Rattle.sandbox_host.proofs.calling.let_go.Goals as goal

pub returns : goal.returns
returns c =
    told_of c.abandon.result c.number_of.result c.args.instance.now c.abandon.new.self (Does c.args.instance.now acts.abandoned c.abandon.new.self) (NoLettingGo c.args.instance.now)
    c.number_of.ensures c.abandon.ensures.abandoned c.abandon.ensures.refused
